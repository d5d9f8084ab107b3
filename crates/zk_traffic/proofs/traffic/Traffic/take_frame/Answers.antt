use Rattle.std.proofs.Common.{◌++◌, refl, sym, ap, subst, ◌∙◌}
use Rattle.std.proofs.lemmas.List.{append-nil}
use Rattle.zk_frag.specs.Ip4Fragments as frags
use Rattle.zk_traffic.specs.Datagram.{fragments, packet_in, time_at}
use Rattle.zk_traffic.specs.Segments.{segments}
use Rattle.zk_traffic.specs.Taking.{list_of}
use Rattle.zk_traffic.proofs.RecordLemmas.{at_none, has_taken, takes_none}
use Rattle.std.proofs.Common.{None}
use Rattle.zk_traffic.proofs.traffic.Traffic.take_frame.Goals as goal

pub returns-in-None-clause-taken : goal.returns-in-None-clause-taken
returns-in-None-clause-taken c = λ options step bytes_are ready.
    let none = ap (λ b. packet_in options step.last.link b) bytes_are ∙ ap (λ o. packet_in o step.last.link c.args.frame.now) (sym ready.options_are)
    ∙ ap (λ n. packet_in c.args.self.now.options n c.args.frame.now) (sym ready.link_is) ∙ c.in-None.ensures in
    let at = at_none options step none in
    has_taken c.args.self.now _ options step None ready at.0 refl refl refl
    (subst (λ f. frags.StandsFor c.args.self.now.frags (fragments options step.before ++ list_of f)) (sym at.1)
    (subst (frags.StandsFor c.args.self.now.frags) (sym (append-nil (fragments options step.before))) ready.frags_are))
    (takes_none options.buffer (segments options step.before) (time_at step) c.args.self.now.connections ready.current ready.no_runs)
