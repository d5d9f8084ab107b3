use Rattle.std.proofs.Common.{ap, ◌∙◌}
use Rattle.zk_units.specs.Standing.{held_by, held_in}
use Rattle.zk_units.proofs.ReaderLemmas.{dns_held, http_held}
use Rattle.zk_units.proofs.readers.Readers.new.Goals as goal
use Rattle.zk_units.proofs.readers.Readers.new.Goals.{in-None, in-Some-Http, in-Some-Dns}

pub returns-clause-held : goal.returns-clause-held
unfolding held_in
returns-clause-held c = λ side. elim c.match-protocol.branch [
  | in-None w ↦ ap (held_by side) w.reader-is
  | in-Some-Http w ↦ ap (held_by side) w.reader-is ∙ http_held side w.new.result ∙ w.new.ensures.held side
  | in-Some-Dns w ↦ ap (held_by side) w.reader-is ∙ dns_held side w.new-in-Some-Dns.result ∙ w.new-in-Some-Dns.ensures.held side
]
