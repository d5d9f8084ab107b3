use Rattle.std.proofs.Common.{length, sym, ap, ◌∙◌}
use Rattle.std.proofs.lemmas.List.{length-map}
use Rattle.zk_lower.specs.Code.{Code}
use Rattle.zk_lower.specs.View.{global_of}
use Rattle.zk_events.proofs.RunLemmas.{count_of}
use Rattle.zk_events.proofs.sealed.SealedMachine.globals.Goals as goal

pub returns-clause-count : goal.returns-clause-count
returns-clause-count c =
    c.len.ensures ∙ (sym (length-map c.code.result.now.globals global_of) ∙ ap (λ (code : Code). length code.globals) c.code.ensures)

pub returns-clause-program : goal.returns-clause-program
returns-clause-program c = λ program given world stands.
    c.len.ensures ∙ (sym (length-map c.code.result.now.globals global_of) ∙ (ap (λ (code : Code). length code.globals) c.code.ensures
    ∙ count_of c.args.self.now program given world stands))
