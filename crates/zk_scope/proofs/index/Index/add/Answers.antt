use Rattle.std.proofs.Common.{ap, ◌∙◌, Option}
use Rattle.zk_scope.specs.declared.index.Slot.{Slot}
use Rattle.zk_scope.specs.Indexing.{with_place}
use Rattle.zk_scope.proofs.IndexLaws.{added}
use Rattle.zk_scope.proofs.index.Index.add.Goals as goal

pub returns-clause-ok : goal.returns-clause-ok
returns-clause-ok c = λ names one indexed at named seen.
    added names one _ _ _ _ _ _ indexed c.in_ok-insert.ensures.updates.0
    (c.with_place-slot.ensures ∙ ap (λ (x : Option Slot). with_place x c.args.exported c.args.place) (c.copied.ensures ∙ c.get.ensures.value)) at named seen
