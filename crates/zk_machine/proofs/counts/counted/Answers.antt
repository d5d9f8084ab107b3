use Rattle.std.proofs.Common.{ap, ◌∙◌}
use Rattle.zk_tree.specs.Value as plain
use Rattle.zk_typed.specs.Primitives.{updated}
use Rattle.zk_value.specs.Plain.{value_of}
use Rattle.zk_value.specs.declared.value.Value.{Value}
use Rattle.zk_machine.proofs.counts.counted.Goals as goal

pub returns-in-Some-clause-updates : goal.returns-in-Some-clause-updates
returns-in-Some-clause-updates c = λ place state.
    ap (λ (a : Value). updated place c.args.operator (value_of a) (value_of c.args.b.now) state) c.in-Count-Count.is-0
    ∙ (ap (λ (b : Value). updated place c.args.operator (plain.Count c.in-Count-Count.a) (value_of b) state) c.in-Count-Count.is-1 ∙ c.in-Some.ensures place state)
