use Rattle.std.proofs.Common.{ap}
use Rattle.zk_tree.specs.Store as object
use Rattle.zk_tree.specs.Value as plain
use Rattle.zk_typed.specs.Primitives.{into_object}
use Rattle.zk_value.specs.Plain.{value_of}
use Rattle.zk_machine.specs.State.{state_of}
use Rattle.zk_machine.proofs.ThenLemmas.{comes_as}
use Rattle.zk_machine.proofs.state.State.into_set.Goals as goal

pub returns-in-Plus : goal.returns-in-Plus
returns-in-Plus c = λ place members there.
    comes_as (λ u. plain.Object c.args.number) place c.add_all.result _ _ _
    (ap (λ by. into_object place by (plain.Object c.args.number) (value_of c.args.other.now) (object.Table members) (state_of c.args.self.now)) c.in-Plus.is) (c.add_all.ensures place members there)

pub returns-in-Minus : goal.returns-in-Minus
returns-in-Minus c = λ place members there.
    comes_as (λ u. plain.Object c.args.number) place c.take_all.result _ _ _
    (ap (λ by. into_object place by (plain.Object c.args.number) (value_of c.args.other.now) (object.Table members) (state_of c.args.self.now)) c.in-Minus.is) (c.take_all.ensures place members there)
