use Rattle.std.proofs.Common.{subst}
use Rattle.zk_check_operators.specs.Views.{typed_of, typed_all}
use Rattle.zk_typed.specs.Checked.{Checked}
use Rattle.zk_typed.specs.Tells.{Tells}
use Rattle.zk_typed.specs.Typing.{Typed}
use Rattle.zk_check_expressions.specs.Envs.{env_of}
use Rattle.zk_check_expressions.proofs.ElementLaws.{in_table, in_vector}
use Rattle.zk_check_expressions.proofs.elements.element.Goals as goal

pub returns-in-Table : goal.returns-in-Table
returns-in-Table c =
    subst (λ (x : Checked Typed). Tells typed_of c.element_of.result x)
    (in_table (env_of c.args.env.now) c.args.place c.in-Table.types c.as_slice.result.now c.in-Table.value c.into_inner.result c.args.one c.args.written.now (typed_all c.args.keys.items)
    c.in-Table.is c.as_slice.ensures c.into_inner.ensures)
    (c.element_of.ensures _ c.keys_fit-fitting.ensures)

pub returns-in-Vector : goal.returns-in-Vector
returns-in-Vector c =
    subst (λ (x : Checked Typed). Tells typed_of c.item_of.result x)
    (in_vector (env_of c.args.env.now) c.args.place c.in-Vector.item c.into_inner-in-Vector.result c.args.one c.args.written.now (typed_all c.args.keys.items)
    c.in-Vector.is c.into_inner-in-Vector.ensures)
    (c.item_of.ensures _ c.keys_fit-fitting-in-Vector.ensures)
