use Rattle.std.proofs.Common.{List, subst}
use Rattle.std.specs.declared.alloc.Global.{Global}
use Rattle.std.specs.declared.vec.Vec.{Vec}
use Rattle.zk_typed.specs.declared.script.types.SimpleType.{SimpleType}
use Rattle.zk_typed.specs.Checked.{Checked}
use Rattle.zk_typed.specs.Tells.{Tells}
use Rattle.zk_check_expressions.proofs.MemberLaws.{simple_end}
use Rattle.zk_check_operators.specs.declared.operands.Typed.{Typed as RustTyped}
use Rattle.zk_check_operators.specs.Views.{typed_of}
use Rattle.zk_typed.specs.Typing as spec
use Rattle.zk_check_expressions.proofs.Eaches.{key_turn}
use Rattle.zk_check_expressions.proofs.containers.simple_types.Goals as goal

pub loop-one-preserved : goal.loop-one-preserved
loop-one-preserved c =
    key_turn (λ (one : RustTyped). spec.simple_type c.args.place (typed_of one))
    c.args.ones.now c.loop-one.one-index c.one-item.result c.loop-one.all c.simple_type.result c.with_part-all.result
    c.loop-one-test.true c.one-item.is c.loop-one.invariant c.simple_type.ensures c.with_part-all.ensures

pub returns : goal.returns
returns c = subst (λ (x : Checked (List SimpleType)). Tells (λ (keys : Vec SimpleType Global). keys.items) c.loop-one.all x) (simple_end c.args.place c.args.ones.now c.loop-one.one-index c.loop-one-test.false) c.loop-one.invariant
