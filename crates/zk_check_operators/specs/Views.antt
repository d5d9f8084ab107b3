-- What the Rust types stand for.
use Rattle.std.specs.Prelude.{List, [], ◌∷◌}
use Rattle.std.specs.declared.alloc.Global.{Global}
use Rattle.std.specs.declared.vec.Vec.{Vec}
use Rattle.zk_check_operators.specs.declared.operands.Typed.{Typed as RustTyped}
use Rattle.zk_check_operators.specs.declared.operands.Wanted.{Wanted as RustWanted}
use Rattle.zk_check_operators.specs.declared.operands.Wanted.TheVariants as wanted
use Rattle.zk_typed.specs.Typing.{Typed, typed, Wanted, Nothing, Wants, Unclear}
use Rattle.zk_typed.specs.View.{type_of, expr_of}

abbrev pub typed_of : RustTyped → Typed
typed_of one = typed (type_of one.value_type) (expr_of one.expr)

abbrev pub pair_of : RustTyped × RustTyped → Typed × Typed
pair_of pair = (typed_of pair.0, typed_of pair.1)

abbrev pub wanted_in : RustWanted → Wanted
wanted_in wanted.Nothing = Nothing
wanted_in (wanted.Type one) = Wants (type_of one.now)
wanted_in wanted.Unclear = Unclear

abbrev pub typed_all : List RustTyped → List Typed
typed_all [] = []
typed_all (one ∷ others) = typed_of one ∷ typed_all others

abbrev pub all_typed : Vec RustTyped Global → List Typed
all_typed all = typed_all all.items
