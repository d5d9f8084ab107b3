-- The size of a value by whether its type has one.
use Rattle.std.proofs.Common.{◌≡◌, Bool, true, false, Ok, if◌then◌else◌, [], ◌∷◌, refl}
use Rattle.zk_tree.specs.declared.place.Place.{Place}
use Rattle.zk_typed.specs.declared.rule.Rule.TheVariants as rule
use Rattle.zk_typed.specs.declared.script.primitive.Primitive.TheVariants as primitive
use Rattle.zk_typed.specs.declared.script.types.SimpleType.TheVariants as simple
use Rattle.zk_typed.specs.Checked.{broken}
use Rattle.zk_typed.specs.Expressions.{size_typed}
use Rattle.zk_typed.specs.Forms as form
use Rattle.zk_typed.specs.Predefined as type
use Rattle.zk_typed.specs.Types.{ValueType, Simple, Record, Table, Set, Vector}
use Rattle.zk_typed.specs.Typing.{Typed, typed, apply}
use Rattle.zk_check_operators.specs.Rows.{type_has_size}

by_type : (place : Place) (one : ValueType) (expr : form.Expr) → size_typed place (typed one expr) ≡
    (if type_has_size one then Ok (typed type.count (apply primitive.Size (typed one expr ∷ []))) else broken rule.WrongType place)
by_type place (Simple simple.Bool) expr = refl
by_type place (Simple simple.Count) expr = refl
by_type place (Simple simple.Int) expr = refl
by_type place (Simple simple.String) expr = refl
by_type place (Simple simple.Time) expr = refl
by_type place (Simple simple.Interval) expr = refl
by_type place (Simple simple.Addr) expr = refl
by_type place (Simple simple.Port) expr = refl
by_type place (Simple simple.Subnet) expr = refl
by_type place (Simple (simple.Enum number)) expr = refl
by_type place (Record number) expr = refl
by_type place (Table keys value) expr = refl
by_type place (Set keys) expr = refl
by_type place (Vector item) expr = refl

pub size_is : (place : Place) (one : Typed) → size_typed place one ≡
    (if type_has_size one.type then Ok (typed type.count (apply primitive.Size (one ∷ []))) else broken rule.WrongType place)
size_is place one = by_type place one.type one.expr
