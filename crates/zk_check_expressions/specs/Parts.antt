-- What a construct is once its parts are right.
use Rattle.std.specs.Prelude.{ℕ, Bool, true, false, ◌||◌, List, [], ◌∷◌, ◌++◌, Option, Some, None, Ok}
use Rattle.std.specs.declared.alloc.Global.{Global}
use Rattle.std.specs.declared.vec.Vec.{Vec}
use Rattle.zk_tree.specs.declared.expr.Expr.{Expr}
use Rattle.zk_tree.specs.declared.name.Name.{Name}
use Rattle.zk_tree.specs.declared.operator.Level.{Level}
use Rattle.zk_tree.specs.declared.place.Place.{Place}
use Rattle.zk_typed.specs.declared.rule.Rule.{Rule}
use Rattle.zk_typed.specs.declared.rule.Rule.TheVariants as rule
use Rattle.zk_typed.specs.declared.script.primitive.Binary.{Binary}
use Rattle.zk_typed.specs.declared.script.primitive.Direction.{Direction}
use Rattle.zk_typed.specs.declared.script.primitive.Primitive.{Primitive}
use Rattle.zk_typed.specs.declared.script.primitive.Primitive.TheVariants as primitive
use Rattle.zk_typed.specs.declared.script.primitive.Relation.{Relation}
use Rattle.zk_typed.specs.declared.script.types.SimpleType.{SimpleType}
use Rattle.zk_typed.specs.Checked.{Checked, broken, elsewhere, both, require, or_broken, ◌>>=◌, ◌>>◌}
use Rattle.zk_typed.specs.Expressions.{Side, assignable}
use Rattle.zk_typed.specs.Forms as form
use Rattle.zk_typed.specs.Making.{element, field_of}
use Rattle.zk_typed.specs.Operations.{same_type}
use Rattle.zk_typed.specs.Predefined as type
use Rattle.zk_typed.specs.Types.{ValueType, Simple}
use Rattle.zk_typed.specs.Typing.{Typed, typed, Env, exprs, apply, fits, beside, related, truths, arithmetic_typed, membership}
use Rattle.zk_check_operators.specs.declared.operands.Typed.{Typed as RustTyped}
use Rattle.zk_check_operators.specs.Views.{typed_of, all_typed}

abbrev pub and_then : {A B : Type 0} → Checked A → (A → Checked B) → Checked B
and_then given rule = given >>= rule

-- what is wanted isn't known for what is broken elsewhere
abbrev pub then_unclear : {A B : Type 0} → Checked A → Checked B
then_unclear given = given >> elsewhere

-- parts, and one more behind them
abbrev pub with_last : {B : Type 0} → Checked (List B) → Checked B → Checked (List B)
with_last all part = both all part >>= (λ parts. Ok (parts.0 ++ parts.1 ∷ []))

-- Operators --------------------------------------------------------------------------------------------------------

-- a comparison of two operands
abbrev pub related_pair : Relation → Place → Place → Typed × Typed → Checked Typed
related_pair relation first second pair = related relation first second (beside pair.0 pair.1)

-- keys, and what they are to be in
abbrev pub member_view : Vec RustTyped Global × RustTyped → List Typed × Typed
member_view pair = (all_typed pair.0, typed_of pair.1)

-- `in` of keys and of what they are to be in
abbrev pub member_pair : Bool → Place → Place → List Typed × Typed → Checked Typed
member_pair turned first second pair = membership turned first second pair.0 pair.1

-- `a || b` and `a && b` of two operands
abbrev pub truth_pair : Level → Typed × Typed → Checked Typed
truth_pair level pair = Ok (truths level pair.0 pair.1)

-- `a + b` and the like of two operands
abbrev pub arithmetic_pair : Binary → Place → Place → Typed × Typed → Checked Typed
arithmetic_pair operator first second pair = arithmetic_typed operator first second (beside pair.0 pair.1)

-- whether values are one of a type
abbrev pub is_one_of : ValueType → List Typed → Bool
is_one_of wanted (one ∷ []) = same_type one.type wanted
is_one_of wanted others = false

-- what a primitive makes of one value, where it has its type, and of another
abbrev pub one_form : Primitive → Bool → List Typed → Typed → Option form.Expr
one_form primitive true (left ∷ []) right = Some (apply primitive (left ∷ right ∷ []))
one_form primitive holds other right = None

-- `++` and `--` of a left side
abbrev pub stepped_side : Place → Place → Direction → Side → Checked Typed
stepped_side place operand_place by one =
    require (same_type one.type type.count || same_type one.type type.int) rule.WrongType operand_place >>
    (assignable place one >> Ok (typed one.type (form.Apply (primitive.Step one.left by) one.operands)))

-- Fields and elements ----------------------------------------------------------------------------------------------

-- `a$f` and `a?$f`
abbrev pub field_read : Env → Place → Name → Typed → Checked Typed
field_read env place name one = field_of env place name one >>= (λ field. Ok (typed field.1 (apply (primitive.Field field.0) (one ∷ []))))

abbrev pub field_tested : Env → Place → Name → Typed → Checked Typed
field_tested env place name one = field_of env place name one >>= (λ field. Ok (typed type.bool (apply (primitive.HasField field.0) (one ∷ []))))

-- what stands before keys or items, and those
abbrev pub element_view : RustTyped × Vec RustTyped Global → Typed × List Typed
element_view pair = (typed_of pair.0, all_typed pair.1)

-- `a[k, l]` of what stands before, and its keys
abbrev pub element_pair : Env → Place → List Expr → Typed × List Typed → Checked Typed
element_pair env place written pair = element env place pair.0 written pair.1

-- what a primitive makes of an operand and of those behind it
abbrev pub behind_form : ValueType → Primitive → form.Expr → List Typed → Checked Typed
behind_form type primitive first others = Ok (typed type (form.Apply primitive (form.AndExpr first (exprs others))))

-- a value as a key of a type
abbrev pub fitting_key : Place → SimpleType → Typed → Checked Typed
fitting_key place key one = or_broken (fits (Simple key) one) rule.WrongType place

-- Calls ------------------------------------------------------------------------------------------------------------

-- a name that is wrong, and what is broken behind it: `wrong_name` gives all of these rules
abbrev pub behind_wrong : Rule → Place → Checked (List Typed) → Checked (Unit {0} × List Typed)
behind_wrong wrong place behind = both (broken wrong place) behind

abbrev pub behind_view : Unit {0} × Vec RustTyped Global → Unit {0} × List Typed
behind_view one = (one.0, all_typed one.1)
