-- The constructors of records.
use Rattle.std.specs.Prelude.{◌≡◌, ℕ, ◌==◌, Bool, true, false, List, [], ◌∷◌, ◌++◌, map, Option, Some, None, Ok}
use Rattle.std.specs.BTreeSet.{contains}
use Rattle.std.specs.List.{list_any}
use Rattle.std.specs.declared.alloc.Global.{Global}
use Rattle.std.specs.declared.vec.Vec.{Vec}
use Rattle.zk_base.specs.declared.numbers.RecordNo.{RecordNo}
use Rattle.zk_tree.specs.declared.expr.Expr.{Expr}
use Rattle.zk_tree.specs.declared.expr.Item.{Item}
use Rattle.zk_tree.specs.declared.place.Place.{Place}
use Rattle.zk_typed.specs.declared.refusal.Broken.{Broken}
use Rattle.zk_typed.specs.declared.rule.Rule.TheVariants as rule
use Rattle.zk_typed.specs.declared.script.expr.Given.{Given, fold-Given}
use Rattle.zk_typed.specs.Checked.{Checked, broken_anyway, both, require, ◌>>=◌, ◌>>◌}
use Rattle.zk_typed.specs.Forms.{Givens, NoField}
use Rattle.zk_typed.specs.Forms as form
use Rattle.zk_typed.specs.Making.{GivenField, item_place, given_once, all_given, and_given, givens}
use Rattle.zk_typed.specs.Resolving.{FieldInfo}
use Rattle.zk_typed.specs.Types.{ValueType, Record}
use Rattle.zk_typed.specs.Typing.{Typed, typed, Env, Check, Nothing, wanted_of, at}
use Rattle.zk_typed.specs.View.{Prefixed, expr_step, given_step}
use Rattle.zk_check_operators.specs.Views.{typed_of}
use Rattle.zk_check_expressions.specs.declared.records.GivenField.{GivenField as RustGiven}

abbrev pub given_of : RustGiven → GivenField
given_of one = record { number = one.number; wire = one.wire; value = typed_of one.value }

abbrev pub all_given_of : Vec RustGiven Global → List GivenField
all_given_of all = map given_of all.items

-- a value for a field of a type
abbrev pub known_given : Check → Checked ValueType → Expr → Checked Typed
known_given check type value = both type (check (wanted_of type) value) >>= (λ parts. Ok parts.1)

-- a value for what its name was found to name; its own rules stand at its `$`
abbrev pub field_given : Check → Env → ℕ → Expr → Option (ℕ × FieldInfo) → Checked GivenField
field_given check env place value None = broken_anyway (check Nothing value) rule.Field (at env place)
field_given check env place value (Some field) =
    both field.1.field_type (check (wanted_of field.1.field_type) value) >>= (λ parts. Ok (record { number = field.0; wire = field.1.wire; value = parts.1 }))

-- the rule of an item that gives a field again
abbrev pub again_rules : Bool → Place → List Broken
again_rules true place = record { rule = rule.Twice; place = place } ∷ []
again_rules false place = []

-- the rules of the items that give a field again, beside those that were given before
abbrev pub twice_rules : Env → List ℕ → List Item → List GivenField → List Broken
twice_rules env before (item ∷ items) (one ∷ others) =
    again_rules (list_any (λ number. number == one.number) before) (item_place env item) ++ twice_rules env (one.number ∷ before) items others
twice_rules env before items others = []

-- the fields that a constructor gives, as the Rust type holds them
abbrev pub as_given : Given → Prefixed
as_given = fold-Given form.Expr Prefixed expr_step given_step

abbrev pub all_fields : List Given → Givens
all_fields [] = NoField
all_fields (one ∷ others) = as_given one (all_fields others)

abbrev pub IsGiven : Env → RustGiven → Given → Type 0
IsGiven env one made = (others : Givens) → as_given made others ≡ and_given env (given_of one) others

-- a record by the fields that its constructor gives
abbrev pub record_given : Env → Place → RecordNo → List FieldInfo → List Item → List GivenField → Checked Typed
record_given env place number fields items given =
    given_once env [] items given >>
    (require (all_given 0 fields given) rule.Field place >> Ok (typed (Record number) (form.New number (givens env given))))
