-- The rules of one attribute among those of its declaration.
use Rattle.std.specs.Prelude.{ℕ, zero, suc, Bool, true, false, not, ◌&&◌, ◌||◌, List, [], ◌∷◌, Option, Some, None, is_some, slice_get}
use Rattle.std.specs.List.{list_any}
use Rattle.zk_tree.specs.declared.types.Attr.{Attr}
use Rattle.zk_typed.specs.declared.rule.Rule.TheVariants as rule
use Rattle.zk_typed.specs.Checked.{Checked, require, ◌>>◌}
use Rattle.zk_typed.specs.Declarations.{is_one_of, is_expiry, with_value}
use Rattle.zk_typed.specs.LoadOrder.{Home}
use Rattle.zk_typed.specs.Operations.{same_type}
use Rattle.zk_typed.specs.Predefined as type
use Rattle.zk_typed.specs.Resolving.{place_in}
use Rattle.zk_typed.specs.Types.{ValueType}

abbrev pub counted : ValueType → Bool
counted one = same_type one type.count || same_type one type.string

abbrev pub name_of : Option Attr → List ℕ
name_of None = []
name_of (Some attr) = attr.name

-- the names of the first so many attributes, the last one first
abbrev pub before : ℕ → List Attr → List (List ℕ)
before zero attrs = []
before (suc count) attrs = name_of (slice_get attrs count) ∷ before count attrs

-- an attribute may stand behind others: it is one that may, not twice and beside no other expiry
abbrev pub stands_behind : (List ℕ → Bool) → List (List ℕ) → List ℕ → Bool
stands_behind allowed others name = allowed name && not (is_one_of others name) && not (is_expiry name && list_any is_expiry others)

-- it has a value exactly where it should
abbrev pub fitting : Bool → Bool → Bool
fitting true given = given
fitting false given = not given

abbrev pub one_rule : Home → (List ℕ → Bool) → (Attr → Checked (Unit {0})) → List (List ℕ) → Attr → Checked (Unit {0})
one_rule home allowed value_rules others attr =
    require (stands_behind allowed others attr.name && fitting (with_value attr.name) (is_some attr.value)) rule.Attribute (place_in home attr.place) >> value_rules attr
