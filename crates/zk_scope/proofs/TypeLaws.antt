-- The types of records and enums, which a text names by its place, and those of declared types.
use Rattle.std.proofs.Common.{◌≡◌, ℕ, Bool, true, false, List, Some, Ok, refl, ap, sym, subst}
use Rattle.std.specs.List.{list_any}
use Rattle.zk_tree.specs.declared.name.Name.{Name}
use Rattle.zk_tree.specs.declared.place.Place.{Place}
use Rattle.zk_tree.specs.declared.types.Field.{Field}
use Rattle.zk_tree.specs.declared.types.Type.{«Type»}
use Rattle.zk_tree.specs.declared.types.Type as tree
use Rattle.zk_tree.specs.Opening.{trees}
use Rattle.zk_typed.specs.Checked.{Checked, elsewhere}
use Rattle.zk_typed.specs.LoadOrder.{Home}
use Rattle.zk_typed.specs.Names.{Declared, Meant, WrittenType, enum_number, record_number}
use Rattle.zk_typed.specs.Predefined.{enum, record_no}
use Rattle.zk_typed.specs.Resolving.{Scripts, formed, leads, named_type, unless_deep}
use Rattle.zk_typed.specs.Types.{ValueType, Record}
use Rattle.zk_typed.specs.Within.{mentions}
use Rattle.zk_scope.specs.Leading.{is_circle, meant_circle}

pub record_formed : (check : Home → «Type» → Checked ValueType) (scripts : Scripts) (home : Home) (place : ℕ) (fields : List Field) →
    formed check scripts home (tree.Record place fields) ≡ Ok (Record (record_no (record_number scripts.nodes home.file place)))
unfolding trees
record_formed check scripts home place fields = refl

pub enum_formed : (check : Home → «Type» → Checked ValueType) (scripts : Scripts) (home : Home) (place : ℕ) (words : List Name) (comma : Bool) →
    formed check scripts home (tree.Enum place words comma) ≡ Ok (enum (enum_number scripts.nodes home.file place))
unfolding trees
enum_formed check scripts home place words comma = refl

-- the type of a declared type, unless it leads back to its name
pub declared_type : (check : Home → «Type» → Checked ValueType) (scripts : Scripts) (place : Place) (one : Declared) (home : Home) (inner : «Type») → one.meant ≡ WrittenType home inner →
    is_circle scripts (Some one) ≡ false → named_type check scripts place (Some one) ≡ unless_deep place (check home inner)
declared_type check scripts place one home inner is apart =
    subst (λ (meant : Meant). meant_circle scripts one.name meant ≡ false → named_type check scripts place (Some (record { name = one.name; exported = one.exported; meant = meant })) ≡ unless_deep place (check home inner)) (sym is)
    by_circle apart
  where
    by_circle : list_any (leads scripts one.name home) (mentions inner) ≡ false → named_type check scripts place (Some (record { name = one.name; exported = one.exported; meant = WrittenType home inner })) ≡ unless_deep place (check home inner)
    by_circle e = ap (λ (b : Bool). elim b as (λ x. Checked ValueType) [ true ↦ elsewhere | false ↦ unless_deep place (check home inner) ]) e

pub circular_type : (check : Home → «Type» → Checked ValueType) (scripts : Scripts) (place : Place) (one : Declared) (home : Home) (inner : «Type») → one.meant ≡ WrittenType home inner →
    is_circle scripts (Some one) ≡ true → named_type check scripts place (Some one) ≡ elsewhere
circular_type check scripts place one home inner is circle =
    subst (λ (meant : Meant). meant_circle scripts one.name meant ≡ true → named_type check scripts place (Some (record { name = one.name; exported = one.exported; meant = meant })) ≡ elsewhere) (sym is)
    by_circle circle
  where
    by_circle : list_any (leads scripts one.name home) (mentions inner) ≡ true → named_type check scripts place (Some (record { name = one.name; exported = one.exported; meant = WrittenType home inner })) ≡ elsewhere
    by_circle e = ap (λ (b : Bool). elim b as (λ x. Checked ValueType) [ true ↦ elsewhere | false ↦ unless_deep place (check home inner) ]) e
