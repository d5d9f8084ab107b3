-- Fields that are found by their names and by their numbers.
use Rattle.std.proofs.Common.{◌≡◌, ℕ, Bool, false, Option, Some, None, refl}
use Rattle.std.specs.Prelude.{slice_get}
use Rattle.zk_base.specs.declared.numbers.RecordNo.{RecordNo}
use Rattle.zk_tree.specs.declared.name.Name.{Name}
use Rattle.zk_tree.specs.declared.place.Place.{Place}
use Rattle.zk_typed.specs.declared.script.primitive.FieldNo.{FieldNo}
use Rattle.zk_typed.specs.Making.{field_named, field_of, is_wire}
use Rattle.zk_typed.specs.Resolving.{FieldInfo, fields_of}
use Rattle.zk_typed.specs.Types.{Record}
use Rattle.zk_typed.specs.Typing.{Env, Typed}
use Rattle.zk_check_expressions.specs.Fields.{field_among}

-- the field that a name names, by where it was found
pub field_is : (env : Env) (place : Place) (name : Name) (one : Typed) (number : RecordNo) (found : Option (ℕ × FieldInfo)) →
    one.type ≡ Record number → found ≡ field_named name.text 0 (fields_of env.scripts number.0) → field_of env place name one ≡ field_among place number found
field_is env place name one number None is e = rw (is, ← e) refl
field_is env place name one number (Some field) is e = rw (is, ← e) refl

-- whether a field is marked `&wire`, by where it was found
abbrev pub wire_in : Option FieldInfo → Bool
wire_in None = false
wire_in (Some field) = field.wire

pub wire_found : (env : Env) (one : FieldNo) (found : Option FieldInfo) → found ≡ slice_get (fields_of env.scripts one.«record».0) one.field → wire_in found ≡ is_wire env one
wire_found env one None e = rw (← e) refl
wire_found env one (Some field) e = rw (← e) refl
