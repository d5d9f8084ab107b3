-- Objects that no script makes: those of connections and of what was read of them.
use Rattle.std.specs.Prelude.{ℕ, ◌+◌, List, [], ◌∷◌, ◌++◌, length, map, Option, Some, None}
use Rattle.zk_base.specs.declared.numbers.RecordNo.{RecordNo}
use Rattle.zk_base.specs.declared.numbers.ObjectNo.{ObjectNo}
use Rattle.zk_table.specs.Heap.{changed}
use Rattle.zk_tree.specs.declared.place.Place.{Place}
use Rattle.zk_tree.specs.Store as object
use Rattle.zk_tree.specs.Value.{Value}
use Rattle.zk_typed.specs.declared.script.literal.DefaultValue.{DefaultValue}
use Rattle.zk_typed.specs.Columns.{record_fields}
use Rattle.zk_typed.specs.Does.{Ran, Gives, Faults, Spent}
use Rattle.zk_typed.specs.Objects.{Given, given_at, default_value}
use Rattle.zk_typed.specs.Program.{Program, Field}
use Rattle.zk_typed.specs.State.{World, with_store}
use Rattle.zk_value.specs.Objects as change
use Rattle.zk_value.specs.Plain.{value_of}
use Rattle.zk_value.specs.declared.value.Value as rust

-- fields by their numbers, with their values
abbrev pub given_of : List (ℕ × rust.Value) → List Given
given_of fields = map (λ one. (one.0, value_of one.1)) fields

-- the value of a `&default`, or none where it is at fault, and the world then
abbrev pub default_in : Ran Value → Option Value × World
default_in (Gives value state) = (Some value, state.world)
default_in (Faults kind place world units) = (None, world)
default_in (Spent place world) = (None, world)

-- no script makes it, so the place is none
abbrev pub nowhere : Place
nowhere = record { file = 0; byte = 0 }

-- A field that isn't given begins as in a constructor, and has no value where its `&default` is at fault.
abbrev pub begins : World → Option Value → Option DefaultValue → Option Value × World
begins world (Some value) default = (Some value, world)
begins world None None = (None, world)
begins world None (Some default) = default_in (default_value nowhere default (record { world = world; locals = []; units = 0 }))

abbrev pub with_first : Option Value × World → (World → List (Option Value) × World) → List (Option Value) × World
with_first first others = (first.0 ∷ (others first.1).0, (others first.1).1)

-- what fields begin with, from one number on, and the world with the containers that they begin with
abbrev pub fields_begin : List Given → ℕ → List Field → World → List (Option Value) × World
fields_begin given number [] world = ([], world)
fields_begin given number (field ∷ fields) world =
    with_first (begins world (given_at number given) field.begins) (fields_begin given (number + 1) fields)

-- a new object at the end of the store
abbrev pub with_object : object.Object → World → World
with_object one world = with_store (world.store ++ one ∷ []) world

-- a record of a type, of which some fields are given
pub record Fresh : Type 0 where
  pub number : ObjectNo
  pub world : World

abbrev pub made : RecordNo → List (Option Value) × World → Fresh
made kind begun = record { number = record { 0 = length begun.1.store }; world = with_object (object.Record kind begun.0) begun.1 }

abbrev pub fresh : Program → RecordNo → List Given → World → Fresh
fresh program kind given world = made kind (fields_begin given 0 (record_fields program kind) world)

-- A field of a record gets a value, or loses it. Nothing is changed where there is no such record or field.
abbrev pub renewed : ObjectNo → ℕ → Option Value → World → World
renewed one field value world = with_store (changed (change.with_field field value) one.0 world.store) world
