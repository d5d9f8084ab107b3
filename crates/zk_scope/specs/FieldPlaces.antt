-- Where the fields of record types stand, and their names.
use Rattle.std.specs.Prelude.{◌≡◌, ℕ, suc, Bool, false, List, [], ◌∷◌, ◌++◌, map, Option, Some, None, slice_get, nat_eq, if◌then◌else◌}
use Rattle.std.specs.Borrow.{Bor}
use Rattle.std.specs.Str.{bytes_eq}
use Rattle.zk_tree.specs.declared.decl.Decl.{Decl, out-Decl}
use Rattle.zk_tree.specs.declared.decl.Decl.TheOpen.{Decl-F}
use Rattle.zk_tree.specs.declared.decl.Decl.TheOpen as decl
use Rattle.zk_tree.specs.declared.name.Name.{Name}
use Rattle.zk_tree.specs.declared.types.Field.{Field, out-Field}
use Rattle.zk_typed.specs.LoadOrder.{Home, Stated}
use Rattle.zk_typed.specs.Names.{Node, RecordNode, EnumNode}
use Rattle.zk_typed.specs.Resolving.{FieldInfo, Scripts, fields_of, is_that, own_fields, type_named, written_field}
use Rattle.zk_scope.specs.declared.field_places.FieldPlace.{FieldPlace}
use Rattle.zk_scope.specs.declared.field_places.RecordFields.{RecordFields}
use Rattle.zk_scope.specs.declared.fields.Fields.{Fields}
use Rattle.zk_scope.specs.declared.predefined.KnownField.{KnownField}
use Rattle.zk_scope.specs.Fields.{stated_fields}
use Rattle.zk_scope.specs.Numbering.{Stands}

-- where the fields of one text stand, from one on
abbrev pub places_from : {A : Type 0} → Option ℕ → ℕ → List A → List FieldPlace
places_from added at [] = []
places_from added at (field ∷ others) = record { added = added; at = at } ∷ places_from added (suc at) others

-- where the fields stand that declarations add to a record type, the first of them at a place
abbrev pub added_places : Scripts → ℕ → ℕ → List Stated → List FieldPlace
added_places scripts number place [] = []
added_places scripts number place (one ∷ others) = places_from (Some place) 0 (stated_fields scripts number one) ++ added_places scripts number (suc place) others

-- where the fields of a record type stand
abbrev pub field_places : Scripts → ℕ → List FieldPlace
field_places scripts number = places_from None 0 (own_fields scripts number) ++ added_places scripts number 0 scripts.stated

-- the record type's name and the fields of a declaration of `redef record`
abbrev pub added_in : Decl-F Decl → Option (Name × List Field)
added_in (decl.RedefRecord place name fields) = Some (name, fields)
added_in other = None

abbrev pub added_lent : Bor Name × Bor (List Field) → Name × List Field
added_lent one = (one.0.now, one.1.now)

-- their fields, where the name is that of a record type
abbrev pub fields_added : Scripts → ℕ → Home → Option (Name × List Field) → List FieldInfo
fields_added scripts number home None = []
fields_added scripts number home (Some added) = if is_that number (type_named scripts home added.0) then map (written_field scripts home) added.1 else []

-- the fields that a declaration of `redef record` adds
abbrev pub decl_texts : Decl-F Decl → List Field
decl_texts (decl.RedefRecord place name fields) = fields
decl_texts other = []

abbrev pub added_texts : Scripts → Option Stated → List FieldInfo
added_texts scripts None = []
added_texts scripts (Some one) = map (written_field scripts one.home) (decl_texts (out-Decl one.decl))

-- the field of a record type that stands at a place
abbrev pub field_at : Scripts → ℕ → FieldPlace → Option FieldInfo
field_at scripts number one = of_text one.added
  where
    of_text : Option ℕ → Option FieldInfo
    of_text None = slice_get (own_fields scripts number) one.at
    of_text (Some place) = slice_get (added_texts scripts (slice_get scripts.stated place)) one.at

-- Names of fields ------------------------------------------------------------------------------------------------------

abbrev pub named : List FieldInfo → List (List ℕ)
named fields = map (λ field. field.name) fields

abbrev pub field_name : Field → List ℕ
field_name field = (out-Field field).name.text

abbrev pub known_name : KnownField → List ℕ
known_name field = field.name.now

-- the fields in the text of a record type
abbrev pub node_texts : Option Node → List Field
node_texts None = []
node_texts (Some (RecordNode home place fields)) = fields
node_texts (Some (EnumNode home place words)) = []

-- What is kept ---------------------------------------------------------------------------------------------------------

-- fields stand at places and have names
abbrev pub HasPlaces : RecordFields → List FieldPlace → List (List ℕ) → Type 0
HasPlaces one places names = (one.places.items ≡ places) × Stands bytes_eq one.names names

-- a number is that of a record type, if there is one
abbrev pub is_among : ℕ → Option ℕ → Bool
is_among number None = false
is_among number (Some other) = nat_eq other number

-- the fields of record types by their numbers; a number that isn't there has none
abbrev pub Hold : List RecordFields → (ℕ → List FieldPlace) → (ℕ → List (List ℕ)) → Type 0
Hold records places names =
    ((number : ℕ) (one : RecordFields) → slice_get records number ≡ Some one → HasPlaces one (places number) (names number)) ×
    ((number : ℕ) → slice_get records number ≡ None → places number ≡ [])

-- those of the record types' own texts
abbrev pub AreOwn : List RecordFields → Scripts → Type 0
AreOwn records scripts = (number : ℕ) (one : RecordFields) → slice_get records number ≡ Some one → HasPlaces one (places_from None 0 (own_fields scripts number)) (named (own_fields scripts number))

-- those of record types
abbrev pub AreFields : Fields → Scripts → Type 0
AreFields fields scripts = Hold fields.records.items (field_places scripts) (λ number. named (fields_of scripts number))
