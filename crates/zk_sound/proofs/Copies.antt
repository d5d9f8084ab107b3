-- The size of a value is a count, and a copy has the type of what it copies.
use Rattle.std.proofs.Common.{◌≡◌, ℕ, zero, suc, false, List, [], ◌∷◌, Option, Some, None, refl}
use Rattle.std.specs.List.{AllByRecursion}
use Rattle.zk_tree.specs.declared.place.Place.{Place}
use Rattle.zk_tree.specs.Store.{Object}
use Rattle.zk_tree.specs.Store as object
use Rattle.zk_tree.specs.Table.{Table, Entry, insert}
use Rattle.zk_tree.specs.Value as value
use Rattle.zk_tree.specs.Value.{Value}
use Rattle.zk_typed.specs.declared.ends.FaultKind.TheVariants.{Unset}
use Rattle.zk_typed.specs.declared.script.literal.DefaultValue.{DefaultValue}
use Rattle.zk_typed.specs.declared.script.types.SimpleType.{SimpleType}
use Rattle.zk_typed.specs.declared.script.types.SimpleType.TheVariants as simple
use Rattle.zk_typed.specs.Does.{Does}
use Rattle.zk_typed.specs.Objects as objects
use Rattle.zk_typed.specs.Objects.{default_of, empty_table}
use Rattle.zk_typed.specs.Predefined as type
use Rattle.zk_typed.specs.Types.{ValueType, Simple, Record, Table as TableType, Set, Vector}
use Rattle.zk_sound.specs.Holding.{Kinds, NamesObject, HasType, MayHaveType, FieldsFit, EntryFits, ObjectFits, AbsentFits, key_types, field_types}
use Rattle.zk_sound.specs.Having.{HasSize}
use Rattle.zk_sound.specs.Keeping.{Setting, Keeps, Of}
use Rattle.zk_sound.proofs.Growth.{grows_on, all_map, has_later, may_later, have_later, object_later, entry_later, fields_later}
use Rattle.zk_sound.proofs.Core.{MayBe, keeps_bind, keeps_then, keeps_pure, keeps_fault, keeps_tick, keeps_read}
use Rattle.zk_sound.proofs.Places.{IsObject, keeps_object, keeps_new_object}
use Rattle.zk_sound.proofs.Tables.{insert_fits}
use Rattle.zk_sound.proofs.Objects.{AllAre}
use Rattle.zk_sound.proofs.Containers.{Fit, mix, Filled, filled_later, keeps_now, keeps_default, default_fits}
use Rattle.zk_sound.proofs.Operators.{of_one, made}

-- Sizes ------------------------------------------------------------------------------------------------------------

module _ {setting : Setting} {kinds : Kinds} where
  object_size_keeps : (place : Place) (of : ValueType) (one : Value) → NamesObject kinds of one → Keeps setting (Of type.count) kinds (objects.size place one)
  object_size_keeps place of (value.Object number) named = keeps_bind (keeps_object place of (value.Object number) named) (λ later grows found fits. keeps_pure _ refl)
  object_size_keeps place of one named = absurd named

  pub keeps_size : (place : Place) (of : ValueType) (one : Value) → HasSize of → HasType kinds of one → Keeps setting (Of type.count) kinds (objects.size place one)
  keeps_size place (Simple simple.String) one sized h = of_one value.String one (λ x. Keeps setting (Of type.count) kinds (objects.size place x)) (made simple.String one h) (λ x. keeps_pure _ refl)
  keeps_size place (Simple simple.Int) one sized h = of_one value.Int one (λ x. Keeps setting (Of type.count) kinds (objects.size place x)) (made simple.Int one h) (λ x. keeps_pure _ refl)
  keeps_size place (TableType keys item) one sized h = object_size_keeps place (TableType keys item) one h
  keeps_size place (Set keys) one sized h = object_size_keeps place (Set keys) one h
  keeps_size place (Vector item) one sized h = object_size_keeps place (Vector item) one h
  keeps_size place of one sized h = absurd sized

-- Copies -----------------------------------------------------------------------------------------------------------

-- a computation gives a value of the type of the one that it takes
abbrev pub Copies : Setting → (Value → Does Value) → Type 0
Copies setting copied = (kinds : Kinds) (of : ValueType) (one : Value) → HasType kinds of one → Keeps setting (Of of) kinds (copied one)

module _ {setting : Setting} (copied : Value → Does Value) (copies : Copies setting copied) where
  each_keeps : {kinds : Kinds} (item : ValueType) (ones : List Value) → AllByRecursion (HasType kinds item) ones → Keeps setting (AllAre item) kinds (objects.each_copied copied ones)
  each_keeps item [] all = keeps_pure [] tt
  each_keeps {kinds = kinds} item (one ∷ ones) (first, others) = keeps_bind (copies kinds item one first) (λ later grows new is.
      keeps_bind (each_keeps item ones (all_map _ _ (has_later grows item) ones others)) (λ last more news all. keeps_pure (new ∷ news) (has_later more item new is, all)))

  field_keeps : {kinds : Kinds} (of : ValueType) (one : Option Value) → MayHaveType kinds of one → Keeps setting (MayBe of) kinds (objects.field_copied copied one)
  field_keeps of None h = keeps_pure None tt
  field_keeps {kinds = kinds} of (Some one) h = keeps_bind (copies kinds of one h) (λ later grows new is. keeps_pure (Some new) is)

  fields_keep : {kinds : Kinds} (types : List ValueType) (ones : List (Option Value)) → FieldsFit kinds types ones → Keeps setting (λ later news. FieldsFit later types news) kinds (objects.fields_copied copied ones)
  fields_keep [] [] fits = keeps_pure [] tt
  fields_keep [] (one ∷ ones) fits = absurd fits
  fields_keep (of ∷ types) [] fits = absurd fits
  fields_keep (of ∷ types) (one ∷ ones) (first, others) = keeps_bind (field_keeps of one first) (λ later grows new is.
      keeps_bind (fields_keep types ones (fields_later grows types ones others)) (λ last more news all. keeps_pure (new ∷ news) (may_later more of new is, all)))

  entries_keep : {kinds : Kinds} (keys : List SimpleType) (item : ValueType) (table : Table) (entries : List Entry) → Filled (TableType keys item) kinds table → AllByRecursion (EntryFits kinds keys item) entries
      → Keeps setting (Filled (TableType keys item)) kinds (objects.entries_copied copied table entries)
  entries_keep keys item table [] filled all = keeps_pure table filled
  entries_keep {kinds = kinds} keys item table (entry ∷ entries) filled (first, others) = keeps_bind (copies kinds item entry.value first.1) (λ later grows new is. keeps_now _ (λ moment.
      entries_keep keys item (insert moment entry.key new table) entries
      (insert_fits (Fit later (TableType keys item)) (mix later (TableType keys item)) moment entry.key new table (have_later grows (key_types keys) entry.key first.0, is) (filled_later grows (TableType keys item) table filled))
      (all_map _ _ (entry_later grows keys item) entries others)))

  copied_keeps : {kinds : Kinds} (of : ValueType) (default : Option DefaultValue) (one : Object) → ((given : DefaultValue) → default ≡ Some given → AbsentFits of given) → ObjectFits setting.program kinds of one
      → Keeps setting (IsObject of) kinds (objects.object_copied copied default one)
  copied_keeps (Record number) default (object.Record r fields) absent (same, fits) = keeps_bind (fields_keep (field_types setting.program number) fields fits)
      (λ later grows news all. keeps_new_object (Record number) (object.Record r news) (same, all))
  copied_keeps (Vector item) default (object.Vector items) absent fits = keeps_bind (each_keeps item items fits) (λ later grows news all. keeps_new_object (Vector item) (object.Vector news) all)
  copied_keeps (TableType keys item) default (object.Table table) absent fits = keeps_bind (entries_keep keys item (empty_table None) table.entries tt fits)
      (λ later grows new all. keeps_bind (keeps_new_object (TableType keys item) (object.Table new) all) (λ last more made named. keeps_default (TableType keys item) default made named absent))
  copied_keeps (Set keys) default (object.Table table) absent fits = keeps_bind (entries_keep keys type.bool (empty_table None) table.entries tt fits)
      (λ later grows new all. keeps_bind (keeps_new_object (Set keys) (object.Table new) all) (λ last more made named. keeps_default (Set keys) default made named absent))
  copied_keeps of default one absent fits = absurd fits

module _ {setting : Setting} (loose : setting.strict ≡ false) where
  named_keeps : (depth : ℕ) (place : Place) (kinds : Kinds) (of : ValueType) (one : Value) → Copies setting (objects.copied_to depth place) → NamesObject kinds of one → Keeps setting (IsObject of) kinds (objects.copied_to (suc depth) place one)
  named_keeps depth place kinds of (value.Object number) copies named = keeps_then (keeps_tick place) (λ later grows.
      keeps_bind (keeps_object place of (value.Object number) (object_later grows of (value.Object number) named)) (λ last more found fits.
      keeps_read (default_of (value.Object number)) (λ default. objects.object_copied (objects.copied_to depth place) default found) (λ world holds.
      copied_keeps (objects.copied_to depth place) copies of (default_of (value.Object number) world) found
      (default_fits setting.program last world of (value.Object number) holds (object_later (grows_on grows more) of (value.Object number) named)) fits)))
  named_keeps depth place kinds of one copies named = absurd named

  simple_keeps : (depth : ℕ) (place : Place) (kinds : Kinds) (of : SimpleType) (one : Value) → HasType kinds (Simple of) one → Keeps setting (Of (Simple of)) kinds (objects.copied_to (suc depth) place one)
  simple_keeps depth place kinds of (value.Object number) h = absurd (never of h)
    where
      never : (of : SimpleType) → HasType kinds (Simple of) (value.Object number) → ⊥
      never simple.Bool h = cc
      never of h = cc
  simple_keeps depth place kinds of one h = keeps_pure one h

  pub keeps_copy : (depth : ℕ) (place : Place) → Copies setting (objects.copied_to depth place)
  keeps_copy zero place kinds of one h = keeps_fault Unset place loose
  keeps_copy (suc depth) place kinds (Simple of) one h = simple_keeps depth place kinds of one h
  keeps_copy (suc depth) place kinds (Record number) one h = named_keeps depth place kinds (Record number) one (keeps_copy depth place) h
  keeps_copy (suc depth) place kinds (TableType keys item) one h = named_keeps depth place kinds (TableType keys item) one (keeps_copy depth place) h
  keeps_copy (suc depth) place kinds (Set keys) one h = named_keeps depth place kinds (Set keys) one (keeps_copy depth place) h
  keeps_copy (suc depth) place kinds (Vector item) one h = named_keeps depth place kinds (Vector item) one (keeps_copy depth place) h
