-- What is of a type stays of it where objects keep their types and new ones come.
use Rattle.std.proofs.Common.{◌≡◌, ℕ, zero, suc, List, [], ◌∷◌, ◌++◌, length, Option, Some, None, refl}
use Rattle.std.specs.Prelude.{slice_get}
use Rattle.std.specs.List.{AllByRecursion, AllZip}
use Rattle.zk_tree.specs.Store.{Object}
use Rattle.zk_tree.specs.Store as object
use Rattle.zk_tree.specs.Table.{Entry}
use Rattle.zk_tree.specs.Value as value
use Rattle.zk_tree.specs.Value.{Value}
use Rattle.zk_typed.specs.declared.script.types.SimpleType.{SimpleType}
use Rattle.zk_typed.specs.declared.script.types.SimpleType.TheVariants as simple
use Rattle.zk_typed.specs.Program.{Program}
use Rattle.zk_typed.specs.State.{TableDefault}
use Rattle.zk_typed.specs.Types as type
use Rattle.zk_typed.specs.Types.{ValueType}
use Rattle.zk_typed.specs.World.{Queued, Scheduled}
use Rattle.zk_sound.specs.Holding.{Kinds, NamesObject, HasType, MayHaveType, HaveTypes, FieldsFit, EntryFits, ObjectFits, key_types, field_types}
use Rattle.zk_sound.specs.Worlds.{Names, NameFits, NamesFit, QueuedFits, ScheduledFits, TableDefaultFits}
use Rattle.zk_sound.specs.Keeping.{Grows}

pub grows_no : (kinds : Kinds) → Grows kinds kinds
grows_no kinds = record { kept = λ number of h. h }

pub grows_on : {a b c : Kinds} → Grows a b → Grows b c → Grows a c
grows_on first second = record { kept = λ number of h. second.kept number of (first.kept number of h) }

pub got_behind : {A : Type 0} (xs more : List A) (n : ℕ) (one : A) → slice_get xs n ≡ Some one → slice_get (xs ++ more) n ≡ Some one
got_behind [] more n one h = absurd cc
got_behind (x ∷ xs) more zero one h = h
got_behind (x ∷ xs) more (suc n) one h = got_behind xs more n one h

-- a new object
pub grows_by : (kinds more : Kinds) → Grows kinds (kinds ++ more)
grows_by kinds more = record { kept = got_behind kinds more }

pub got_last : {A : Type 0} (xs : List A) (one : A) → slice_get (xs ++ one ∷ []) (length xs) ≡ Some one
got_last [] one = refl
got_last (x ∷ xs) one = got_last xs one

-- all of a list
pub all_map : {A : Type 0} (P Q : A → Type 0) → ((a : A) → P a → Q a) → (xs : List A) → AllByRecursion P xs → AllByRecursion Q xs
all_map P Q each [] h = tt
all_map P Q each (x ∷ xs) (first, others) = (each x first, all_map P Q each xs others)

pub all_append : {A : Type 0} (P : A → Type 0) (xs ys : List A) → AllByRecursion P xs → AllByRecursion P ys → AllByRecursion P (xs ++ ys)
all_append P [] ys h k = k
all_append P (x ∷ xs) ys (first, others) k = (first, all_append P xs ys others k)

pub all_get : {A : Type 0} (P : A → Type 0) (xs : List A) (n : ℕ) (one : A) → slice_get xs n ≡ Some one → AllByRecursion P xs → P one
all_get P [] n one h all = absurd cc
all_get P (x ∷ xs) zero one h (first, others) = let same : x ≡ one = cc in rw same at first
all_get P (x ∷ xs) (suc n) one h (first, others) = all_get P xs n one h others

module _ {kinds later : Kinds} (grows : Grows kinds later) where
  pub object_later : (of : ValueType) (one : Value) → NamesObject kinds of one → NamesObject later of one
  object_later of (value.Object number) h = grows.kept number.0 of h
  object_later of one h = absurd h

  pub has_later : (of : ValueType) (one : Value) → HasType kinds of one → HasType later of one
  has_later (type.Simple simple) one h = h
  has_later (type.Record number) one h = object_later (type.Record number) one h
  has_later (type.Table keys item) one h = object_later (type.Table keys item) one h
  has_later (type.Set keys) one h = object_later (type.Set keys) one h
  has_later (type.Vector item) one h = object_later (type.Vector item) one h

  pub may_later : (of : ValueType) (one : Option Value) → MayHaveType kinds of one → MayHaveType later of one
  may_later of None h = tt
  may_later of (Some one) h = has_later of one h

  pub have_later : (types : List ValueType) (ones : List Value) → HaveTypes kinds types ones → HaveTypes later types ones
  have_later [] [] h = tt
  have_later [] (one ∷ ones) h = absurd h
  have_later (of ∷ types) [] h = absurd h
  have_later (of ∷ types) (one ∷ ones) (first, others) = (has_later of one first, have_later types ones others)

  pub fields_later : (types : List ValueType) (ones : List (Option Value)) → FieldsFit kinds types ones → FieldsFit later types ones
  fields_later [] [] h = tt
  fields_later [] (one ∷ ones) h = absurd h
  fields_later (of ∷ types) [] h = absurd h
  fields_later (of ∷ types) (one ∷ ones) (first, others) = (may_later of one first, fields_later types ones others)

  pub all_have_later : (of : ValueType) (ones : List Value) → AllByRecursion (HasType kinds of) ones → AllByRecursion (HasType later of) ones
  all_have_later of ones h = all_map _ _ (has_later of) ones h

  pub entry_later : (keys : List SimpleType) (item : ValueType) (one : Entry) → EntryFits kinds keys item one → EntryFits later keys item one
  entry_later keys item one (key, of) = (have_later (key_types keys) one.key key, has_later item one.value of)

  pub fits_later : (program : Program) (of : ValueType) (one : Object) → ObjectFits program kinds of one → ObjectFits program later of one
  fits_later program (type.Record number) (object.Record of fields) (same, fit) = (same, fields_later (field_types program number) fields fit)
  fits_later program (type.Vector item) (object.Vector items) h = all_have_later item items h
  fits_later program (type.Table keys item) (object.Table table) h = all_map _ _ (entry_later keys item) table.entries h
  fits_later program (type.Set keys) (object.Table table) h = all_map _ _ (entry_later keys (type.Simple simple.Bool)) table.entries h
  fits_later program of one h = absurd h

  zip_later : (program : Program) (types : Kinds) (store : List Object) → AllZip (ObjectFits program kinds) types store → AllZip (ObjectFits program later) types store
  zip_later program [] [] h = tt
  zip_later program [] (one ∷ store) h = absurd h
  zip_later program (of ∷ types) [] h = absurd h
  zip_later program (of ∷ types) (one ∷ store) (first, others) = (fits_later program of one first, zip_later program types store others)

  pub objects_later : (program : Program) (types : Kinds) (store : List Object) → AllZip (ObjectFits program kinds) types store → AllZip (ObjectFits program later) types store
  objects_later = zip_later

  name_later : (of : Option ValueType) (one : Option Value) → NameFits kinds of one → NameFits later of one
  name_later None one h = tt
  name_later (Some of) one h = may_later of one h

  pub names_later : (names : Names) (ones : List (Option Value)) → NamesFit kinds names ones → NamesFit later names ones
  names_later [] ones h = tt
  names_later (of ∷ names) [] h = tt
  names_later (of ∷ names) (one ∷ ones) (first, others) = (name_later of one first, names_later names ones others)

  pub default_later : (one : TableDefault) → TableDefaultFits kinds one → TableDefaultFits later one
  default_later one h = record { of = h.of; object = grows.kept one.object h.of h.object; fits = h.fits }

  pub queued_later : (program : Program) (one : Queued) → QueuedFits program kinds one → QueuedFits program later one
  queued_later program one h = record { args = λ params is. have_later params one.args (h.args params is) }

  pub scheduled_later : (program : Program) (one : Scheduled) → ScheduledFits program kinds one → ScheduledFits program later one
  scheduled_later program one h = queued_later program one.what h
