-- Tables and sets keep the types of their entries, and a copy has the type of what it copies.
use Rattle.std.proofs.Common.{◌≡◌, ℕ, zero, suc, ◌+◌, ◌*◌, ◌/◌, ◌==◌, true, List, [], ◌∷◌, ◌++◌, length, map, find, fold, take, drop, Option, Some, None, refl, sym, ap, ◌∙◌, arith}
use Rattle.std.specs.Prelude.{slice_get}
use Rattle.std.specs.List.{AllByRecursion}
use Rattle.std.proofs.lemmas.Bool.{eqb-true}
use Rattle.std.proofs.lemmas.List.{length-map}
use Rattle.std.proofs.lemmas.Nat.{div-mul-add}
use Rattle.zk_base.specs.declared.time.Moment.{Moment}
use Rattle.zk_tree.specs.declared.place.Place.{Place}
use Rattle.zk_tree.specs.Store.{Object}
use Rattle.zk_tree.specs.Store as object
use Rattle.zk_tree.specs.Table.{Table, Entry, entry_at, insert, remove}
use Rattle.zk_tree.specs.Value as value
use Rattle.zk_tree.specs.Value.{Value}
use Rattle.zk_typed.specs.declared.ends.FaultKind.TheVariants.{NoIndex}
use Rattle.zk_typed.specs.declared.script.literal.DefaultValue.{DefaultValue}
use Rattle.zk_typed.specs.declared.script.primitive.Shape.{Shape}
use Rattle.zk_typed.specs.declared.script.types.SimpleType.{SimpleType}
use Rattle.zk_typed.specs.Does.{Does, ◌>>=◌}
use Rattle.zk_typed.specs.Objects as objects
use Rattle.zk_typed.specs.Objects.{table_in, empty_table, default_named, default_of, absent, entry_value, keep_default, add_member, groups_to, groups, with_pair, keys_of, found}
use Rattle.zk_typed.specs.Predefined as type
use Rattle.zk_typed.specs.Program.{Program}
use Rattle.zk_typed.specs.State.{World, TableDefault}
use Rattle.zk_typed.specs.Types.{ValueType, Simple, Record, Table as TableType, Set, Vector}
use Rattle.zk_sound.specs.Holding.{Kinds, NamesObject, HasType, HaveTypes, EntryFits, ObjectFits, AbsentFits, key_types}
use Rattle.zk_sound.specs.Worlds.{TableDefaultFits, WorldFits}
use Rattle.zk_sound.specs.Having.{HasKeys, IsTable, repeated}
use Rattle.zk_sound.specs.Keeping.{Setting, Grows, Keeps, Any, Of}
use Rattle.zk_sound.proofs.Growth.{grows_on, all_map, all_append, has_later, have_later, object_later, entry_later}
use Rattle.zk_sound.proofs.Core.{keeps_bind, keeps_then, keeps_pure, keeps_fault, keeps_read, keeps_change}
use Rattle.zk_sound.proofs.Places.{IsObject, keeps_object, keeps_set_object, keeps_new_object}
use Rattle.zk_sound.proofs.Tables.{TableOf, all_find, fold_keeps, insert_fits, remove_fits, found_fits, there_fits}
use Rattle.zk_sound.proofs.Objects.{keeps_default_value, find_passes, option_mapped}

-- Entries by their containers --------------------------------------------------------------------------------------

-- a key and a value of a table or a set
abbrev pub Fit : Kinds → ValueType → List Value → Value → Type 0
Fit kinds (TableType keys item) key one = HaveTypes kinds (key_types keys) key × HasType kinds item one
Fit kinds (Set keys) key one = HaveTypes kinds (key_types keys) key × HasType kinds type.bool one
Fit kinds other key one = ⊥

pub mix : (kinds : Kinds) (of : ValueType) (k l : List Value) (v w : Value) → Fit kinds of k v → Fit kinds of l w → Fit kinds of k w
mix kinds (TableType keys item) k l v w a b = (a.0, b.1)
mix kinds (Set keys) k l v w a b = (a.0, b.1)
mix kinds of k l v w a b = absurd a

abbrev pub Filled : ValueType → Kinds → Table → Type 0
Filled of kinds table = TableOf (Fit kinds of) (mix kinds of) table

pub filled_later : {kinds later : Kinds} → Grows kinds later → (of : ValueType) (table : Table) → Filled of kinds table → Filled of later table
filled_later grows (TableType keys item) table all = all_map _ _ (entry_later grows keys item) table.entries all
filled_later grows (Set keys) table all = all_map _ _ (entry_later grows keys type.bool) table.entries all
filled_later grows (Simple simple) table all = all_map _ _ (λ entry h. absurd h) table.entries all
filled_later grows (Record number) table all = all_map _ _ (λ entry h. absurd h) table.entries all
filled_later grows (Vector item) table all = all_map _ _ (λ entry h. absurd h) table.entries all

module _ {setting : Setting} {kinds : Kinds} where
  table_keeps : (place : Place) (of : ValueType) (one : Object) → IsTable of → ObjectFits setting.program kinds of one → Keeps setting (Filled of) kinds (table_in place one)
  table_keeps place (TableType keys item) (object.Table table) is fits = keeps_pure table fits
  table_keeps place (Set keys) (object.Table table) is fits = keeps_pure table fits
  table_keeps place (TableType keys item) (object.Record r fields) is fits = absurd fits
  table_keeps place (TableType keys item) (object.Vector items) is fits = absurd fits
  table_keeps place (Set keys) (object.Record r fields) is fits = absurd fits
  table_keeps place (Set keys) (object.Vector items) is fits = absurd fits
  table_keeps place of one is fits = absurd is

pub filled_object : (program : Program) (kinds : Kinds) (of : ValueType) (table : Table) → IsTable of → Filled of kinds table → ObjectFits program kinds of (object.Table table)
filled_object program kinds (TableType keys item) table is all = all
filled_object program kinds (Set keys) table is all = all
filled_object program kinds of table is all = absurd is

module _ {setting : Setting} {kinds : Kinds} (of : ValueType) (is : IsTable of) where
  pub keeps_table : (place : Place) (one : Value) → NamesObject kinds of one → Keeps setting (Filled of) kinds (objects.table place one)
  keeps_table place one named = keeps_bind (keeps_object place of one named) (λ later grows found fits. table_keeps place of found is fits)

  keeps_set_table : (one : Value) (table : Table) → NamesObject kinds of one → Filled of kinds table → Keeps setting Any kinds (objects.set_table one table)
  keeps_set_table one table named all = keeps_set_object of one (object.Table table) named (filled_object setting.program kinds of table is all)

-- network time
pub keeps_now : {A : Type 0} {setting : Setting} {Q : Kinds → A → Type 0} {kinds : Kinds} (next : Moment → Does A) → ((moment : Moment) → Keeps setting Q kinds (next moment)) → Keeps setting Q kinds (objects.now >>= next)
keeps_now next keeps = keeps_read (λ world. world.time) next (λ world fits. keeps world.time)

-- a table is changed at the moment
pub keeps_change_table : {setting : Setting} {kinds : Kinds} (of : ValueType) → IsTable of → (place : Place) (one : Value) (changed : Moment → Table → Table) → NamesObject kinds of one
    → ((later : Kinds) → Grows kinds later → (moment : Moment) (table : Table) → Filled of later table → Filled of later (changed moment table)) → Keeps setting Any kinds (objects.change_table place one changed)
keeps_change_table of is place one changed named keeps = keeps_bind (keeps_table of is place one named) (λ later grows table all.
    keeps_now _ (λ moment. keeps_set_table of is one (changed moment table) (object_later grows of one named) (keeps later grows moment table all)))

-- What a key finds -------------------------------------------------------------------------------------------------

same_kind : (kinds : Kinds) (m n : ℕ) (a b : ValueType) → m ≡ n → slice_get kinds m ≡ Some a → slice_get kinds n ≡ Some b → a ≡ b
same_kind kinds m n a b e first second = let there : slice_get kinds n ≡ Some a = rw e at first in cc

-- the default that a table has is of the type of its values
pub default_fits : (program : _) (kinds : Kinds) (world : World) (of : ValueType) (one : Value) → WorldFits program kinds world → NamesObject kinds of one
    → (default : DefaultValue) → default_of one world ≡ Some default → AbsentFits of default
default_fits program kinds world of (value.Object number) fits named default is = by (option_mapped (λ one. one.default) (find (λ one. one.object == number.0) world.defaults) default is)
  where
    by : ((one : TableDefault) × (find (λ one. one.object == number.0) world.defaults ≡ Some one) × (one.default ≡ default)) → AbsentFits of default
    by (one, there, same) =
        let fit = all_find (TableDefaultFits kinds) (λ one. one.object == number.0) world.defaults one there fits.defaults in
        let here : one.object ≡ number.0 = eqb-true one.object number.0 (find_passes (λ one. one.object == number.0) world.defaults one there) in
        let kind : fit.of ≡ of = same_kind kinds one.object number.0 fit.of of here fit.object named in
        rw same at (rw kind at fit.fits)
default_fits program kinds world of one fits named default is = absurd named

module _ {setting : Setting} where
  absent_keeps : {kinds : Kinds} (place : Place) (keys : List SimpleType) (item : ValueType) (default : Option DefaultValue)
      → ((one : DefaultValue) → default ≡ Some one → AbsentFits (TableType keys item) one) → Keeps setting (Of item) kinds (absent place default)
  absent_keeps place keys item None fits = keeps_fault NoIndex place tt
  absent_keeps place keys item (Some default) fits = keeps_default_value place item default (fits default refl)

  entry_keeps : {kinds : Kinds} (place : Place) (keys : List SimpleType) (item : ValueType) (one : Value) (entry : Option Entry) → NamesObject kinds (TableType keys item) one
      → ((there : Entry) → entry ≡ Some there → HasType kinds item there.value) → Keeps setting (Of item) kinds (entry_value place one entry)
  entry_keeps place keys item one (Some entry) named fits = keeps_pure entry.value (fits entry refl)
  entry_keeps place keys item one None named fits = keeps_read (default_of one) (absent place) (λ world holds.
      absent_keeps place keys item (default_of one world) (default_fits setting.program _ world (TableType keys item) one holds named))

  -- `t[k]`
  pub keeps_element : {kinds : Kinds} (place : Place) (keys : List SimpleType) (item : ValueType) (one : Value) (key : List Value) → HasType kinds (TableType keys item) one
      → Keeps setting (Of item) kinds (objects.element place one key)
  keeps_element place keys item one key named = keeps_bind (keeps_table (TableType keys item) tt place one named) (λ later grows table all. keeps_now _ (λ moment.
      keeps_then (keeps_set_table (TableType keys item) tt one (found moment key table) (object_later grows (TableType keys item) one named)
      (found_fits (Fit later (TableType keys item)) (mix later (TableType keys item)) moment key table all))
      (λ last more. entry_keeps place keys item one (entry_at key table.entries) (object_later (grows_on grows more) (TableType keys item) one named)
      (λ there is. has_later more item there.value (there_fits (Fit later (TableType keys item)) (mix later (TableType keys item)) key table there is all).1))))

-- `k in t`
pub keeps_has_key : {setting : Setting} {kinds : Kinds} (of : ValueType) → IsTable of → (place : Place) (one : Value) (key : List Value) → NamesObject kinds of one → Keeps setting (Of type.bool) kinds (objects.has_key place one key)
keeps_has_key of is place one key named = keeps_bind (keeps_table of is place one named) (λ later grows table all. keeps_now _ (λ moment.
    keeps_then (keeps_set_table of is one (found moment key table) (object_later grows of one named) (found_fits (Fit later of) (mix later of) moment key table all))
    (λ last more. keeps_pure _ refl)))

-- Changes ----------------------------------------------------------------------------------------------------------

-- `t[k] = v`
pub keeps_set_element : {setting : Setting} {kinds : Kinds} (place : Place) (keys : List SimpleType) (item : ValueType) (one : Value) (key : List Value) (element : Value) → HasType kinds (TableType keys item) one
    → HaveTypes kinds (key_types keys) key → HasType kinds item element → Keeps setting Any kinds (objects.set_element place one key element)
keeps_set_element place keys item one key element named fits h = keeps_change_table (TableType keys item) tt place one (λ moment. insert moment key element) named (λ later grows moment table all.
    insert_fits (Fit later (TableType keys item)) (mix later (TableType keys item)) moment key element table (have_later grows (key_types keys) key fits, has_later grows item element h) all)

pub keeps_delete_key : {setting : Setting} {kinds : Kinds} (of : ValueType) → IsTable of → (place : Place) (one : Value) (key : List Value) → NamesObject kinds of one → Keeps setting Any kinds (objects.delete_key place one key)
keeps_delete_key of is place one key named = keeps_change_table of is place one (λ moment. remove key) named (λ later grows moment table all. remove_fits (Fit later of) (mix later of) key table all)

member_fits : (kinds : Kinds) (keys : List SimpleType) (moment : Moment) (table : Table) (key : List Value) → Filled (Set keys) kinds table → HaveTypes kinds (key_types keys) key → Filled (Set keys) kinds (add_member moment table key)
member_fits kinds keys moment table key all fits = insert_fits (Fit kinds (Set keys)) (mix kinds (Set keys)) moment key (value.Bool true) table (fits, refl) all

pub keeps_add_member : {setting : Setting} {kinds : Kinds} (place : Place) (keys : List SimpleType) (one : Value) (key : List Value) → HasType kinds (Set keys) one → HaveTypes kinds (key_types keys) key
    → Keeps setting Any kinds (objects.change_table place one (λ moment table. add_member moment table key))
keeps_add_member place keys one key named fits = keeps_change_table (Set keys) tt place one (λ moment table. add_member moment table key) named (λ later grows moment table all.
    member_fits later keys moment table key all (have_later grows (key_types keys) key fits))

-- the keys of a table or set
all_keys : (kinds : Kinds) (keys : List SimpleType) (item : ValueType) (entries : List Entry) → AllByRecursion (EntryFits kinds keys item) entries → AllByRecursion (HaveTypes kinds (key_types keys)) (map (λ entry. entry.key) entries)
all_keys kinds keys item [] all = tt
all_keys kinds keys item (entry ∷ entries) (first, others) = (first.0, all_keys kinds keys item entries others)

pub keys_fit : (kinds : Kinds) (of : ValueType) (keys : List SimpleType) (table : Table) → HasKeys of keys → Filled of kinds table → AllByRecursion (HaveTypes kinds (key_types keys)) (keys_of table)
keys_fit kinds (TableType others item) keys table same all = rw same at (all_keys kinds others item table.entries all)
keys_fit kinds (Set others) keys table same all = rw same at (all_keys kinds others type.bool table.entries all)
keys_fit kinds of keys table same all = absurd same

-- the members of one set come into another, or leave it
pub keeps_add_all : {setting : Setting} {kinds : Kinds} (place : Place) (keys : List SimpleType) (one : Value) (members : Table) → HasType kinds (Set keys) one → Filled (Set keys) kinds members → Keeps setting Any kinds (objects.add_all place one members)
keeps_add_all place keys one members named all = keeps_change_table (Set keys) tt place one (λ moment table. fold (add_member moment) table (keys_of members)) named (λ later grows moment table fits.
    fold_keeps (Filled (Set keys) later) (HaveTypes later (key_types keys)) (add_member moment) (λ left key fill fit. member_fits later keys moment left key fill fit) (keys_of members) table fits
    (keys_fit later (Set keys) keys members refl (filled_later grows (Set keys) members all)))

pub keeps_remove_all : {setting : Setting} {kinds : Kinds} (place : Place) (keys : List SimpleType) (one : Value) (members : Table) → HasType kinds (Set keys) one → Filled (Set keys) kinds members → Keeps setting Any kinds (objects.remove_all place one members)
keeps_remove_all place keys one members named all = keeps_change_table (Set keys) tt place one (λ moment table. fold (λ left key. remove key left) table (keys_of members)) named (λ later grows moment table fits.
    fold_keeps (Filled (Set keys) later) (HaveTypes later (key_types keys)) (λ left key. remove key left) (λ left key fill fit. remove_fits (Fit later (Set keys)) (mix later (Set keys)) key left fill) (keys_of members) table fits
    (keys_fit later (Set keys) keys members refl (filled_later grows (Set keys) members all)))

-- New tables and sets ----------------------------------------------------------------------------------------------

pub parted : (kinds : Kinds) (first others : List ValueType) (ones : List Value) → HaveTypes kinds (first ++ others) ones
    → HaveTypes kinds first (take (length first) ones) × HaveTypes kinds others (drop (length first) ones)
parted kinds [] others ones h = (tt, h)
parted kinds (of ∷ first) others [] h = absurd h
parted kinds (of ∷ first) others (one ∷ ones) (here, rest) = let parts = parted kinds first others ones rest in ((here, parts.0), parts.1)

have_length : (kinds : Kinds) (types : List ValueType) (ones : List Value) → HaveTypes kinds types ones → length ones ≡ length types
have_length kinds [] [] h = refl
have_length kinds [] (one ∷ ones) h = absurd h
have_length kinds (of ∷ types) [] h = absurd h
have_length kinds (of ∷ types) (one ∷ ones) (first, others) = ap suc (have_length kinds types ones others)

append_length : {A : Type 0} (xs ys : List A) → length (xs ++ ys) ≡ length xs + length ys
append_length [] ys = omega arith
append_length (x ∷ xs) ys = omega (arith, append_length xs ys)

repeated_length : (count : ℕ) (types : List ValueType) → length (repeated count types) ≡ count * length types
repeated_length zero types = omega arith
repeated_length (suc count) types = append_length types (repeated count types) ∙ (ap (λ n. length types + n) (repeated_length count types) ∙ omega arith)

-- groups of as many values as there are types
grouped : (kinds : Kinds) (types : List ValueType) (count : ℕ) (ones : List Value) → HaveTypes kinds (repeated count types) ones → AllByRecursion (HaveTypes kinds types) (groups_to count (length types) ones)
grouped kinds types zero ones h = tt
grouped kinds types (suc count) ones h = let parts = parted kinds types (repeated count types) ones h in (parts.0, grouped kinds types count (drop (length types) ones) parts.1)

none_grouped : (kinds : Kinds) (most : ℕ) (ones : List Value) → AllByRecursion (HaveTypes kinds []) (groups_to most 0 ones)
none_grouped kinds zero ones = tt
none_grouped kinds (suc most) ones = (tt, none_grouped kinds most ones)

pub groups_fit : (kinds : Kinds) (types : List ValueType) (count : ℕ) (ones : List Value) → HaveTypes kinds (repeated count types) ones → AllByRecursion (HaveTypes kinds types) (groups (length types) ones)
groups_fit kinds [] count ones h = none_grouped kinds (length ones / 0) ones
groups_fit kinds (of ∷ types) count ones h =
    let long : length ones ≡ count * length (of ∷ types) + 0 = have_length kinds (repeated count (of ∷ types)) ones h ∙ (repeated_length count (of ∷ types) ∙ omega arith) in
    let most : length ones / length (of ∷ types) ≡ count = ap (λ n. n / length (of ∷ types)) long ∙ div-mul-add count (length (of ∷ types)) 0 (omega arith) in
    let all : AllByRecursion (HaveTypes kinds (of ∷ types)) (groups_to count (length (of ∷ types)) ones) = grouped kinds (of ∷ types) count ones h in
    rw most all

-- a new object has its `&default`
pub keeps_default : {setting : Setting} {kinds : Kinds} (of : ValueType) (default : Option DefaultValue) (one : Value) → NamesObject kinds of one → ((given : DefaultValue) → default ≡ Some given → AbsentFits of given)
    → Keeps setting (IsObject of) kinds (keep_default default one)
keeps_default of None (value.Object number) named fits = keeps_pure (value.Object number) named
keeps_default of (Some default) (value.Object number) named fits = keeps_bind
    (keeps_change _ (λ world holds. record {
      objects = holds.objects;
      globals = holds.globals;
      streams = holds.streams;
      queue = holds.queue;
      scheduled = holds.scheduled;
      rows = holds.rows;
      defaults = all_append (TableDefaultFits _) world.defaults _ holds.defaults (record { of = of; object = named; fits = fits default refl }, tt);
    }))
    (λ later grows done h. keeps_pure (value.Object number) (object_later grows of (value.Object number) named))
keeps_default of default one named fits = absurd named

key_length : (keys : List SimpleType) → length (key_types keys) ≡ length keys
key_length keys = length-map keys Simple

pub keeps_new_set : {setting : Setting} {kinds : Kinds} (shape : Shape) (keys : List SimpleType) (count : ℕ) (ones : List Value) → HaveTypes kinds (repeated count (key_types keys)) ones → shape.keys ≡ length keys
    → Keeps setting (Of (Set keys)) kinds (objects.new_set shape ones)
keeps_new_set {kinds = kinds} shape keys count ones h many =
    let size : length (key_types keys) ≡ shape.keys = key_length keys ∙ sym many in
    let all : AllByRecursion (HaveTypes kinds (key_types keys)) (groups shape.keys ones) = rw size at (groups_fit kinds (key_types keys) count ones h) in
    keeps_now _ (λ moment. keeps_bind
    (keeps_new_object (Set keys) (object.Table (fold (add_member moment) (empty_table shape.expiry) (groups shape.keys ones)))
    (fold_keeps (Filled (Set keys) kinds) (HaveTypes kinds (key_types keys)) (add_member moment) (λ left key fill fit. member_fits kinds keys moment left key fill fit) (groups shape.keys ones) (empty_table shape.expiry) tt all))
    (λ later grows one named. keeps_default (Set keys) shape.default one named (λ given is. tt)))

all_one : (kinds : Kinds) (item : ValueType) (ones : List Value) → HaveTypes kinds (item ∷ []) ones → AllByRecursion (HasType kinds item) ones
all_one kinds item [] h = absurd h
all_one kinds item (one ∷ []) h = (h.0, tt)
all_one kinds item (one ∷ other ∷ ones) h = absurd h.1

-- a key and a value behind it
pair_fits : (kinds : Kinds) (keys : List SimpleType) (item : ValueType) (moment : Moment) (table : Table) (group : List Value) → Filled (TableType keys item) kinds table → HaveTypes kinds (key_types keys ++ item ∷ []) group
    → Filled (TableType keys item) kinds (with_pair (length (key_types keys)) moment table group)
pair_fits kinds keys item moment table group all h =
    let parts = parted kinds (key_types keys) (item ∷ []) group h in
    fold_keeps (Filled (TableType keys item) kinds) (HasType kinds item) (λ filled one. insert moment (take (length (key_types keys)) group) one filled)
    (λ filled one fill fit. insert_fits (Fit kinds (TableType keys item)) (mix kinds (TableType keys item)) moment (take (length (key_types keys)) group) one filled (parts.0, fit) fill)
    (drop (length (key_types keys)) group) table all (all_one kinds item (drop (length (key_types keys)) group) parts.1)

pub keeps_new_table : {setting : Setting} {kinds : Kinds} (shape : Shape) (keys : List SimpleType) (item : ValueType) (count : ℕ) (ones : List Value) → HaveTypes kinds (repeated count (key_types keys ++ item ∷ [])) ones
    → shape.keys ≡ length keys → ((given : DefaultValue) → shape.default ≡ Some given → AbsentFits (TableType keys item) given) → Keeps setting (Of (TableType keys item)) kinds (objects.new_table shape ones)
keeps_new_table {setting = setting} {kinds = kinds} shape keys item count ones h many fits =
    let size : length (key_types keys) ≡ shape.keys = key_length keys ∙ sym many in
    let whole : length (key_types keys ++ item ∷ []) ≡ shape.keys + 1 = append_length (key_types keys) (item ∷ []) ∙ ap (λ n. n + 1) size in
    let all : AllByRecursion (HaveTypes kinds (key_types keys ++ item ∷ [])) (groups (shape.keys + 1) ones) = rw whole at (groups_fit kinds (key_types keys ++ item ∷ []) count ones h) in
    keeps_now _ (λ moment. keeps_bind
    (keeps_new_object (TableType keys item) (object.Table (fold (with_pair shape.keys moment) (empty_table shape.expiry) (groups (shape.keys + 1) ones)))
    (fold_keeps (Filled (TableType keys item) kinds) (HaveTypes kinds (key_types keys ++ item ∷ [])) (with_pair shape.keys moment)
    (λ left group fill fit. rw size at (pair_fits kinds keys item moment left group fill fit)) (groups (shape.keys + 1) ones) (empty_table shape.expiry) tt all))
    (λ later grows one named. keeps_default (TableType keys item) shape.default one named fits))
