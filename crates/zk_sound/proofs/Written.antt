-- The row of a record has cells that fit their columns: what leads to a column has the type of its field.
use Rattle.std.proofs.Common.{◌≡◌, ℕ, zero, suc, ◌+◌, Bool, true, false, List, [], ◌∷◌, map, Option, Some, None, refl, ap, arith}
use Rattle.std.specs.Prelude.{slice_get}
use Rattle.std.specs.List.{AllByRecursion, AllZip}
use Rattle.std.specs.Option.{option_map}
use Rattle.std.proofs.lemmas.Bool.{and_parts}
use Rattle.zk_base.specs.declared.network.Addr.TheVariants.{V4}
use Rattle.zk_base.specs.declared.numbers.LogId.{LogId}
use Rattle.zk_base.specs.declared.numbers.RecordNo.{RecordNo}
use Rattle.zk_tree.specs.Store.{Object, Store}
use Rattle.zk_tree.specs.Store as object
use Rattle.zk_tree.specs.Table.{Entry}
use Rattle.zk_tree.specs.Value as value
use Rattle.zk_tree.specs.Value.{Value}
use Rattle.zk_typed.specs.declared.script.program.Log.{Log}
use Rattle.zk_typed.specs.declared.script.types.SimpleType.{SimpleType}
use Rattle.zk_typed.specs.declared.script.types.SimpleType.TheVariants as simple
use Rattle.zk_typed.specs.Columns.{Leaf, simple_name, type_name, record_fields, within, field_leaves, leaves_from, leaves_to, atom, first_atoms, object_cell, value_cell, fields_of, fields_behind, value_at}
use Rattle.zk_typed.specs.Declarations.{is_column}
use Rattle.zk_typed.specs.Log.{Stream, Filter}
use Rattle.zk_typed.specs.Logs.{picked, log_leaves, filter_leaves}
use Rattle.zk_typed.specs.Objects.{in_field}
use Rattle.zk_typed.specs.Predefined as type
use Rattle.zk_typed.specs.Program.{Program, Field}
use Rattle.zk_typed.specs.Types.{ValueType, Simple, Record, Table, Set, Vector}
use Rattle.zk_ascii.specs.Fits.{is_container, is_of_strings}
use Rattle.zk_sound.specs.Holding.{Kinds, is_kind, HasType, MayHaveType, HaveTypes, FieldsFit, EntryFits, ObjectFits, field_types}
use Rattle.zk_sound.specs.Worlds.{field_type, row_type, AreLogged}
use Rattle.zk_sound.specs.Rows.{AtomFits, CellFits, FitsColumn}
use Rattle.zk_sound.specs.Having.{FieldLogs}
use Rattle.zk_sound.proofs.Growth.{all_append, all_get}
use Rattle.zk_sound.proofs.Places.{zip_get}
use Rattle.zk_sound.proofs.Objects.{field_read, types_at}
use Rattle.zk_sound.proofs.Texts.{plain_decimal, plain_signed_decimal, plain_span, plain_addr, plain_subnet, plain_truth, plain_word}

-- Lists --------------------------------------------------------------------------------------------------------------

pub all_through : {A B : Type 0} (P : A → Type 0) (Q : B → Type 0) (f : A → B) → ((a : A) → P a → Q (f a)) → (xs : List A) → AllByRecursion P xs → AllByRecursion Q (map f xs)
all_through P Q f each [] h = tt
all_through P Q f each (x ∷ xs) (first, others) = (each x first, all_through P Q f each xs others)

pub all_met : {A : Type 0} (P Q : A → Type 0) (xs : List A) → AllByRecursion (λ a. P a → Q a) xs → AllByRecursion P xs → AllByRecursion Q xs
all_met P Q [] h k = tt
all_met P Q (x ∷ xs) h k = (h.0 k.0, all_met P Q xs h.1 k.1)

all_picked : {A : Type 0} (P : A → Type 0) (xs : List A) (places : List ℕ) → AllByRecursion P xs → AllByRecursion P (picked xs places)
all_picked P xs [] h = tt
all_picked P xs (place ∷ places) h = by (slice_get xs place) refl (all_picked P xs places h)
  where
    by : (found : Option _) → slice_get xs place ≡ found → AllByRecursion P (picked xs places) → AllByRecursion P (picked xs (place ∷ places))
    by None is rest = rw is rest
    by (Some one) is rest = rw is (all_get P xs place one is h, rest)

-- Values in cells ----------------------------------------------------------------------------------------------------

is_string : SimpleType → Bool
is_string simple.String = true
is_string other = false

-- the text of a value that is no string stands for nothing else
atom_fits : (of : SimpleType) (one : Value) → is_kind of one ≡ true → AtomFits (is_string of) (atom one)
unfolding is_string
atom_fits simple.Bool (value.Bool truth) h = plain_truth truth
atom_fits simple.Count (value.Count n) h = plain_decimal n
atom_fits simple.Int (value.Int n) h = plain_signed_decimal n
atom_fits simple.String (value.String bytes) h = tt
atom_fits simple.Time (value.Time moment) h = plain_span moment.0
atom_fits simple.Interval (value.Interval span) h = plain_span span.0
atom_fits simple.Addr (value.Addr address) h = plain_addr address
atom_fits simple.Port (value.Port port proto) h = plain_decimal port
atom_fits simple.Subnet (value.Subnet prefix width) h = plain_subnet (V4 prefix) width
atom_fits (simple.Enum number) (value.Enum word) h = plain_word word h
atom_fits of one h = absurd cc

module _ (program : Program) (kinds : Kinds) (store : Store) (objects : AllZip (ObjectFits program kinds) kinds store) where
  simple_cell : (of : SimpleType) (one : Value) → is_kind of one ≡ true → CellFits (is_container (simple_name of)) (is_of_strings (simple_name of)) (value_cell store (Some one))
  simple_cell simple.Bool (value.Bool truth) h = plain_truth truth
  simple_cell simple.Count (value.Count n) h = plain_decimal n
  simple_cell simple.Int (value.Int n) h = plain_signed_decimal n
  simple_cell simple.String (value.String bytes) h = tt
  simple_cell simple.Time (value.Time moment) h = plain_span moment.0
  simple_cell simple.Interval (value.Interval span) h = plain_span span.0
  simple_cell simple.Addr (value.Addr address) h = plain_addr address
  simple_cell simple.Port (value.Port port proto) h = plain_decimal port
  simple_cell simple.Subnet (value.Subnet prefix width) h = plain_subnet (V4 prefix) width
  simple_cell (simple.Enum number) (value.Enum word) h = plain_word word h
  simple_cell of one h = absurd cc

  -- the names of types of sets and vectors
  set_is : (of : SimpleType) → (is_container (type_name (Set (of ∷ []))) ≡ true) × (is_of_strings (type_name (Set (of ∷ []))) ≡ is_string of)
  unfolding is_string
  set_is simple.Bool = (refl, refl)
  set_is simple.Count = (refl, refl)
  set_is simple.Int = (refl, refl)
  set_is simple.String = (refl, refl)
  set_is simple.Time = (refl, refl)
  set_is simple.Interval = (refl, refl)
  set_is simple.Addr = (refl, refl)
  set_is simple.Port = (refl, refl)
  set_is simple.Subnet = (refl, refl)
  set_is (simple.Enum number) = (refl, refl)

  vector_is : (of : SimpleType) → (is_container (type_name (Vector (Simple of))) ≡ true) × (is_of_strings (type_name (Vector (Simple of))) ≡ is_string of)
  unfolding is_string
  vector_is simple.Bool = (refl, refl)
  vector_is simple.Count = (refl, refl)
  vector_is simple.Int = (refl, refl)
  vector_is simple.String = (refl, refl)
  vector_is simple.Time = (refl, refl)
  vector_is simple.Interval = (refl, refl)
  vector_is simple.Addr = (refl, refl)
  vector_is simple.Port = (refl, refl)
  vector_is simple.Subnet = (refl, refl)
  vector_is (simple.Enum number) = (refl, refl)

  key_atom : (of : SimpleType) (key : List Value) (others : List (List Value)) → HaveTypes kinds (Simple of ∷ []) key → AllByRecursion (AtomFits (is_string of)) (first_atoms others) → AllByRecursion (AtomFits (is_string of)) (first_atoms (key ∷ others))
  key_atom of [] others h rest = absurd h
  key_atom of (one ∷ more) others h rest = (atom_fits of one h.0, rest)

  key_atoms : (of : SimpleType) (item : ValueType) (entries : List Entry) → AllByRecursion (EntryFits kinds (of ∷ []) item) entries → AllByRecursion (AtomFits (is_string of)) (first_atoms (map (λ entry. entry.key) entries))
  key_atoms of item [] all = tt
  key_atoms of item (entry ∷ entries) all = key_atom of entry.key (map (λ entry. entry.key) entries) all.0.0 (key_atoms of item entries all.1)

  set_object : (of : SimpleType) (one : Object) → ObjectFits program kinds (Set (of ∷ [])) one → CellFits (is_container (type_name (Set (of ∷ [])))) (is_of_strings (type_name (Set (of ∷ [])))) (object_cell (Some one))
  set_object of (object.Record number fields) fits = absurd fits
  set_object of (object.Vector items) fits = absurd fits
  set_object of (object.Table table) fits = rw ((set_is of).0, (set_is of).1) (key_atoms of type.bool table.entries fits)

  vector_object : (of : SimpleType) (one : Object) → ObjectFits program kinds (Vector (Simple of)) one → CellFits (is_container (type_name (Vector (Simple of)))) (is_of_strings (type_name (Vector (Simple of)))) (object_cell (Some one))
  vector_object of (object.Record number fields) fits = absurd fits
  vector_object of (object.Table table) fits = absurd fits
  vector_object of (object.Vector items) fits = rw ((vector_is of).0, (vector_is of).1) (all_through (HasType kinds (Simple of)) (AtomFits (is_string of)) atom (atom_fits of) items fits)

  -- what the objects of a type hold, where a value names one
  named_cell : (of : ValueType) (container strings : Bool) → ((one : Object) → ObjectFits program kinds of one → CellFits container strings (object_cell (Some one))) → (number : ℕ) → slice_get kinds number ≡ Some of → CellFits container strings (object_cell (slice_get store number))
  named_cell of container strings fit number is = let (one, there, fits) = zip_get (ObjectFits program kinds) kinds store number of is objects in rw there (fit one fits)

  set_cell : (of : SimpleType) (one : Value) → HasType kinds (Set (of ∷ [])) one → CellFits (is_container (type_name (Set (of ∷ [])))) (is_of_strings (type_name (Set (of ∷ [])))) (value_cell store (Some one))
  set_cell of (value.Object number) h = named_cell (Set (of ∷ [])) (is_container (type_name (Set (of ∷ [])))) (is_of_strings (type_name (Set (of ∷ [])))) (set_object of) number.0 h
  set_cell of one h = absurd h

  vector_cell : (of : SimpleType) (one : Value) → HasType kinds (Vector (Simple of)) one → CellFits (is_container (type_name (Vector (Simple of)))) (is_of_strings (type_name (Vector (Simple of)))) (value_cell store (Some one))
  vector_cell of (value.Object number) h = named_cell (Vector (Simple of)) (is_container (type_name (Vector (Simple of)))) (is_of_strings (type_name (Vector (Simple of)))) (vector_object of) number.0 h
  vector_cell of one h = absurd h

  -- a type of values that a column has
  pub IsLeaf : ValueType → Type 0
  IsLeaf (Simple one) = Unit {0}
  IsLeaf (Set (key ∷ [])) = Unit {0}
  IsLeaf (Vector (Simple one)) = Unit {0}
  IsLeaf other = ⊥

  cell_fits : (of : ValueType) → IsLeaf of → (one : Option Value) → MayHaveType kinds of one → CellFits (is_container (type_name of)) (is_of_strings (type_name of)) (value_cell store one)
  unfolding IsLeaf
  cell_fits of leaf None h = tt
  cell_fits (Simple of) leaf (Some one) h = simple_cell of one h
  cell_fits (Set (key ∷ [])) leaf (Some one) h = set_cell key one h
  cell_fits (Vector (Simple of)) leaf (Some one) h = vector_cell of one h
  cell_fits of leaf (Some one) h = absurd leaf

  -- Leaves -------------------------------------------------------------------------------------------------------------

  record_fields_fit : (number : RecordNo) (one : Object) → ObjectFits program kinds (Record number) one → FieldsFit kinds (field_types program number) (fields_of (Some one))
  record_fields_fit number (object.Record of fields) fits = fits.1
  record_fields_fit number (object.Vector items) fits = absurd fits
  record_fields_fit number (object.Table table) fits = absurd fits

  behind_fit : (number : RecordNo) (one : Value) → HasType kinds (Record number) one → FieldsFit kinds (field_types program number) (fields_behind store (Some one))
  behind_fit number (value.Object n) h = let (one, there, fits) = zip_get (ObjectFits program kinds) kinds store n.0 (Record number) h objects in rw there (record_fields_fit number one fits)
  behind_fit number one h = absurd h

  -- a field of what may be a record has its type, where it has a value
  read_field : (number : RecordNo) (n : ℕ) (of : ValueType) (one : Option Value) → field_type program number n ≡ Some of → MayHaveType kinds (Record number) one → MayHaveType kinds of (in_field n (fields_behind store one))
  read_field number n of None typed h = tt
  read_field number n of (Some one) typed h = by (in_field n (fields_behind store (Some one))) refl
    where
      by : (found : Option Value) → in_field n (fields_behind store (Some one)) ≡ found → MayHaveType kinds of found
      by None is = tt
      by (Some found) is = field_read kinds (field_types program number) (fields_behind store (Some one)) n of found (types_at program number n of typed) (behind_fit number one h) is

  -- what leads to a leaf has the type that names its column
  record Reads (number : RecordNo) (leaf : Leaf) : Type 0 where
    of : ValueType
    named : leaf.column.kind ≡ type_name of
    is_leaf : IsLeaf of
    reads : (one : Option Value) → MayHaveType kinds (Record number) one → MayHaveType kinds of (value_at store leaf.path one)

  LogReads : RecordNo → Leaf → Type 0
  LogReads number leaf = leaf.log ≡ true → Reads number leaf

  own_leaf : (number : RecordNo) (n : ℕ) (field : Field) (of : ValueType) → IsLeaf of → field_type program number n ≡ Some of → Reads number (record { column = record { name = field.name; kind = type_name of; wire = field.wire }; path = n ∷ []; log = field.log })
  own_leaf number n field of leaf typed = record { of = of; named = refl; is_leaf = leaf; reads = λ one h. read_field number n of one typed h }

  nested_leaf : (number nested : RecordNo) (n : ℕ) (field : Field) (leaf : Leaf) → field_type program number n ≡ Some (Record nested) → LogReads nested leaf → LogReads number (within n field leaf)
  unfolding LogReads
  nested_leaf number nested n field leaf typed h logged =
      let read : Reads nested leaf = h (and_parts field.log leaf.log logged).1 in
      record { of = read.of; named = read.named; is_leaf = read.is_leaf; reads = λ one has. read.reads (in_field n (fields_behind store one)) (read_field number n (Record nested) one typed has) }

  field_reads : (below : RecordNo → List Leaf) → ((nested : RecordNo) → AllByRecursion (LogReads nested) (below nested)) → (number : RecordNo) (n : ℕ) (field : Field) (of : ValueType) → field_type program number n ≡ Some of → (field.log ≡ true → is_column of ≡ true)
      → AllByRecursion (LogReads number) (field_leaves below n field of)
  unfolding LogReads IsLeaf
  field_reads below all number n field (Record nested) typed logs = all_through (LogReads nested) (LogReads number) (within n field) (λ leaf h. nested_leaf number nested n field leaf typed h) (below nested) (all nested)
  field_reads below all number n field (Simple of) typed logs = (λ logged. own_leaf number n field (Simple of) tt typed, tt)
  field_reads below all number n field (Table keys item) typed logs = (λ logged. let never : false ≡ true = logs logged in absurd cc, tt)
  field_reads below all number n field (Set []) typed logs = (λ logged. let never : false ≡ true = logs logged in absurd cc, tt)
  field_reads below all number n field (Set (key ∷ [])) typed logs = (λ logged. own_leaf number n field (Set (key ∷ [])) tt typed, tt)
  field_reads below all number n field (Set (key ∷ second ∷ keys)) typed logs = (λ logged. let never : false ≡ true = logs logged in absurd cc, tt)
  field_reads below all number n field (Vector (Simple of)) typed logs = (λ logged. own_leaf number n field (Vector (Simple of)) tt typed, tt)
  field_reads below all number n field (Vector other) typed logs = (λ logged. let never : false ≡ true = logs logged in absurd cc, tt)

  fields_read : (below : RecordNo → List Leaf) → ((nested : RecordNo) → AllByRecursion (LogReads nested) (below nested)) → (number : RecordNo) (n : ℕ) (fields : List Field)
      → ((m : ℕ) (field : Field) → slice_get fields m ≡ Some field → field_type program number (n + m) ≡ Some field.field_type) → AllByRecursion FieldLogs fields → AllByRecursion (LogReads number) (leaves_from below n fields)
  fields_read below all number n [] there logs = tt
  fields_read below all number n (field ∷ fields) there logs = all_append (LogReads number) (field_leaves below n field field.field_type) (leaves_from below (n + 1) fields)
      (field_reads below all number n field field.field_type first logs.0) (fields_read below all number (n + 1) fields others logs.1)
    where
      first : field_type program number n ≡ Some field.field_type
      first = let same : n + 0 ≡ n = omega arith in let e = there 0 field refl in rw same at e

      others : (m : ℕ) (other : Field) → slice_get fields m ≡ Some other → field_type program number (n + 1 + m) ≡ Some other.field_type
      others m other is = let same : n + suc m ≡ n + 1 + m = omega arith in let e = there (suc m) other is in rw same at e

module _ (program : Program) (columns : (number : RecordNo) → AllByRecursion FieldLogs (record_fields program number)) (kinds : Kinds) (store : Store) (objects : AllZip (ObjectFits program kinds) kinds store) where
  leaves_read : (depth : ℕ) (number : RecordNo) → AllByRecursion (LogReads program kinds store objects number) (leaves_to depth program number)
  leaves_read zero number = tt
  leaves_read (suc depth) number = fields_read program kinds store objects (leaves_to depth program) (leaves_read depth) number 0 (record_fields program number)
      (λ m field is. let same : 0 + m ≡ m = omega arith in rw same (ap (option_map (λ one. one.field_type)) is)) (columns number)

  log_reads : (log : LogId) (number : RecordNo) → row_type program log ≡ Some number → AllByRecursion (LogReads program kinds store objects number) (log_leaves program log)
  log_reads log number typed = by (slice_get program.logs log.0) refl
    where
      by : (found : Option Log) → slice_get program.logs log.0 ≡ found → AllByRecursion (LogReads program kinds store objects number) (log_leaves program log)
      by None is = rw is tt
      by (Some one) is = let known : one.columns ≡ Some number = (rw is at typed) in rw (is, known) (leaves_read 200 number)

  cells_fit : (number : RecordNo) (row : Value) (all : List Leaf) → AllByRecursion (Reads program kinds store objects number) all → HasType kinds (Record number) row
      → AllZip FitsColumn (map (λ leaf. leaf.column) all) (map (λ leaf. value_cell store (value_at store leaf.path (Some row))) all)
  cells_fit number row [] reads h = tt
  cells_fit number row (leaf ∷ all) reads h = (rw reads.0.named (cell_fits program kinds store objects reads.0.of reads.0.is_leaf (value_at store leaf.path (Some row)) (reads.0.reads (Some row) h)), cells_fit number row all reads.1 h)

  -- a row of the record type of a log, for a filter of a stream whose columns are logged
  pub filtered_fit : (stream : Stream) (one : Filter) (number : RecordNo) (row : Value) → row_type program stream.id ≡ Some number → AreLogged program stream.id stream.columns → HasType kinds (Record number) row
      → AllZip FitsColumn (map (λ leaf. leaf.column) (filter_leaves program stream one)) (map (λ leaf. value_cell store (value_at store leaf.path (Some row))) (filter_leaves program stream one))
  unfolding LogReads
  filtered_fit stream one number row typed logged h = cells_fit number row (filter_leaves program stream one)
      (all_picked (Reads program kinds store objects number) (picked (log_leaves program stream.id) stream.columns) one.columns
      (all_met (λ leaf. leaf.log ≡ true) (Reads program kinds store objects number) (picked (log_leaves program stream.id) stream.columns)
      (all_picked (LogReads program kinds store objects number) (log_leaves program stream.id) stream.columns (log_reads stream.id number typed)) logged)) h
