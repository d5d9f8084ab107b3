-- What the streams of logs have as columns: record types alone decide it.
use Rattle.std.proofs.Common.{◌≡◌, ℕ, zero, suc, ◌+◌, List, [], ◌∷◌, ◌++◌, map, Option, Some, None, refl, sym, ap, ◌∙◌}
use Rattle.std.proofs.lemmas.Option.{slice_get-map}
use Rattle.std.specs.declared.alloc.Global.{Global}
use Rattle.std.specs.declared.vec.Vec.{Vec}
use Rattle.std.specs.Option.{option_map}
use Rattle.std.specs.Prelude.{slice_get, unwrap_or}
use Rattle.zk_base.specs.declared.numbers.LogId.{LogId}
use Rattle.zk_base.specs.declared.numbers.RecordNo.{RecordNo}
use Rattle.zk_typed.specs.declared.script.program.Log.{Log}
use Rattle.zk_typed.specs.Columns as columns
use Rattle.zk_typed.specs.Columns.{field_leaves, leaves_from, leaves_to, record_fields, within}
use Rattle.zk_typed.specs.Logs.{log_leaves}
use Rattle.zk_typed.specs.Program.{Field, RecordType}
use Rattle.zk_typed.specs.Types.{ValueType, Simple, Record, Table, Set, Vector}
use Rattle.zk_lower.specs.Code.{types_of}
use Rattle.zk_lower.specs.Leaves.{leaves_in, leaves_of, with_records}
use Rattle.zk_lower.specs.declared.leaves.Leaf.{Leaf}

-- the leaves of fields, where those of the records in them are the same
from_same : (one other : RecordNo → List columns.Leaf) → ((number : RecordNo) → one number ≡ other number) → (n : ℕ) (fields : List Field)
    → leaves_from one n fields ≡ leaves_from other n fields
from_same one other same n [] = refl
from_same one other same n (field ∷ fields) =
    ap (λ some. some ++ leaves_from one (n + 1) fields) (field_same field.field_type)
    ∙ ap (λ some. field_leaves other n field field.field_type ++ some) (from_same one other same (n + 1) fields)
  where
    field_same : (type : ValueType) → field_leaves one n field type ≡ field_leaves other n field type
    field_same (Record nested) = ap (map (within n field)) (same nested)
    field_same (Simple simple) = refl
    field_same (Table keys value) = refl
    field_same (Set keys) = refl
    field_same (Vector item) = refl

module _ (files : List (List ℕ)) (records : List RecordType) (logs : List Log) where
  fields_same : (number : RecordNo) → record_fields (types_of files records logs) number ≡ record_fields (with_records records) number
  fields_same number = by (slice_get records number.0) refl
    where
      by : (found : Option RecordType) → slice_get records number.0 ≡ found → record_fields (types_of files records logs) number ≡ record_fields (with_records records) number
      by None is = rw is refl
      by (Some one) is = rw is refl

  leaves_same : (depth : ℕ) (number : RecordNo) → leaves_to depth (types_of files records logs) number ≡ leaves_to depth (with_records records) number
  leaves_same zero number = refl
  leaves_same (suc depth) number =
      from_same (leaves_to depth (types_of files records logs)) (leaves_to depth (with_records records)) (leaves_same depth) 0 (record_fields (types_of files records logs) number)
      ∙ ap (leaves_from (leaves_to depth (with_records records)) 0) (fields_same number)

  -- the leaves at the place of a log are those of the log
  pub leaves_are : (all : List (Vec Leaf Global)) (log : LogId) → map leaves_in all ≡ map (leaves_of records) logs
      → unwrap_or (option_map leaves_in (slice_get all log.0)) [] ≡ log_leaves (types_of files records logs) log
  leaves_are all log is =
      ap (λ one. unwrap_or one []) (sym (slice_get-map leaves_in all log.0) ∙ (ap (λ them. slice_get them log.0) is ∙ slice_get-map (leaves_of records) logs log.0))
      ∙ by (slice_get logs log.0) refl
    where
      by_columns : (one : Log) → slice_get logs log.0 ≡ Some one → (columns : Option RecordNo) → one.columns ≡ columns
          → unwrap_or (option_map (leaves_of records) (slice_get logs log.0)) [] ≡ log_leaves (types_of files records logs) log
      by_columns one found None has = rw (found, has) refl
      by_columns one found (Some number) has = rw (found, has) (sym (leaves_same 200 number))

      by : (found : Option Log) → slice_get logs log.0 ≡ found
          → unwrap_or (option_map (leaves_of records) (slice_get logs log.0)) [] ≡ log_leaves (types_of files records logs) log
      by None found = rw found refl
      by (Some one) found = by_columns one found one.columns refl
