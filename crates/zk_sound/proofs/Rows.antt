-- A program that fits, by its text: a global that begins with 1, a function of it, and a handler that calls the function.
use Rattle.std.proofs.Common.{◌≡◌, inr, not, ◌||◌, Bool, true, false, List, [], ◌∷◌, Option, Some, None, refl}
use Rattle.std.specs.Prelude.{pos, slice_get, is_none}
use Rattle.std.specs.List.{AllByRecursion, list_all}
use Rattle.std.proofs.lemmas.Bool.{and_parts}
use Rattle.zk_base.specs.declared.numbers.RecordNo.{RecordNo}
use Rattle.zk_tree.specs.declared.place.Place.{Place}
use Rattle.zk_tree.specs.Value as value
use Rattle.zk_typed.specs.declared.script.action.Action.TheVariants as action
use Rattle.zk_typed.specs.declared.script.action.Left.TheVariants as left
use Rattle.zk_typed.specs.declared.script.literal.DefaultValue.{DefaultValue}
use Rattle.zk_typed.specs.declared.script.primitive.Binary.TheVariants.{Plus}
use Rattle.zk_typed.specs.declared.script.primitive.BuiltIn.TheVariants as built_in
use Rattle.zk_typed.specs.declared.script.primitive.Primitive.TheVariants as primitive
use Rattle.zk_typed.specs.declared.script.types.SimpleType.TheVariants as simple
use Rattle.zk_typed.specs.Columns.{record_fields}
use Rattle.zk_typed.specs.Declarations.{is_column}
use Rattle.zk_typed.specs.Forms as form
use Rattle.zk_typed.specs.Predefined as type
use Rattle.zk_typed.specs.Predefined.{record_types, events, zeek_init}
use Rattle.zk_typed.specs.Program.{Program, Field, RecordType, Global, Function, Handler}
use Rattle.zk_sound.specs.Having.{FieldBegins, FieldLogs, ProgramFits}
use Rattle.zk_sound.proofs.Growth.{all_get}

-- Records without defaults -----------------------------------------------------------------------------------------

begins_none : (field : Field) (begins : Option DefaultValue) → field.begins ≡ begins → is_none begins ≡ true → FieldBegins field
begins_none field None e h = rw e tt
begins_none field (Some default) e h = absurd cc

plain_fields : (fields : List Field) → list_all (λ field. is_none field.begins) fields ≡ true → AllByRecursion FieldBegins fields
plain_fields [] h = tt
plain_fields (field ∷ fields) h =
    let parts = and_parts (is_none field.begins) (list_all (λ field. is_none field.begins) fields) h in
    (begins_none field field.begins refl parts.0, plain_fields fields parts.1)

plain_records : (all : List RecordType) → list_all (λ one. list_all (λ field. is_none field.begins) one.fields) all ≡ true → AllByRecursion (λ one. AllByRecursion FieldBegins one.fields) all
plain_records [] h = tt
plain_records (one ∷ all) h =
    let parts = and_parts (list_all (λ field. is_none field.begins) one.fields) (list_all (λ one. list_all (λ field. is_none field.begins) one.fields) all) h in
    (plain_fields one.fields parts.0, plain_records all parts.1)

-- The program ------------------------------------------------------------------------------------------------------

abbrev here : Place
here = record { file = 0; byte = 0 }

-- `global n = 1;`
abbrev number : Global
number = record { place = here; global_type = type.count; initial = Some (form.Constant (value.Count 1)); added = []; expiry = None; expire_func = None }

-- `function told(c: count): string { return cat(c + n); }`
abbrev told : Function
told = record {
  params = type.count ∷ [];
  «result» = Some type.string;
  locals = 1;
  body = form.Block (form.AndStmt (form.Return here (Some (form.Apply (primitive.BuiltIn built_in.Cat)
      (form.AndExpr (form.Apply (primitive.Binary Plus) (form.AndExpr (form.Local 0) (form.AndExpr (form.Global 0) form.NoExpr))) form.NoExpr)))) form.NoStmt);
}

-- `event zeek_init() { n = 2; print told(n); }`
abbrev begin : Handler
begin = record {
  event = zeek_init;
  priority = pos 0;
  locals = 0;
  body = form.Block (form.AndStmt (form.Do here (action.Assign (left.Global 0)) (form.AndExpr (form.Constant (value.Count 2)) form.NoExpr))
      (form.AndStmt (form.Do here action.Print (form.AndExpr (form.Call 0 (form.AndExpr (form.Global 0) form.NoExpr)) form.NoExpr)) form.NoStmt));
}

abbrev sample : Program
sample = record { files = []; records = record_types; logs = []; globals = number ∷ []; functions = told ∷ []; hooks = []; events = events; handlers = begin ∷ [] }

sample_fields : (one : RecordNo) → AllByRecursion FieldBegins (record_fields sample one)
sample_fields one = by (slice_get record_types one.0) refl
  where
    by : (found : Option RecordType) → slice_get record_types one.0 ≡ found → AllByRecursion FieldBegins (record_fields sample one)
    by None is = rw is tt
    by (Some found) is = rw is (all_get (λ one. AllByRecursion FieldBegins one.fields) record_types one.0 found is (plain_records record_types refl))

-- a field that is marked `&log` has a type of columns
logs_well : (log is_column : Bool) → (not log || is_column) ≡ true → log ≡ true → is_column ≡ true
logs_well true of h logged = h
logs_well false of h logged = absurd cc

logged_fields : (fields : List Field) → list_all (λ field. not field.log || is_column field.field_type) fields ≡ true → AllByRecursion FieldLogs fields
logged_fields [] h = tt
logged_fields (field ∷ fields) h =
    let parts = and_parts (not field.log || is_column field.field_type) (list_all (λ field. not field.log || is_column field.field_type) fields) h in
    (logs_well field.log (is_column field.field_type) parts.0, logged_fields fields parts.1)

logged_records : (all : List RecordType) → list_all (λ one. list_all (λ field. not field.log || is_column field.field_type) one.fields) all ≡ true → AllByRecursion (λ one. AllByRecursion FieldLogs one.fields) all
logged_records [] h = tt
logged_records (one ∷ all) h =
    let parts = and_parts (list_all (λ field. not field.log || is_column field.field_type) one.fields) (list_all (λ one. list_all (λ field. not field.log || is_column field.field_type) one.fields) all) h in
    (logged_fields one.fields parts.0, logged_records all parts.1)

sample_columns : (one : RecordNo) → AllByRecursion FieldLogs (record_fields sample one)
sample_columns one = by (slice_get record_types one.0) refl
  where
    by : (found : Option RecordType) → slice_get record_types one.0 ≡ found → AllByRecursion FieldLogs (record_fields sample one)
    by None is = rw is tt
    by (Some found) is = rw is (all_get (λ one. AllByRecursion FieldLogs one.fields) record_types one.0 found is (logged_records record_types refl))

sample_fits : ProgramFits sample
sample_fits = record {
  fields = sample_fields;
  columns = sample_columns;
  logs = tt;
  filter = ([], refl);
  begins = refl;
  ends = refl;
  globals = (record { initial = refl; added = tt; expiry = tt }, tt);
  functions = (
    record {
      locals = [];
      fits =
          ((type.string, refl, ((type.count ∷ [], (((type.count ∷ type.count ∷ []), (refl, (refl, tt)), (simple.Count, simple.Count, simple.Count, refl, refl, refl)), tt), ((tt, tt), refl)))), tt);
    },
    tt,
  );
  hooks = tt;
  handlers = (
    (
      [],
      refl,
      record {
        locals = [];
        fits = (
          (type.count ∷ [], (refl, tt), (type.count, [], refl, (refl, refl))),
          ((type.string ∷ [], ((told, type.count ∷ [], refl, refl, (refl, tt), inr refl), tt), (tt, tt)), tt),
        );
      },
    ),
    tt,
  );
}
