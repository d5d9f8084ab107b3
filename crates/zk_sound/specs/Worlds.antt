-- Which worlds hold nothing but values of their types.
use Rattle.std.specs.Prelude.{◌≡◌, ℕ, true, List, [], ◌∷◌, map, Option, Some, None, slice_get}
use Rattle.std.specs.List.{AllByRecursion, AllZip}
use Rattle.std.specs.Option.{option_map}
use Rattle.zk_base.specs.declared.numbers.EventNo.{EventNo}
use Rattle.zk_base.specs.declared.numbers.HookNo.{HookNo}
use Rattle.zk_base.specs.declared.numbers.LogId.{LogId}
use Rattle.zk_base.specs.declared.numbers.RecordNo.{RecordNo}
use Rattle.zk_tree.specs.Value.{Value}
use Rattle.zk_typed.specs.declared.script.program.Log.{Log}
use Rattle.zk_typed.specs.Columns.{record_fields}
use Rattle.zk_typed.specs.Log.{Stream, Filter}
use Rattle.zk_typed.specs.Logs.{picked, log_leaves}
use Rattle.zk_typed.specs.Predefined as predefined
use Rattle.zk_typed.specs.Predefined.{filter_record}
use Rattle.zk_typed.specs.Program.{Program}
use Rattle.zk_typed.specs.State.{World, TableDefault}
use Rattle.zk_typed.specs.Types as type
use Rattle.zk_typed.specs.Types.{ValueType}
use Rattle.zk_typed.specs.World.{Queued, Scheduled}
use Rattle.zk_sound.specs.Holding.{Kinds, MayHaveType, HaveTypes, ObjectFits, AbsentFits}
use Rattle.zk_sound.specs.Rows.{RowFits}

-- What a program declares ------------------------------------------------------------------------------------------

abbrev pub field_type : Program → RecordNo → ℕ → Option ValueType
field_type program number field = option_map (λ one. one.field_type) (slice_get (record_fields program number) field)

abbrev pub hook_params : Program → HookNo → Option (List ValueType)
hook_params program hook = option_map (λ one. one.params) (slice_get program.hooks hook.0)

abbrev pub event_params : Program → EventNo → Option (List ValueType)
event_params program event = option_map (λ one. one.params) (slice_get program.events event.0)

-- the record type of a log's rows, where it has one
abbrev pub row_type : Program → LogId → Option RecordNo
row_type program log = of_log (slice_get program.logs log.0)
  where
    of_log : Option Log → Option RecordNo
    of_log None = None
    of_log (Some one) = one.columns

-- Names ------------------------------------------------------------------------------------------------------------

-- the types of names by their numbers, each where it is known
abbrev pub Names : Type 0
Names = List (Option ValueType)

-- the type of a name by its number
abbrev pub type_of : Names → ℕ → Option ValueType
type_of names number = flat (slice_get names number)
  where
    flat : Option (Option ValueType) → Option ValueType
    flat None = None
    flat (Some of) = of

abbrev pub NameFits : Kinds → Option ValueType → Option Value → Type 0
NameFits kinds None one = Unit {0}
NameFits kinds (Some of) one = MayHaveType kinds of one

-- names have values of their types, where they have any
abbrev pub NamesFit : Kinds → Names → List (Option Value) → Type 0
NamesFit kinds [] values = Unit {0}
NamesFit kinds (of ∷ names) [] = Unit {0}
NamesFit kinds (of ∷ names) (one ∷ others) = NameFits kinds of one × NamesFit kinds names others

abbrev pub global_names : Program → Names
global_names program = map (λ one. Some one.global_type) program.globals

-- Streams ----------------------------------------------------------------------------------------------------------

-- what a policy takes: the record, the word and the filter
abbrev pub policy_params : RecordNo → List ValueType
policy_params row = type.Record row ∷ predefined.log_id ∷ type.Record filter_record ∷ []

abbrev pub PolicyFits : Program → RecordNo → Option HookNo → Type 0
PolicyFits program row None = Unit {0}
PolicyFits program row (Some hook) = hook_params program hook ≡ Some (policy_params row)

abbrev pub RowEventFits : Program → RecordNo → Option EventNo → Type 0
RowEventFits program row None = Unit {0}
RowEventFits program row (Some event) = event_params program event ≡ Some (type.Record row ∷ [])

abbrev pub FilterFits : Program → RecordNo → Filter → Type 0
FilterFits program row one = PolicyFits program row one.policy

-- fields of the rows of a log, by their numbers, are marked `&log`
abbrev pub AreLogged : Program → LogId → List ℕ → Type 0
AreLogged program log columns = AllByRecursion (λ leaf. leaf.log ≡ true) (picked (log_leaves program log) columns)

-- the policies and the event of a stream take the record of its log, and its columns are logged
pub record StreamFits (program : Program) (stream : Stream) : Type 0 where
  pub event : (row : RecordNo) → row_type program stream.id ≡ Some row → RowEventFits program row stream.event
  pub policy : (row : RecordNo) → row_type program stream.id ≡ Some row → PolicyFits program row stream.policy
  pub filters : (row : RecordNo) → row_type program stream.id ≡ Some row → AllByRecursion (FilterFits program row) stream.filters
  pub columns : AreLogged program stream.id stream.columns

-- Worlds -----------------------------------------------------------------------------------------------------------

-- the arguments of an event that waits are of the types of its parameters
pub record QueuedFits (program : Program) (kinds : Kinds) (one : Queued) : Type 0 where
  pub args : (params : List ValueType) → event_params program one.event ≡ Some params → HaveTypes kinds params one.args

abbrev pub ScheduledFits : Program → Kinds → Scheduled → Type 0
ScheduledFits program kinds one = QueuedFits program kinds one.what

-- the `&default` of a table is of the type of its values
pub record TableDefaultFits (kinds : Kinds) (one : TableDefault) : Type 0 where
  pub of : ValueType
  pub object : slice_get kinds one.object ≡ Some of
  pub fits : AbsentFits of one.default

-- each object, default, name, stream and event of a world is of its type, and the cells of its rows fit their columns
pub record WorldFits (program : Program) (kinds : Kinds) (world : World) : Type 0 where
  pub objects : AllZip (ObjectFits program kinds) kinds world.store
  pub defaults : AllByRecursion (TableDefaultFits kinds) world.defaults
  pub globals : NamesFit kinds (global_names program) world.globals
  pub streams : AllByRecursion (StreamFits program) world.streams
  pub queue : AllByRecursion (QueuedFits program kinds) world.queue
  pub scheduled : AllByRecursion (ScheduledFits program kinds) world.scheduled
  pub rows : AllByRecursion RowFits world.rows
