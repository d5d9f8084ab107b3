-- No primitive, action or part of a write adds to the units that are left, or looks at what was told before.
use Rattle.std.specs.Prelude.{map, if◌then◌else◌}
use Rattle.zk_base.specs.declared.time.Span.{Span}
use Rattle.std.proofs.Common.{ℕ, List, [], ◌∷◌, reverse, Option, Some, None, arith, true, false, ◌≡◌, refl, ap, append_assoc}
use Rattle.zk_base.specs.declared.numbers.EventNo.{EventNo}
use Rattle.zk_base.specs.declared.numbers.LogId.{LogId}
use Rattle.zk_base.specs.declared.numbers.RecordNo.{RecordNo}
use Rattle.zk_tree.specs.declared.place.Place.{Place}
use Rattle.zk_tree.specs.Store.{Object}
use Rattle.zk_tree.specs.Store as object
use Rattle.zk_tree.specs.Table.{Table, moment_after}
use Rattle.zk_tree.specs.Value as value
use Rattle.zk_tree.specs.Value.{Value}
use Rattle.zk_typed.specs.declared.script.action.Action.{Action}
use Rattle.zk_typed.specs.declared.script.action.Action.TheVariants as action
use Rattle.zk_typed.specs.declared.script.action.Left.{Left}
use Rattle.zk_typed.specs.declared.script.action.Left.TheVariants as left
use Rattle.zk_typed.specs.declared.script.log_call.LogCall.{LogCall}
use Rattle.zk_typed.specs.declared.script.log_call.LogCall.TheVariants.{Create, AddFilter, RemoveFilter}
use Rattle.zk_typed.specs.declared.script.primitive.Binary.{Binary}
use Rattle.zk_typed.specs.declared.script.primitive.Binary.TheVariants.{Plus, Minus}
use Rattle.zk_typed.specs.declared.script.primitive.BuiltIn.{BuiltIn}
use Rattle.zk_typed.specs.declared.script.primitive.BuiltIn.TheVariants as built_in
use Rattle.zk_typed.specs.declared.script.primitive.Primitive.{Primitive}
use Rattle.zk_typed.specs.declared.script.primitive.Primitive.TheVariants as primitive
use Rattle.zk_typed.specs.declared.script.stmt.Names.{Names}
use Rattle.zk_typed.specs.Columns.{record_fields, value_at, value_cell}
use Rattle.zk_typed.specs.Does.{Does, Ran, Gives}
use Rattle.zk_typed.specs.Log.{Stream, Filter, Row}
use Rattle.zk_typed.specs.Logs.{stream_of, path_of, filter_leaves, create, add_filter, remove_filter, log_call, first_filter, described, write_row, queue_row}
use Rattle.zk_typed.specs.Meaning.{set_keys, set_names}
use Rattle.zk_typed.specs.Program.{Program}
use Rattle.zk_typed.specs.Objects as objects
use Rattle.zk_typed.specs.Objects.{Given, table_in, vector_in, fields_in, in_field}
use Rattle.zk_typed.specs.Primitives as primitives
use Rattle.zk_typed.specs.State.{State, World, scheduled_for}
use Rattle.zk_typed.specs.Text.{line_of}
use Rattle.zk_typed.specs.World.{queued}
use Rattle.zk_lower.specs.Told.{Told, behind}
use Rattle.zk_lower.proofs.Units.{Keeps, Untold, keeps_binary, keeps_bind, keeps_change_table, keeps_copied_to, keeps_element, keeps_field, keeps_global, keeps_has_field, keeps_has_key, keeps_item, keeps_local, keeps_misfit, keeps_new_object, keeps_new_record, keeps_new_set, keeps_new_table, keeps_now, keeps_object, keeps_of, keeps_pure, keeps_set_field, keeps_set_global, keeps_set_item, keeps_set_local, keeps_set_object, keeps_size, keeps_stepped, keeps_string, keeps_then, keeps_tick, keeps_unary, keeps_vector}

pub stream_untold : (log : LogId) → Untold (λ world. stream_of log world.streams)
stream_untold log = record { same = λ told world. refl }

-- a state with such lines, rows, or such a world
abbrev said : Told → State → List (List ℕ) → Ran (Unit {0})
said told state lines = Gives tt (record state { world = record (behind told state.world) { lines = lines } })

abbrev wrote : Told → State → List Row → Ran (Unit {0})
wrote told state rows = Gives tt (record state { world = record (behind told state.world) { rows = rows } })

abbrev in_world : State → World → Ran (Unit {0})
in_world state world = Gives tt (record state { world = world })

-- Logs -------------------------------------------------------------------------------------------------------------

pub keeps_create : (stream : Stream) (there : Option Stream) → Keeps (create stream there)
keeps_create stream (Some there) = record { by = λ state. omega arith; moves = λ told state. refl }
keeps_create stream None = record { by = λ state. omega arith; moves = λ told state. refl }

pub keeps_add_filter : (log : LogId) (one : Filter) (stream : Option Stream) → Keeps (add_filter log one stream)
keeps_add_filter log one None = record { by = λ state. omega arith; moves = λ told state. refl }
keeps_add_filter log one (Some stream) = record { by = λ state. omega arith; moves = λ told state. refl }

pub keeps_remove_filter : (log : LogId) (name : List ℕ) (stream : Option Stream) → Keeps (remove_filter log name stream)
keeps_remove_filter log name None = record { by = λ state. omega arith; moves = λ told state. refl }
keeps_remove_filter log name (Some stream) = record { by = λ state. omega arith; moves = λ told state. refl }

pub keeps_log_call : (call : LogCall) → Keeps (log_call call)
keeps_log_call (Create log event path policy columns) = keeps_of (λ world. stream_of log world.streams) (stream_untold log) (λ there. keeps_create (record { id = log; event = event; path = path; policy = policy; columns = columns; filters = first_filter columns ∷ [] }) there)
keeps_log_call (AddFilter log name path policy columns) = keeps_of (λ world. stream_of log world.streams) (stream_untold log) (λ stream. keeps_add_filter log (record { name = name; path = path; policy = policy; columns = columns }) stream)
keeps_log_call (RemoveFilter log name) = keeps_of (λ world. stream_of log world.streams) (stream_untold log) (λ stream. keeps_remove_filter log name stream)

-- the row that is written in a world
abbrev row_now : Program → Stream → Filter → Value → World → Row
row_now program stream one row world = record {
  path = path_of stream one;
  columns = map (λ leaf. leaf.column) (filter_leaves program stream one);
  cells = map (λ leaf. value_cell world.store (value_at world.store leaf.path (Some row))) (filter_leaves program stream one);
  at = world.time;
}

pub keeps_write_row : (program : Program) (stream : Stream) (one : Filter) (row : Value) → Keeps (write_row program stream one row)
keeps_write_row program stream one row = record {
  by = λ state. omega arith;
  moves = λ told state. ap (wrote told state) (append_assoc told.rows state.world.rows (row_now program stream one row state.world ∷ []));
}

pub keeps_described : (program : Program) (filter_type : RecordNo) (place : Place) (stream : Stream) (one : Filter) → Keeps (described program filter_type place stream one)
keeps_described program filter_type place stream one =
    keeps_new_record place filter_type (record_fields program filter_type) ((0, value.String one.name) ∷ (1, value.String (path_of stream one)) ∷ [])

pub keeps_queue_row : (event : Option EventNo) (row : Value) → Keeps (queue_row event row)
keeps_queue_row None row = record { by = λ state. omega arith; moves = λ told state. refl }
keeps_queue_row (Some event) row = record { by = λ state. omega arith; moves = λ told state. refl }

-- Left sides -------------------------------------------------------------------------------------------------------

pub keeps_left_value : (place : Place) (side : Left) (operands : List Value) → Keeps (primitives.left_value place side operands)
keeps_left_value place (left.Local number) [] = keeps_local place number
keeps_left_value place (left.Global number) [] = keeps_global place number
keeps_left_value place (left.Field one) (of ∷ []) = keeps_field place of one.field
keeps_left_value place left.Element (table ∷ key) = keeps_element place table key
keeps_left_value place left.Item (vector ∷ index ∷ []) = keeps_item place vector index
keeps_left_value place side operands = keeps_misfit place

pub keeps_assign : (place : Place) (side : Left) (operands : List Value) (one : Value) → Keeps (primitives.assign place side operands one)
keeps_assign place (left.Local number) [] one = keeps_set_local number (Some one)
keeps_assign place (left.Global number) [] one = keeps_set_global number (Some one)
keeps_assign place (left.Field field) (of ∷ []) one = keeps_set_field place of field.field one
keeps_assign place left.Element (table ∷ key) one = keeps_change_table place table _
keeps_assign place left.Item (vector ∷ index ∷ []) one = keeps_set_item place vector index one
keeps_assign place side operands one = keeps_misfit place

-- an object of any kind
keeps_by_kind : {A : Type 0} (k : Object → Does A) → ((number : RecordNo) (fields : List (Option Value)) → Keeps (k (object.Record number fields))) → ((items : List Value) → Keeps (k (object.Vector items))) → ((table : Table) → Keeps (k (object.Table table))) → (one : Object) → Keeps (k one)
keeps_by_kind k of_record of_vector of_table (object.Record number fields) = of_record number fields
keeps_by_kind k of_record of_vector of_table (object.Vector items) = of_vector items
keeps_by_kind k of_record of_vector of_table (object.Table table) = of_table table

pub keeps_into_object : (place : Place) (by : Binary) (one other : Value) (there : Object) → Keeps (primitives.into_object place by one other there)
keeps_into_object place Plus one added (object.Vector items) = keeps_then (keeps_set_object one _) (keeps_pure one)
keeps_into_object place Plus one added (object.Table members) = keeps_bind (keeps_object place added) (keeps_by_kind _
    (λ number fields. keeps_misfit place) (λ items. keeps_misfit place) (λ others. keeps_then (keeps_change_table place one _) (keeps_pure one)))
keeps_into_object place Minus one taken (object.Table members) = keeps_bind (keeps_object place taken) (keeps_by_kind _
    (λ number fields. keeps_misfit place) (λ items. keeps_misfit place) (λ others. keeps_then (keeps_change_table place one _) (keeps_pure one)))
keeps_into_object place by one other there = keeps_misfit place

pub keeps_updated : (place : Place) (by : Binary) (one other : Value) → Keeps (primitives.updated place by one other)
keeps_updated place by (value.Object number) other = keeps_bind (keeps_object place (value.Object number)) (λ there. keeps_into_object place by (value.Object number) other there)
keeps_updated place by (value.Bool truth) other = keeps_binary place by _ other
keeps_updated place by (value.Count n) other = keeps_binary place by _ other
keeps_updated place by (value.Int n) other = keeps_binary place by _ other
keeps_updated place by (value.String bytes) other = keeps_binary place by _ other
keeps_updated place by (value.Time moment) other = keeps_binary place by _ other
keeps_updated place by (value.Interval span) other = keeps_binary place by _ other
keeps_updated place by (value.Addr address) other = keeps_binary place by _ other
keeps_updated place by (value.Port port proto) other = keeps_binary place by _ other
keeps_updated place by (value.Subnet prefix width) other = keeps_binary place by _ other
keeps_updated place by (value.Enum word) other = keeps_binary place by _ other

-- Primitives and actions -------------------------------------------------------------------------------------------

pub keeps_join_strings : (place : Place) (strings : Value) (separator : List ℕ) → Keeps (primitives.join_strings place strings separator)
keeps_join_strings place strings separator = keeps_bind (keeps_vector place strings) (λ items. keeps_string place _)

pub keeps_called : (place : Place) (function : BuiltIn) (values : List Value) → Keeps (primitives.called place function values)
keeps_called place built_in.Fmt (value.String text ∷ values) = keeps_string place _
keeps_called place built_in.Cat values = keeps_string place _
keeps_called place built_in.ToLower (value.String text ∷ []) = keeps_pure _
keeps_called place built_in.ToUpper (value.String text ∷ []) = keeps_pure _
keeps_called place built_in.SubBytes (value.String text ∷ value.Count start ∷ value.Int n ∷ []) = keeps_pure _
keeps_called place built_in.Strstr (value.String big ∷ value.String little ∷ []) = keeps_pure _
keeps_called place built_in.ToCount (value.String text ∷ []) = keeps_pure _
keeps_called place built_in.StartsWith (value.String text ∷ value.String start ∷ []) = keeps_pure _
keeps_called place built_in.JoinStringVec (strings ∷ value.String separator ∷ []) = keeps_join_strings place strings separator
keeps_called place built_in.AddrToCounts (value.Addr address ∷ []) = keeps_new_object _
keeps_called place built_in.NetworkTime [] = keeps_now (λ moment. keeps_pure (value.Time moment))
keeps_called place built_in.Copy (one ∷ []) = keeps_copied_to 201 place one
keeps_called place function values = keeps_misfit place

pub keeps_last_first : (does : Value → List Value → Does Value) → ((one : Value) (others : List Value) → Keeps (does one others)) → (place : Place) (values : List Value) → Keeps (primitives.last_first does place values)
keeps_last_first does keeps place [] = keeps_misfit place
keeps_last_first does keeps place (last ∷ others) = keeps last (reverse others)

pub keeps_has_index : (place : Place) (index : ℕ) (one : Value) → Keeps (primitives.has_index place index one)
keeps_has_index place index one = keeps_bind (keeps_vector place one) (λ items. keeps_pure _)

pub keeps_perform : (place : Place) (one : Primitive) (values : List Value) → Keeps (primitives.perform place one values)
keeps_perform place (primitive.Unary operator) (a ∷ []) = keeps_unary place operator a
keeps_perform place (primitive.Binary operator) (a ∷ b ∷ []) = keeps_binary place operator a b
keeps_perform place (primitive.Compare relation) (a ∷ b ∷ []) = keeps_pure _
keeps_perform place primitive.HasKey values = keeps_last_first (objects.has_key place) (keeps_has_key place) place (reverse values)
keeps_perform place primitive.HasText (value.String little ∷ value.String big ∷ []) = keeps_pure _
keeps_perform place primitive.HasAddress (address ∷ network ∷ []) = keeps_pure _
keeps_perform place primitive.HasIndex (value.Count index ∷ a ∷ []) = keeps_has_index place index a
keeps_perform place primitive.Size (a ∷ []) = keeps_size place a
keeps_perform place (primitive.Field one) (a ∷ []) = keeps_field place a one.field
keeps_perform place (primitive.HasField one) (a ∷ []) = keeps_has_field place a one.field
keeps_perform place primitive.Element (table ∷ key) = keeps_element place table key
keeps_perform place primitive.Item (vector ∷ index ∷ []) = keeps_item place vector index
keeps_perform place (primitive.NewTable shape) values = keeps_new_table shape values
keeps_perform place (primitive.NewSet shape) values = keeps_new_set shape values
keeps_perform place primitive.NewVector values = keeps_new_object _
keeps_perform place (primitive.Step side by) operands =
    keeps_bind (keeps_left_value place side operands) (λ before. keeps_bind (keeps_stepped place by before) (λ after. keeps_then (keeps_assign place side operands after) (keeps_pure after)))
keeps_perform place (primitive.BuiltIn function) values = keeps_then (keeps_tick place) (keeps_called place function values)
keeps_perform place (primitive.Log call) [] = keeps_then (keeps_tick place) (keeps_log_call call)
keeps_perform place one values = keeps_misfit place

schedule_behind : (told : Told) (event : EventNo) (delay : Span) (args : List Value) (world : World) → primitives.schedule event delay args (behind told world) ≡ behind told (primitives.schedule event delay args world)
schedule_behind told event delay args world = elim world.is_ending as (λ b. (if b then behind told world else scheduled_for (moment_after world.time delay) (queued event args) (behind told world)) ≡ behind told (if b then world else scheduled_for (moment_after world.time delay) (queued event args) world)) [
  | true ↦ refl
  | false ↦ refl
]

pub keeps_act : (place : Place) (one : Action) (values : List Value) → Keeps (primitives.act place one values)
keeps_act place action.Print values = record {
  by = λ state. omega arith;
  moves = λ told state. ap (said told state) (append_assoc told.lines state.world.lines (line_of values ∷ []));
}
keeps_act place (action.Assign side) (one ∷ operands) = keeps_assign place side operands one
keeps_act place (action.Update side by) (one ∷ operands) =
    keeps_bind (keeps_left_value place side operands) (λ before. keeps_bind (keeps_updated place by before one) (λ after. keeps_assign place side operands after))
keeps_act place (action.Forget number) [] = keeps_set_local number None
keeps_act place action.Add (members ∷ key) = keeps_change_table place members _
keeps_act place action.Delete (table ∷ key) = keeps_change_table place table _
keeps_act place (action.Queue event) values = record { by = λ state. omega arith; moves = λ told state. refl }
keeps_act place (action.Schedule event) (value.Interval delay ∷ values) = record {
  by = λ state. omega arith;
  moves = λ told state. ap (in_world state) (schedule_behind told event delay values state.world);
}
keeps_act place one values = keeps_misfit place

-- Names ------------------------------------------------------------------------------------------------------------

pub keeps_set_keys : (names : List ℕ) (key : List Value) → Keeps (set_keys names key)
keeps_set_keys [] key = keeps_pure tt
keeps_set_keys (name ∷ names) [] = keeps_pure tt
keeps_set_keys (name ∷ names) (one ∷ key) = keeps_then (keeps_set_local name (Some one)) (keeps_set_keys names key)

keeps_set_of : (keys : List ℕ) (number : Option ℕ) (key : List Value) (one : Value) → Keeps (set_names (record { keys = keys; value = number }) key one)
keeps_set_of keys None key one = keeps_then (keeps_set_keys keys key) (keeps_pure tt)
keeps_set_of keys (Some number) key one = keeps_then (keeps_set_keys keys key) (keeps_set_local number (Some one))

pub keeps_set_names : (names : Names) (key : List Value) (one : Value) → Keeps (set_names names key one)
keeps_set_names names key one = keeps_set_of names.keys names.value key one
