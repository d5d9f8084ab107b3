-- Each primitive, each action and each part of a write goes onward.
use Rattle.std.specs.Prelude.{if◌then◌else◌}
use Rattle.std.proofs.Common.{◌≡◌, ℕ, Bool, false, List, [], ◌∷◌, reverse, true, Option, Some, None, refl}
use Rattle.zk_base.specs.declared.numbers.EventNo.{EventNo}
use Rattle.zk_base.specs.declared.numbers.LogId.{LogId}
use Rattle.zk_base.specs.declared.numbers.RecordNo.{RecordNo}
use Rattle.zk_base.specs.declared.time.Span.{Span}
use Rattle.zk_tree.specs.declared.place.Place.{Place}
use Rattle.zk_tree.specs.Store.{Object}
use Rattle.zk_tree.specs.Store as object
use Rattle.zk_tree.specs.Table.{Table, moment_after, remove}
use Rattle.zk_tree.specs.Value as value
use Rattle.zk_tree.specs.Value.{Value}
use Rattle.zk_typed.specs.declared.script.action.Action.{Action}
use Rattle.zk_typed.specs.declared.script.action.Action.TheVariants as action
use Rattle.zk_typed.specs.declared.script.action.Left.{Left}
use Rattle.zk_typed.specs.declared.script.action.Left.TheVariants as left
use Rattle.zk_typed.specs.declared.script.log_call.LogCall.{LogCall}
use Rattle.zk_typed.specs.declared.script.log_call.LogCall.TheVariants.{Create, AddFilter, RemoveFilter}
use Rattle.zk_typed.specs.declared.script.primitive.Binary.{Binary}
use Rattle.zk_typed.specs.declared.script.primitive.Binary.TheVariants.{Plus, Minus}
use Rattle.zk_typed.specs.declared.script.primitive.BuiltIn.{BuiltIn}
use Rattle.zk_typed.specs.declared.script.primitive.BuiltIn.TheVariants as built_in
use Rattle.zk_typed.specs.declared.script.primitive.Primitive.{Primitive}
use Rattle.zk_typed.specs.declared.script.primitive.Primitive.TheVariants as primitive
use Rattle.zk_typed.specs.declared.script.stmt.Names.{Names}
use Rattle.zk_typed.specs.Columns.{record_fields}
use Rattle.zk_typed.specs.Does.{Does}
use Rattle.zk_typed.specs.Log.{Stream, Filter}
use Rattle.zk_typed.specs.Logs.{stream_of, create, add_filter, remove_filter, log_call, first_filter, path_of, described, write_row, queue_row}
use Rattle.zk_typed.specs.Meaning.{set_keys, set_names}
use Rattle.zk_typed.specs.Program.{Program}
use Rattle.zk_typed.specs.State.{World, scheduled_for}
use Rattle.zk_typed.specs.World.{queued}
use Rattle.zk_typed.specs.Objects as objects
use Rattle.zk_typed.specs.Objects.{keys_of}
use Rattle.zk_typed.specs.Primitives as primitives
use Rattle.zk_agenda.proofs.Dues.{scheduled_moves}
use Rattle.zk_agenda.specs.Sparing.{Numbers, SparesSide, SparesPrimitive, SparesAction}
use Rattle.zk_agenda.proofs.Dues.{becomes-vector, fold-delays, insert-delays, remove-delays}
use Rattle.zk_agenda.proofs.Steps.{Goes, Leaves, kept, same, members-delay, goes_binary, goes_bind, goes_change_table, goes_copied_to, goes_element, goes_field, goes_global, goes_has_field, goes_has_key, goes_item, goes_local, goes_misfit, goes_new_object, goes_new_record, goes_new_set, goes_new_table, goes_now, goes_object, goes_of, goes_pure, goes_set_field, goes_set_global, goes_set_item, goes_set_local, goes_set_vector, goes_size, goes_stepped, goes_string, goes_then, goes_tick, goes_unary, goes_vector}

module _ {fixed : Numbers} where
  -- Logs -------------------------------------------------------------------------------------------------------------

  pub goes_create : (stream : Stream) (there : Option Stream) → Goes fixed (create stream there)
  goes_create stream (Some there) = record { by = λ state. same _ _ refl refl refl refl refl refl }
  goes_create stream None = record { by = λ state. same _ _ refl refl refl refl refl refl }

  pub goes_add_filter : (log : LogId) (one : Filter) (stream : Option Stream) → Goes fixed (add_filter log one stream)
  goes_add_filter log one None = record { by = λ state. same _ _ refl refl refl refl refl refl }
  goes_add_filter log one (Some stream) = record { by = λ state. same _ _ refl refl refl refl refl refl }

  pub goes_remove_filter : (log : LogId) (name : List ℕ) (stream : Option Stream) → Goes fixed (remove_filter log name stream)
  goes_remove_filter log name None = record { by = λ state. same _ _ refl refl refl refl refl refl }
  goes_remove_filter log name (Some stream) = record { by = λ state. same _ _ refl refl refl refl refl refl }

  pub goes_log_call : (call : LogCall) → Goes fixed (log_call call)
  goes_log_call (Create log event path policy columns) = goes_of (λ world. stream_of log world.streams) (λ there. goes_create (record { id = log; event = event; path = path; policy = policy; columns = columns; filters = first_filter columns ∷ [] }) there)
  goes_log_call (AddFilter log name path policy columns) = goes_of (λ world. stream_of log world.streams) (λ stream. goes_add_filter log (record { name = name; path = path; policy = policy; columns = columns }) stream)
  goes_log_call (RemoveFilter log name) = goes_of (λ world. stream_of log world.streams) (λ stream. goes_remove_filter log name stream)

  pub goes_write_row : (program : Program) (stream : Stream) (one : Filter) (row : Value) → Goes fixed (write_row program stream one row)
  goes_write_row program stream one row = record { by = λ state. same _ _ refl refl refl refl refl refl }

  pub goes_described : (program : Program) (filter_type : RecordNo) (place : Place) (stream : Stream) (one : Filter) → Goes fixed (described program filter_type place stream one)
  goes_described program filter_type place stream one =
      goes_new_record place filter_type (record_fields program filter_type) ((0, value.String one.name) ∷ (1, value.String (path_of stream one)) ∷ [])

  pub goes_queue_row : (event : Option EventNo) (row : Value) → Goes fixed (queue_row event row)
  goes_queue_row None row = record { by = λ state. same _ _ refl refl refl refl refl refl }
  goes_queue_row (Some event) row = record { by = λ state. same _ _ refl refl refl refl refl refl }

  -- Left sides -------------------------------------------------------------------------------------------------------

  pub goes_left_value : (place : Place) (side : Left) (operands : List Value) → Goes fixed (primitives.left_value place side operands)
  goes_left_value place (left.Local number) [] = goes_local place number
  goes_left_value place (left.Global number) [] = goes_global place number
  goes_left_value place (left.Field one) (of ∷ []) = goes_field place of one.field
  goes_left_value place left.Element (table ∷ key) = goes_element place table key
  goes_left_value place left.Item (vector ∷ index ∷ []) = goes_item place vector index
  goes_left_value place side operands = goes_misfit place

  pub goes_assign : (place : Place) (side : Left) (operands : List Value) (one : Value) → SparesSide fixed side → Goes fixed (primitives.assign place side operands one)
  goes_assign place (left.Local number) [] one spares = goes_set_local number (Some one)
  goes_assign place (left.Global number) [] one spares = goes_set_global number (Some one) spares
  goes_assign place (left.Field field) (of ∷ []) one spares = goes_set_field place of field.field one
  goes_assign place left.Element (table ∷ key) one spares = goes_change_table place table _ (λ moment. insert-delays moment key one)
  goes_assign place left.Item (vector ∷ index ∷ []) one spares = goes_set_item place vector index one
  goes_assign place side operands one spares = goes_misfit place

  -- an object of any kind
  goes_by_kind : {A : Type 0} (k : Object → Does A) → ((number : RecordNo) (fields : List (Option Value)) → Goes fixed (k (object.Record number fields))) → ((items : List Value) → Goes fixed (k (object.Vector items))) → ((table : Table) → Goes fixed (k (object.Table table))) → (one : Object) → Goes fixed (k one)
  goes_by_kind k of_record of_vector of_table (object.Record number fields) = of_record number fields
  goes_by_kind k of_record of_vector of_table (object.Vector items) = of_vector items
  goes_by_kind k of_record of_vector of_table (object.Table table) = of_table table

  pub goes_into_object : (place : Place) (by : Binary) (one other : Value) (there : Object) → Goes fixed (primitives.into_object place by one other there)
  goes_into_object place Plus one added (object.Vector items) = goes_then (goes_set_vector one _) (goes_pure one)
  goes_into_object place Plus one added (object.Table members) = goes_bind (goes_object place added) (goes_by_kind _
      (λ number fields. goes_misfit place) (λ items. goes_misfit place) (λ others. goes_then (goes_change_table place one _ (λ moment. members-delay moment (keys_of others))) (goes_pure one)))
  goes_into_object place Minus one taken (object.Table members) = goes_bind (goes_object place taken) (goes_by_kind _
      (λ number fields. goes_misfit place) (λ items. goes_misfit place) (λ others. goes_then (goes_change_table place one _ (λ moment. fold-delays moment (λ left key. remove key left) (λ key. remove-delays moment key) (keys_of others))) (goes_pure one)))
  goes_into_object place by one other there = goes_misfit place

  pub goes_updated : (place : Place) (by : Binary) (one other : Value) → Goes fixed (primitives.updated place by one other)
  goes_updated place by (value.Object number) other = goes_bind (goes_object place (value.Object number)) (λ there. goes_into_object place by (value.Object number) other there)
  goes_updated place by (value.Bool truth) other = goes_binary place by _ other
  goes_updated place by (value.Count n) other = goes_binary place by _ other
  goes_updated place by (value.Int n) other = goes_binary place by _ other
  goes_updated place by (value.String bytes) other = goes_binary place by _ other
  goes_updated place by (value.Time moment) other = goes_binary place by _ other
  goes_updated place by (value.Interval span) other = goes_binary place by _ other
  goes_updated place by (value.Addr address) other = goes_binary place by _ other
  goes_updated place by (value.Port port proto) other = goes_binary place by _ other
  goes_updated place by (value.Subnet prefix width) other = goes_binary place by _ other
  goes_updated place by (value.Enum word) other = goes_binary place by _ other

  -- an event that is scheduled, which changes no global
  scheduled : (event : EventNo) (delay : Span) (args : List Value) (world : World) → Leaves fixed world (primitives.schedule event delay args world)
  scheduled event delay args world = kept world _ (scheduled_moves event delay args world) (by world.is_ending)
    where
      by : (ending : Bool) → (if ending then world else scheduled_for (moment_after world.time delay) (queued event args) world).globals ≡ world.globals
      by true = refl
      by false = refl

  -- Primitives and actions -------------------------------------------------------------------------------------------

  pub goes_join_strings : (place : Place) (strings : Value) (separator : List ℕ) → Goes fixed (primitives.join_strings place strings separator)
  goes_join_strings place strings separator = goes_bind (goes_vector place strings) (λ items. goes_string place _)

  pub goes_called : (place : Place) (function : BuiltIn) (values : List Value) → Goes fixed (primitives.called place function values)
  goes_called place built_in.Fmt (value.String text ∷ values) = goes_string place _
  goes_called place built_in.Cat values = goes_string place _
  goes_called place built_in.ToLower (value.String text ∷ []) = goes_pure _
  goes_called place built_in.ToUpper (value.String text ∷ []) = goes_pure _
  goes_called place built_in.SubBytes (value.String text ∷ value.Count start ∷ value.Int n ∷ []) = goes_pure _
  goes_called place built_in.Strstr (value.String big ∷ value.String little ∷ []) = goes_pure _
  goes_called place built_in.ToCount (value.String text ∷ []) = goes_pure _
  goes_called place built_in.StartsWith (value.String text ∷ value.String start ∷ []) = goes_pure _
  goes_called place built_in.JoinStringVec (strings ∷ value.String separator ∷ []) = goes_join_strings place strings separator
  goes_called place built_in.AddrToCounts (value.Addr address ∷ []) = goes_new_object _ (λ now. becomes-vector now None _)
  goes_called place built_in.NetworkTime [] = goes_now (λ moment. goes_pure (value.Time moment))
  goes_called place built_in.Copy (one ∷ []) = goes_copied_to 201 place one
  goes_called place function values = goes_misfit place

  pub goes_last_first : (does : Value → List Value → Does Value) → ((one : Value) (others : List Value) → Goes fixed (does one others)) → (place : Place) (values : List Value) → Goes fixed (primitives.last_first does place values)
  goes_last_first does goes place [] = goes_misfit place
  goes_last_first does goes place (last ∷ others) = goes last (reverse others)

  pub goes_has_index : (place : Place) (index : ℕ) (one : Value) → Goes fixed (primitives.has_index place index one)
  goes_has_index place index one = goes_bind (goes_vector place one) (λ items. goes_pure _)

  pub goes_perform : (place : Place) (one : Primitive) (values : List Value) → SparesPrimitive fixed one → Goes fixed (primitives.perform place one values)
  goes_perform place (primitive.Unary operator) (a ∷ []) spares = goes_unary place operator a
  goes_perform place (primitive.Binary operator) (a ∷ b ∷ []) spares = goes_binary place operator a b
  goes_perform place (primitive.Compare relation) (a ∷ b ∷ []) spares = goes_pure _
  goes_perform place primitive.HasKey values spares = goes_last_first (objects.has_key place) (goes_has_key place) place (reverse values)
  goes_perform place primitive.HasText (value.String little ∷ value.String big ∷ []) spares = goes_pure _
  goes_perform place primitive.HasAddress (address ∷ network ∷ []) spares = goes_pure _
  goes_perform place primitive.HasIndex (value.Count index ∷ a ∷ []) spares = goes_has_index place index a
  goes_perform place primitive.Size (a ∷ []) spares = goes_size place a
  goes_perform place (primitive.Field one) (a ∷ []) spares = goes_field place a one.field
  goes_perform place (primitive.HasField one) (a ∷ []) spares = goes_has_field place a one.field
  goes_perform place primitive.Element (table ∷ key) spares = goes_element place table key
  goes_perform place primitive.Item (vector ∷ index ∷ []) spares = goes_item place vector index
  goes_perform place (primitive.NewTable shape) values spares = goes_new_table shape values
  goes_perform place (primitive.NewSet shape) values spares = goes_new_set shape values
  goes_perform place primitive.NewVector values spares = goes_new_object _ (λ now. becomes-vector now None _)
  goes_perform place (primitive.Step side by) operands spares =
      goes_bind (goes_left_value place side operands) (λ before. goes_bind (goes_stepped place by before) (λ after. goes_then (goes_assign place side operands after spares) (goes_pure after)))
  goes_perform place (primitive.BuiltIn function) values spares = goes_then (goes_tick place) (goes_called place function values)
  goes_perform place (primitive.Log call) [] spares = goes_then (goes_tick place) (goes_log_call call)
  goes_perform place one values spares = goes_misfit place

  pub goes_act : (place : Place) (one : Action) (values : List Value) → SparesAction fixed one → Goes fixed (primitives.act place one values)
  goes_act place action.Print values spares = record { by = λ state. same _ _ refl refl refl refl refl refl }
  goes_act place (action.Assign side) (one ∷ operands) spares = goes_assign place side operands one spares
  goes_act place (action.Update side by) (one ∷ operands) spares =
      goes_bind (goes_left_value place side operands) (λ before. goes_bind (goes_updated place by before one) (λ after. goes_assign place side operands after spares))
  goes_act place (action.Forget number) [] spares = goes_set_local number None
  goes_act place action.Add (members ∷ key) spares = goes_change_table place members _ (λ moment. insert-delays moment key (value.Bool true))
  goes_act place action.Delete (table ∷ key) spares = goes_change_table place table _ (λ moment. remove-delays moment key)
  goes_act place (action.Queue event) values spares = record { by = λ state. same _ _ refl refl refl refl refl refl }
  goes_act place (action.Schedule event) (value.Interval delay ∷ values) spares = record { by = λ state. scheduled event delay values state.world }
  goes_act place one values spares = goes_misfit place

  -- Names ------------------------------------------------------------------------------------------------------------

  pub goes_set_keys : (names : List ℕ) (key : List Value) → Goes fixed (set_keys names key)
  goes_set_keys [] key = goes_pure tt
  goes_set_keys (name ∷ names) [] = goes_pure tt
  goes_set_keys (name ∷ names) (one ∷ key) = goes_then (goes_set_local name (Some one)) (goes_set_keys names key)

  goes_set_of : (keys : List ℕ) (number : Option ℕ) (key : List Value) (one : Value) → Goes fixed (set_names (record { keys = keys; value = number }) key one)
  goes_set_of keys None key one = goes_then (goes_set_keys keys key) (goes_pure tt)
  goes_set_of keys (Some number) key one = goes_then (goes_set_keys keys key) (goes_set_local number (Some one))

  pub goes_set_names : (names : Names) (key : List Value) (one : Value) → Goes fixed (set_names names key one)
  goes_set_names names key one = goes_set_of names.keys names.value key one
