-- Log streams, their filters, and the rows that are written to them (Zeek manual, Logging Framework).
use Rattle.std.specs.Prelude.{ℕ, ◌+◌, ◌==◌, Bool, true, false, not, List, [], ◌∷◌, ◌++◌, map, filter, filter_map, find, codes, Option, Some, None, unwrap_or, slice_get, if◌then◌else◌}
use Rattle.std.specs.List.{list_any}
use Rattle.std.specs.Option.{option_map}
use Rattle.std.specs.Str.{bytes_eq}
use Rattle.zk_base.specs.declared.numbers.EventNo.{EventNo}
use Rattle.zk_base.specs.declared.numbers.HookNo.{HookNo}
use Rattle.zk_base.specs.declared.numbers.LogId.{LogId}
use Rattle.zk_base.specs.declared.numbers.RecordNo.{RecordNo}
use Rattle.zk_tree.specs.declared.place.Place.{Place}
use Rattle.zk_tree.specs.Value as plain
use Rattle.zk_tree.specs.Value.{Value}
use Rattle.zk_typed.specs.declared.script.log_call.LogCall.{LogCall}
use Rattle.zk_typed.specs.declared.script.log_call.LogCall.TheVariants.{Create, AddFilter, RemoveFilter}
use Rattle.zk_typed.specs.declared.script.program.Log.{Log}
use Rattle.zk_typed.specs.Columns.{Leaf, leaves, record_fields, value_at, value_cell}
use Rattle.zk_typed.specs.Does.{Does, ◌>>=◌, ◌>>◌, pure, done, read, change}
use Rattle.zk_typed.specs.Log.{Stream, Filter}
use Rattle.zk_typed.specs.Objects.{new_record}
use Rattle.zk_typed.specs.Program.{Program}
use Rattle.zk_typed.specs.State.{World, with_streams, with_row, queued_behind}
use Rattle.zk_typed.specs.World.{queued}

-- Streams and filters ----------------------------------------------------------------------------------------------

abbrev pub stream_of : LogId → List Stream → Option Stream
stream_of log streams = find (λ stream. stream.id.0 == log.0) streams

abbrev pub is_named : List ℕ → Filter → Bool
is_named name one = bytes_eq one.name name

abbrev pub has_filter : List ℕ → Stream → Bool
has_filter name stream = list_any (is_named name) stream.filters

-- all columns of a stream, by their numbers among them
abbrev pub all_columns : ℕ → List ℕ → List ℕ
all_columns number [] = []
all_columns number (column ∷ columns) = number ∷ all_columns (number + 1) columns

-- a filter behind the others, or in the place of the one that has its name
abbrev pub with_filter : Filter → Stream → Stream
with_filter one stream = record stream {
  filters = if has_filter one.name stream
      then map (λ other. if is_named one.name other then one else other) stream.filters
      else stream.filters ++ one ∷ [];
}

abbrev pub without_filter : List ℕ → Stream → Stream
without_filter name stream = record stream { filters = filter (λ one. not (is_named name one)) stream.filters }

abbrev pub change_stream : LogId → (Stream → Stream) → World → World
change_stream log changed world =
    with_streams (map (λ stream. if stream.id.0 == log.0 then changed stream else stream) world.streams) world

abbrev pub truth : Bool → Does Value
truth answer = pure (plain.Bool answer)

abbrev pub create : Stream → Option Stream → Does Value
create stream (Some there) = truth false
create stream None = change (λ world. with_streams (world.streams ++ stream ∷ []) world) >> truth true

abbrev pub add_filter : LogId → Filter → Option Stream → Does Value
add_filter log one None = truth false
add_filter log one (Some stream) = change (change_stream log (with_filter one)) >> truth true

abbrev pub remove_filter : LogId → List ℕ → Option Stream → Does Value
remove_filter log name None = truth false
remove_filter log name (Some stream) = change (change_stream log (without_filter name)) >> truth (has_filter name stream)

-- a new stream has the filter `default`, with all columns
abbrev pub first_filter : List ℕ → Filter
first_filter columns = record { name = codes "default"; path = None; policy = None; columns = all_columns 0 columns }

abbrev pub log_call : LogCall → Does Value
log_call (Create log event path policy columns) = read (λ world. stream_of log world.streams) >>= create (record {
  id = log;
  event = event;
  path = path;
  policy = policy;
  columns = columns;
  filters = first_filter columns ∷ [];
})
log_call (AddFilter log name path policy columns) =
    read (λ world. stream_of log world.streams) >>= add_filter log (record { name = name; path = path; policy = policy; columns = columns })
log_call (RemoveFilter log name) = read (λ world. stream_of log world.streams) >>= remove_filter log name

-- Rows ---------------------------------------------------------------------------------------------------------------

-- the list's elements at these places
abbrev pub picked : {A : Type 0} → List A → List ℕ → List A
picked all places = filter_map (λ place. slice_get all place) places

-- what a log's stream has as columns, and the places from which a filter fills them
abbrev pub log_leaves : Program → LogId → List Leaf
log_leaves program log = of_log (slice_get program.logs log.0)
  where
    of_type : Option RecordNo → List Leaf
    of_type None = []
    of_type (Some number) = leaves program number

    of_log : Option Log → List Leaf
    of_log None = []
    of_log (Some one) = of_type one.columns

abbrev pub filter_leaves : Program → Stream → Filter → List Leaf
filter_leaves program stream one = picked (picked (log_leaves program stream.id) stream.columns) one.columns

-- a filter's path and policy, or those of its stream
abbrev pub path_of : Stream → Filter → List ℕ
path_of stream one = unwrap_or one.path stream.path

abbrev pub policy_of : Stream → Filter → Option HookNo
policy_of stream one = or_stream one.policy
  where
    or_stream : Option HookNo → Option HookNo
    or_stream None = stream.policy
    or_stream (Some hook) = Some hook

-- the row of a record as it is now
abbrev pub write_row : Program → Stream → Filter → Value → Does (Unit {0})
write_row program stream one row = change (λ world. with_row (record {
  path = path_of stream one;
  columns = map (λ leaf. leaf.column) (filter_leaves program stream one);
  cells = map (λ leaf. value_cell world.store (value_at world.store leaf.path (Some row))) (filter_leaves program stream one);
  at = world.time;
}) world)

-- the word of a log
abbrev pub log_word : Program → LogId → List ℕ
log_word program log = unwrap_or (option_map (λ one. one.word) (slice_get program.logs log.0)) []

-- what calls a hook with these values
abbrev pub CallsHook : Type 0
CallsHook = HookNo → List Value → Does Bool

abbrev pub unless_vetoed : Does (Unit {0}) → Bool → Does (Unit {0})
unless_vetoed written true = written
unless_vetoed written false = done

-- what a policy is told of a filter: `Log::Filter($name=.., $path=..)`, with what scripts added to that type
abbrev pub described : Program → RecordNo → Place → Stream → Filter → Does Value
described program filter_type place stream one =
    new_record place filter_type (record_fields program filter_type) ((0, plain.String one.name) ∷ (1, plain.String (path_of stream one)) ∷ [])

-- the policy is asked with the record, the word and what it is told of the filter
abbrev pub ask : Program → RecordNo → Place → CallsHook → Stream → Filter → Value → HookNo → Does Bool
ask program filter_type place hook stream one row policy = do
  told ← described program filter_type place stream one
  hook policy (row ∷ plain.Enum (log_word program stream.id) ∷ told ∷ [])

abbrev pub by_policy : Program → RecordNo → Place → CallsHook → Stream → Filter → Value → Option HookNo → Does (Unit {0})
by_policy program filter_type place hook stream one row None = write_row program stream one row
by_policy program filter_type place hook stream one row (Some policy) =
    ask program filter_type place hook stream one row policy >>= unless_vetoed (write_row program stream one row)

abbrev pub still_there : LogId → List ℕ → World → Bool
still_there log name world = in_stream (stream_of log world.streams)
  where
    in_stream : Option Stream → Bool
    in_stream None = false
    in_stream (Some stream) = has_filter name stream

abbrev pub if_there : Bool → Does (Unit {0}) → Does (Unit {0})
if_there true written = written
if_there false written = done

-- Each filter as it was at the write, in the order of adding; one whose name the stream no longer has is passed over.
abbrev pub by_filters : Program → RecordNo → Place → CallsHook → Stream → Value → List Filter → Does (Unit {0})
by_filters program filter_type place hook stream row [] = done
by_filters program filter_type place hook stream row (one ∷ others) = do
  there ← read (still_there stream.id one.name)
  if_there there (by_policy program filter_type place hook stream one row (policy_of stream one))
  by_filters program filter_type place hook stream row others

abbrev pub queue_row : Option EventNo → Value → Does (Unit {0})
queue_row None row = done
queue_row (Some event) row = change (queued_behind (queued event (row ∷ []) ∷ []))

-- the stream's event is queued, and then the filters run
abbrev pub to_stream : Program → RecordNo → Place → CallsHook → Value → Option Stream → Does Value
to_stream program filter_type place hook row None = truth false
to_stream program filter_type place hook row (Some stream) = do
  queue_row stream.event row
  by_filters program filter_type place hook stream row stream.filters
  truth true

-- `Log::write(ID, r)` in the statement at a place
abbrev pub write_log : Program → RecordNo → Place → CallsHook → LogId → Value → Does Value
write_log program filter_type place hook log row = read (λ world. stream_of log world.streams) >>= to_stream program filter_type place hook row
