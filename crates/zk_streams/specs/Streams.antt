-- What is done to the streams of scripts, in the words of the meaning.
use Rattle.std.specs.Prelude.{◌≡◌, ◌==◌, ℕ, Bool, false, List, [], ◌∷◌, ◌++◌, map, Option, Some, None, if◌then◌else◌}
use Rattle.std.specs.List.{list_any}
use Rattle.zk_base.specs.declared.numbers.LogId.{LogId}
use Rattle.zk_typed.specs.Log.{Stream, Filter}
use Rattle.zk_typed.specs.Logs.{stream_of, has_filter, first_filter}
use Rattle.zk_streams.specs.declared.kept.LogStream.{LogStream}

-- a stream without its filters
abbrev pub log_stream_in : Stream → LogStream
log_stream_in stream = record { event = stream.event; path = stream.path; policy = stream.policy; columns = stream.columns }

-- a new stream, with its first filter
abbrev pub stream_from : LogId → LogStream → Stream
stream_from id stream = record {
  id = id;
  event = stream.event;
  path = stream.path;
  policy = stream.policy;
  columns = stream.columns;
  filters = first_filter stream.columns ∷ [];
}

abbrev pub is_of : LogId → Stream → Bool
is_of id stream = stream.id.0 == id.0

abbrev pub created_at : LogId → LogStream → List Stream → Option Stream → List Stream
created_at id stream streams (Some there) = streams
created_at id stream streams None = streams ++ stream_from id stream ∷ []

-- a new stream stands last, and one that is there stays
abbrev pub created : LogId → LogStream → List Stream → List Stream
created id stream streams = created_at id stream streams (stream_of id streams)

-- the streams with that of a log changed
abbrev pub changed : LogId → (Stream → Stream) → List Stream → List Stream
changed id change streams = map (λ stream. if is_of id stream then change stream else stream) streams

abbrev pub filters_in : Option Stream → List Filter
filters_in None = []
filters_in (Some stream) = stream.filters

-- the filters of the stream of a log
abbrev pub filters_of : LogId → List Stream → List Filter
filters_of id streams = filters_in (stream_of id streams)

abbrev pub has_in : List ℕ → Option Stream → Bool
has_in name None = false
has_in name (Some stream) = has_filter name stream

-- the stream of a log has a filter of this name
abbrev pub has_at : LogId → List ℕ → List Stream → Bool
has_at id name streams = has_in name (stream_of id streams)

-- no two streams are of one log
abbrev pub HasLogsOnce : List Stream → Type 0
HasLogsOnce [] = Unit {0}
HasLogsOnce (stream ∷ streams) = (list_any (is_of stream.id) streams ≡ false) × HasLogsOnce streams
