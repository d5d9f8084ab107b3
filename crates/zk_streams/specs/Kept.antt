-- What a stream that is kept stands for.
use Rattle.std.specs.Prelude.{◌≡◌, false, List, [], ◌∷◌}
use Rattle.std.specs.List.{list_any}
use Rattle.zk_typed.specs.Log.{Stream, Filter}
use Rattle.zk_typed.specs.Logs.{is_named}
use Rattle.zk_streams.specs.declared.kept.Kept.TheInside.{Inside}

abbrev pub stream_in : Inside → Stream
stream_in kept = record {
  id = kept.id;
  event = kept.stream.event;
  path = kept.stream.path;
  policy = kept.stream.policy;
  columns = kept.stream.columns;
  filters = kept.filters.items;
}

-- no two filters have one name
abbrev pub HasNamesOnce : List Filter → Type 0
HasNamesOnce [] = Unit {0}
HasNamesOnce (filter ∷ filters) = (list_any (is_named filter.name) filters ≡ false) × HasNamesOnce filters
