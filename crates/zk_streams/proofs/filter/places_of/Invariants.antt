use Rattle.std.proofs.Common.{◌≡◌, take}
use Rattle.zk_typed.specs.Logs.{all_columns}
use Rattle.zk_streams.proofs.filter.places_of.Given as goal

abbrev pub invariant-loop-place : goal.invariant-loop-place
invariant-loop-place l = l.places.items ≡ all_columns 0 (take l.place l.columns)
