-- How events and the records that they are given come into a world.
use Rattle.std.specs.Prelude.{ℕ, ◌+◌, ◌*◌, pos, true, false, List, [], ◌∷◌, Option}
use Rattle.zk_base.specs.declared.network.Side.{Side}
use Rattle.zk_base.specs.declared.network.Side.TheVariants as side
use Rattle.zk_base.specs.declared.numbers.EventNo.{EventNo}
use Rattle.zk_base.specs.declared.numbers.ObjectNo.{ObjectNo}
use Rattle.zk_base.specs.declared.numbers.RecordNo.{RecordNo}
use Rattle.zk_tree.specs.Value as plain
use Rattle.zk_tree.specs.Value.{Value}
use Rattle.zk_typed.specs.Objects.{Given}
use Rattle.zk_typed.specs.Program.{Program}
use Rattle.zk_typed.specs.State.{World, queued_behind}
use Rattle.zk_typed.specs.World.{queued}
use Rattle.zk_machine.specs.Made.{Fresh, fresh, renewed}

-- an event waits behind those that wait already
abbrev pub raised : EventNo → List Value → World → World
raised event args world = queued_behind (queued event args ∷ []) world

-- values with the numbers of their fields
abbrev pub numbered_from : ℕ → List Value → List Given
numbered_from number [] = []
numbered_from number (value ∷ values) = (number, value) ∷ numbered_from (number + 1) values

-- a new record of a type that every program has, of which these are the first fields
abbrev pub made : Program → RecordNo → List Value → World → Fresh
made program number values world = fresh program number (numbered_from 0 values) world

-- the fields of a record from this one on are written anew
abbrev pub with_fields : ObjectNo → ℕ → List (Option Value) → World → World
with_fields object field [] world = world
with_fields object field (value ∷ values) world = with_fields object (field + 1) values (renewed object field value world)

abbrev pub object : ObjectNo → Value
object number = plain.Object number

-- whether the side is the originator
abbrev pub is_orig : Side → Value
is_orig side.Orig = plain.Bool true
is_orig side.Resp = plain.Bool false

-- so many seconds
abbrev pub seconds : ℕ → Value
seconds count = plain.Interval (record { 0 = pos (count * 1_000_000) })
