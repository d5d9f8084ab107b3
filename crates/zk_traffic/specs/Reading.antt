-- What reads a connection's streams stands for: readers (zk_units), or nothing where no protocol is spoken.
use Rattle.std.specs.Prelude.{◌≡◌, ℕ, ◌≤◌, ◌++◌, true, [], List, Option, None, Some}
use Rattle.std.specs.Option.{option_map, option_map_or}
use Rattle.zk_base.specs.declared.network.Side.{Side}
use Rattle.zk_base.specs.Places.{Place}
use Rattle.zk_http.specs.Places.{Both, Stream, of_side}
use Rattle.zk_traffic.specs.declared.reading.Reading.{Reading}
use Rattle.zk_units.specs.declared.protocol.Protocol.{Protocol}
use Rattle.zk_units.specs.declared.readers.Readers.{Readers}
use Rattle.zk_units.specs.declared.stream_unit.Freed.{Freed}
use Rattle.zk_units.specs.declared.stream_unit.StreamUnit.{StreamUnit}
use Rattle.zk_units.specs.Standing.{behind, with_stream}
use Rattle.zk_units.specs.Standing as units
use Rattle.zk_units.specs.Units.{add_all, all_freed, bytes_unread}

-- its readers, where there are any
abbrev pub readers_in : Reading → Option Readers
readers_in reading = option_map (λ boxed. boxed.value) reading.readers

abbrev pub StandsBy : Option Readers → Option Protocol → Both Stream → Both (List StreamUnit) → Type 0
StandsBy None None streams given = Unit {0}
StandsBy None (Some protocol) streams given = ⊥
StandsBy (Some readers) protocol streams given = units.StandsFor readers protocol streams given

-- It goes on as that of a connection that speaks this protocol, which was given these streams up to their fronts and has given
-- these units.
unfoldable pub StandsFor : Reading → Option Protocol → Both Stream → Both (List StreamUnit) → Type 0
StandsFor reading protocol streams given = StandsBy (readers_in reading) protocol streams given

-- how many bytes of a side are kept
unfoldable pub held_in : Side → Reading → ℕ
held_in side reading = option_map_or (units.held_in side) (readers_in reading) 0

-- It was given these places of a side, which had not ended where there are any.
pub record Gets (side : Side) (places : List Place) (old new : Reading) : Type 0 where
  pub stands : (protocol : Option Protocol) (streams : Both Stream) (given : Both (List StreamUnit))
      → ((of_side side streams).ended ≡ true → places ≡ []) → StandsFor old protocol streams given
      → StandsFor new protocol (with_stream side (behind (of_side side streams) places) streams) given

-- all units were read, and what is kept of a side are the bytes that are not read, few of each side
pub record Reads (first : Side) (old new : Reading) (before after : List Freed) (protocol : Option Protocol) (streams : Both Stream) (said : Both (List StreamUnit)) : Type 0 where
  pub given : after ≡ before ++ all_freed protocol first streams said
  pub stands : StandsFor new protocol streams (add_all (all_freed protocol first streams said) said)
  pub few : (side : Side) → held_in side new ≤ 65536
  pub left : (side : Side) → held_in side new ≡ bytes_unread protocol side streams (add_all (all_freed protocol first streams said) said)
