-- How a side of HTTP is read on.
use Rattle.std.specs.Prelude.{◌≡◌, ◌+◌, ◌≤◌, true, List, length, drop, Option, Some, None}
use Rattle.std.specs.Option.{IfSome}
use Rattle.zk_base.specs.ByteQueue.{bytes_of}
use Rattle.zk_base.specs.declared.network.Side.{Side}
use Rattle.zk_http.specs.declared.http.Http.{Http}
use Rattle.zk_http.specs.declared.units.«Unit».{«Unit» as HttpUnit}
use Rattle.zk_base.specs.Sides.{other}
use Rattle.zk_http.specs.Places.{Both, Stream, of_side}
use Rattle.zk_http.specs.Standing.{StandsFor, used_of, seen_of, is_told}
use Rattle.zk_http.specs.Units.{add, next, unread as not_read}
use Rattle.zk_units.specs.declared.http.Reading.{Reading}
use Rattle.zk_units.specs.declared.http.Reading.TheVariants.{Found, Waits, Used}
use Rattle.zk_units.specs.declared.unread.Unread.{Unread}
use Rattle.zk_units.specs.Unread.{places_of, run_of}

-- a reader and what it has not used of a side: it has looked at no more than the run, and has used what stands ahead
pub record Fits (side : Side) (reader : Http) (unread : Unread) : Type 0 where
  pub seen : seen_of side reader ≤ length (run_of unread)
  pub front : used_of side reader + length (places_of unread) ≡ unread.front

-- these places of a side are those behind what its reader has used
pub record IsUnread (side : Side) (reader : Http) (unread : Unread) (stream : Stream) : Type 0 where
  pub places_are : places_of unread ≡ drop (used_of side reader) stream.places
  pub ended_is : unread.ended ≡ stream.ended
  -- it was told of the end where nothing but bytes follow
  pub last : is_told side reader ≡ true → length (run_of unread) ≡ length (places_of unread)

pub record KeepsOther (side : Side) (old new : Http) : Type 0 where
  pub used : used_of (other side) new ≡ used_of (other side) old
  pub seen : seen_of (other side) new ≡ seen_of (other side) old
  pub told : is_told (other side) new ≡ is_told (other side) old

-- it has used and looked at as much as before
pub record KeepsAll (side : Side) (old new : Http) : Type 0 where
  pub used : used_of side new ≡ used_of side old
  pub seen : seen_of side new ≡ seen_of side old
  pub other : KeepsOther side old new

-- the reader was told of a side's end where nothing but bytes follow, and is the same else
pub record IsTold (side : Side) (old new : Http) (unread : Unread) : Type 0 where
  pub used : used_of side new ≡ used_of side old
  pub seen : seen_of side new ≡ seen_of side old
  pub other : KeepsOther side old new
  pub stands : (streams : Both Stream) (units : Both (List HttpUnit)) → StandsFor old streams units → IsUnread side old unread (of_side side streams)
      → StandsFor new streams units × IsUnread side new unread (of_side side streams)
  pub told : unread.ended ≡ true → length (run_of unread) ≡ length (places_of unread) → is_told side new ≡ true

-- a side was read on, and this unit was found
pub record ReadsOn (side : Side) (old new : Http) (before after : Unread) (found : Option HttpUnit) : Type 0 where
  pub fits : Fits side new after
  pub other : KeepsOther side old new
  pub ended : after.ended ≡ before.ended
  pub stands : (streams : Both Stream) (units : Both (List HttpUnit)) → StandsFor old streams units → IsUnread side old before (of_side side streams)
      → StandsFor new streams (add side found units)
  pub «unread» : (streams : Both Stream) (units : Both (List HttpUnit)) → StandsFor old streams units → IsUnread side old before (of_side side streams)
      → IsUnread side new after (of_side side streams)
  pub next_is : IfSome found (λ (one : HttpUnit). (streams : Both Stream) (units : Both (List HttpUnit)) → StandsFor old streams units
      → IsUnread side old before (of_side side streams) → next side streams units ≡ Some one)

-- a side has no further unit, few bytes are left, and the places that are left are those that are not read
pub record HasNone (side : Side) (old : Http) (before after : Unread) : Type 0 where
  pub none : (streams : Both Stream) (units : Both (List HttpUnit)) → StandsFor old streams units → IsUnread side old before (of_side side streams)
      → next side streams units ≡ None
  pub few : (streams : Both Stream) (units : Both (List HttpUnit)) → StandsFor old streams units → IsUnread side old before (of_side side streams)
      → length (bytes_of after.bytes) ≤ 65536
  pub left : (streams : Both Stream) (units : Both (List HttpUnit)) → StandsFor old streams units → IsUnread side old before (of_side side streams)
      → places_of after ≡ not_read side streams units

-- what was found
abbrev pub unit_of : Reading → Option HttpUnit
unit_of (Found one) = Some one
unit_of Waits = None
unit_of Used = None

-- where the side waits
abbrev pub OnWaits : Reading → Type 0 → Type 0
OnWaits (Found one) P = Unit {0}
OnWaits Waits P = P
OnWaits Used P = Unit {0}

-- where some of the gap was used
abbrev pub OnUsed : Reading → Type 0 → Type 0
OnUsed (Found one) P = Unit {0}
OnUsed Waits P = Unit {0}
OnUsed Used P = P
