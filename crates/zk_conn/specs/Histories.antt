-- Connections over the whole list of what was told: the packets of one key are cut into instances, and the instances of all
-- keys are numbered in the order in which they began.
use Rattle.std.specs.Prelude.{◌≡◌, ℕ, ◌+◌, Bool, true, false, not, ◌&&◌, ◌||◌, List, [], ◌∷◌, ◌++◌, fold, Option, None, Some, if◌then◌else◌, int_le, int_lt, ◌≤ℤ◌, ◌≤◌, nat_lt, All}
use Rattle.std.specs.List.{list_any}
use Rattle.zk_base.specs.declared.time.Moment.{Moment}
use Rattle.zk_conn.specs.declared.conns.Removed.{Removed}
use Rattle.zk_conn.specs.declared.conns.Touched.{Touched}
use Rattle.zk_conn.specs.declared.key.Endpoint.{Endpoint}
use Rattle.zk_conn.specs.declared.key.Key.{Key}
use Rattle.zk_conn.specs.declared.view.L4View.{L4View}
use Rattle.zk_conn.specs.Instance.{opening, Opening, originator, side_of, end_of, is_established, is_reset, removal_moment, facts_of}
use Rattle.zk_conn.specs.Segment.{key_of, same_key}
use Rattle.zk_conn.specs.State.{is_fin}
use Rattle.zk_conn.specs.Told.{Told, Packet, Front, Reached, Removal, Ending, told_of}

-- a packet of that moment comes too late for an instance: at or after its removal moment
abbrev pub is_past : Option Moment → Moment → Bool
is_past None moment = true
is_past (Some removal) moment = int_le removal.0 moment.0

abbrev pub comes_late : List Told → Moment → Bool
comes_late events moment = is_past (removal_moment events) moment

-- an instance with one more event: a packet that comes too late begins a new one
abbrev pub joined_by : List Told → Told → List Told
joined_by events (Packet moment p) =
    if comes_late events moment then Packet moment p ∷ [] else events ++ Packet moment p ∷ []
joined_by events (Front key side front) = events ++ Front key side front ∷ []
joined_by events (Reached key side) = events ++ Reached key side ∷ []
joined_by events (Removal key at) = events ++ Removal key at ∷ []
joined_by events (Ending key last) = events ++ Ending key last ∷ []

-- the latest instance of one key, of what was told of that key
abbrev pub instance_of : List Told → List Told
instance_of told = fold joined_by [] told

-- the latest instance of a key
abbrev pub latest : Key → List Told → List Told
latest key told = instance_of (told_of key told)

abbrev pub is_removal : Told → Bool
is_removal (Packet moment p) = false
is_removal (Front key side front) = false
is_removal (Reached key side) = false
is_removal (Removal key at) = true
is_removal (Ending key last) = true

abbrev pub has_begun : Option Opening → Bool
has_begun None = false
has_begun (Some first) = true

-- an instance that was not removed
abbrev pub is_live : List Told → Bool
is_live events = has_begun (opening events) && not (list_any is_removal events)

-- the key of the instance that an event begins, behind what was told before
abbrev pub begun_by : List Told → Told → List Key
begun_by before (Packet moment p) = if comes_late (latest (key_of p) before) moment then key_of p ∷ [] else []
begun_by before (Front key side front) = []
begun_by before (Reached key side) = []
begun_by before (Removal key at) = []
begun_by before (Ending key last) = []

abbrev pub begun_from : List Told → List Told → List Key
begun_from before [] = []
begun_from before (event ∷ rest) = begun_by before event ++ begun_from (before ++ event ∷ []) rest

-- the keys of all instances, in the order in which they began
abbrev pub begun : List Told → List Key
begun told = begun_from [] told

abbrev pub place_after : Key → ℕ × ℕ → Key → ℕ × ℕ
place_after key seen other = (seen.0 + 1, if same_key other key then seen.0 + 1 else seen.1)

-- the place of the last instance of a key among all, counted from 1 on; 0 where there is none
abbrev pub last_place : Key → List Key → ℕ
last_place key keys = (fold (place_after key) (0, 0) keys).1

-- the number of the latest instance of a key
abbrev pub number_of : Key → List Told → ℕ
number_of key told = last_place key (begun told)

-- the latest instance of the key is live, and has this number
pub record IsLive (told : List Told) (key : Key) (number : ℕ) : Type 0 where
  pub live : is_live (latest key told) ≡ true
  pub number_is : number_of key told ≡ number

-- the removal moment of a live instance
pub record IsDue (told : List Told) (key : Key) (number : ℕ) (at : Moment) : Type 0 where
  pub live : IsLive told key number
  pub at_is : removal_moment (latest key told) ≡ Some at

-- one removal stands before another: by moment, and then by number
abbrev pub is_earlier : Moment → ℕ → Moment → ℕ → Bool
is_earlier at number other_at other = int_lt at.0 other_at.0 || (int_le at.0 other_at.0 && nat_lt number other)

-- no live instance's removal stands before that one's
pub record IsFirstDue (told : List Told) (key : Key) (number : ℕ) (at : Moment) : Type 0 where
  pub due : IsDue told key number at
  pub first : (other_key : Key) (other : ℕ) (other_at : Moment) → IsDue told other_key other other_at
      → is_earlier other_at other at number ≡ false

-- no live instance is to be removed by a moment
abbrev pub NoneDue : List Told → Moment → Type 0
NoneDue told t = (key : Key) (number : ℕ) (at : Moment) → IsDue told key number at → int_le at.0 t.0 ≡ false

-- the event stands at that moment or before it, and is no removal at the end
abbrev pub Precedes : Moment → Told → Type 0
Precedes t (Packet moment p) = moment.0 ≤ℤ t.0
Precedes t (Front key side front) = Unit {0}
Precedes t (Reached key side) = Unit {0}
Precedes t (Removal key at) = at.0 ≤ℤ t.0
Precedes t (Ending key last) = ⊥

-- a packet of that moment may come: none is due by then, nothing told stands later, and the end was not told
pub record MayFollow (told : List Told) (t : Moment) : Type 0 where
  pub none_due : NoneDue told t
  pub in_order : All (Precedes t) told

-- an instance before a packet of it, and with it
abbrev pub touched_by : Endpoint → ℕ → Bool → L4View → List Told → List Told → Touched
touched_by originator number opened p before after = record {
  conn = record { 0 = number };
  side = side_of originator p;
  opened = opened;
  established = is_established originator after && not (is_established originator before);
  reset = is_reset originator after && not (is_reset originator before);
  ended = is_fin (end_of originator (side_of originator p) after) && not (is_fin (end_of originator (side_of originator p) before));
}

-- the instance that a packet belongs to, as it was before the packet: none where the packet begins it
abbrev pub before_packet : List Told → Moment → List Told
before_packet events t = if comes_late events t then [] else events

abbrev pub touched_in : ℕ → List Told → Moment → L4View → Option Opening → Touched
touched_in number events t p None = touched_by (originator p) number true p [] (Packet t p ∷ [])
touched_in number events t p (Some first) =
    touched_by (originator first.packet) number false p events (events ++ Packet t p ∷ [])

-- what one more packet does
abbrev pub touched_of : List Told → Moment → L4View → Touched
touched_of told t p =
    touched_in (number_of (key_of p) (told ++ Packet t p ∷ [])) (latest (key_of p) told) t p
    (opening (before_packet (latest (key_of p) told) t))

-- no instance is live
abbrev pub NoneLive : List Told → Type 0
NoneLive told = (key : Key) → is_live (latest key told) ≡ false

-- the removal by a moment of the live instance whose removal is first
pub record IsRemoval (told : List Told) (t : Moment) (removed : Removed) : Type 0 where
  pub key : Key
  pub first : IsFirstDue told key removed.conn.0 removed.at
  pub due : int_le removed.at.0 t.0 ≡ true
  pub facts : Some removed.facts ≡ facts_of (latest key told)

-- the removal at the end of the live instance of least number
pub record IsEnding (told : List Told) (last : Moment) (removed : Removed) : Type 0 where
  pub key : Key
  pub live : IsLive told key removed.conn.0
  pub least : (other_key : Key) (other : ℕ) → IsLive told other_key other → removed.conn.0 ≤ other
  pub at_last : removed.at ≡ last
  pub facts : Some removed.facts ≡ facts_of (latest key told)
