-- The connections of a capture: the segments of one key are cut into instances, and the instances of all keys are numbered in
-- the order in which they began.
use Rattle.std.specs.Prelude.{ℕ, ◌+◌, Bool, true, not, if◌then◌else◌, int_le, List, [], ◌∷◌, ◌++◌, filter, fold, Option, Some, None}
use Rattle.std.specs.List.{flat_map, list_any}
use Rattle.zk_base.specs.declared.time.Moment.{Moment}
use Rattle.zk_conn.specs.declared.key.Key.{Key}
use Rattle.zk_conn.specs.Histories.{last_place, is_earlier}
use Rattle.zk_conn.specs.Instance.{removal_from}
use Rattle.zk_conn.specs.Segment.{key_of, same_key}
use Rattle.zk_traffic.specs.Conversation.{Conversation, unbegun, with_segment}
use Rattle.zk_traffic.specs.Segments.{Segment}
use Rattle.zk_traffic.specs.Steps.{Step, steps}

-- when a conversation is over if no packet comes before
abbrev pub removal : Conversation → Moment
removal c = removal_from c.first c.events

abbrev pub is_over_by : Moment → Conversation → Bool
is_over_by t c = int_le (removal c).0 t.0

-- what a segment goes on with: the latest conversation of its key, or a new one where that is over
abbrev pub joined_by : Option Conversation → Segment → Conversation
joined_by None s = unbegun s
joined_by (Some c) s = if is_over_by s.moment c then unbegun s else c

abbrev pub begins : Option Conversation → Segment → Bool
begins None s = true
begins (Some c) s = is_over_by s.moment c

abbrev pub goes_on : ℕ → Option Conversation → Segment → Option Conversation
goes_on limit latest s = Some (with_segment limit (joined_by latest s) s)

abbrev pub segments_of : Key → List Segment → List Segment
segments_of key segments = filter (λ s. same_key (key_of s.view) key) segments

-- the latest conversation of a key, by the segments of that key alone
unfoldable pub latest : ℕ → Key → List Segment → Option Conversation
latest limit key segments = fold (goes_on limit) None (segments_of key segments)

-- the key of the instance that a segment begins
abbrev pub begun_at : ℕ → Step Segment → List Key
begun_at limit step =
    if begins (latest limit (key_of step.last.view) step.before) step.last then key_of step.last.view ∷ [] else []

-- the keys of all instances, in the order in which they began
unfoldable pub begun : ℕ → List Segment → List Key
begun limit segments = flat_map (begun_at limit) (steps segments)

-- the number of the latest instance of a key, counted from 1 on
abbrev pub number_of : ℕ → Key → List Segment → ℕ
number_of limit key segments = last_place key (begun limit segments)

pub record Instance : Type 0 where
  pub number : ℕ
  pub key : Key
  pub conversation : Conversation

abbrev pub with_number : ℕ → Key → Option Conversation → List Instance
with_number number key None = []
with_number number key (Some c) = record { number = number; key = key; conversation = c } ∷ []

-- those of the instances that are the latest of their keys: their keys don't begin again
abbrev pub instances_from : ℕ → List Segment → ℕ → List Key → List Instance
instances_from limit segments number [] = []
instances_from limit segments number (key ∷ keys) =
    (if list_any (λ other. same_key other key) keys then [] else with_number number key (latest limit key segments)) ++ instances_from limit segments (number + 1) keys

-- the latest instance of each key, in order of their numbers: the earlier ones of a key are over
unfoldable pub instances : ℕ → List Segment → List Instance
instances limit segments = instances_from limit segments 1 (begun limit segments)

-- the instances that are not over by a moment
abbrev pub live_at : ℕ → List Segment → Moment → List Instance
live_at limit segments t = filter (λ i. not (is_over_by t i.conversation)) (instances limit segments)

-- one is removed before another: by moment, and then by number
abbrev pub is_first : Instance → Instance → Bool
is_first a b = is_earlier (removal a.conversation) a.number (removal b.conversation) b.number

abbrev pub insert : Instance → List Instance → List Instance
insert i [] = i ∷ []
insert i (next ∷ rest) = if is_first next i then next ∷ insert i rest else i ∷ next ∷ rest

-- in the order of their removals
abbrev pub in_order : List Instance → List Instance
in_order [] = []
in_order (i ∷ rest) = insert i (in_order rest)

-- the instances that are over between two moments, the latter among them
abbrev pub over_between : ℕ → List Segment → Moment → Moment → List Instance
over_between limit segments from to = filter (λ i. is_over_by to i.conversation) (live_at limit segments from)
