-- The fragments of one datagram, in the order in which they were captured (RFC 791, section 3.2, but for two rules of this
-- project's own: of two copies of a byte the first stands, and a group lasts 30 seconds from its first fragment on).
use Rattle.std.specs.Prelude.{ℕ, Bool, false, not, List, [], ◌∷◌, ◌++◌, map, find, Option, None, Some, is_some, unwrap_or, if◌then◌else◌, ◌+ℤ◌, pos, int_lt}
use Rattle.std.specs.List.{list_all, range_with_len}
use Rattle.std.specs.Option.{option_map, option_and_then}
use Rattle.zk_base.specs.declared.time.Moment.{Moment}
use Rattle.zk_frag.specs.Fragment.{Fragment, byte_of, end}

-- what there is at the first n places
abbrev pub bytes_below : (ℕ → Option ℕ) → ℕ → List (Option ℕ)
bytes_below byte_at n = map byte_at (range_with_len 0 n)

-- an end is named, and each place before it has a byte
abbrev pub covered_to : (ℕ → Option ℕ) → Option ℕ → Bool
covered_to byte_at None = false
covered_to byte_at (Some n) = list_all is_some (bytes_below byte_at n)

-- the bytes from place 0 to the end
abbrev pub bytes_to : (ℕ → Option ℕ) → Option ℕ → List ℕ
bytes_to byte_at end = map (λ byte. unwrap_or byte 0) (bytes_below byte_at (unwrap_or end 0))

-- more than 30 seconds later
abbrev pub is_later : Moment → Moment → Bool
is_later since moment = int_lt (since.0 +ℤ pos 30000000) moment.0

module _ {K T : Type 0} where
  -- the fragment whose byte stands at a place: the first that has one there
  abbrev pub holder_of : List (Fragment K T) → ℕ → Option (Fragment K T)
  holder_of group place = find (λ fragment. is_some (byte_of fragment.place fragment.payload place)) group

  -- the byte at a place
  abbrev pub byte_at : List (Fragment K T) → ℕ → Option ℕ
  byte_at group place = option_and_then (λ fragment. byte_of fragment.place fragment.payload place) (holder_of group place)

  -- the tag of the fragment whose byte 0 stands
  abbrev pub tag_of : List (Fragment K T) → Option T
  tag_of group = option_map (λ fragment. fragment.tag) (holder_of group 0)

  -- the datagram's end: the first fragment without MF names it
  abbrev pub named_end : List (Fragment K T) → Option ℕ
  named_end group = option_map end (find (λ fragment. not fragment.more) group)

  -- the datagram is whole
  abbrev pub is_covered : List (Fragment K T) → Bool
  is_covered group = covered_to (byte_at group) (named_end group)

  -- its bytes
  abbrev pub datagram : List (Fragment K T) → List ℕ
  datagram group = bytes_to (byte_at group) (named_end group)

  abbrev pub first_moment : List (Fragment K T) → Option Moment
  first_moment [] = None
  first_moment (first ∷ rest) = Some first.moment

  -- the fragment comes more than 30 seconds after the group's first
  abbrev pub comes_late : List (Fragment K T) → Fragment K T → Bool
  comes_late [] fragment = false
  comes_late (first ∷ rest) fragment = is_later first.moment fragment.moment

  -- the group that a fragment then belongs to: it is dropped for a new one where that comes late
  abbrev pub joined_by : List (Fragment K T) → Fragment K T → List (Fragment K T)
  joined_by group fragment = if comes_late group fragment then fragment ∷ [] else group ++ fragment ∷ []
