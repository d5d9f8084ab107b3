-- Where the texts stand that declared types stand for, told by places that are checked one by one.
use Rattle.std.specs.Prelude.{◌≡◌, ℕ, Bool, true, false, not, ◌&&◌, List, length, Option, Some, None, is_some, slice_get, nat_eq, nat_le, nat_lt, if◌then◌else◌}
use Rattle.zk_typed.specs.Resolving.{Scripts}
use Rattle.zk_scope.specs.declared.ends.End.{End}
use Rattle.zk_scope.specs.Leading.{next_of, steps, text_at}

-- where the text stands that the text of the declared type at a place stands for, if that is a name
abbrev pub next_at : Scripts → ℕ → Option ℕ
next_at scripts place = if is_some (next_of scripts (text_at scripts.names place)) then slice_get (steps scripts.names place) 0 else None

abbrev pub goes_on : End → Option End → Bool
goes_on end None = false
goes_on end (Some other) = if end.endless then other.endless else (not other.endless && (nat_eq other.place end.place && nat_lt other.steps end.steps))

-- what is told of a place ends there, or is told of the next one too
abbrev pub is_end : List End → ℕ → Option ℕ → End → Bool
is_end ends place None end = not end.endless && nat_eq end.place place
is_end ends place (Some next) end = goes_on end (slice_get ends next)

abbrev pub end_of : End → Option ℕ
end_of end = if end.endless then None else Some end.place

-- where each ends is told, and it is no further than there are names
abbrev pub AreEnds : List End → Scripts → Type 0
AreEnds ends scripts = (place : ℕ) (end : End) → slice_get ends place ≡ Some end → (nat_le end.steps (length scripts.names) && is_end ends place (next_at scripts place) end) ≡ true

-- where each goes on, of as many as were looked at
abbrev pub AreNexts : List (Option ℕ) → Scripts → Type 0
AreNexts nexts scripts = (place : ℕ) (next : Option ℕ) → slice_get nexts place ≡ Some next → next ≡ next_at scripts place
