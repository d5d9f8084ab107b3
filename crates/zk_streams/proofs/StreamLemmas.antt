-- The streams of scripts, of which no two are of one log.
use Rattle.std.proofs.Common.{◌≡◌, ◌<◌, ◌==◌, ℕ, zero, suc, Bool, true, false, List, [], ◌∷◌, ◌++◌, map, length, get_or, slice_get, slice_set, Option, Some, None, is_some, refl, sym, ap, ◌∙◌, arith}
use Rattle.std.specs.List.{list_any, position}
use Rattle.std.proofs.lemmas.Bool.Decides.{nat_tests}
use Rattle.std.proofs.lemmas.Option.{slice_get_read}
use Rattle.zk_base.specs.declared.numbers.LogId.{LogId}
use Rattle.zk_typed.specs.Log.{Stream}
use Rattle.zk_typed.specs.Logs.{stream_of}
use Rattle.zk_streams.specs.Streams.{is_of, changed, HasLogsOnce}
use Rattle.zk_streams.proofs.FirstLemmas.{FirstAt, first_at, within_at, none_passes, find_at, find_none, Apart, Asks, map_at, map_none, Apart-set, Apart-append}

-- logs are the same
abbrev same_log : Stream → Stream → Bool
same_log a b = is_of a.id b

as_apart : (streams : List Stream) → HasLogsOnce streams → Apart same_log streams
as_apart [] once = tt
as_apart (one ∷ streams) once = (once.0, as_apart streams once.1)

from_apart : (streams : List Stream) → Apart same_log streams → HasLogsOnce streams
from_apart [] once = tt
from_apart (one ∷ streams) once = (once.0, from_apart streams once.1)

number_is : (a b : ℕ) → (a == b) ≡ true → a ≡ b
number_is a b e = grind (arith, nat_tests)

turned : (a b : ℕ) → (a == b) ≡ (b == a)
turned a b = grind (arith, nat_tests)

asks_log : (id : LogId) → Asks same_log (is_of id)
asks_log id x y e = ap (λ n. y.id.0 == n) (number_is x.id.0 id.0 e)

pub stands_at : (id : LogId) (streams : List Stream) (i : ℕ) (stream : Stream) → position (is_of id) streams ≡ Some i → stream ≡ get_or streams i stream
    → slice_get streams i ≡ Some stream
stands_at id streams i stream at is =
    slice_get_read streams (length streams) i stream refl (within_at (is_of id) streams i (first_at (is_of id) streams i at)) is

pub found_at : (id : LogId) (streams : List Stream) (i : ℕ) (stream : Stream) → position (is_of id) streams ≡ Some i → stream ≡ get_or streams i stream
    → stream_of id streams ≡ Some stream
found_at id streams i stream at is =
    find_at (is_of id) streams i (first_at (is_of id) streams i at) ∙ stands_at id streams i stream at is

pub not_there : (id : LogId) (streams : List Stream) → position (is_of id) streams ≡ None → stream_of id streams ≡ None
not_there id streams at = find_none (is_of id) streams (none_passes (is_of id) streams at)

pub changed_at : (id : LogId) (change : Stream → Stream) (streams : List Stream) (i : ℕ) (stream : Stream) → HasLogsOnce streams → position (is_of id) streams ≡ Some i
    → stream ≡ get_or streams i stream → slice_set streams i (change stream) ≡ changed id change streams
changed_at id change streams i stream once at is =
    sym (map_at same_log (is_of id) change streams i stream (asks_log id) (first_at (is_of id) streams i at) (as_apart streams once) (stands_at id streams i stream at is))

pub changed_none : (id : LogId) (change : Stream → Stream) (streams : List Stream) → position (is_of id) streams ≡ None → streams ≡ changed id change streams
changed_none id change streams at = sym (map_none (is_of id) change streams (none_passes (is_of id) streams at))

-- a stream is changed and stays that of its log
pub once-set : (id : LogId) (streams : List Stream) (i : ℕ) (stream new : Stream) → HasLogsOnce streams → position (is_of id) streams ≡ Some i → stream ≡ get_or streams i stream
    → new.id ≡ stream.id → HasLogsOnce (slice_set streams i new)
once-set id streams i stream new once at is same =
    from_apart (slice_set streams i new) (Apart-set same_log streams i stream new (stands_at id streams i stream at is)
    (λ y. ap (λ (n : LogId). n.0 == y.id.0) same) (λ y. ap (λ (n : LogId). y.id.0 == n.0) same) (as_apart streams once))

-- the stream of a log that had none
pub once-behind : (streams : List Stream) (new : Stream) → HasLogsOnce streams → position (is_of new.id) streams ≡ None → HasLogsOnce (streams ++ new ∷ [])
once-behind streams new once at =
    from_apart (streams ++ new ∷ []) (Apart-append same_log streams new (λ y. turned new.id.0 y.id.0) (none_passes (is_of new.id) streams at) (as_apart streams once))

item_at : {A : Type 0} (p : A → Bool) (xs : List A) (i : ℕ) → FirstAt p xs i → (x : A) × (slice_get xs i ≡ Some x)
item_at p [] i first = absurd first
item_at p (x ∷ xs) zero first = (x, refl)
item_at p (x ∷ xs) (suc i) first = item_at p xs i first.1

some_at : (id : LogId) (streams : List Stream) (place : Option ℕ) → position (is_of id) streams ≡ place → is_some place ≡ true → (stream : Stream) × (stream_of id streams ≡ Some stream)
some_at id streams None at some = absurd (apart some)
  where
    apart : false ≡ true → ⊥
    apart e = cc
some_at id streams (Some i) at some =
    let first = first_at (is_of id) streams i at in
    let stream = item_at (is_of id) streams i first in
    (stream.0, find_at (is_of id) streams i first ∙ stream.1)

-- where a place is found the stream is there
pub is_there : (id : LogId) (streams : List Stream) → is_some (position (is_of id) streams) ≡ true → (stream : Stream) × (stream_of id streams ≡ Some stream)
is_there id streams some = some_at id streams (position (is_of id) streams) refl some

none_of : (place : Option ℕ) → is_some place ≡ false → place ≡ None
none_of None none = refl
none_of (Some i) none = absurd (apart none)
  where
    apart : true ≡ false → ⊥
    apart e = cc

pub no_place : (id : LogId) (streams : List Stream) → is_some (position (is_of id) streams) ≡ false → position (is_of id) streams ≡ None
no_place id streams none = none_of (position (is_of id) streams) none
