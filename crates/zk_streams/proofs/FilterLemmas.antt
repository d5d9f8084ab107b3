-- The filters of a stream, of which no two have one name.
use Rattle.std.proofs.Common.{◌≡◌, ◌<◌, ◌+◌, ℕ, zero, suc, Bool, true, false, not, if◌then◌else◌, List, [], ◌∷◌, ◌++◌, map, take, length, remove, slice_get, slice_set, Some, None, refl, sym, ap, subst, ◌∙◌, arith, bytes_eq}
use Rattle.std.specs.List.{filter, list_any, position}
use Rattle.std.proofs.lemmas.Slice.Eq.{bytes_eq-Decides}
use Rattle.zk_typed.specs.Log.{Stream, Filter}
use Rattle.zk_typed.specs.Logs.{is_named, has_filter, with_filter, without_filter, all_columns}
use Rattle.zk_streams.specs.Kept.{HasNamesOnce}
use Rattle.zk_streams.proofs.FirstLemmas.{FirstAt, first_at, none_passes, any_at, Apart, Asks, map_at, filter_at, filter_none, Apart-set, Apart-append, Apart-remove}

-- names are the same
abbrev same_name : Filter → Filter → Bool
same_name a b = is_named a.name b

as_apart : (filters : List Filter) → HasNamesOnce filters → Apart same_name filters
as_apart [] once = tt
as_apart (one ∷ filters) once = (once.0, as_apart filters once.1)

from_apart : (filters : List Filter) → Apart same_name filters → HasNamesOnce filters
from_apart [] once = tt
from_apart (one ∷ filters) once = (once.0, from_apart filters once.1)

name_is : (name : List ℕ) (one : Filter) → is_named name one ≡ true → one.name ≡ name
name_is name one e = (bytes_eq-Decides one.name name).0 e

asks_name : (name : List ℕ) → Asks same_name (is_named name)
asks_name name x y e = ap (λ n. is_named n y) (name_is name x e)

turned_eq : (a b : List ℕ) (p q : Bool) → bytes_eq a b ≡ p → bytes_eq b a ≡ q → p ≡ q
turned_eq a b true true first second = refl
turned_eq a b false false first second = refl
turned_eq a b true false first second = sym ((bytes_eq-Decides b a).1 (sym ((bytes_eq-Decides a b).0 first))) ∙ second
turned_eq a b false true first second = sym first ∙ (bytes_eq-Decides a b).1 (sym ((bytes_eq-Decides b a).0 second))

turned : (a b : Filter) → same_name b a ≡ same_name a b
turned a b = turned_eq a.name b.name (bytes_eq a.name b.name) (bytes_eq b.name a.name) refl refl

there : (p : Filter → Bool) (filters : List Filter) (i : ℕ) → FirstAt p filters i → (one : Filter) × (slice_get filters i ≡ Some one) × (p one ≡ true)
there p [] i first = absurd first
there p (one ∷ filters) zero first = (one, refl, first)
there p (one ∷ filters) (suc i) first = there p filters i first.1

-- a filter in the place of the one with its name
pub put_there : (filters : List Filter) (i : ℕ) (one : Filter) → HasNamesOnce filters → position (is_named one.name) filters ≡ Some i
    → (list_any (is_named one.name) filters ≡ true) × (map (λ other. if is_named one.name other then one else other) filters ≡ slice_set filters i one) × HasNamesOnce (slice_set filters i one)
put_there filters i one once at =
    let first = first_at (is_named one.name) filters i at in
    let old = there (is_named one.name) filters i first in
    let same : old.0.name ≡ one.name = name_is one.name old.0 old.2 in (
      any_at (is_named one.name) filters i first,
      map_at same_name (is_named one.name) (λ other. one) filters i old.0 (asks_name one.name) first (as_apart filters once) old.1,
      from_apart (slice_set filters i one) (Apart-set same_name filters i old.0 one old.1 (λ y. ap (λ n. bytes_eq n y.name) (sym same)) (λ y. ap (λ n. bytes_eq y.name n) (sym same)) (as_apart filters once)),
    )

-- a filter behind the others
pub put_behind : (filters : List Filter) (one : Filter) → HasNamesOnce filters → position (is_named one.name) filters ≡ None
    → (list_any (is_named one.name) filters ≡ false) × HasNamesOnce (filters ++ one ∷ [])
put_behind filters one once at =
    let none = none_passes (is_named one.name) filters at in
    (none, from_apart (filters ++ one ∷ []) (Apart-append same_name filters one (λ y. turned one y) none (as_apart filters once)))

-- the filter of a name is gone
pub taken_away : (filters : List Filter) (i : ℕ) (name : List ℕ) → HasNamesOnce filters → position (is_named name) filters ≡ Some i
    → (list_any (is_named name) filters ≡ true) × (filter (λ one. not (is_named name one)) filters ≡ remove filters i) × HasNamesOnce (remove filters i)
taken_away filters i name once at =
    let first = first_at (is_named name) filters i at in
    (any_at (is_named name) filters i first, filter_at same_name (is_named name) filters i (asks_name name) first (as_apart filters once), from_apart (remove filters i) (Apart-remove same_name filters i (as_apart filters once)))

-- Streams ----------------------------------------------------------------------------------------------------------

pub stream_put : (stream : Stream) (i : ℕ) (one : Filter) → HasNamesOnce stream.filters → position (is_named one.name) stream.filters ≡ Some i
    → record stream { filters = slice_set stream.filters i one } ≡ with_filter one stream
stream_put stream i one once at =
    let put = put_there stream.filters i one once at in
    ap (λ filters. record stream { filters = filters })
    (sym put.1 ∙ sym (ap (λ b. if b then map (λ other. if is_named one.name other then one else other) stream.filters else stream.filters ++ one ∷ []) put.0))

pub stream_put_behind : (stream : Stream) (one : Filter) → HasNamesOnce stream.filters → position (is_named one.name) stream.filters ≡ None
    → record stream { filters = stream.filters ++ one ∷ [] } ≡ with_filter one stream
stream_put_behind stream one once at =
    ap (λ filters. record stream { filters = filters })
    (sym (ap (λ b. if b then map (λ other. if is_named one.name other then one else other) stream.filters else stream.filters ++ one ∷ []) (put_behind stream.filters one once at).0))

pub stream_without : (stream : Stream) (i : ℕ) (name : List ℕ) → HasNamesOnce stream.filters → position (is_named name) stream.filters ≡ Some i
    → record stream { filters = remove stream.filters i } ≡ without_filter name stream
stream_without stream i name once at = ap (λ filters. record stream { filters = filters }) (sym (taken_away stream.filters i name once at).1)

pub stream_with_all : (stream : Stream) (name : List ℕ) → position (is_named name) stream.filters ≡ None → stream ≡ without_filter name stream
stream_with_all stream name at =
    ap (λ filters. record stream { filters = filters }) (sym (filter_none (is_named name) stream.filters (none_passes (is_named name) stream.filters at)))
