-- What the bytes of a head come to.
use Rattle.std.proofs.Common.{◌≡◌, ℕ, zero, suc, ◌+◌, ◌-◌, ◌<◌, ◌≤◌, Bool, true, false, cond, List, [], ◌∷◌, ◌++◌, length, take, drop, replicate, Option, None, Some, refl, sym, ap, subst, ◌∙◌, arith, append_assoc, length-take}
use Rattle.std.specs.Prelude.{nat_lt}
use Rattle.zk_base.specs.Places.{Place}
use Rattle.zk_base.specs.declared.network.Side.{Side}
use Rattle.zk_http.specs.declared.search.Ending.TheVariants as ending
use Rattle.zk_http.specs.declared.search.Search.{Search}
use Rattle.zk_http.specs.declared.units.Head.{Head as MessageHead}
use Rattle.zk_http.specs.declared.units.Reason.{Reason}
use Rattle.zk_http.specs.declared.units.Reason.TheVariants.{Gap, HeadBad, HeadTooLong, TooManyHeaders}
use Rattle.zk_http.specs.declared.units.UnitKind.TheVariants as what
use Rattle.zk_http.specs.Found.{EndsNowhere}
use Rattle.zk_http.specs.Heads.{head, head_limit, head_of, head_or_bad, header_lines, judge}
use Rattle.zk_http.specs.HeadTurns.{HeadShows, judged, kind_of}
use Rattle.zk_http.specs.Lines.{ends_head}
use Rattle.zk_http.specs.Reading.{head_unit, searched}
use Rattle.zk_http.specs.Reads.{Waits, Refuses, later, and_then, gives, refuses, until}
use Rattle.zk_http.specs.Search.{Counts, FindsAt, Knows, KnowsAll}
use Rattle.zk_http.specs.Turns.{places_of}
use Rattle.zk_http.specs.Units.{unit_at}
use Rattle.zk_http.proofs.FollowLaws.{before_gap-places, refused_then, waits_then}
use Rattle.zk_http.proofs.GapLaws.{gap_first}
use Rattle.zk_http.proofs.UntilLaws.{until_found, until_gap, until_long, until_waits}

-- what is judged of a candidate, as a unit behind n places
judged_unit : (side : Side) (text : List ℕ) (n from : ℕ) (places all : List Place)
    → unit_at from (and_then (later n (judge side text places)) (λ found. gives (what.Head found)) all) ≡ Some (record { place = from + n; what = judged side text })
judged_unit side text n from places all = by_count (nat_lt 100 (header_lines text))
  where
    none : from + (n + 0) ≡ from + n
    none = omega arith

    none_more : from + ((n + 0) + 0) ≡ from + n
    none_more = omega arith

    by_head : (found : Option MessageHead)
        → unit_at from (and_then (later n (head_or_bad found places)) (λ found. gives (what.Head found)) all) ≡ Some (record { place = from + n; what = kind_of found })
    by_head None = ap (λ place. Some (record { place = place; what = what.Violation HeadBad })) none
    by_head (Some head) = ap (λ place. Some (record { place = place; what = what.Head head })) none_more

    by_count : (many : Bool)
        → unit_at from (and_then (later n (cond many (refuses TooManyHeaders) (head_or_bad (head_of side text)) places)) (λ found. gives (what.Head found)) all)
        ≡ Some (record { place = from + n; what = cond many (what.Violation TooManyHeaders) (kind_of (head_of side text)) })
    by_count true = ap (λ place. Some (record { place = place; what = what.Violation TooManyHeaders })) none
    by_count false = by_head (head_of side text)

-- a candidate that is there
pub head_shows : (side : Side) (search : Search) (bytes : List ℕ) (n : ℕ) → FindsAt search ending.Head (take head_limit bytes) n
    → HeadShows side n (judged side (take n bytes)) (places_of bytes)
head_shows side search bytes n finds behind from =
    ap (λ answer. unit_at from (and_then (and_then answer (judge side) (places_of bytes ++ behind)) (λ found. gives (what.Head found)) (places_of bytes ++ behind)))
    (until_found search ending.Head head_limit HeadTooLong bytes n behind finds)
    ∙ judged_unit side (take n bytes) n from (drop n (places_of bytes ++ behind)) (places_of bytes ++ behind)

refused_shows : (side : Side) (n : ℕ) (why : Reason) (places : List Place) → ((behind : List Place) → until ends_head head_limit HeadTooLong (places ++ behind) ≡ Refuses n why)
    → HeadShows side n (what.Violation why) places
refused_shows side n why places refuses behind from =
    ap (unit_at from) (refused_then (head side) (λ found. gives (what.Head found)) n why (places ++ behind)
    (refused_then (until ends_head head_limit HeadTooLong) (judge side) n why (places ++ behind) (refuses behind)))

pub long_head_shows : (side : Side) (bytes : List ℕ) → EndsNowhere ending.Head (take head_limit bytes) → head_limit ≤ length bytes
    → HeadShows side head_limit (what.Violation HeadTooLong) (places_of bytes)
long_head_shows side bytes nowhere long =
    refused_shows side head_limit HeadTooLong (places_of bytes) (λ behind. until_long ending.Head head_limit HeadTooLong bytes behind nowhere long)

pub head_waits : (side : Side) (search : Search) (bytes : List ℕ) → KnowsAll search ending.Head (take head_limit bytes) → length bytes < head_limit
    → Knows search ending.Head (searched head_limit (places_of bytes)) × (head_unit side (places_of bytes) ≡ Waits 0)
head_waits side search bytes knows short = (
  subst (λ all. Knows search ending.Head (take head_limit all)) (sym (before_gap-places bytes)) knows.1,
  waits_then (head side) (λ found. gives (what.Head found)) 0 (places_of bytes)
      (waits_then (until ends_head head_limit HeadTooLong) (judge side) 0 (places_of bytes)
      (until_waits search ending.Head head_limit HeadTooLong bytes knows short)),
)

pub head_gap_shows : (side : Side) (bytes : List ℕ) (count : ℕ) → 0 < count → EndsNowhere ending.Head (take head_limit bytes) → length bytes < head_limit
    → HeadShows side (length bytes + 1) (what.Violation Gap) (places_of bytes ++ replicate count None)
head_gap_shows side bytes count some nowhere short =
    subst (λ gap. HeadShows side (length bytes + 1) (what.Violation Gap) (places_of bytes ++ gap)) (sym (gap_first count some))
    (refused_shows side (length bytes + 1) Gap (places_of bytes ++ None ∷ replicate (count - 1) None)
    (λ behind. ap (until ends_head head_limit HeadTooLong) (append_assoc (places_of bytes) (None ∷ replicate (count - 1) None) behind)
    ∙ until_gap ending.Head head_limit HeadTooLong bytes (replicate (count - 1) None ++ behind) nowhere short))

-- the front of the bytes that count
pub taken_within : (n limit : ℕ) (bytes : List ℕ) → n ≤ limit → take n (take limit bytes) ≡ take n bytes
taken_within zero limit bytes le = refl
taken_within (suc n) zero bytes le = absurd (omega arith)
taken_within (suc n) (suc limit) [] le = refl
taken_within (suc n) (suc limit) (first ∷ bytes) le = ap (λ rest. first ∷ rest) (taken_within n limit bytes (omega arith))

-- what a search counted of a candidate
pub counts_found : (search : Search) (bytes : List ℕ) (n : ℕ) → FindsAt search ending.Head (take head_limit bytes) n → Counts search (take n bytes)
counts_found search bytes n finds =
    subst (Counts search) (taken_within n head_limit bytes (omega (arith, finds.within, length-take head_limit bytes))) finds.counts
