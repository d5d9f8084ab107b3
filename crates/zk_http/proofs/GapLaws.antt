-- What a gap comes to behind bytes that were looked at.
use Rattle.std.proofs.Common.{◌≡◌, ℕ, zero, suc, ◌+◌, ◌-◌, ◌<◌, Bool, List, [], ◌∷◌, ◌++◌, length, take, replicate, None, Some, refl, sym, ap, subst, ◌∙◌, arith}
use Rattle.std.proofs.lemmas.List.{append-nil}
use Rattle.zk_base.specs.Places.{Place, bytes_before_gap}
use Rattle.zk_http.specs.declared.search.Ending.{Ending}
use Rattle.zk_http.specs.declared.search.Search.{Search}
use Rattle.zk_http.specs.declared.state.Part.TheVariants.{Feed, Return, Size, Trailer}
use Rattle.zk_http.specs.declared.state.Reading.{Reading}
use Rattle.zk_http.specs.declared.turn.Turn.{Turn}
use Rattle.zk_http.specs.declared.turn.Turn.TheVariants.{On, Waits, Tells}
use Rattle.zk_http.specs.declared.units.Reason.TheVariants.{Gap}
use Rattle.zk_http.specs.declared.units.UnitKind.TheVariants as what
use Rattle.zk_http.specs.Chunks.{chunk_line_limit}
use Rattle.zk_http.specs.Heads.{head_limit}
use Rattle.zk_http.specs.Reading.{KnowsIn, means, searched}
use Rattle.zk_http.specs.Search.{Knows, KnowsAll}
use Rattle.zk_http.specs.Turns.{HasCounts, HasGapCounts, IsTurn, PassesAll, Shows, places_of}
use Rattle.zk_http.proofs.ChunkedLaws.{line_gap_shows, trailer_gap_shows}
use Rattle.zk_http.specs.Units.{unit_at}
use Rattle.zk_http.proofs.FollowLaws.{before_gap-append}
use Rattle.zk_http.proofs.TurnLaws.{shown_refused}
use Rattle.zk_http.proofs.UntilLaws.{all_taken}

-- a gap has a first place
pub gap_first : (count : ℕ) → 0 < count → replicate {A = Place} count None ≡ None ∷ replicate (count - 1) None
gap_first zero some = absurd (omega arith)
gap_first (suc count) some = let one : count ≡ suc count - 1 = omega arith in ap (λ n. None ∷ replicate n None) one

pub before_gap-gap : (bytes : List ℕ) (count : ℕ) → 0 < count → bytes_before_gap (places_of bytes ++ replicate count None) ≡ bytes
before_gap-gap bytes count some =
    ap (λ gap. bytes_before_gap (places_of bytes ++ gap)) (gap_first count some)
    ∙ before_gap-append bytes (None ∷ replicate (count - 1) None) ∙ append-nil bytes

-- what was looked through are all the bytes before the gap
pub knows_before : (search : Search) (ending : Ending) (limit : ℕ) (bytes : List ℕ) (count : ℕ) → 0 < count
    → Knows search ending (searched limit (places_of bytes ++ replicate count None)) → search.seen ≡ length bytes → length bytes < limit
    → KnowsAll search ending (take limit bytes)
knows_before search ending limit bytes count some knows seen short = (
  seen ∙ sym (ap length (all_taken limit bytes short)),
  subst (λ all. Knows search ending (take limit all)) (before_gap-gap bytes count some) knows,
)

pub none_left : (bytes : List ℕ) → length bytes ≡ 0 → bytes ≡ []
none_left [] is = refl
none_left (first ∷ bytes) is = absurd (omega arith)

pub size_gap_shows : (reading : Reading) (told : Bool) (search : Search) (bytes : List ℕ) (unused count : ℕ) → reading.part ≡ Size search → 0 < count
    → search.seen ≡ unused → unused < chunk_line_limit → length bytes ≡ unused → KnowsIn reading.part (places_of bytes ++ replicate count None)
    → Shows reading told (unused + 1) (what.Violation Gap) (places_of bytes ++ replicate count None)
size_gap_shows reading told search bytes unused count is some seen short all knows =
    let known = knows_before search _ chunk_line_limit bytes count some (subst (λ part. KnowsIn part (places_of bytes ++ replicate count None)) is knows)
    (omega arith) (omega arith) in
    subst (λ n. Shows reading told (n + 1) (what.Violation Gap) (places_of bytes ++ replicate count None)) all
    (subst (λ gap. Shows reading told (length bytes + 1) (what.Violation Gap) (places_of bytes ++ gap)) (sym (gap_first count some))
    (line_gap_shows reading told search search bytes (replicate (count - 1) None) is known (omega arith)))

pub part_gap_shows : (reading : Reading) (told : Bool) (search : Search) (bytes : List ℕ) (unused count : ℕ) → reading.part ≡ Trailer search → 0 < count
    → search.seen ≡ unused → unused < head_limit → length bytes ≡ unused → KnowsIn reading.part (places_of bytes ++ replicate count None)
    → Shows reading told (unused + 1) (what.Violation Gap) (places_of bytes ++ replicate count None)
part_gap_shows reading told search bytes unused count is some seen short all knows =
    let known = knows_before search _ head_limit bytes count some (subst (λ part. KnowsIn part (places_of bytes ++ replicate count None)) is knows)
    (omega arith) (omega arith) in
    subst (λ n. Shows reading told (n + 1) (what.Violation Gap) (places_of bytes ++ replicate count None)) all
    (subst (λ gap. Shows reading told (length bytes + 1) (what.Violation Gap) (places_of bytes ++ gap)) (sym (gap_first count some))
    (trailer_gap_shows reading told search search bytes (replicate (count - 1) None) is known (omega arith)))

-- a line end behind a chunk that begins with a gap
pub return_gap_shows : (reading : Reading) (told : Bool) (bytes : List ℕ) (unused count : ℕ) → reading.part ≡ Return → 0 < count → unused ≡ 0 → length bytes ≡ unused
    → Shows reading told (unused + 1) (what.Violation Gap) (places_of bytes ++ replicate count None)
return_gap_shows reading told bytes unused count is some none all ended behind from ends =
    let first : (places_of bytes ++ replicate count None) ++ behind ≡ None ∷ (replicate (count - 1) None ++ behind) =
    ap (λ bytes. (places_of bytes ++ replicate count None) ++ behind) (none_left bytes (all ∙ none)) ∙ ap (λ gap. gap ++ behind) (gap_first count some) in
    let one : 1 ≡ unused + 1 = omega arith in
    ap (λ places. unit_at from (means reading ended places)) first
    ∙ shown_refused reading Return ended (None ∷ (replicate (count - 1) None ++ behind)) 1 from Gap is refl
    ∙ ap (λ n. Some (record { place = from + n; what = what.Violation Gap })) one

pub feed_gap_shows : (reading : Reading) (told : Bool) (bytes : List ℕ) (unused count : ℕ) → reading.part ≡ Feed → 0 < count → unused ≡ 0 → length bytes ≡ unused
    → Shows reading told (unused + 1) (what.Violation Gap) (places_of bytes ++ replicate count None)
feed_gap_shows reading told bytes unused count is some none all ended behind from ends =
    let first : (places_of bytes ++ replicate count None) ++ behind ≡ None ∷ (replicate (count - 1) None ++ behind) =
    ap (λ bytes. (places_of bytes ++ replicate count None) ++ behind) (none_left bytes (all ∙ none)) ∙ ap (λ gap. gap ++ behind) (gap_first count some) in
    let one : 1 ≡ unused + 1 = omega arith in
    ap (λ places. unit_at from (means reading ended places)) first
    ∙ shown_refused reading Feed ended (None ∷ (replicate (count - 1) None ++ behind)) 1 from Gap is refl
    ∙ ap (λ n. Some (record { place = from + n; what = what.Violation Gap })) one

-- no bytes stand before the gap
pub turn_in_gap : (old : Reading) (told : Bool) (bytes : List ℕ) (unused count : ℕ) (turn : Turn) → unused ≡ 0 → length bytes ≡ unused
    → IsTurn old told (replicate count None) turn → IsTurn old told (places_of bytes ++ replicate count None) turn
turn_in_gap old told bytes unused count turn none all is =
    subst (λ bytes. IsTurn old told (places_of bytes ++ replicate count None) turn) (sym (none_left bytes (all ∙ none))) is

-- how much of a gap was read, where no bytes stand before it
pub gap_counts : (old : Reading) (unused count : ℕ) (turn : Turn) → unused ≡ 0 → HasCounts old count turn → PassesAll count count turn
    → HasGapCounts old unused count turn
gap_counts old unused count (On n new) none counts all = (all, none, counts.0)
gap_counts old unused count (Waits n new) none counts all = (all, none, counts.0)
gap_counts old unused count (Tells n kind) none counts all = (omega arith, counts.1)
