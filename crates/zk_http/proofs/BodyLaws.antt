-- What has come of a body stays when more places come.
use Rattle.std.proofs.Common.{◌≡◌, ℕ, zero, suc, ◌+◌, ◌≤◌, List, [], ◌∷◌, ◌++◌, length, take, drop, refl, ap, ◌∙◌, arith, length-append}
use Rattle.std.proofs.lemmas.List.{drop-append-le}
use Rattle.zk_base.specs.Places.{Place}
use Rattle.zk_http.specs.declared.body.Body.{Body}
use Rattle.zk_http.specs.declared.body.Body.TheVariants.{Empty, Length, Chunked, ToEnd, Tunnels, Unknown}
use Rattle.zk_http.specs.BodyBytes.{BodiesGrow, body_places, chunked_data, data_behind, data_by, data_in, data_left, data_of_chunks, data_of_size}
use Rattle.zk_http.specs.Cases.{Case, Before, Within, Held, Over, case_of}
use Rattle.zk_http.specs.Chunks.{chunk_line, line_break}
use Rattle.zk_http.specs.Growth.{GoesOn}
use Rattle.zk_http.specs.Places.{of_side}
use Rattle.zk_http.specs.Reads.{Answer, Waits, Gives, Refuses, Reads}
use Rattle.zk_http.specs.Units.{place}
use Rattle.zk_http.proofs.DataLaws.{agree}
use Rattle.zk_http.proofs.ReadLaws.{Decides, IsWithin, Stays}
use Rattle.zk_http.proofs.UnitLaws.{chunk_line_decides, line_break_decides}

-- ---- chunks

behind_grows : {A : Type 0} (read : Reads A) (data_of : A → List Place → List Place) → Decides read
    → ((value : A) (places behind : List Place) → GoesOn (data_of value places) (data_of value (places ++ behind)))
    → (places behind : List Place) → GoesOn (data_behind (read places) data_of places) (data_behind (read (places ++ behind)) data_of (places ++ behind))
behind_grows {A} read data_of decides each places behind = by_answer (read places) (read (places ++ behind)) (decides.within places) (decides.stays places behind)
  where
    by_answer : (early late : Answer A) → IsWithin early (length places) → Stays early late
        → GoesOn (data_behind early data_of places) (data_behind late data_of (places ++ behind))
    by_answer (Waits used) late within stays = (data_behind late data_of (places ++ behind), refl)
    by_answer (Refuses used why) late within stays = (data_behind late data_of (places ++ behind), refl)
    by_answer (Gives used value) late within stays =
        let more = each value (drop used places) behind in (
          more.0,
          ap (λ answer. data_behind answer data_of (places ++ behind)) stays ∙ ap (data_of value) (drop-append-le used places behind within) ∙ more.1,
        )

left_grows : (others : List Place → List Place) → ((places behind : List Place) → GoesOn (others places) (others (places ++ behind)))
    → (left : ℕ) (places behind : List Place) → GoesOn (data_left others left places) (data_left others left (places ++ behind))
left_grows others each zero places behind = behind_grows line_break (λ _. others) line_break_decides (λ _. each) places behind
left_grows others each (suc left) [] behind = (data_left others (suc left) behind, refl)
left_grows others each (suc left) (first ∷ places) behind =
    let more = left_grows others each left places behind in
    (more.0, ap (λ rest. first ∷ rest) more.1)

size_grows : (others : List Place → List Place) → ((places behind : List Place) → GoesOn (others places) (others (places ++ behind)))
    → (size : ℕ) (places behind : List Place) → GoesOn (data_of_size others size places) (data_of_size others size (places ++ behind))
size_grows others each zero places behind = ([], refl)
size_grows others each (suc n) places behind = left_grows others each (suc n) places behind

chunks_grow : (count : ℕ) (places behind : List Place) → GoesOn (data_of_chunks count places) (data_of_chunks count (places ++ behind))
chunks_grow zero places behind = ([], refl)
chunks_grow (suc count) places behind =
    behind_grows chunk_line (data_of_size (data_of_chunks count)) chunk_line_decides (size_grows (data_of_chunks count) (chunks_grow count)) places behind

chunked_grows : (places behind : List Place) → GoesOn (chunked_data places) (chunked_data (places ++ behind))
unfolding chunked_data
chunked_grows places behind =
    let count = length (places ++ behind) + 1 in
    let more = chunks_grow count places behind in
    let same : data_of_chunks count places ≡ data_of_chunks (length places + 1) places =
    agree count (length places + 1) places (omega (arith, length-append places behind)) (omega arith) in
    (more.0, more.1 ∙ ap (λ first. first ++ more.0) same)

-- ---- bodies

take_more : (n m : ℕ) (places behind : List Place) → n ≤ m → GoesOn (take n places) (take m (places ++ behind))
take_more zero m places behind le = (take m (places ++ behind), refl)
take_more (suc n) zero places behind le = absurd (omega arith)
take_more (suc n) (suc m) [] behind le = (take (suc m) behind, refl)
take_more (suc n) (suc m) (first ∷ places) behind le =
    let more = take_more n m places behind (omega arith) in
    (more.0, ap (λ rest. first ∷ rest) more.1)

drop_more : (n : ℕ) (places behind : List Place) → GoesOn (drop n places) (drop n (places ++ behind))
drop_more zero places behind = (behind, refl)
drop_more (suc n) [] behind = (drop (suc n) behind, refl)
drop_more (suc n) (first ∷ places) behind = drop_more n places behind

data_grows : (body : Body) (places behind : List Place) → GoesOn (data_in body places) (data_in body (places ++ behind))
data_grows Empty places behind = ([], refl)
data_grows (Length n) places behind = take_more n n places behind (omega arith)
data_grows Chunked places behind = chunked_grows places behind
data_grows ToEnd places behind = (behind, refl)
data_grows Tunnels places behind = ([], refl)
data_grows (Unknown why) places behind = ([], refl)

by_grows : (case : Case) (places behind : List Place) → GoesOn (data_by case places) (data_by case (places ++ behind))
by_grows Before places behind = ([], refl)
by_grows (Within body) places behind = data_grows body places behind
by_grows Held places behind = ([], refl)
by_grows Over places behind = ([], refl)

pub bodies_grow : BodiesGrow
unfolding body_places
bodies_grow side early late units n m grows le =
    let own = of_side side units in
    let case = case_of side units in
    let taken = take_more n m (of_side side early).places grows.behind le in
    let front = take n (of_side side early).places in
    let all : take m (of_side side late).places ≡ front ++ taken.0 = ap (take m) grows.places ∙ taken.1 in
    let left = drop_more (place own) front taken.0 in
    let more = by_grows case (drop (place own) front) left.0 in
    (more.0, ap (λ all. data_by case (drop (place own) all)) all ∙ ap (data_by case) left.1 ∙ more.1)
