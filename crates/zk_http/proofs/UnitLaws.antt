-- What is decided of the places that follow a side's last unit stays when more places come.
use Rattle.std.proofs.Common.{◌≡◌, ℕ, zero, suc, ◌+◌, Bool, true, false, cond, List, [], ◌++◌, length, Option, None, Some, refl, subst, arith, length-append}
use Rattle.std.specs.Prelude.{nat_lt}
use Rattle.std.proofs.lemmas.Bool.{ltb-true}
use Rattle.std.proofs.lemmas.List.{append-nil}
use Rattle.httparse.specs.Ascii.{carriage_return, line_feed}
use Rattle.zk_base.specs.declared.network.Side.{Side}
use Rattle.zk_http.specs.declared.units.Head.{Head as MessageHead}
use Rattle.zk_http.specs.declared.units.Reason.TheVariants.{HeadTooLong, HeadBad, TooManyHeaders, ChunkBad, Unpaired}
use Rattle.zk_http.specs.declared.units.UnitKind.{UnitKind}
use Rattle.zk_http.specs.declared.units.UnitKind.TheVariants.{Head, Done}
use Rattle.zk_http.specs.declared.body.Body.{Body}
use Rattle.zk_http.specs.declared.body.Body.TheVariants.{Empty, Length, Chunked, ToEnd, Tunnels, Unknown}
use Rattle.zk_http.specs.Cases.{Case, Before, Within, Held, Over}
use Rattle.zk_http.specs.Chunks.{size_of, size_or_bad, chunk_line_limit, chunk_line, Amount, more, line_break, trailer, chunk, chunks, chunked}
use Rattle.zk_http.specs.Heads.{head_of, head_or_bad, head_limit, header_lines, judge, head}
use Rattle.zk_http.specs.Lines.{ends_line, ends_section, ends_head}
use Rattle.zk_base.specs.Places.{Place}
use Rattle.zk_http.specs.Reads.{Answer, Waits, Gives, Refuses, Reads, ◌>>=◌, and_then, gives, refuses, any_places, exactly, until}
use Rattle.zk_http.specs.Units.{held, decide_body, decide}
use Rattle.zk_http.proofs.ReadLaws.{IsWithin, Stays, Decides, stays_same, stays_along, then_decides, gives_decides, refuses_decides, either_decides, exactly_decides, any_places_decides, until_decides, later_stays}

-- ---- heads

head_or_bad_decides : (found : Option MessageHead) → Decides (head_or_bad found)
head_or_bad_decides None = refuses_decides HeadBad
head_or_bad_decides (Some found) = gives_decides found

judge_decides : (side : Side) (text : List ℕ) → Decides (judge side text)
judge_decides side text =
    either_decides (nat_lt 100 (header_lines text)) (refuses TooManyHeaders) (head_or_bad (head_of side text))
    (refuses_decides TooManyHeaders) (head_or_bad_decides (head_of side text))

pub head_decides : (side : Side) → Decides (head side)
head_decides side = then_decides (until ends_head head_limit HeadTooLong) (judge side) (until_decides ends_head head_limit HeadTooLong) (judge_decides side)

-- ---- chunks

size_or_bad_decides : (found : Option ℕ) → Decides (size_or_bad found)
size_or_bad_decides None = refuses_decides ChunkBad
size_or_bad_decides (Some size) = gives_decides size

pub chunk_line_decides : Decides chunk_line
chunk_line_decides =
    then_decides (until ends_line chunk_line_limit ChunkBad) (λ text. size_or_bad (size_of text))
    (until_decides ends_line chunk_line_limit ChunkBad) (λ text. size_or_bad_decides (size_of text))

pub line_break_decides : Decides line_break
line_break_decides =
    then_decides (exactly carriage_return ChunkBad) (λ _. exactly line_feed ChunkBad) (exactly_decides carriage_return ChunkBad)
    (λ _. exactly_decides line_feed ChunkBad)

pub trailer_decides : Decides trailer
trailer_decides = until_decides ends_section head_limit ChunkBad

chunk_decides : (others : Amount → Reads Amount) → ((amount : Amount) → Decides (others amount))
    → (amount : Amount) (size : ℕ) → Decides (chunk others amount size)
chunk_decides others each amount zero = then_decides trailer (λ _. gives amount) trailer_decides (λ _. gives_decides amount)
chunk_decides others each amount (suc n) =
    then_decides (any_places (suc n)) (λ gaps. line_break >>= λ _. others (more (suc n) gaps amount)) (any_places_decides (suc n))
    (λ gaps. then_decides line_break (λ _. others (more (suc n) gaps amount)) line_break_decides (λ _. each (more (suc n) gaps amount)))

chunks_decide : (count : ℕ) (amount : Amount) → Decides (chunks count amount)
chunks_decide zero amount = record { within = λ places. tt; stays = λ places behind. tt }
chunks_decide (suc count) amount =
    let all = then_decides chunk_line (chunk (chunks count) amount) chunk_line_decides (chunk_decides (chunks count) (chunks_decide count) amount) in
    record { within = all.within; stays = all.stays }

-- a form that goes on with another gives what it gave, where the other does
then_stays : {A B : Type 0} (answer : Answer A) (next again : A → Reads B) (places : List Place)
    → ((value : A) (rest : List Place) → Stays (next value rest) (again value rest))
    → Stays (and_then answer next places) (and_then answer again places)
then_stays (Waits used) next again places each = tt
then_stays (Gives used value) next again places each = later_stays used _ _ (each value _)
then_stays (Refuses used reason) next again places each = refl

chunk_stays : (others again : Amount → Reads Amount) → ((amount : Amount) (places : List Place) → Stays (others amount places) (again amount places))
    → (amount : Amount) (size : ℕ) (places : List Place) → Stays (chunk others amount size places) (chunk again amount size places)
chunk_stays others again each amount zero places = stays_same (chunk others amount zero places)
chunk_stays others again each amount (suc n) places =
    then_stays (any_places (suc n) places) (λ gaps. line_break >>= λ _. others (more (suc n) gaps amount)) (λ gaps. line_break >>= λ _. again (more (suc n) gaps amount)) places
    (λ gaps rest. then_stays (line_break rest) (λ _. others (more (suc n) gaps amount)) (λ _. again (more (suc n) gaps amount)) rest
    (λ _ rest. each (more (suc n) gaps amount) rest))

-- where more chunks may come, what was given is given again
chunks_stay : (count more : ℕ) (amount : Amount) (places : List Place) → Stays (chunks count amount places) (chunks (count + more) amount places)
chunks_stay zero more amount places = tt
chunks_stay (suc count) more amount places =
    let enough : suc (count + more) ≡ suc count + more = omega arith in
    subst (λ n. Stays (chunks (suc count) amount places) (chunks n amount places)) enough
    (then_stays (chunk_line places) (chunk (chunks count) amount) (chunk (chunks (count + more)) amount) places
    (λ size rest. chunk_stays (chunks count) (chunks (count + more)) (chunks_stay count more) amount size rest))

chunked_decides : (amount : Amount) → Decides (chunked amount)
unfolding chunked
chunked_decides amount = record {
  within = λ places. (chunks_decide (length places + 1) amount).within places;
  stays = λ places behind.
      let enough : (length places + 1) + length behind ≡ length (places ++ behind) + 1 = omega (arith, length-append places behind) in
      stays_along (chunks (length places + 1) amount places) (chunks (length places + 1) amount (places ++ behind)) (chunked amount (places ++ behind))
      ((chunks_decide (length places + 1) amount).stays places behind)
      (subst (λ n. Stays (chunks (length places + 1) amount (places ++ behind)) (chunks n amount (places ++ behind))) enough
      (chunks_stay (length places + 1) (length behind) amount (places ++ behind)));
}

-- ---- bodies and cases

-- the flag of a side that has ended, and what comes behind
abbrev pub Ends : Bool → Bool → List Place → Type 0
Ends ended now behind = ended ≡ true → (behind ≡ []) × (now ≡ true)

to_end_stays : (header : ℕ) (ended now : Bool) (places behind : List Place) → Ends ended now behind
    → Stays (decide_body ToEnd header ended places) (decide_body ToEnd header now (places ++ behind))
to_end_stays header false now places behind ends = tt
to_end_stays header true now places behind ends =
    let over = ends refl in
    rw (over.0, over.1, append-nil places) refl

body_stays : (body : Body) (header : ℕ) (ended now : Bool) (places behind : List Place) → Ends ended now behind
    → Stays (decide_body body header ended places) (decide_body body header now (places ++ behind))
body_stays Empty header ended now places behind ends = refl
body_stays (Length n) header ended now places behind ends =
    (then_decides (any_places n) (λ gap. gives (Done n header gap)) (any_places_decides n) (λ gap. gives_decides (Done n header gap))).stays places behind
body_stays Chunked header ended now places behind ends =
    let start : Amount = record { body = 0; gap = 0 } in
    (then_decides (chunked start) (λ amount. gives (Done amount.body header amount.gap)) (chunked_decides start)
    (λ amount. gives_decides (Done amount.body header amount.gap))).stays places behind
body_stays ToEnd header ended now places behind ends = to_end_stays header ended now places behind ends
body_stays Tunnels header ended now places behind ends = refl
body_stays (Unknown why) header ended now places behind ends = refl

pub decide_stays : (side : Side) (case : Case) (header : ℕ) (ended now : Bool) (places behind : List Place) → Ends ended now behind
    → (case ≡ Held → ⊥) → Stays (decide side case header ended places) (decide side case header now (places ++ behind))
decide_stays side Before header ended now places behind ends free =
    (then_decides (head side) (λ found. gives (Head found)) (head_decides side) (λ found. gives_decides (Head found))).stays places behind
decide_stays side (Within body) header ended now places behind ends free = body_stays body header ended now places behind ends
decide_stays side Held header ended now places behind ends free = absurd (free refl)
decide_stays side Over header ended now places behind ends free = tt

body_within : (body : Body) (header : ℕ) (ended : Bool) (places : List Place) → IsWithin (decide_body body header ended places) (length places)
body_within Empty header ended places = omega arith
body_within (Length n) header ended places =
    (then_decides (any_places n) (λ gap. gives (Done n header gap)) (any_places_decides n) (λ gap. gives_decides (Done n header gap))).within places
body_within Chunked header ended places =
    let start : Amount = record { body = 0; gap = 0 } in
    (then_decides (chunked start) (λ amount. gives (Done amount.body header amount.gap)) (chunked_decides start)
    (λ amount. gives_decides (Done amount.body header amount.gap))).within places
body_within ToEnd header true places = omega arith
body_within ToEnd header false places = tt
body_within Tunnels header ended places = omega arith
body_within (Unknown why) header ended places = omega arith

held_within : (places : List Place) → IsWithin (held places) (length places)
held_within places = within (nat_lt 65536 (length places)) refl
  where
    within : (many : Bool) → nat_lt 65536 (length places) ≡ many → IsWithin {A = UnitKind} (cond many (Refuses 65537 Unpaired) (Waits 0)) (length places)
    within true is = omega (arith, ltb-true 65536 (length places) is)
    within false is = tt

pub decide_within : (side : Side) (case : Case) (header : ℕ) (ended : Bool) (places : List Place)
    → IsWithin (decide side case header ended places) (length places)
decide_within side Before header ended places =
    (then_decides (head side) (λ found. gives (Head found)) (head_decides side) (λ found. gives_decides (Head found))).within places
decide_within side (Within body) header ended places = body_within body header ended places
decide_within side Held header ended places = held_within places
decide_within side Over header ended places = tt
