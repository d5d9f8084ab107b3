-- Where a side stands changes, as the other side goes on, only from waiting for it.
use Rattle.std.proofs.Common.{◌≡◌, ◌⊎◌, ℕ, zero, suc, ◌+◌, ◌-◌, Bool, true, false, not, cond, inl, inr, List, [], ◌∷◌, ◌++◌, length, Option, None, Some, refl, sym, ap, subst, ◌∙◌, arith, length-append}
use Rattle.std.specs.Prelude.{nat_lt, slice_get, filter}
use Rattle.std.specs.List.{last_or}
use Rattle.std.proofs.lemmas.Bool.{ltb-true, lt-ltb}
use Rattle.std.proofs.lemmas.List.Elements.{filter-append, filter_map-append}
use Rattle.zk_base.specs.declared.network.Side.{Side}
use Rattle.zk_base.specs.declared.network.Side.TheVariants.{Orig, Resp}
use Rattle.zk_http.specs.declared.units.Head.{Head as MessageHead}
use Rattle.zk_http.specs.declared.units.«Unit».{«Unit» as MessageUnit}
use Rattle.zk_http.specs.declared.units.UnitKind.{UnitKind}
use Rattle.zk_http.specs.declared.units.UnitKind.TheVariants.{Head, Done, Tunnel, Violation}
use Rattle.zk_http.specs.declared.body.Body.TheVariants.{Empty}
use Rattle.zk_http.specs.Bodies.{is_interim, holds_back}
use Rattle.zk_http.specs.Cases.{Case, Before, Within, Held, head_in, heads, answers, until_answered, between_requests, behind_request, answer_case, behind_response, behind, case_of}
use Rattle.zk_http.specs.Growth.{GoesOn}
use Rattle.zk_base.specs.Sides.{other}
use Rattle.zk_http.specs.Places.{Both, of_side}

-- it waited, or it is the same
abbrev pub IsSettled : Case → Case → Type 0
IsSettled known later = (known ≡ Held) ⊎ (later ≡ known)

-- what was looked up in vain may be there later, and what was there stays
abbrev IsKnown : Option MessageHead → Option MessageHead → Type 0
IsKnown known later = (known ≡ None) ⊎ (later ≡ known)

heads_go_on : (known later : List MessageUnit) → GoesOn known later → GoesOn (heads known) (heads later)
heads_go_on known later on =
    (heads on.0, ap heads on.1 ∙ filter_map-append (λ unit. head_in unit.what) known on.0)

answers_go_on : (known later : List MessageUnit) → GoesOn known later → GoesOn (answers known) (answers later)
answers_go_on known later on =
    let more = heads_go_on known later on in (
      answers on.0,
      ap answers on.1 ∙ ap (λ found. filter_answers found) (filter_map-append (λ unit. head_in unit.what) known on.0)
          ∙ filter-append (λ head. not (is_interim head)) (heads known) (heads on.0),
    )
  where
    filter_answers : List MessageHead → List MessageHead
    filter_answers found = filter (λ head. not (is_interim head)) found

slice_get_known : (xs more : List MessageHead) (k : ℕ) → IsKnown (slice_get xs k) (slice_get (xs ++ more) k)
slice_get_known [] more k = inl refl
slice_get_known (x ∷ xs) more zero = inr refl
slice_get_known (x ∷ xs) more (suc k) = slice_get_known xs more k

get_known : (known later : List MessageHead) (k : ℕ) → GoesOn known later → IsKnown (slice_get known k) (slice_get later k)
get_known known later k on = subst (λ all. IsKnown (slice_get known k) (slice_get all k)) (sym on.1) (slice_get_known known on.0 k)

-- ---- requests

until_answered_settled : (request : MessageHead) (known later : Option MessageHead) → IsKnown known later
    → IsSettled (until_answered request known) (until_answered request later)
until_answered_settled request None later is = inl refl
until_answered_settled request (Some answer) later (inl none) = absurd (cc)
until_answered_settled request (Some answer) later (inr same) = inr (ap (until_answered request) same)

between_requests_settled : (request known later : Option MessageHead) → IsKnown known later
    → IsSettled (between_requests request known) (between_requests request later)
between_requests_settled None known later is = inr refl
between_requests_settled (Some request) known later is = settled (holds_back request)
  where
    settled : (holds : Bool) → IsSettled (cond holds (until_answered request known) Before) (cond holds (until_answered request later) Before)
    settled true = until_answered_settled request known later is
    settled false = inr refl

-- ---- behind the last unit

behind_request_settled : (known later : Case) (kind : UnitKind) → IsSettled known later → IsSettled (behind_request known kind) (behind_request later kind)
behind_request_settled known later (Head head) is = inr refl
behind_request_settled known later (Done body head gap) is = is
behind_request_settled known later Tunnel is = inr refl
behind_request_settled known later (Violation reason) is = inr refl

answer_case_settled : (answer : MessageHead) (known later : Option MessageHead) → IsKnown known later
    → IsSettled (answer_case answer known) (answer_case answer later)
answer_case_settled answer None later is = inl refl
answer_case_settled answer (Some request) later (inl none) = absurd (cc)
answer_case_settled answer (Some request) later (inr same) = inr (ap (answer_case answer) same)

behind_response_settled : (known later : Case) (request asked : Option MessageHead) (kind : UnitKind) → IsSettled known later → IsKnown request asked
    → IsSettled (behind_response known request kind) (behind_response later asked kind)
behind_response_settled known later request asked (Head head) is there = settled (is_interim head)
  where
    settled : (interim : Bool) → IsSettled (cond interim (Within Empty) (answer_case head request)) (cond interim (Within Empty) (answer_case head asked))
    settled true = inr refl
    settled false = answer_case_settled head request asked there
behind_response_settled known later request asked (Done body head gap) is there = is
behind_response_settled known later request asked Tunnel is there = inr refl
behind_response_settled known later request asked (Violation reason) is there = inr refl

behind_settled : (known later : Case) (of again : UnitKind → Case) (last : Option MessageUnit) → IsSettled known later
    → ((kind : UnitKind) → IsSettled (of kind) (again kind)) → IsSettled (behind known of last) (behind later again last)
behind_settled known later of again None is each = is
behind_settled known later of again (Some unit) is each = each unit.what

-- more requests are there than were answered, also when others have come
asked_settled : (told asked more : ℕ) → IsSettled (cond (nat_lt told asked) Before Held) (cond (nat_lt told (asked + more)) Before Held)
asked_settled told asked more = settled (nat_lt told asked) refl
  where
    settled : (fewer : Bool) → nat_lt told asked ≡ fewer → IsSettled (cond fewer Before Held) (cond (nat_lt told (asked + more)) Before Held)
    settled true is =
        let still = lt-ltb told (asked + more) (omega (arith, ltb-true told asked is)) in
        inr (ap (λ fewer. cond fewer Before Held) still)
    settled false is = inl refl

-- ---- both

requests_settled : (orig known later : List MessageUnit) → GoesOn known later
    → IsSettled (case_of Orig (record { orig = orig; resp = known })) (case_of Orig (record { orig = orig; resp = later }))
requests_settled orig known later on =
    let asked = heads orig in
    let there = get_known (answers known) (answers later) (length asked - 1) (answers_go_on known later on) in
    let between = between_requests_settled (last_or None asked) (slice_get (answers known) (length asked - 1)) (slice_get (answers later) (length asked - 1)) there in
    behind_settled _ _ (behind_request _) (behind_request _) (last_or None orig) between (λ kind. behind_request_settled _ _ kind between)

responses_settled : (resp known later : List MessageUnit) → GoesOn known later
    → IsSettled (case_of Resp (record { orig = known; resp = resp })) (case_of Resp (record { orig = later; resp = resp }))
responses_settled resp known later on =
    let told = length (answers resp) in
    let more = heads_go_on known later on in
    let there = get_known (heads known) (heads later) (told - 1) more in
    let grown : length (heads later) ≡ length (heads known) + length more.0 = ap length more.1 ∙ length-append (heads known) more.0 in
    let between : IsSettled (cond (nat_lt told (length (heads known))) Before Held) (cond (nat_lt told (length (heads later))) Before Held) =
    subst (λ n. IsSettled (cond (nat_lt told (length (heads known))) Before Held) (cond (nat_lt told n) Before Held)) (sym grown)
    (asked_settled told (length (heads known)) (length more.0)) in
    behind_settled _ _ (behind_response _ (slice_get (heads known) (told - 1))) (behind_response _ (slice_get (heads later) (told - 1))) (last_or None resp) between
    (λ kind. behind_response_settled _ _ (slice_get (heads known) (told - 1)) (slice_get (heads later) (told - 1)) kind between there)

-- where a side stands, when its own units are the same and the other's go on
pub case_settled : (side : Side) (known later : Both (List MessageUnit)) → of_side side later ≡ of_side side known
    → GoesOn (of_side (other side) known) (of_side (other side) later) → IsSettled (case_of side known) (case_of side later)
case_settled Orig known later same on =
    subst (λ orig. IsSettled (case_of Orig known) (case_of Orig (record { orig = orig; resp = later.resp }))) (sym same)
    (requests_settled known.orig known.resp later.resp on)
case_settled Resp known later same on =
    subst (λ resp. IsSettled (case_of Resp known) (case_of Resp (record { orig = later.orig; resp = resp }))) (sym same)
    (responses_settled known.resp known.orig later.orig on)
