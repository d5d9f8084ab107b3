-- What lies below the front stays as it is, and behind an end nothing comes.
use Rattle.std.proofs.Common.{◌≡◌, ◌⊎◌, ℕ, ◌+◌, ◌-◌, ◌<◌, ◌≤◌, Bool, true, false, cond, ◌||◌, List, [], ◌∷◌, ◌++◌, Option, None, Some, refl, sym, ap, ◌∙◌, inl, inr, ⊎_elim, arith}
use Rattle.std.specs.Prelude.{is_some}
use Rattle.std.specs.List.{list_any, prefix_len}
use Rattle.std.specs.Option.{option_or}
use Rattle.std.proofs.lemmas.Bool.{cases_lt, cases_Bool, true≢false, lt-leb}
use Rattle.zk_reasm.specs.Between.{places_between}
use Rattle.zk_reasm.specs.Direction.{byte_at, byte_from, byte_put, front, front_then, moves, reach, run_end, steps, up_to_fin}
use Rattle.zk_reasm.specs.Histories.{byte_of_stream, counted, ended_of, front_of, is_over, is_reached, is_stop, over_of}
use Rattle.zk_reasm.specs.Place.{byte_of}
use Rattle.zk_reasm.specs.Told.{Told, Segment, Fin, Ack, Stop, fin_place, payload_end}
use Rattle.zk_reasm.proofs.AdvanceLemmas.{Passes, passes}
use Rattle.zk_reasm.proofs.HistoryLemmas.{counted_live, counted_more, counted_over}
use Rattle.zk_reasm.proofs.LawLemmas.{front_never_falls, longer}
use Rattle.zk_reasm.proofs.PieceLemmas.{option_or_none, option_or_held}
use Rattle.zk_reasm.proofs.ToldLemmas.{step_of, byte_at-append, front-append, reach-append}

-- a place is below the reach, or it has its byte
abbrev IsSettled : ℕ → List Told → ℕ → Type 0
IsSettled base told at = (at < reach base told) ⊎ (is_some (byte_at base told at) ≡ true)

below_fin : (moving : Bool) (end at : ℕ) (fin : Option ℕ) → at < cond moving (up_to_fin end fin) 0 → at < end
below_fin true end at None low = low
below_fin true end at (Some fin) low = omega (arith, low)
below_fin false end at fin low = absurd (omega (arith, low))

below_run : (base : ℕ) (told : List Told) (at : ℕ) → at < run_end base told → IsSettled base told at
unfolding run_end
below_run base told at low =
    ⊎_elim
    (λ early. inl early)
    (λ past. inr (ap (λ i. is_some (byte_at base told i)) (let e : at ≡ reach base told + (at - reach base told) = omega (arith, past) in e)
    ∙ run.each (at - reach base told) (omega (arith, low, past))))
    (cases_lt at (reach base told))
  where
    run : Passes is_some (byte_at base told) (reach base told) (payload_end base told - reach base told)
        (prefix_len is_some (places_between (byte_at base told) (reach base told) (payload_end base told)))
    run = passes is_some (byte_at base told) (reach base told) (payload_end base told - reach base told)

some_or : (o more : Option ℕ) → is_some o ≡ true → is_some (option_or o more) ≡ true
some_or None more is = absurd (true≢false (sym is))
some_or (Some byte) more is = refl

settled_one : (base : ℕ) (told : List Told) (entry : Told) → ((at : ℕ) → at < front base told → IsSettled base told at)
    → (at : ℕ) → at < front base (told ++ entry ∷ []) → IsSettled base (told ++ entry ∷ []) at
settled_one base told entry before at low =
    ⊎_elim
    (λ early. ⊎_elim
    (λ reached. inl (omega (arith, reached, reach-append base told entry)))
    (λ there. inr (ap is_some (byte_at-append base told entry at) ∙ some_or (byte_at base told at) (byte_put base (step_of told entry) at) there))
    (before at early))
    (λ past. below_run base (told ++ entry ∷ []) at
    (below_fin (moves entry) (run_end base (told ++ entry ∷ [])) at (fin_place base (told ++ entry ∷ []))
    (let further : at < front_then base (step_of told entry) = omega (arith, low, past, front-append base told entry) in further)))
    (cases_lt at (front base told))

front-none : (base : ℕ) → front base [] ≡ 0
unfolding front steps
front-none base = refl

settled : (base : ℕ) (told : List Told) (at : ℕ) → at < front base told → IsSettled base told at
settled base told =
    longer (λ xs. (at : ℕ) → at < front base xs → IsSettled base xs at) (settled_one base) [] told (λ at low. absurd (omega (arith, low, front-none base)))

put_below : (base at least : ℕ) (entry : Told) → at < least → byte_from base least entry at ≡ None
put_below base at least (Segment seq bytes) low = ap (λ b. cond b (byte_of base seq bytes at) None) (lt-leb least at low)
put_below base at least (Fin seq) low = refl
put_below base at least (Ack number) low = refl
put_below base at least Stop low = refl

below_one : (base limit at : ℕ) (told : List Told) (entry : Told) → at < front_of base limit told
    → byte_of_stream base limit (told ++ entry ∷ []) at ≡ byte_of_stream base limit told at
below_one base limit at told entry low =
    ⊎_elim
    (λ over. ap (λ xs. byte_at base xs at) (counted_over base limit told entry over))
    (λ live.
    let all = counted_live base limit told live in
    let before : at < front base told = omega (arith, low, ap (front base) all) in
    ap (λ xs. byte_at base xs at) (counted_more base limit told entry live) ∙ byte_at-append base told entry at
    ∙ ⊎_elim
    (λ reached. ap (option_or (byte_at base told at)) (put_below base at (reach base told) entry reached) ∙ option_or_none (byte_at base told at))
    (λ there. option_or_held (byte_at base told at) (byte_put base (step_of told entry) at) there)
    (settled base told at before)
    ∙ sym (ap (λ xs. byte_at base xs at) all))
    (cases_Bool (over_of base limit told))

pub record StaysBelow (base limit at : ℕ) (told later : List Told) : Type 0 where
  pub front : front_of base limit told ≤ front_of base limit later
  pub same : byte_of_stream base limit later at ≡ byte_of_stream base limit told at

-- what lies below the front never changes, be it a byte or a gap
pub stays_below : (base limit at : ℕ) (told more : List Told) → at < front_of base limit told → byte_of_stream base limit (told ++ more) at ≡ byte_of_stream base limit told at
stays_below base limit at told more low = (longer (StaysBelow base limit at told) next told more (record { front = omega arith; same = refl })).same
  where
    next : (xs : List Told) (entry : Told) → StaysBelow base limit at told xs → StaysBelow base limit at told (xs ++ entry ∷ [])
    next xs entry stays = record {
      front = omega (arith, stays.front, front_never_falls base limit xs (entry ∷ []));
      same = below_one base limit at xs entry (omega (arith, low, stays.front)) ∙ stays.same;
    }

over_where_reached : (base limit : ℕ) (told : List Told) → is_reached (fin_place base told) (front base told) ≡ true → is_over base limit told ≡ true
unfolding is_over
over_where_reached base limit told there = any (list_any is_stop told) (is_reached (fin_place base told) (front base told)) _ there
  where
    any : (a b c : Bool) → b ≡ true → (a || (b || c)) ≡ true
    any true b c is = refl
    any false true c is = refl
    any false false c is = absurd (true≢false (sym is))

-- a stream that has ended is over
pub ended_over : (base limit : ℕ) (told : List Told) → ended_of base limit told ≡ true → over_of base limit told ≡ true
ended_over base limit told ended = over_where_reached base limit (counted base limit told) ended

pub record StaysEnded (base limit : ℕ) (told later : List Told) : Type 0 where
  pub over : over_of base limit later ≡ true
  pub same : counted base limit later ≡ counted base limit told

pub stays_ended : (base limit : ℕ) (told more : List Told) → ended_of base limit told ≡ true
    → (front_of base limit (told ++ more) ≡ front_of base limit told) × (ended_of base limit (told ++ more) ≡ true)
stays_ended base limit told more ended =
    let all = longer (StaysEnded base limit told) next told more (record { over = ended_over base limit told ended; same = refl }) in
    (ap (front base) all.same, ap (λ xs. is_reached (fin_place base xs) (front base xs)) all.same ∙ ended)
  where
    next : (xs : List Told) (entry : Told) → StaysEnded base limit told xs → StaysEnded base limit told (xs ++ entry ∷ [])
    next xs entry stays =
        let same = counted_over base limit xs entry stays.over in
        record { over = ap (is_over base limit) same ∙ stays.over; same = same ∙ stays.same }
