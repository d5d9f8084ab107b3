-- A name goes on over pointers that lead to pointers alone as at their end.
use Rattle.std.proofs.Common.{◌≡◌, ◌≢◌, ℕ, zero, suc, ◌+◌, ◌<◌, ◌≤◌, ◌==◌, ◌⊎◌, inl, inr, MatchBool, if◌then◌else◌, Bool, true, false, List, [], length, replicate, slice_index, slice_set, IsOk, get_or-set_same, get_or-set_other, Result, Ok, Err, refl, ap, sym, subst, ◌∙◌, arith}
use Rattle.std.proofs.lemmas.Bool.Decides.{eqb_tells, nat_tests}
use Rattle.zk_dns.specs.declared.fault.DnsFault.{DnsFault}
use Rattle.zk_dns.specs.declared.name.RunEnd.{RunEnd}
use Rattle.zk_dns.specs.Name.{◌>>=◌, Name, Run, byte_at, name_at, ended, leads_back, rest_at, run_at, run_step, target_at, whole}
use Rattle.zk_dns.specs.Ends.{run_end_at}
use Rattle.zk_dns.specs.Skips.{AreSkips, labels_at}
use Rattle.zk_dns.specs.Text.{HasName, text_behind, text_with_all}
use Rattle.zk_dns.proofs.NameLemmas.{left_of, left-pointer, rest-fault, rest-goes_on, rest_is, run_is, told}
use Rattle.zk_dns.proofs.NameLaws.{eq-tells}

-- where the labels are the same the end of a name is
told-labels : (next : ℕ) (read : Result Name DnsFault) → told next read ≡ ((read >>= λ name. Ok name.labels) >>= λ labels. Ok next)
told-labels next (Err why) = refl
told-labels next (Ok name) = refl

told-same : (next : ℕ) (bytes : List ℕ) (size place other : ℕ) → labels_at bytes size place ≡ labels_at bytes size other
    → told next (rest_at bytes (whole bytes) size place) ≡ told next (rest_at bytes (whole bytes) size other)
unfolding labels_at
told-same next bytes size place other same =
    told-labels next (rest_at bytes (whole bytes) size place)
    ∙ ap (λ (r : Result (List (List ℕ)) DnsFault). r >>= λ labels. Ok next) same
    ∙ sym (told-labels next (rest_at bytes (whole bytes) size other))

-- a skipped place is not behind the place, and has the same labels
skipped : (bytes skips : List ℕ) (place skip : ℕ) → AreSkips bytes skips → skip ≡ (if slice_index skips place == 0 then place else slice_index skips place)
    → (skip ≤ place) × ((size : ℕ) → labels_at bytes size place ≡ labels_at bytes size skip)
skipped bytes skips place skip are is = skipped-by (slice_index skips place == 0) (eq-tells (slice_index skips place) 0) is
  where
    skipped-by : (none : Bool) → MatchBool none (slice_index skips place ≡ 0) (slice_index skips place ≢ 0)
        → skip ≡ (if none then place else slice_index skips place)
        → (skip ≤ place) × ((size : ℕ) → labels_at bytes size place ≡ labels_at bytes size skip)
    skipped-by true told same = (omega arith, λ size. ap (labels_at bytes size) (sym same))
    skipped-by false told same = (omega (arith, are.before place told), λ size. are.same place size told ∙ ap (labels_at bytes size) (sym same))

-- behind a pointer what is left of the name is left behind the run where it goes on
pub left-skips_on : (next : ℕ) (bytes skips : List ℕ) (start : ℕ) (end : RunEnd) (target skip : ℕ) (other : RunEnd) → AreSkips bytes skips
    → byte_at bytes end.place ≢ 0 → target ≡ target_at bytes end.place → 12 ≤ target → target < start
    → skip ≡ (if slice_index skips target == 0 then target else slice_index skips target)
    → run_end_at bytes (whole bytes) end.size skip ≡ Ok other
    → (skip < start) × (told next (left_of bytes start end) ≡ told next (left_of bytes skip other))
left-skips_on next bytes skips start end target skip other are pointer target_is behind before skip_is found =
    let there = skipped bytes skips target skip are skip_is in (
      omega (arith, there.0),
      left-pointer next bytes start end target pointer target_is behind before
          ∙ told-same next bytes end.size target skip (there.1 end.size)
          ∙ rest-goes_on next bytes end.size skip other found,
    )

-- a name that goes on where no run can be read
pub left-skip_fault : (next : ℕ) (bytes skips : List ℕ) (start : ℕ) (end : RunEnd) (target skip : ℕ) (why : DnsFault) → AreSkips bytes skips
    → byte_at bytes end.place ≢ 0 → target ≡ target_at bytes end.place → 12 ≤ target → target < start
    → skip ≡ (if slice_index skips target == 0 then target else slice_index skips target)
    → run_end_at bytes (whole bytes) end.size skip ≡ Err why
    → told next (left_of bytes start end) ≡ Err why
left-skip_fault next bytes skips start end target skip why are pointer target_is behind before skip_is found =
    let there = skipped bytes skips target skip are skip_is in
    left-pointer next bytes start end target pointer target_is behind before
    ∙ told-same next bytes end.size target skip (there.1 end.size)
    ∙ rest-fault next bytes end.size skip why found

-- ---- the table

-- a bare pointer is a run without labels
bare-run : (bytes : List ℕ) (size place : ℕ) → 192 ≤ byte_at bytes place → place + 2 ≤ length bytes
    → run_at bytes (whole bytes) size place ≡ Ok (record { labels = []; ending = place })
unfolding run_step
bare-run bytes size place many inside = run_is bytes (whole bytes) size place ∙ grind (arith, nat_tests)

labels-made : (read : Result Name DnsFault) (next : ℕ)
    → ◌>>=◌ {A = Name} (read >>= λ rest. Ok (record { labels = rest.labels; next = next })) (λ name. Ok name.labels) ≡ (read >>= λ name. Ok name.labels)
labels-made (Err why) next = refl
labels-made (Ok name) next = refl

-- the labels behind a bare pointer are those where it leads
bare-ended : (bytes : List ℕ) (size place : ℕ) → 192 ≤ byte_at bytes place → leads_back place (target_at bytes place) ≡ true
    → (ended (rest_at bytes (whole bytes)) bytes size place (record { labels = []; ending = place }) >>= λ name. Ok name.labels)
    ≡ (rest_at bytes (whole bytes) size (target_at bytes place) >>= λ name. Ok name.labels)
unfolding ended
bare-ended bytes size place many back =
    let total : size + 0 ≡ size = omega arith in
    let made = labels-made (rest_at bytes (whole bytes) size (target_at bytes place)) (place + 2) in
    grind (arith, nat_tests, back, total, made)

pub bare-labels : (bytes : List ℕ) (size place : ℕ) → 192 ≤ byte_at bytes place → place + 2 ≤ length bytes
    → leads_back place (target_at bytes place) ≡ true → labels_at bytes size place ≡ labels_at bytes size (target_at bytes place)
unfolding labels_at
bare-labels bytes size place many inside back =
    ap (λ (r : Result Name DnsFault). r >>= λ name. Ok name.labels)
    (rest_is bytes (whole bytes) size place
    ∙ ap (λ (r : Result Run DnsFault). r >>= ended (rest_at bytes (whole bytes)) bytes size place) (bare-run bytes size place many inside))
    ∙ bare-ended bytes size place many back

-- an empty table
pub skips-none : (bytes skips : List ℕ) → ((place : ℕ) → slice_index skips place ≡ 0) → AreSkips bytes skips
skips-none bytes skips empty = record {
  before = λ place some. absurd (some (empty place));
  same = λ place size some. absurd (some (empty place));
}

nat-either : (a b : ℕ) → (a ≡ b) ⊎ (a ≢ b)
nat-either a b = elim (eqb_tells a b) [ inl (is, same) ↦ inl same | inr (is, apart) ↦ inr apart ]

-- one place more
pub skips-more : (bytes skips : List ℕ) (place target skip : ℕ) → AreSkips bytes skips → place < length skips
    → 192 ≤ byte_at bytes place → place + 2 ≤ length bytes → target ≡ target_at bytes place → 12 ≤ target → target < place
    → skip ≡ (if slice_index skips target == 0 then target else slice_index skips target)
    → AreSkips bytes (slice_set skips place skip)
skips-more bytes skips place target skip are room many inside target_is behind before skip_is =
    let there = skipped bytes skips target skip are skip_is in
    let back : leads_back place (target_at bytes place) ≡ true = subst (λ (t : ℕ). leads_back place t ≡ true) target_is (grind (arith, nat_tests)) in
    let leads : (size : ℕ) → labels_at bytes size place ≡ labels_at bytes size skip
    = λ size. bare-labels bytes size place many inside back ∙ ap (labels_at bytes size) (sym target_is) ∙ there.1 size in
    let here : slice_index (slice_set skips place skip) place ≡ skip = get_or-set_same skips place skip 0 room in
    let other : (k : ℕ) → k ≢ place → slice_index (slice_set skips place skip) k ≡ slice_index skips k
    = λ k apart. get_or-set_other skips place k skip 0 apart in
    record {
      before = λ k some. elim (nat-either k place) [
        | inl same ↦ subst (λ (p : ℕ). slice_index (slice_set skips place skip) p < p) (sym same) (omega (arith, here, there.0))
        | inr apart ↦ omega (arith, other k apart, are.before k (λ none. some (other k apart ∙ none)))
      ];
      same = λ k size some. elim (nat-either k place) [
        | inl same ↦ subst (λ (p : ℕ). labels_at bytes size p ≡ labels_at bytes size (slice_index (slice_set skips place skip) p)) (sym same)
            (leads size ∙ ap (labels_at bytes size) (sym here))
        | inr apart ↦ are.same k size (λ none. some (other k apart ∙ none)) ∙ ap (labels_at bytes size) (sym (other k apart))
      ];
    }

pub skips-zeros : (bytes : List ℕ) (n : ℕ) → AreSkips bytes (replicate n 0)
skips-zeros bytes n = skips-none bytes (replicate n 0) (zeros n)
  where
    zeros : (n place : ℕ) → slice_index (replicate n 0) place ≡ 0
    zeros zero place = refl
    zeros (suc n) zero = refl
    zeros (suc n) (suc place) = zeros n place

pub skip-before : (bytes skips : List ℕ) (place skip : ℕ) → AreSkips bytes skips → skip ≡ (if slice_index skips place == 0 then place else slice_index skips place)
    → skip ≤ place
skip-before bytes skips place skip are is = (skipped bytes skips place skip are is).0

-- ---- texts

text-by-labels : (text : List ℕ) (read : Result Name DnsFault)
    → text_behind text read ≡ ◌>>=◌ {A = List (List ℕ)} (read >>= λ name. Ok name.labels) (λ labels. Ok (text_with_all text labels))
text-by-labels text (Err why) = refl
text-by-labels text (Ok name) = refl

ok-by-labels : (read other : Result Name DnsFault) → ◌≡◌ {A = Result (List (List ℕ)) DnsFault} (read >>= λ name. Ok name.labels) (other >>= λ name. Ok name.labels)
    → IsOk read → IsOk other
ok-by-labels (Ok name) (Ok same) is ok = refl
ok-by-labels (Ok name) (Err why) is ok = absurd (cc)
ok-by-labels (Err why) other is ok = absurd (cc)

-- the text of a name goes on where the name does
pub skip-text : (bytes skips : List ℕ) (place skip : ℕ) → AreSkips bytes skips → HasName bytes place
    → skip ≡ (if slice_index skips place == 0 then place else slice_index skips place)
    → (skip ≤ place) × HasName bytes skip
    × ((text : List ℕ) → text_behind text (name_at bytes (whole bytes) place) ≡ text_behind text (name_at bytes (whole bytes) skip))
unfolding labels_at name_at
skip-text bytes skips place skip are has is =
    let there = skipped bytes skips place skip are is in
    let same = there.1 0 in (
      there.0,
      ok-by-labels (rest_at bytes (whole bytes) 0 place) (rest_at bytes (whole bytes) 0 skip) same has,
      λ text. text-by-labels text (rest_at bytes (whole bytes) 0 place)
          ∙ ap (λ (r : Result (List (List ℕ)) DnsFault). r >>= λ labels. Ok (text_with_all text labels)) same
          ∙ sym (text-by-labels text (rest_at bytes (whole bytes) 0 skip)),
    )
