-- The text of a name grows by the labels of its runs.
use Rattle.std.proofs.Common.{◌≡◌, ◌≢◌, ℕ, suc, ◌+◌, ◌<◌, ◌≤◌, ◌-◌, ◌==◌, true, false, ◌⊎◌, inl, inr, List, [], ◌∷◌, ◌++◌, length, map, take, drop, if◌then◌else◌, Bool, IsOk, Result, Ok, refl, ap, sym, subst, ◌∙◌, arith, append-nil, append_assoc}
use Rattle.std.specs.Char.{to_ascii_lowercase}
use Rattle.std.specs.Str.{str_to_ascii_lowercase}
use Rattle.std.specs.List.{flat_map, join_with_byte}
use Rattle.std.proofs.lemmas.Bool.Decides.{nat_tests}
use Rattle.zk_dns.specs.declared.bound.Bound.{Bound}
use Rattle.zk_dns.specs.declared.fault.DnsFault.{DnsFault}
use Rattle.zk_dns.specs.Name.{◌>>=◌, AreLabels, AreRuns, Name, Run, byte_at, ended, label_at, leads_back, name_at, name_text, rest_at, run_at, size_of, target_at, whole, with_label}
use Rattle.zk_dns.specs.Ends.{behind_ending}
use Rattle.zk_dns.specs.Text.{HasName, labels_behind, text_at, text_behind, text_with, text_with_all}
use Rattle.zk_dns.proofs.NameLemmas.{rest_is, run_is}
use Rattle.zk_dns.proofs.NameLaws.{IsEnding, IsNamed, IsRun, led, name-found, name-found-of, ok-is, ending-before, goes_on, is-pointer, labels-on, ends_here, leads_on, pointer, rest-only, root, root_ends, run-found, run-only, stepped}
use Rattle.zk_dns.proofs.ReadLemmas.{is-read, read-before}

-- ---- runs

-- a run is read as well with nothing before it
run-alone : (bytes : List ℕ) (bound : Bound) (size place : ℕ) (run : Run) → bound.end ≤ length bytes → size + 1 ≤ 255
    → run_at bytes bound size place ≡ Ok run → run_at bytes bound 0 place ≡ Ok run
unfolding run_at
run-alone bytes bound size place run within small found =
    let is : IsRun bytes bound.end size place run = run-found 128 bytes bound size place run within small found in
    run-only bytes bound run.labels 0 place run.ending is.stand is.ending (omega (arith, is.small))

-- what is read as a run is one
run-found-at : (bytes : List ℕ) (bound : Bound) (size place : ℕ) (run : Run) → bound.end ≤ length bytes → size + 1 ≤ 255
    → run_at bytes bound size place ≡ Ok run → IsRun bytes bound.end size place run
unfolding run_at
run-found-at bytes bound size place run within small found = run-found 128 bytes bound size place run within small found

-- one step of a run that can be read: it ends, or a label is passed and the rest can be read
pub data RunGoes (bytes : List ℕ) (place : ℕ) : Type 0 where
  ends : (byte_at bytes place ≡ 0) ⊎ (192 ≤ byte_at bytes place) → behind_ending bytes place ≤ length bytes
      → ((text : List ℕ) → labels_behind text (run_at bytes (whole bytes) 0 place) ≡ Ok (text, place)) → RunGoes bytes place
  passes : 0 < byte_at bytes place → byte_at bytes place < 64 → place + 1 + byte_at bytes place < length bytes
      → IsOk (run_at bytes (whole bytes) 0 (place + 1 + byte_at bytes place))
      → ((text : List ℕ) → labels_behind text (run_at bytes (whole bytes) 0 place)
      ≡ labels_behind (text_with text (label_at bytes place)) (run_at bytes (whole bytes) 0 (place + 1 + byte_at bytes place)))
      → RunGoes bytes place

run-goes-ends : (bytes : List ℕ) (place : ℕ) (run : Run) → run_at bytes (whole bytes) 0 place ≡ Ok run
    → IsEnding bytes (length bytes) place → run ≡ record { labels = []; ending = place } → RunGoes bytes place
run-goes-ends bytes place run found (root is within) run_same =
    ends (inl is) (grind (arith, nat_tests)) (λ text. ap (labels_behind text) (found ∙ ap (λ (r : Run). Ok r) run_same))
run-goes-ends bytes place run found (pointer is within) run_same =
    ends (inr is) (grind (arith, nat_tests)) (λ text. ap (labels_behind text) (found ∙ ap (λ (r : Run). Ok r) run_same))

run-goes-on : (bytes : List ℕ) (place : ℕ) (run rest : Run) → run_at bytes (whole bytes) 0 place ≡ Ok run
    → 0 < byte_at bytes place → byte_at bytes place < 64 → place + 1 + byte_at bytes place ≤ length bytes
    → 0 + 1 + byte_at bytes place + 1 ≤ 255
    → run_at bytes (whole bytes) (0 + 1 + byte_at bytes place) (place + 1 + byte_at bytes place) ≡ Ok rest
    → run ≡ with_label (label_at bytes place) rest → RunGoes bytes place
run-goes-on bytes place run rest found some few inside short read run_same =
    let next : ℕ = place + 1 + byte_at bytes place in
    let is : IsRun bytes (length bytes) (0 + 1 + byte_at bytes place) next rest
    = run-found-at bytes (whole bytes) (0 + 1 + byte_at bytes place) next rest (omega arith) short read in
    let alone : run_at bytes (whole bytes) 0 next ≡ Ok rest
    = run-alone bytes (whole bytes) (0 + 1 + byte_at bytes place) next rest (omega arith) short read in
    passes some few (omega (arith, labels-on bytes rest.labels next rest.ending is.stand, ending-before bytes (length bytes) rest.ending is.ending))
    (rw alone refl)
    (λ text. ap (labels_behind text) (found ∙ ap (λ (r : Run). Ok r) run_same)
    ∙ sym (ap (labels_behind (text_with text (label_at bytes place))) alone))

pub run-goes : (bytes : List ℕ) (place : ℕ) → IsOk (run_at bytes (whole bytes) 0 place) → RunGoes bytes place
run-goes bytes place ok =
    let (run, found) = is-read (run_at bytes (whole bytes) 0 place) ok in
    elim (stepped (run_at bytes (whole bytes)) bytes (whole bytes) 0 place run (sym (run_is bytes (whole bytes) 0 place) ∙ found)) [
      | ends_here ending run_same ↦ run-goes-ends bytes place run found ending run_same
      | goes_on rest some few inside short read run_same ↦ run-goes-on bytes place run rest found some few inside short read run_same
    ]

-- ---- names

-- the text of a name, by that of its first run
pub data NameGoes (bytes : List ℕ) (start : ℕ) (text new : List ℕ) (ending : ℕ) : Type 0 where
  done : byte_at bytes ending ≡ 0 → text_behind text (name_at bytes (whole bytes) start) ≡ Ok new → NameGoes bytes start text new ending
  leads : 192 ≤ byte_at bytes ending → ending + 2 ≤ length bytes → target_at bytes ending < start → HasName bytes (target_at bytes ending)
      → text_behind text (name_at bytes (whole bytes) start) ≡ text_behind new (name_at bytes (whole bytes) (target_at bytes ending))
      → NameGoes bytes start text new ending

rest-only-alone : (bytes : List ℕ) (place : ℕ) (name : Name) (first : List (List ℕ)) (others : List (List (List ℕ)))
    → AreRuns bytes (length bytes) place (first ∷ others) name.next → name.labels ≡ flat_map (λ run. run) (first ∷ others)
    → size_of name.labels + 1 ≤ 255 → rest_at bytes (whole bytes) 0 place ≡ Ok name
rest-only-alone bytes place name first others stand labels small =
    rest-only bytes (whole bytes) (first ∷ others) 0 place name.next stand (omega (arith, small, ap size_of labels))
    ∙ ap (λ (l : List (List ℕ)). Ok (record { labels = l; next = name.next })) (sym labels)

-- a name is read as well with nothing before it
rest-alone : (bytes : List ℕ) (size place : ℕ) (name : Name) → size + 1 ≤ 255 → rest_at bytes (whole bytes) size place ≡ Ok name
    → name_at bytes (whole bytes) place ≡ Ok name
unfolding rest_at name_at
rest-alone bytes size place name small found =
    let is : IsNamed bytes (length bytes) size place name = name-found-of (suc place) bytes (whole bytes) size place name (omega arith) small found in
    rest-only-alone bytes place name is.first is.others is.stand is.labels (omega (arith, is.small))

-- labels behind labels
text_with_all-append : (text : List ℕ) (labels more : List (List ℕ)) → text_with_all text (labels ++ more) ≡ text_with_all (text_with_all text labels) more
text_with_all-append text [] more = refl
text_with_all-append text (label ∷ labels) more = text_with_all-append (text_with text label) labels more

-- a name that can be read begins with a run that can be
pub has-run : (bytes : List ℕ) (start : ℕ) → HasName bytes start → IsOk (run_at bytes (whole bytes) 0 start)
unfolding name_at
has-run bytes start ok = read-before (run_at bytes (whole bytes) 0 start) (ended (rest_at bytes (whole bytes)) bytes 0 start)
    (subst IsOk (rest_is bytes (whole bytes) 0 start) ok)

-- a pointer back leads on
leads-before : (start target : ℕ) → leads_back start target ≡ true → target < start
leads-before start target back = grind (arith, nat_tests)

name-goes-on : (bytes : List ℕ) (start : ℕ) (text new : List ℕ) (run : Run) (more : Name) → IsRun bytes (length bytes) 0 start run
    → byte_at bytes run.ending ≢ 0 → leads_back start (target_at bytes run.ending) ≡ true → new ≡ text_with_all text run.labels
    → name_at bytes (whole bytes) (target_at bytes run.ending) ≡ Ok more
    → text_behind text (name_at bytes (whole bytes) start) ≡ Ok (text_with_all text (run.labels ++ more.labels))
    → NameGoes bytes start text new run.ending
name-goes-on bytes start text new run more is some back new_is found told =
    let pointer = is-pointer bytes (length bytes) run.ending is.ending some in
    leads pointer.0 pointer.1 (leads-before start (target_at bytes run.ending) back) (rw found refl)
    (told
    ∙ ap (λ (t : List ℕ). Ok t) (text_with_all-append text run.labels more.labels ∙ ap (λ (t : List ℕ). text_with_all t more.labels) (sym new_is))
    ∙ sym (ap (text_behind new) found))

pub name-goes : (bytes : List ℕ) (start : ℕ) (text new : List ℕ) (ending : ℕ) → HasName bytes start
    → labels_behind text (run_at bytes (whole bytes) 0 start) ≡ Ok (new, ending) → NameGoes bytes start text new ending
unfolding name_at
name-goes bytes start text new ending ok told =
    let (run, read) = is-read (run_at bytes (whole bytes) 0 start) (has-run bytes start ok) in
    let (name, found) = is-read (name_at bytes (whole bytes) start) ok in
    let behind : (text_with_all text run.labels, run.ending) ≡ (new, ending)
    = ok-is (sym told ∙ ap (labels_behind text) read) in
    let new_is : new ≡ text_with_all text run.labels = sym (ap (λ (p : List ℕ × ℕ). p.0) behind) in
    let ending_is : run.ending ≡ ending = ap (λ (p : List ℕ × ℕ). p.1) behind in
    let rest : ended (rest_at bytes (whole bytes)) bytes 0 start run ≡ Ok name
    = sym (rest_is bytes (whole bytes) 0 start ∙ ap (λ (r : Result Run DnsFault). r >>= ended (rest_at bytes (whole bytes)) bytes 0 start) read) ∙ found in
    let is : IsRun bytes (length bytes) 0 start run = run-found-at bytes (whole bytes) 0 start run (omega arith) (omega arith) read in
    let whole_text : text_behind text (name_at bytes (whole bytes) start) ≡ Ok (text_with_all text name.labels) = ap (text_behind text) found in
    subst (λ (to : ℕ). NameGoes bytes start text new to) ending_is
    (elim (led (rest_at bytes (whole bytes)) bytes 0 start run name rest) [
      | root_ends zero_is name_is ↦ done zero_is (whole_text ∙ ap (λ (n : Name). Ok (text_with_all text n.labels)) name_is ∙ ap (λ (t : List ℕ). Ok t) (sym new_is))
      | leads_on more some back found_more name_is ↦ name-goes-on bytes start text new run more is some back new_is
          (rest-alone bytes (0 + size_of run.labels) (target_at bytes run.ending) more is.small found_more)
          (whole_text ∙ ap (λ (n : Name). Ok (text_with_all text n.labels)) name_is)
    ])

-- ---- what the loops need of them

-- a run that can be read begins within the bytes
pub run-inside : (bytes : List ℕ) (place : ℕ) → IsOk (run_at bytes (whole bytes) 0 place) → place < length bytes
run-inside bytes place ok = elim (run-goes bytes place ok) [
  | ends ending behind told ↦ ending-inside (byte_at bytes place == 0) place (length bytes) behind
  | passes some few inside rest told ↦ omega (arith, inside)
]
  where
    ending-inside : (none : Bool) (at len : ℕ) → (if none then at + 1 else at + 2) ≤ len → at < len
    ending-inside true at len behind = omega arith
    ending-inside false at len behind = omega arith

-- a run that can be read goes on behind a label
pub label-passes : (bytes : List ℕ) (place len : ℕ) → IsOk (run_at bytes (whole bytes) 0 place) → len ≡ byte_at bytes place → 0 < len → len < 64
    → (place + 1 + len < length bytes) × IsOk (run_at bytes (whole bytes) 0 (place + 1 + len))
    × ((text : List ℕ) → labels_behind text (run_at bytes (whole bytes) 0 place)
    ≡ labels_behind (text_with text (take (place + 1 + len - (place + 1)) (drop (place + 1) bytes))) (run_at bytes (whole bytes) 0 (place + 1 + len)))
label-passes bytes place len ok len_is some few =
    elim (run-goes bytes place ok) [
      | ends ending behind told ↦ absurd (not-label (byte_at bytes place) ending (omega (arith, len_is)) (omega (arith, len_is)))
      | passes more less inside rest told ↦
          let count : place + 1 + len - (place + 1) ≡ byte_at bytes place = omega (arith, len_is) in (
            omega (arith, len_is, inside),
            rw len_is rest,
            λ text. told text
                ∙ ap (λ (n : ℕ). labels_behind (text_with text (take n (drop (place + 1) bytes))) (run_at bytes (whole bytes) 0 (place + 1 + byte_at bytes place))) (sym count)
                ∙ ap (λ (n : ℕ). labels_behind (text_with text (take (place + 1 + len - (place + 1)) (drop (place + 1) bytes))) (run_at bytes (whole bytes) 0 (place + 1 + n))) (sym len_is),
          )
    ]
  where
    not-label : (byte : ℕ) → (byte ≡ 0) ⊎ (192 ≤ byte) → 0 < byte → byte < 64 → ⊥
    not-label byte (inl none) some few = omega arith
    not-label byte (inr many) some few = omega arith

-- a run that can be read ends where no label begins
pub run-stops : (bytes : List ℕ) (place : ℕ) (text : List ℕ) → IsOk (run_at bytes (whole bytes) 0 place)
    → (byte_at bytes place ≡ 0) ⊎ (64 ≤ byte_at bytes place)
    → (labels_behind text (run_at bytes (whole bytes) 0 place) ≡ Ok (text, place)) × (behind_ending bytes place ≤ length bytes)
run-stops bytes place text ok stop = elim (run-goes bytes place ok) [
  | ends ending behind told ↦ (told text, behind)
  | passes some few inside rest told ↦ absurd (no-stop (byte_at bytes place) stop some few)
]
  where
    no-stop : (byte : ℕ) → (byte ≡ 0) ⊎ (64 ≤ byte) → 0 < byte → byte < 64 → ⊥
    no-stop byte (inl none) some few = omega arith
    no-stop byte (inr many) some few = omega arith

-- a name whose run ends in the root is told
pub name-stops : (bytes : List ℕ) (start : ℕ) (text new : List ℕ) (ending : ℕ) → HasName bytes start
    → labels_behind text (run_at bytes (whole bytes) 0 start) ≡ Ok (new, ending) → byte_at bytes ending ≡ 0
    → text_behind text (name_at bytes (whole bytes) start) ≡ Ok new
name-stops bytes start text new ending ok told zero_is = elim (name-goes bytes start text new ending ok told) [
  | done is found ↦ found
  | leads many inside before rest found ↦ absurd (omega (arith, many, zero_is))
]

-- a name whose run ends in a pointer goes on there
pub name-leads : (bytes : List ℕ) (start : ℕ) (text new : List ℕ) (ending : ℕ) → HasName bytes start
    → labels_behind text (run_at bytes (whole bytes) 0 start) ≡ Ok (new, ending) → byte_at bytes ending ≢ 0
    → (ending + 2 ≤ length bytes) × (target_at bytes ending < start) × HasName bytes (target_at bytes ending)
    × (text_behind text (name_at bytes (whole bytes) start) ≡ text_behind new (name_at bytes (whole bytes) (target_at bytes ending)))
name-leads bytes start text new ending ok told some = elim (name-goes bytes start text new ending ok told) [
  | done is found ↦ absurd (some is)
  | leads many inside before rest found ↦ (inside, before, rest, found)
]

-- ---- the text that has grown

-- no label is empty
AreFull : List (List ℕ) → Type 0
AreFull [] = Unit {0}
AreFull (label ∷ labels) = (0 < length label) × AreFull labels

labels-full : (bytes : List ℕ) (labels : List (List ℕ)) (from to : ℕ) → AreLabels bytes from labels to → AreFull labels
unfolding AreFull
labels-full bytes [] from to stand = tt
labels-full bytes (label ∷ labels) from to stand = (stand.0.0, labels-full bytes labels (from + 1 + length label) to stand.3)

full-append : (labels more : List (List ℕ)) → AreFull labels → AreFull more → AreFull (labels ++ more)
unfolding AreFull
full-append [] more full also = also
full-append (label ∷ labels) more full also = (full.0, full-append labels more full.1 also)

runs-full : (bytes : List ℕ) (end place next : ℕ) (runs : List (List (List ℕ))) → AreRuns bytes end place runs next → AreFull (flat_map (λ run. run) runs)
unfolding AreFull
runs-full bytes end place next [] stand = tt
runs-full bytes end place next (labels ∷ []) stand = full-append labels [] (labels-full bytes labels place stand.ending stand.stand) tt
runs-full bytes end place next (labels ∷ others ∷ runs) (target, behind, pointed, stand) =
    full-append labels (flat_map (λ run. run) (others ∷ runs)) (labels-full bytes labels place pointed.ending pointed.stand)
    (runs-full bytes (length bytes) target behind (others ∷ runs) stand)

-- the labels of a name that was read are full
name-full : (bytes : List ℕ) (place : ℕ) (name : Name) → name_at bytes (whole bytes) place ≡ Ok name → AreFull name.labels
name-full bytes place name found =
    let (runs, stand, labels_are, small) = name-found bytes (whole bytes) place name (omega arith) found in
    subst AreFull (sym labels_are) (runs-full bytes (length bytes) place name.next runs stand)

-- labels behind a first one, each behind a dot
abbrev dotted : List (List ℕ) → List ℕ
dotted labels = flat_map (λ label. 46 ∷ str_to_ascii_lowercase label) labels

-- a name is its first label and the others behind dots
join-dotted : (label : List ℕ) (labels : List (List ℕ))
    → join_with_byte 46 (map str_to_ascii_lowercase (label ∷ labels)) ≡ str_to_ascii_lowercase label ++ dotted labels
join-dotted label [] = sym (append-nil (str_to_ascii_lowercase label))
join-dotted label (other ∷ labels) = ap (λ (rest : List ℕ). str_to_ascii_lowercase label ++ 46 ∷ rest) (join-dotted other labels)

-- text that isn't empty grows by labels behind dots
grown-dotted : (byte : ℕ) (text : List ℕ) (labels : List (List ℕ)) → text_with_all (byte ∷ text) labels ≡ (byte ∷ text) ++ dotted labels
grown-dotted byte text [] = sym (append-nil (byte ∷ text))
grown-dotted byte text (label ∷ labels) =
    grown-dotted byte (text ++ 46 ∷ str_to_ascii_lowercase label) labels
    ∙ append_assoc (byte ∷ text) (46 ∷ str_to_ascii_lowercase label) (dotted labels)

-- text that grew from nothing by full labels is that of the name
grown : (labels : List (List ℕ)) → AreFull labels → ((text_with_all [] labels ≡ []) × (name_text labels ≡ 46 ∷ []))
    ⊎ ((text_with_all [] labels ≢ []) × (name_text labels ≡ text_with_all [] labels))
unfolding AreFull
grown [] full = inl (refl, refl)
grown ([] ∷ labels) full = absurd (omega (arith, full.0))
grown ((byte ∷ label) ∷ labels) full =
    let first : List ℕ = str_to_ascii_lowercase (byte ∷ label) in
    let all : text_with_all [] ((byte ∷ label) ∷ labels) ≡ first ++ dotted labels
    = grown-dotted (to_ascii_lowercase byte) (map to_ascii_lowercase label) labels in
    inr ((λ (none : text_with_all [] ((byte ∷ label) ∷ labels) ≡ []). cc (all, none)), join-dotted (byte ∷ label) labels ∙ sym all)

-- text that has grown from nothing to a name's
told-text : (bytes : List ℕ) (place : ℕ) (text : List ℕ) → HasName bytes place → text_behind [] (name_at bytes (whole bytes) place) ≡ Ok text
    → ((text ≡ []) × (text_at bytes place ≡ Ok (46 ∷ []))) ⊎ ((text ≢ []) × (text_at bytes place ≡ Ok text))
unfolding text_at
told-text bytes place text ok told =
    let (name, found) = is-read (name_at bytes (whole bytes) place) ok in
    let text_is : text ≡ text_with_all [] name.labels = ok-is (sym (ap (text_behind []) found) ∙ told) in
    let read : (name_at bytes (whole bytes) place >>= λ name. Ok (name_text name.labels)) ≡ Ok (name_text name.labels)
    = ap (λ (r : Result Name DnsFault). r >>= λ name. Ok (name_text name.labels)) found in
    elim (grown name.labels (name-full bytes place name found)) [
      | inl (none, alone) ↦ inl (text_is ∙ none, read ∙ ap (λ (t : List ℕ). Ok t) alone)
      | inr (some, same) ↦ inr ((λ (none : text ≡ []). some (sym text_is ∙ none)), read ∙ ap (λ (t : List ℕ). Ok t) (same ∙ sym text_is))
    ]

-- nothing has grown: the root
pub text-root : (bytes : List ℕ) (place : ℕ) (text : List ℕ) → HasName bytes place → text_behind [] (name_at bytes (whole bytes) place) ≡ Ok text
    → length text ≡ 0 → text_at bytes place ≡ Ok (text ++ 46 ∷ [])
text-root bytes place [] ok told none = elim (told-text bytes place [] ok told) [
  | inl (is, read) ↦ read
  | inr (some, read) ↦ absurd (some refl)
]
text-root bytes place (byte ∷ text) ok told none = absurd (omega arith)

-- something has grown: the labels
pub text-labels : (bytes : List ℕ) (place : ℕ) (text : List ℕ) → HasName bytes place → text_behind [] (name_at bytes (whole bytes) place) ≡ Ok text
    → length text ≢ 0 → text_at bytes place ≡ Ok text
text-labels bytes place text ok told some = elim (told-text bytes place text ok told) [
  | inl (none, read) ↦ absurd (some (ap length none))
  | inr (is, read) ↦ read
]
