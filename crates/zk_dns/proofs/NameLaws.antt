-- What is read as a name is one, and each name is read.
use Rattle.std.proofs.Common.{◌≡◌, ◌≢◌, ℕ, zero, suc, ◌+◌, ◌<◌, ◌≤◌, ◌==◌, inl, inr, MatchBool, nat_lt, nat_le, if◌then◌else◌, Bool, true, false, List, [], ◌∷◌, ◌++◌, length, Result, Ok, Err, refl, ap, sym, ◌∙◌, arith, append-nil}
use Rattle.std.specs.List.{flat_map}
use Rattle.std.proofs.lemmas.Bool.Decides.{eqb_tells, leb_tells, nat_tests}
use Rattle.std.proofs.lemmas.List.Sums.{sum_by-cons, sum_by-append}
use Rattle.zk_dns.specs.declared.bound.Bound.{Bound}
use Rattle.zk_dns.specs.declared.fault.DnsFault.{DnsFault}
use Rattle.zk_dns.specs.declared.fault.DnsFault.TheVariants as fault
use Rattle.zk_dns.specs.Name.{◌>>=◌, AreLabels, AreRuns, EndsInPointer, EndsInRoot, IsName, Name, Run, byte_at, ended, label_at, leads_back, name_at, name_of, rest_at, run_at, run_of, run_step, size_of, target_at, whole, with_label}
use Rattle.zk_dns.proofs.NameLemmas.{length-label_at, rest_is, run_is}

-- what ends a run of labels before `end`
pub data IsEnding (bytes : List ℕ) (end ending : ℕ) : Type 0 where
  root : byte_at bytes ending ≡ 0 → ending + 1 ≤ end → IsEnding bytes end ending
  pointer : 192 ≤ byte_at bytes ending → ending + 2 ≤ end → IsEnding bytes end ending

-- what was read behind what was read
pub behind-ok : {A B : Type 0} (read : Result A DnsFault) (f : A → Result B DnsFault) (y : B) → (read >>= f) ≡ Ok y
    → (x : A) × (read ≡ Ok x) × (f x ≡ Ok y)
behind-ok (Err why) f y same = cc
behind-ok (Ok x) f y same = (x, refl, same)

-- what was read, once it is known
pub ok-is : {A : Type 0} {x y : A} → ◌≡◌ {A = Result A DnsFault} (Ok x) (Ok y) → y ≡ x
ok-is same = cc

-- what a test tells
pub le-tells : (a b : ℕ) → MatchBool (nat_le a b) (a ≤ b) (b < a)
le-tells a b = elim (leb_tells a b) [ inl (is, fact) ↦ rw is fact | inr (is, fact) ↦ rw is fact ]

pub lt-tells : (a b : ℕ) → MatchBool (nat_lt a b) (a < b) (b ≤ a)
lt-tells a b = elim (leb_tells (suc a) b) [ inl (is, fact) ↦ rw is fact | inr (is, fact) ↦ rw is (omega arith) ]

pub eq-tells : (a b : ℕ) → MatchBool (a == b) (a ≡ b) (a ≢ b)
eq-tells a b = elim (eqb_tells a b) [ inl (is, fact) ↦ rw is fact | inr (is, fact) ↦ rw is fact ]

-- ---- runs

-- a step that reads a run
pub data Stepped (follow : ℕ → ℕ → Result Run DnsFault) (bytes : List ℕ) (bound : Bound) (size place : ℕ) (run : Run) : Type 0 where
  ends_here : IsEnding bytes bound.end place → run ≡ record { labels = []; ending = place } → Stepped follow bytes bound size place run
  goes_on : (rest : Run) → 0 < byte_at bytes place → byte_at bytes place < 64 → place + 1 + byte_at bytes place ≤ bound.end
      → size + 1 + byte_at bytes place + 1 ≤ 255
      → follow (size + 1 + byte_at bytes place) (place + 1 + byte_at bytes place) ≡ Ok rest
      → run ≡ with_label (label_at bytes place) rest → Stepped follow bytes bound size place run

stepped-by : (follow : ℕ → ℕ → Result Run DnsFault) (bytes : List ℕ) (bound : Bound) (size place : ℕ) (run : Run)
    → (out none few passes long reserved cut : Bool)
    → MatchBool out (bound.end ≤ place) (place < bound.end)
    → MatchBool none (byte_at bytes place ≡ 0) (byte_at bytes place ≢ 0)
    → MatchBool few (byte_at bytes place < 64) (64 ≤ byte_at bytes place)
    → MatchBool passes (bound.end < place + 1 + byte_at bytes place) (place + 1 + byte_at bytes place ≤ bound.end)
    → MatchBool long (255 < size + 1 + byte_at bytes place + 1) (size + 1 + byte_at bytes place + 1 ≤ 255)
    → MatchBool reserved (byte_at bytes place < 192) (192 ≤ byte_at bytes place)
    → MatchBool cut (bound.end < place + 2) (place + 2 ≤ bound.end)
    → (if out then Err bound.fault
    else if none then Ok (record { labels = []; ending = place })
    else if few then
    (if passes then Err bound.fault
    else if long then Err (fault.Name place)
    else follow (size + 1 + byte_at bytes place) (place + 1 + byte_at bytes place)
    >>= λ run. Ok (with_label (label_at bytes place) run))
    else if reserved then Err (fault.Label place)
    else if cut then Err bound.fault
    else Ok (record { labels = []; ending = place })) ≡ Ok run
    → Stepped follow bytes bound size place run
stepped-by follow bytes bound size place run true none few passes long reserved cut a b c d e f g read = cc
stepped-by follow bytes bound size place run false true few passes long reserved cut a b c d e f g read = ends_here (root b (omega (arith, a))) (cc)
stepped-by follow bytes bound size place run false false true true long reserved cut a b c d e f g read = cc
stepped-by follow bytes bound size place run false false true false true reserved cut a b c d e f g read = cc
stepped-by follow bytes bound size place run false false true false false reserved cut a b c d e f g read =
    let (rest, found, run_is) = behind-ok (follow (size + 1 + byte_at bytes place) (place + 1 + byte_at bytes place))
    (λ run. Ok (with_label (label_at bytes place) run)) run read in
    goes_on rest (omega (arith, b)) c d e found (cc)
stepped-by follow bytes bound size place run false false false passes long true cut a b c d e f g read = cc
stepped-by follow bytes bound size place run false false false passes long false true a b c d e f g read = cc
stepped-by follow bytes bound size place run false false false passes long false false a b c d e f g read = ends_here (pointer f g) (cc)

-- a step reads no run but so
pub stepped : (follow : ℕ → ℕ → Result Run DnsFault) (bytes : List ℕ) (bound : Bound) (size place : ℕ) (run : Run)
    → run_step follow bytes bound size place ≡ Ok run → Stepped follow bytes bound size place run
unfolding run_step
stepped follow bytes bound size place run read =
    let byte : ℕ = byte_at bytes place in
    stepped-by follow bytes bound size place run _ _ _ _ _ _ _
    (le-tells bound.end place) (eq-tells byte 0) (lt-tells byte 64) (lt-tells bound.end (place + 1 + byte))
    (lt-tells 255 (size + 1 + byte + 1)) (lt-tells byte 192) (lt-tells bound.end (place + 2)) read

-- labels with an ending, behind `size` bytes of their name
pub record IsRun (bytes : List ℕ) (end size place : ℕ) (run : Run) : Type 0 where
  pub stand : AreLabels bytes place run.labels run.ending
  pub ending : IsEnding bytes end run.ending
  pub small : size + size_of run.labels + 1 ≤ 255

-- a label before a run makes a run
run-longer : (bytes : List ℕ) (end size place : ℕ) (rest : Run) → 0 < byte_at bytes place → byte_at bytes place < 64
    → place + 1 + byte_at bytes place ≤ length bytes
    → IsRun bytes end (size + 1 + byte_at bytes place) (place + 1 + byte_at bytes place) rest
    → IsRun bytes end size place (with_label (label_at bytes place) rest)
run-longer bytes end size place rest some few within is =
    let len : length (label_at bytes place) ≡ byte_at bytes place = length-label_at bytes place within in
    record {
      stand = (
        (omega (arith, len), omega (arith, len)),
        sym len,
        refl,
        rw len is.stand,
      );
      ending = is.ending;
      small = omega (arith, len, is.small, sum_by-cons (λ (l : List ℕ). 1 + length l) (label_at bytes place) rest.labels);
    }

-- no label is a run
run-none : (bytes : List ℕ) (end size place : ℕ) → IsEnding bytes end place → size + 1 ≤ 255
    → IsRun bytes end size place (record { labels = []; ending = place })
run-none bytes end size place ending small = record { stand = refl; ending = ending; small = omega (arith, small) }

-- what is read as a run is one
pub run-found : (n : ℕ) (bytes : List ℕ) (bound : Bound) (size place : ℕ) (run : Run) → bound.end ≤ length bytes → size + 1 ≤ 255
    → run_of n bytes bound size place ≡ Ok run → IsRun bytes bound.end size place run
unfolding run_of
run-found zero bytes bound size place run within small read = cc
run-found (suc n) bytes bound size place run within small read =
    elim (stepped (run_of n bytes bound) bytes bound size place run read) [
      | ends_here ending run_is ↦ rw run_is (run-none bytes bound.end size place ending small)
      | goes_on rest some few inside short found run_is ↦ rw run_is (run-longer bytes bound.end size place rest some few (omega arith)
          (run-found n bytes bound (size + 1 + byte_at bytes place) (place + 1 + byte_at bytes place) rest within short found))
    ]

-- the labels of a run end behind where they begin
pub labels-on : (bytes : List ℕ) (labels : List (List ℕ)) (from to : ℕ) → AreLabels bytes from labels to → from ≤ to
labels-on bytes [] from to same = omega arith
labels-on bytes (label ∷ labels) from to stand = omega (arith, labels-on bytes labels (from + 1 + length label) to stand.3)

-- an ending stands before `end`
pub ending-before : (bytes : List ℕ) (end ending : ℕ) → IsEnding bytes end ending → ending < end
ending-before bytes end ending (root is within) = omega (arith, within)
ending-before bytes end ending (pointer is within) = omega (arith, within)

run-ends-root : (follow : ℕ → ℕ → Result Run DnsFault) (bytes : List ℕ) (bound : Bound) (size place : ℕ) → byte_at bytes place ≡ 0
    → place + 1 ≤ bound.end → run_step follow bytes bound size place ≡ Ok (record { labels = []; ending = place })
unfolding run_step
run-ends-root follow bytes bound size place is within = grind (arith, nat_tests)

run-ends-pointer : (follow : ℕ → ℕ → Result Run DnsFault) (bytes : List ℕ) (bound : Bound) (size place : ℕ) → 192 ≤ byte_at bytes place
    → place + 2 ≤ bound.end → run_step follow bytes bound size place ≡ Ok (record { labels = []; ending = place })
unfolding run_step
run-ends-pointer follow bytes bound size place is within = grind (arith, nat_tests)

-- a step reads an ending
run-ends : (follow : ℕ → ℕ → Result Run DnsFault) (bytes : List ℕ) (bound : Bound) (size place : ℕ) → IsEnding bytes bound.end place
    → run_step follow bytes bound size place ≡ Ok (record { labels = []; ending = place })
run-ends follow bytes bound size place (root is within) = run-ends-root follow bytes bound size place is within
run-ends follow bytes bound size place (pointer is within) = run-ends-pointer follow bytes bound size place is within

-- a step reads a label
run-goes_on : (follow : ℕ → ℕ → Result Run DnsFault) (bytes : List ℕ) (bound : Bound) (size place : ℕ) (rest : Run)
    → 0 < byte_at bytes place → byte_at bytes place < 64 → place + 1 + byte_at bytes place ≤ bound.end → size + 1 + byte_at bytes place + 1 ≤ 255
    → follow (size + 1 + byte_at bytes place) (place + 1 + byte_at bytes place) ≡ Ok rest
    → run_step follow bytes bound size place ≡ Ok (with_label (label_at bytes place) rest)
unfolding run_step
run-goes_on follow bytes bound size place rest some few inside short found = grind (arith, nat_tests, found)

-- each run is read
pub run-only : (bytes : List ℕ) (bound : Bound) (labels : List (List ℕ)) (size place ending : ℕ) → AreLabels bytes place labels ending
    → IsEnding bytes bound.end ending → size + size_of labels + 1 ≤ 255
    → run_at bytes bound size place ≡ Ok (record { labels = labels; ending = ending })
run-only bytes bound [] size place ending stand is small =
    run_is bytes bound size place
    ∙ run-ends (run_at bytes bound) bytes bound size place (rw stand is)
    ∙ ap (λ (to : ℕ). Ok (record { labels = []; ending = to })) stand
run-only bytes bound (label ∷ labels) size place ending stand is small =
    let len : byte_at bytes place ≡ length label = stand.1 in
    let on : place + 1 + length label ≤ ending = labels-on bytes labels (place + 1 + length label) ending stand.3 in
    let before : ending < bound.end = ending-before bytes bound.end ending is in
    let total : size_of (label ∷ labels) ≡ 1 + length label + size_of labels = sum_by-cons (λ (l : List ℕ). 1 + length l) label labels in
    let rest = run-only bytes bound labels (size + 1 + length label) (place + 1 + length label) ending stand.3 is (omega (arith, small, total)) in
    run_is bytes bound size place
    ∙ run-goes_on (run_at bytes bound) bytes bound size place (record { labels = labels; ending = ending })
    (omega (arith, len, stand.0)) (omega (arith, len, stand.0)) (omega (arith, len)) (omega (arith, len, small, total)) (rw len rest)
    ∙ ap (λ (first : List ℕ). Ok (record { labels = first ∷ labels; ending = ending })) stand.2

-- ---- names

-- what an ending leads to
pub data Led (follow : ℕ → ℕ → Result Name DnsFault) (bytes : List ℕ) (size start : ℕ) (run : Run) (name : Name) : Type 0 where
  root_ends : byte_at bytes run.ending ≡ 0 → name ≡ record { labels = run.labels; next = run.ending + 1 } → Led follow bytes size start run name
  leads_on : (rest : Name) → byte_at bytes run.ending ≢ 0 → leads_back start (target_at bytes run.ending) ≡ true
      → follow (size + size_of run.labels) (target_at bytes run.ending) ≡ Ok rest
      → name ≡ record { labels = run.labels ++ rest.labels; next = run.ending + 2 } → Led follow bytes size start run name

led-by : (follow : ℕ → ℕ → Result Name DnsFault) (bytes : List ℕ) (size start : ℕ) (run : Run) (name : Name) (none back : Bool)
    → MatchBool none (byte_at bytes run.ending ≡ 0) (byte_at bytes run.ending ≢ 0)
    → leads_back start (target_at bytes run.ending) ≡ back
    → (if none then Ok (record { labels = run.labels; next = run.ending + 1 })
    else if back then (follow (size + size_of run.labels) (target_at bytes run.ending)
    >>= λ rest. Ok (record { labels = run.labels ++ rest.labels; next = run.ending + 2 }))
    else Err (fault.Pointer run.ending)) ≡ Ok name
    → Led follow bytes size start run name
led-by follow bytes size start run name true back a b read = root_ends a (cc)
led-by follow bytes size start run name false true a b read =
    let (rest, found, name_is) = behind-ok (follow (size + size_of run.labels) (target_at bytes run.ending))
    (λ rest. Ok (record { labels = run.labels ++ rest.labels; next = run.ending + 2 })) name read in
    leads_on rest a b found (cc)
led-by follow bytes size start run name false false a b read = cc

-- an ending leads to no name but so
pub led : (follow : ℕ → ℕ → Result Name DnsFault) (bytes : List ℕ) (size start : ℕ) (run : Run) (name : Name)
    → ended follow bytes size start run ≡ Ok name → Led follow bytes size start run name
unfolding ended
led follow bytes size start run name read =
    led-by follow bytes size start run name _ _ (eq-tells (byte_at bytes run.ending) 0) refl read

-- a name by its runs, behind `size` bytes of it
pub record IsNamed (bytes : List ℕ) (end size place : ℕ) (name : Name) : Type 0 where
  pub first : List (List ℕ)
  pub others : List (List (List ℕ))
  pub stand : AreRuns bytes end place (first ∷ others) name.next
  pub labels : name.labels ≡ flat_map (λ run. run) (first ∷ others)
  pub small : size + size_of name.labels + 1 ≤ 255

-- a run that ends in the root
ends-in_root : (bytes : List ℕ) (end size place : ℕ) (run : Run) → IsRun bytes end size place run → byte_at bytes run.ending ≡ 0
    → EndsInRoot bytes end place run.labels (run.ending + 1)
ends-in_root bytes end size place run is zero_is = record {
  ending = run.ending;
  stand = is.stand;
  root = zero_is;
  behind = refl;
  within = omega (arith, ending-before bytes end run.ending is.ending);
}

-- an ending that isn't the root is a pointer
pub is-pointer : (bytes : List ℕ) (end ending : ℕ) → IsEnding bytes end ending → byte_at bytes ending ≢ 0
    → (192 ≤ byte_at bytes ending) × (ending + 2 ≤ end)
is-pointer bytes end ending (root is within) some = absurd (some is)
is-pointer bytes end ending (pointer is within) some = (is, within)

-- a run that ends in a pointer
ends-in_pointer : (bytes : List ℕ) (end size place : ℕ) (run : Run) → IsRun bytes end size place run → byte_at bytes run.ending ≢ 0
    → leads_back place (target_at bytes run.ending) ≡ true
    → EndsInPointer bytes end place run.labels (run.ending + 2) (target_at bytes run.ending)
ends-in_pointer bytes end size place run is some back =
    let p : (192 ≤ byte_at bytes run.ending) × (run.ending + 2 ≤ end) = is-pointer bytes end run.ending is.ending some in
    record { ending = run.ending; stand = is.stand; pointer = p.0; leads = refl; back = back; behind = refl; within = p.1 }

-- a run before a name's rest makes a name
name-longer : (bytes : List ℕ) (end size place : ℕ) (run : Run) (rest : Name) → IsRun bytes end size place run → byte_at bytes run.ending ≢ 0
    → leads_back place (target_at bytes run.ending) ≡ true
    → IsNamed bytes (length bytes) (size + size_of run.labels) (target_at bytes run.ending) rest
    → IsNamed bytes end size place (record { labels = run.labels ++ rest.labels; next = run.ending + 2 })
name-longer bytes end size place run rest is some back behind = record {
  first = run.labels;
  others = behind.first ∷ behind.others;
  stand = (target_at bytes run.ending, rest.next, ends-in_pointer bytes end size place run is some back, behind.stand);
  labels = ap (λ (labels : List (List ℕ)). run.labels ++ labels) behind.labels;
  small = omega (arith, behind.small, sum_by-append (λ (l : List ℕ). 1 + length l) run.labels rest.labels);
}

-- what is read as a name is one
pub name-found-of : (n : ℕ) (bytes : List ℕ) (bound : Bound) (size place : ℕ) (name : Name) → bound.end ≤ length bytes → size + 1 ≤ 255
    → name_of n bytes bound size place ≡ Ok name → IsNamed bytes bound.end size place name
unfolding name_of run_at
name-found-of zero bytes bound size place name within small read = cc
name-found-of (suc n) bytes bound size place name within small read =
    let (run, found, rest) = behind-ok (run_at bytes bound size place) (ended (name_of n bytes (whole bytes)) bytes size place) name read in
    let is : IsRun bytes bound.end size place run = run-found 128 bytes bound size place run within small found in
    elim (led (name_of n bytes (whole bytes)) bytes size place run name rest) [
      | root_ends zero_is name_is ↦ rw name_is (record {
        first = run.labels;
        others = [];
        stand = ends-in_root bytes bound.end size place run is zero_is;
        labels = sym (append-nil run.labels);
        small = is.small;
      })
      | leads_on rest some back found name_is ↦ rw name_is (name-longer bytes bound.end size place run rest is some back
          (name-found-of n bytes (whole bytes) (size + size_of run.labels) (target_at bytes run.ending) rest (omega arith) is.small found))
    ]

-- what is read as a name at a place is one
pub name-found : (bytes : List ℕ) (bound : Bound) (place : ℕ) (name : Name) → bound.end ≤ length bytes
    → name_at bytes bound place ≡ Ok name → IsName bytes bound.end place name.labels name.next
unfolding name_at rest_at
name-found bytes bound place name within read =
    let is : IsNamed bytes bound.end 0 place name = name-found-of (suc place) bytes bound 0 place name within (omega arith) read in
    (is.first ∷ is.others, is.stand, is.labels, omega (arith, is.small))

-- an ending leads where its kind says
led-root : (follow : ℕ → ℕ → Result Name DnsFault) (bytes : List ℕ) (size start : ℕ) (run : Run) → byte_at bytes run.ending ≡ 0
    → ended follow bytes size start run ≡ Ok (record { labels = run.labels; next = run.ending + 1 })
unfolding ended
led-root follow bytes size start run zero_is = grind (arith, nat_tests)

led-on : (follow : ℕ → ℕ → Result Name DnsFault) (bytes : List ℕ) (size start : ℕ) (run : Run) (rest : Name) → 192 ≤ byte_at bytes run.ending
    → leads_back start (target_at bytes run.ending) ≡ true → follow (size + size_of run.labels) (target_at bytes run.ending) ≡ Ok rest
    → ended follow bytes size start run ≡ Ok (record { labels = run.labels ++ rest.labels; next = run.ending + 2 })
unfolding ended
led-on follow bytes size start run rest some back found = grind (arith, nat_tests, back, found)

-- each name is read
pub rest-only : (bytes : List ℕ) (bound : Bound) (runs : List (List (List ℕ))) (size place next : ℕ) → AreRuns bytes bound.end place runs next
    → size + size_of (flat_map (λ run. run) runs) + 1 ≤ 255
    → rest_at bytes bound size place ≡ Ok (record { labels = flat_map (λ run. run) runs; next = next })
rest-only bytes bound [] size place next stand small = absurd stand
rest-only bytes bound (labels ∷ []) size place next stand small =
    let run : Run = record { labels = labels; ending = stand.ending } in
    let follow : ℕ → ℕ → Result Name DnsFault = rest_at bytes (whole bytes) in
    let all : size_of (labels ++ []) ≡ size_of labels = ap size_of (append-nil labels) in
    rest_is bytes bound size place
    ∙ ap (λ (r : Result Run DnsFault). r >>= ended follow bytes size place)
    (run-only bytes bound labels size place stand.ending stand.stand (root stand.root (omega (arith, stand.behind, stand.within))) (omega (arith, small, all)))
    ∙ led-root follow bytes size place run stand.root
    ∙ ap (λ (l : List (List ℕ)). Ok (record { labels = l; next = stand.ending + 1 })) (sym (append-nil labels))
    ∙ ap (λ (to : ℕ). Ok (record { labels = labels ++ []; next = to })) (sym stand.behind)
rest-only bytes bound (labels ∷ others ∷ runs) size place next (target, behind, led, stand) small =
    let run : Run = record { labels = labels; ending = led.ending } in
    let follow : ℕ → ℕ → Result Name DnsFault = rest_at bytes (whole bytes) in
    let more : List (List ℕ) = flat_map (λ run. run) (others ∷ runs) in
    let all : size_of (labels ++ more) ≡ size_of labels + size_of more = sum_by-append (λ (l : List ℕ). 1 + length l) labels more in
    let rest : Name = record { labels = more; next = behind } in
    let found : follow (size + size_of labels) target ≡ Ok rest
    = rest-only bytes (whole bytes) (others ∷ runs) (size + size_of labels) target behind stand (omega (arith, small, all)) in
    rest_is bytes bound size place
    ∙ ap (λ (r : Result Run DnsFault). r >>= ended follow bytes size place)
    (run-only bytes bound labels size place led.ending led.stand (pointer led.pointer (omega (arith, led.behind, led.within))) (omega (arith, small, all)))
    ∙ led-on follow bytes size place run rest led.pointer (rw (← led.leads) led.back) (rw (← led.leads) found)
    ∙ ap (λ (to : ℕ). Ok (record { labels = labels ++ more; next = to })) (sym led.behind)

pub name-only : (bytes : List ℕ) (bound : Bound) (place : ℕ) (labels : List (List ℕ)) (next : ℕ) → IsName bytes bound.end place labels next
    → name_at bytes bound place ≡ Ok (record { labels = labels; next = next })
unfolding name_at
name-only bytes bound place labels next (runs, stand, labels_is, small) =
    rest-only bytes bound runs 0 place next stand (omega (arith, small, ap size_of labels_is))
    ∙ ap (λ (l : List (List ℕ)). Ok (record { labels = l; next = next })) (sym labels_is)
