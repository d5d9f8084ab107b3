-- Names without a count of steps: each run goes on behind a label as it begins, and each name behind a pointer.
use Rattle.std.proofs.Common.{◌≡◌, ◌≢◌, ℕ, zero, suc, ◌+◌, ◌*◌, ◌<◌, ◌≤◌, ◌==◌, nat_lt, nat_le, if◌then◌else◌, false, List, [], ◌++◌, length, drop, Result, Ok, Err, refl, ap, sym, ◌∙◌, arith, length-take, length-drop}
use Rattle.std.proofs.lemmas.Bool.Decides.{nat_tests}
use Rattle.std.proofs.lemmas.List.Sums.{sum_by-cons}
use Rattle.zk_dns.specs.declared.bound.Bound.{Bound}
use Rattle.zk_dns.specs.declared.name.RunEnd.{RunEnd}
use Rattle.zk_dns.specs.declared.fault.DnsFault.{DnsFault}
use Rattle.zk_dns.specs.declared.fault.DnsFault.TheVariants as fault
use Rattle.zk_dns.specs.Name.{◌>>=◌, Run, Name, byte_at, ended, label_at, leads_back, name_at, name_of, rest_at, run_at, run_of, run_step, size_of, target_at, whole, with_label}
use Rattle.zk_dns.specs.Ends.{behind_ending, name_end_at, run_end_at, run_end_of}

-- a step depends on how the labels behind it are read only where there may be more of them
run_step-same : (f g : ℕ → ℕ → Result Run DnsFault) (bytes : List ℕ) (bound : Bound) (size place : ℕ)
    → ((more next : ℕ) → more < 255 → size + 2 ≤ more → f more next ≡ g more next)
    → run_step f bytes bound size place ≡ run_step g bytes bound size place
unfolding run_step
run_step-same f g bytes bound size place same = grind (arith, nat_tests, same)

-- steps that are enough agree
run_of-enough : (n m : ℕ) (bytes : List ℕ) (bound : Bound) (size place : ℕ)
    → size < 255 → 255 ≤ size + 2 * n → 255 ≤ size + 2 * m → run_of n bytes bound size place ≡ run_of m bytes bound size place
unfolding run_of
run_of-enough zero m bytes bound size place small n_is m_is = absurd (omega arith)
run_of-enough (suc n) zero bytes bound size place small n_is m_is = absurd (omega arith)
run_of-enough (suc n) (suc m) bytes bound size place small n_is m_is =
    run_step-same (run_of n bytes bound) (run_of m bytes bound) bytes bound size place
    (λ more next less longer. run_of-enough n m bytes bound more next less (omega arith) (omega arith))

-- behind a label the run goes on as it began
pub run_is : (bytes : List ℕ) (bound : Bound) (size place : ℕ)
    → run_at bytes bound size place ≡ run_step (run_at bytes bound) bytes bound size place
unfolding run_at run_of
run_is bytes bound size place =
    run_step-same (run_of 127 bytes bound) (run_of 128 bytes bound) bytes bound size place
    (λ more next less longer. run_of-enough 127 128 bytes bound more next less (omega arith) (omega arith))

-- ---- where a run of labels ends

-- a label that lies within the bytes is as long as its length byte says
pub length-label_at : (bytes : List ℕ) (place : ℕ) → place + 1 + byte_at bytes place ≤ length bytes
    → length (label_at bytes place) ≡ byte_at bytes place
length-label_at bytes place within = omega (arith, length-take (byte_at bytes place) (drop (place + 1) bytes), length-drop (place + 1) bytes)

-- a run behind a label ends where the whole run does
run_end-behind_label : (read : Result Run DnsFault) (label : List ℕ) (size len : ℕ) → length label ≡ len
    → ((read >>= λ run. Ok (with_label label run)) >>= λ run. Ok (run_end_of size run)) ≡ (read >>= λ run. Ok (run_end_of (size + 1 + len) run))
run_end-behind_label (Err f) label size len same = refl
run_end-behind_label (Ok run) label size len same =
    ap (λ (total : ℕ). Ok (record { place = run.ending; size = total }))
    (omega (arith, sum_by-cons (λ (l : List ℕ). 1 + length l) label run.labels))

-- one step towards the end of a run
abbrev pub run_end_step : List ℕ → Bound → ℕ → ℕ → Result RunEnd DnsFault
run_end_step bytes bound size place =
    if nat_le bound.end place then Err bound.fault
    else if byte_at bytes place == 0 then Ok (record { place = place; size = size })
    else if nat_lt (byte_at bytes place) 64 then
    (if nat_lt bound.end (place + 1 + byte_at bytes place) then Err bound.fault
    else if nat_lt 255 (size + 1 + byte_at bytes place + 1) then Err (fault.Name place)
    else run_end_at bytes bound (size + 1 + byte_at bytes place) (place + 1 + byte_at bytes place))
    else if nat_lt (byte_at bytes place) 192 then Err (fault.Label place)
    else if nat_lt bound.end (place + 2) then Err bound.fault
    else Ok (record { place = place; size = size })

-- the end of a run is found by one step after another
pub run_end_is : (bytes : List ℕ) (bound : Bound) (size place : ℕ) → bound.end ≤ length bytes
    → run_end_at bytes bound size place ≡ run_end_step bytes bound size place
unfolding run_end_at run_step
run_end_is bytes bound size place within =
    let follow : Result Run DnsFault = run_at bytes bound (size + 1 + byte_at bytes place) (place + 1 + byte_at bytes place) in
    let behind : length (label_at bytes place) ≡ byte_at bytes place
    → ((follow >>= λ run. Ok (with_label (label_at bytes place) run)) >>= λ run. Ok (run_end_of size run))
    ≡ (follow >>= λ run. Ok (run_end_of (size + 1 + byte_at bytes place) run))
    = run_end-behind_label follow (label_at bytes place) size (byte_at bytes place) in
    let long : place + 1 + byte_at bytes place ≤ length bytes → length (label_at bytes place) ≡ byte_at bytes place
    = length-label_at bytes place in
    let bare : size + 0 ≡ size = omega arith in
    ap (λ (r : Result Run DnsFault). r >>= λ run. Ok (run_end_of size run)) (run_is bytes bound size place)
    ∙ grind (arith, nat_tests, behind, long, bare)

-- behind a label that fits, what is left of the run ends where all of it does
pub run_end-next : (bytes : List ℕ) (bound : Bound) (size place len : ℕ) → bound.end ≤ length bytes → len ≡ byte_at bytes place
    → 0 < len → len < 64 → place + (1 + len) ≤ bound.end → size + (1 + len) < 255
    → run_end_at bytes bound size place ≡ run_end_at bytes bound (size + (1 + len)) (place + (1 + len))
run_end-next bytes bound size place len within len_is some few fits small =
    let size_is : size + 1 + byte_at bytes place ≡ size + (1 + len) = omega arith in
    let place_is : place + 1 + byte_at bytes place ≡ place + (1 + len) = omega arith in
    run_end_is bytes bound size place within ∙ grind (arith, nat_tests, size_is, place_is)

-- ---- where a name ends

-- what an ending leads to depends on how the rest is read only where that begins before the run
ended-same : (f g : ℕ → ℕ → Result Name DnsFault) (bytes : List ℕ) (size start : ℕ) (run : Run)
    → ((more target : ℕ) → target < start → f more target ≡ g more target)
    → ended f bytes size start run ≡ ended g bytes size start run
unfolding ended
ended-same f g bytes size start run same = grind (arith, nat_tests, same)

-- behind a read that agrees, readings that agree
bind-same : {A B : Type 0} (read : Result A DnsFault) (f g : A → Result B DnsFault) → ((x : A) → f x ≡ g x) → (read >>= f) ≡ (read >>= g)
bind-same (Err fault) f g same = refl
bind-same (Ok x) f g same = same x

-- runs that are enough agree
name_of-enough : (n m : ℕ) (bytes : List ℕ) (bound : Bound) (size place : ℕ)
    → place < n → place < m → name_of n bytes bound size place ≡ name_of m bytes bound size place
unfolding name_of
name_of-enough zero m bytes bound size place n_is m_is = absurd (omega arith)
name_of-enough (suc n) zero bytes bound size place n_is m_is = absurd (omega arith)
name_of-enough (suc n) (suc m) bytes bound size place n_is m_is =
    bind-same (run_at bytes bound size place)
    (ended (name_of n bytes (whole bytes)) bytes size place) (ended (name_of m bytes (whole bytes)) bytes size place)
    (λ run. ended-same (name_of n bytes (whole bytes)) (name_of m bytes (whole bytes)) bytes size place run
    (λ more target before. name_of-enough n m bytes (whole bytes) more target (omega arith) (omega arith)))

-- behind a pointer the name goes on as it began
pub rest_is : (bytes : List ℕ) (bound : Bound) (size place : ℕ)
    → rest_at bytes bound size place ≡ (run_at bytes bound size place >>= ended (rest_at bytes (whole bytes)) bytes size place)
unfolding rest_at name_of
rest_is bytes bound size place =
    bind-same (run_at bytes bound size place)
    (ended (name_of place bytes (whole bytes)) bytes size place) (ended (rest_at bytes (whole bytes)) bytes size place)
    (λ run. ended-same (name_of place bytes (whole bytes)) (rest_at bytes (whole bytes)) bytes size place run
    (λ more target before. name_of-enough place (suc target) bytes (whole bytes) more target before (omega arith)))

-- a place, if a name was read
abbrev pub told : ℕ → Result Name DnsFault → Result ℕ DnsFault
told next read = read >>= λ name. Ok next

-- a run of which only its end is known
abbrev pub bare : ℕ → Run
bare ending = record { labels = []; ending = ending }

-- what is left of a name whose run ends here
abbrev pub left_of : List ℕ → ℕ → RunEnd → Result Name DnsFault
left_of bytes start run = ended (rest_at bytes (whole bytes)) bytes run.size start (bare run.place)

-- for a place that is told anyway it doesn't count what else is made of a name
told-made : (next : ℕ) (read : Result Name DnsFault) (make : Name → Name) → told next (read >>= λ name. Ok (make name)) ≡ told next read
told-made next (Err fault) make = refl
told-made next (Ok name) make = refl

-- for the place behind a name its labels don't count
told-bare : (next : ℕ) (follow : ℕ → ℕ → Result Name DnsFault) (bytes : List ℕ) (size start : ℕ) (run : Run)
    → told next (ended follow bytes size start run) ≡ told next (ended follow bytes (size + size_of run.labels) start (bare run.ending))
unfolding ended
told-bare next follow bytes size start run =
    let total : size + size_of run.labels + 0 ≡ size + size_of run.labels = omega arith in
    let rest : Result Name DnsFault = follow (size + size_of run.labels) (target_at bytes run.ending) in
    let whole = told-made next rest (λ rest. record { labels = run.labels ++ rest.labels; next = run.ending + 2 }) in
    let bare = told-made next rest (λ rest. record { labels = rest.labels; next = run.ending + 2 }) in
    grind (arith, nat_tests, total, whole, bare)

-- the place that is made of a name
name_end-made : (next : ℕ) (read : Result Name DnsFault) (make : Name → Name) → ((name : Name) → (make name).next ≡ next)
    → ((read >>= λ name. Ok (make name)) >>= λ name. Ok name.next) ≡ told next (read >>= λ name. Ok (make name))
name_end-made next (Err fault) make same = refl
name_end-made next (Ok name) make same = ap (λ (place : ℕ). Ok place) (same name)

-- a name's place behind it is that behind what ends its first run
name_end-told : (follow : ℕ → ℕ → Result Name DnsFault) (bytes : List ℕ) (start : ℕ) (run : Run)
    → (ended follow bytes 0 start run >>= λ name. Ok name.next) ≡ told (behind_ending bytes run.ending) (ended follow bytes 0 start run)
unfolding ended
name_end-told follow bytes start run =
    let rest : Result Name DnsFault = follow (0 + size_of run.labels) (target_at bytes run.ending) in
    let made = name_end-made (run.ending + 2) rest (λ rest. record { labels = run.labels ++ rest.labels; next = run.ending + 2 }) (λ name. refl) in
    grind (arith, nat_tests, made)

-- a run whose end wasn't found
run-refused : (read : Result Run DnsFault) (size : ℕ) (why : DnsFault) (f : Run → Result Name DnsFault) (next : ℕ)
    → (read >>= λ run. Ok (run_end_of size run)) ≡ Err why → told next (read >>= f) ≡ Err why
run-refused (Err fault) size why f next found = cc
run-refused (Ok run) size why f next found = cc

run-refused-end : (read : Result Run DnsFault) (size : ℕ) (why : DnsFault) (f : Run → Result Name DnsFault)
    → (read >>= λ run. Ok (run_end_of size run)) ≡ Err why → ((read >>= f) >>= λ name. Ok name.next) ≡ Err why
run-refused-end (Err fault) size why f found = cc
run-refused-end (Ok run) size why f found = cc

-- a name whose first run can't be read
pub name_end-refused : (bytes : List ℕ) (bound : Bound) (place : ℕ) (why : DnsFault) → run_end_at bytes bound 0 place ≡ Err why
    → name_end_at bytes bound place ≡ Err why
unfolding name_end_at name_at run_end_at
name_end-refused bytes bound place why found =
    ap (λ (r : Result Name DnsFault). r >>= λ name. Ok name.next) (rest_is bytes bound 0 place)
    ∙ run-refused-end (run_at bytes bound 0 place) 0 why (ended (rest_at bytes (whole bytes)) bytes 0 place) found

-- a run whose end was found
run-found : (read : Result Run DnsFault) (size : ℕ) (end : RunEnd) → (read >>= λ run. Ok (run_end_of size run)) ≡ Ok end
    → (run : Run) × (read ≡ Ok run) × (end ≡ run_end_of size run)
run-found (Err fault) size end found = cc
run-found (Ok run) size end found = (run, refl, cc)

-- a name ends behind its first run, if what is left of it can be read
pub name_end-begins : (bytes : List ℕ) (bound : Bound) (place : ℕ) (end : RunEnd) → run_end_at bytes bound 0 place ≡ Ok end
    → name_end_at bytes bound place ≡ told (behind_ending bytes end.place) (left_of bytes place end)
unfolding name_end_at name_at run_end_at
name_end-begins bytes bound place end found =
    let (run, read, end_is) = run-found (run_at bytes bound 0 place) 0 end found in
    let follow : ℕ → ℕ → Result Name DnsFault = rest_at bytes (whole bytes) in
    let begins : rest_at bytes bound 0 place ≡ ended follow bytes 0 place run
    = rest_is bytes bound 0 place ∙ ap (λ (r : Result Run DnsFault). r >>= ended follow bytes 0 place) read in
    ap (λ (r : Result Name DnsFault). r >>= λ name. Ok name.next) begins
    ∙ name_end-told follow bytes place run
    ∙ told-bare (behind_ending bytes run.ending) follow bytes 0 place run
    ∙ ap (λ (e : RunEnd). told (behind_ending bytes e.place) (left_of bytes place e)) (sym end_is)

-- what is left behind a run that ends in a pointer back is what is read there
pub left-pointer : (next : ℕ) (bytes : List ℕ) (start : ℕ) (end : RunEnd) (target : ℕ)
    → byte_at bytes end.place ≢ 0 → target ≡ target_at bytes end.place → 12 ≤ target → target < start
    → told next (left_of bytes start end) ≡ told next (rest_at bytes (whole bytes) end.size target)
unfolding ended
left-pointer next bytes start end target pointer target_is behind before =
    let total : end.size + 0 ≡ end.size = omega arith in
    let made = told-made next (rest_at bytes (whole bytes) end.size target) (λ rest. record { labels = rest.labels; next = end.place + 2 }) in
    grind (arith, nat_tests, total, made)

-- what is left behind the root is nothing
pub left-root : (next : ℕ) (bytes : List ℕ) (start : ℕ) (end : RunEnd) → byte_at bytes end.place ≡ 0
    → told next (left_of bytes start end) ≡ Ok next
unfolding ended
left-root next bytes start end root = grind (arith, nat_tests)

-- a pointer that doesn't lead back
pub left-astray : (next : ℕ) (bytes : List ℕ) (start : ℕ) (end : RunEnd) → byte_at bytes end.place ≢ 0
    → leads_back start (target_at bytes end.place) ≡ false
    → told next (left_of bytes start end) ≡ Err (fault.Pointer end.place)
unfolding ended
left-astray next bytes start end pointer astray = grind (arith, nat_tests)

-- what is read where a name goes on is left behind the run there
pub rest-goes_on : (next : ℕ) (bytes : List ℕ) (size place : ℕ) (other : RunEnd) → run_end_at bytes (whole bytes) size place ≡ Ok other
    → told next (rest_at bytes (whole bytes) size place) ≡ told next (left_of bytes place other)
unfolding run_end_at
rest-goes_on next bytes size place other found =
    let (run, read, other_is) = run-found (run_at bytes (whole bytes) size place) size other found in
    let follow : ℕ → ℕ → Result Name DnsFault = rest_at bytes (whole bytes) in
    ap (told next) (rest_is bytes (whole bytes) size place ∙ ap (λ (r : Result Run DnsFault). r >>= ended follow bytes size place) read)
    ∙ told-bare next follow bytes size place run
    ∙ ap (λ (e : RunEnd). told next (left_of bytes place e)) (sym other_is)

-- a name that goes on at a run that can't be read
pub rest-fault : (next : ℕ) (bytes : List ℕ) (size place : ℕ) (why : DnsFault) → run_end_at bytes (whole bytes) size place ≡ Err why
    → told next (rest_at bytes (whole bytes) size place) ≡ Err why
unfolding run_end_at
rest-fault next bytes size place why found =
    let follow : ℕ → ℕ → Result Name DnsFault = rest_at bytes (whole bytes) in
    ap (told next) (rest_is bytes (whole bytes) size place)
    ∙ run-refused (run_at bytes (whole bytes) size place) size why (ended follow bytes size place) next found
