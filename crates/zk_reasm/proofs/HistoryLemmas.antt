-- The entries that count, after one more was told.
use Rattle.std.proofs.Common.{◌≡◌, ℕ, true, false, cond, List, [], ◌∷◌, ◌++◌, fold, refl, sym, ap, ◌∙◌, ⊎_elim, append_assoc, append-nil}
use Rattle.std.proofs.lemmas.Bool.{cases_Bool, true≢false}
use Rattle.std.proofs.lemmas.List.Sums.{fold-append}
use Rattle.zk_reasm.specs.Histories.{is_over, counted, over_of}
use Rattle.zk_reasm.specs.Told.{Told}

-- the entries that count with one more
abbrev grown : ℕ → ℕ → List Told → Told → List Told
grown base limit before entry = cond (is_over base limit before) before (before ++ entry ∷ [])

pub counted-append : (base limit : ℕ) (told : List Told) (entry : Told)
    → counted base limit (told ++ entry ∷ []) ≡ cond (over_of base limit told) (counted base limit told) (counted base limit told ++ entry ∷ [])
unfolding counted
counted-append base limit told entry = fold-append (grown base limit) [] told (entry ∷ [])

-- once it is over no entry counts
over_stays : (base limit : ℕ) (before rest : List Told) → is_over base limit before ≡ true → fold (grown base limit) before rest ≡ before
over_stays base limit before [] over = refl
over_stays base limit before (entry ∷ rest) over =
    ap (λ b. fold (grown base limit) (cond b before (before ++ entry ∷ [])) rest) over ∙ over_stays base limit before rest over

all_count : (base limit : ℕ) (before rest : List Told) → is_over base limit (fold (grown base limit) before rest) ≡ false → fold (grown base limit) before rest ≡ before ++ rest
all_count base limit before [] live = sym (append-nil before)
all_count base limit before (entry ∷ rest) live =
    ⊎_elim
    (λ over. absurd (true≢false (sym over ∙ ap (is_over base limit) (sym (over_stays base limit before (entry ∷ rest) over)) ∙ live)))
    (λ on.
    let first = ap (λ b. fold (grown base limit) (cond b before (before ++ entry ∷ [])) rest) on in
    first ∙ all_count base limit (before ++ entry ∷ []) rest (ap (is_over base limit) (sym first) ∙ live) ∙ append_assoc before (entry ∷ []) rest)
    (cases_Bool (is_over base limit before))

-- all entries count of a stream that isn't over
pub counted_live : (base limit : ℕ) (told : List Told) → over_of base limit told ≡ false → counted base limit told ≡ told
unfolding counted
counted_live base limit told live = all_count base limit [] told live

-- and then one more
pub counted_more : (base limit : ℕ) (told : List Told) (entry : Told) → over_of base limit told ≡ false → counted base limit (told ++ entry ∷ []) ≡ told ++ entry ∷ []
counted_more base limit told entry live =
    counted-append base limit told entry
    ∙ ap (λ b. cond b (counted base limit told) (counted base limit told ++ entry ∷ [])) live
    ∙ ap (λ xs. xs ++ entry ∷ []) (counted_live base limit told live)

-- one more doesn't count where it is over
pub counted_over : (base limit : ℕ) (told : List Told) (entry : Told) → over_of base limit told ≡ true → counted base limit (told ++ entry ∷ []) ≡ counted base limit told
counted_over base limit told entry over =
    counted-append base limit told entry
    ∙ ap (λ b. cond b (counted base limit told) (counted base limit told ++ entry ∷ [])) over
