-- What a direction put together is, in the subject's own words.
use Rattle.std.proofs.Common.{◌≡◌, ℕ, ◌≤◌, true, List, [], ◌∷◌, ◌++◌, Some, sym, ap, subst, ◌∙◌, ⊎_elim, arith, append_assoc, append-nil}
use Rattle.std.specs.Option.{option_or}
use Rattle.std.proofs.lemmas.Bool.{cases_Bool}
use Rattle.zk_reasm.specs.Direction.{byte_put, byte_at, front}
use Rattle.zk_reasm.specs.Histories.{is_over, over_of, front_of, byte_of_stream}
use Rattle.zk_reasm.specs.Told.{Told}
use Rattle.zk_reasm.proofs.HistoryLemmas.{counted_live, counted_more, counted_over}
use Rattle.zk_reasm.proofs.ToldLemmas.{step_of, front-append, byte_at-append}

-- what holds of a history and then of one more entry holds of all that begin with it
pub longer : (P : List Told → Type 0) → ((told : List Told) (entry : Told) → P told → P (told ++ entry ∷ [])) → (told more : List Told) → P told → P (told ++ more)
longer P next told [] here = subst P (sym (append-nil told)) here
longer P next told (entry ∷ more) here = subst P (append_assoc told (entry ∷ []) more) (longer P next (told ++ entry ∷ []) more (next told entry here))

front_one : (base limit : ℕ) (told : List Told) (entry : Told) → front_of base limit told ≤ front_of base limit (told ++ entry ∷ [])
front_one base limit told entry =
    ⊎_elim
    (λ over. let same = ap (front base) (counted_over base limit told entry over) in omega (arith, same))
    (λ live.
    let more = ap (front base) (counted_more base limit told entry live) ∙ front-append base told entry in
    let was = ap (front base) (counted_live base limit told live) in
    omega (arith, more, was))
    (cases_Bool (over_of base limit told))

pub front_never_falls : (base limit : ℕ) (told more : List Told) → front_of base limit told ≤ front_of base limit (told ++ more)
front_never_falls base limit told more =
    longer (λ xs. front_of base limit told ≤ front_of base limit xs) (λ xs entry low. let next = front_one base limit xs entry in omega (arith, low, next)) told more (omega arith)

byte_one : (base limit at byte : ℕ) (told : List Told) (entry : Told) → byte_of_stream base limit told at ≡ Some byte → byte_of_stream base limit (told ++ entry ∷ []) at ≡ Some byte
byte_one base limit at byte told entry is =
    ⊎_elim
    (λ over. ap (λ xs. byte_at base xs at) (counted_over base limit told entry over) ∙ is)
    (λ live. ap (λ xs. byte_at base xs at) (counted_more base limit told entry live) ∙ byte_at-append base told entry at
    ∙ ap (λ o. option_or o (byte_put base (step_of told entry) at)) (ap (λ xs. byte_at base xs at) (sym (counted_live base limit told live)) ∙ is))
    (cases_Bool (over_of base limit told))

pub first_stands : (base limit at byte : ℕ) (told more : List Told) → byte_of_stream base limit told at ≡ Some byte → byte_of_stream base limit (told ++ more) at ≡ Some byte
first_stands base limit at byte told more is =
    longer (λ xs. byte_of_stream base limit xs at ≡ Some byte) (byte_one base limit at byte) told more is

pub over_stays_so : (base limit : ℕ) (told more : List Told) → over_of base limit told ≡ true → over_of base limit (told ++ more) ≡ true
over_stays_so base limit told more over =
    longer (λ xs. over_of base limit xs ≡ true) (λ xs entry is. ap (is_over base limit) (counted_over base limit xs entry is) ∙ is) told more over
