-- The places of columns.
use Rattle.std.proofs.Common.{◌≡◌, ◌<◌, ◌≤◌, ◌+◌, ℕ, zero, suc, List, [], ◌∷◌, ◌++◌, take, length, get_or, refl, sym, ap, ◌∙◌, arith}
use Rattle.std.proofs.lemmas.List.{take_more}
use Rattle.zk_typed.specs.Logs.{all_columns}

all_columns-append : (n : ℕ) (columns : List ℕ) (column : ℕ) → all_columns n (columns ++ column ∷ []) ≡ all_columns n columns ++ (n + length columns) ∷ []
all_columns-append n [] column = let e : n ≡ n + 0 = omega arith in ap (λ k. k ∷ []) e
all_columns-append n (first ∷ columns) column =
    let e : n + 1 + length columns ≡ n + suc (length columns) = omega arith in
    ap (λ ks. n ∷ ks) (all_columns-append (n + 1) columns column ∙ ap (λ k. all_columns (n + 1) columns ++ k ∷ []) e)

length-take : (n : ℕ) (columns : List ℕ) → n ≤ length columns → length (take n columns) ≡ n
length-take zero [] few = refl
length-take zero (x ∷ xs) few = refl
length-take (suc n) [] few = absurd (omega arith)
length-take (suc n) (x ∷ xs) few = ap suc (length-take n xs (omega arith))

pub all_columns-more : (columns : List ℕ) (i : ℕ) → i < length columns → all_columns 0 (take (i + 1) columns) ≡ all_columns 0 (take i columns) ++ i ∷ []
all_columns-more columns i within =
    ap (all_columns 0) (take_more columns i 0 within)
    ∙ all_columns-append 0 (take i columns) (get_or columns i 0)
    ∙ ap (λ k. all_columns 0 (take i columns) ++ k ∷ []) (plus_none (length (take i columns)) ∙ length-take i columns (omega arith))
  where
    plus_none : (n : ℕ) → 0 + n ≡ n
    plus_none n = omega arith
