-- Texts that are joined by another between each two.
use Rattle.std.proofs.Common.{◌≡◌, ◌==◌, ◌+◌, ◌<◌, ◌≤◌, ℕ, zero, suc, false, cond, List, [], ◌∷◌, ◌++◌, take, drop, length, get_or, refl, sym, ap, ◌∙◌, arith, append_assoc, length-append, rules}
use Rattle.std.proofs.lemmas.List.{take-append-drop, take_more}
use Rattle.zk_tree.specs.Lists.{joined_by}

-- what stands before a part of this number
abbrev pub separated : ℕ → List ℕ → List ℕ → List ℕ
separated number sep part = (cond (number == 0) [] sep) ++ part

-- one part more
pub joined_by-push : (sep : List ℕ) (parts : List (List ℕ)) (part : List ℕ) → joined_by sep (parts ++ part ∷ []) ≡ joined_by sep parts ++ separated (length parts) sep part
joined_by-push sep [] part = refl
joined_by-push sep (first ∷ []) part = refl
joined_by-push sep (first ∷ second ∷ parts) part =
    ap (λ text. first ++ (sep ++ text)) (joined_by-push sep (second ∷ parts) part ∙ ap (λ t. joined_by sep (second ∷ parts) ++ ((cond t [] sep) ++ part)) (not_first (length parts)))
    ∙ ap (λ text. first ++ text) (sym (append_assoc sep (joined_by sep (second ∷ parts)) (sep ++ part)))
    ∙ sym (append_assoc first (sep ++ joined_by sep (second ∷ parts)) (sep ++ part))
    ∙ ap (λ t. (first ++ (sep ++ joined_by sep (second ∷ parts))) ++ ((cond t [] sep) ++ part)) (sym (not_first (suc (length parts))))
  where
    not_first : (n : ℕ) → (suc n == 0) ≡ false
    not_first n = search rules

pub joined_by-more : (sep : List ℕ) (parts : List (List ℕ)) (place : ℕ) (part : List ℕ) → place < length parts → part ≡ get_or parts place part
    → joined_by sep (take (place + 1) parts) ≡ joined_by sep (take place parts) ++ separated place sep part
joined_by-more sep parts place part within is =
    ap (joined_by sep) (take_more parts place part within ∙ ap (λ p. take place parts ++ p ∷ []) (sym is))
    ∙ joined_by-push sep (take place parts) part
    ∙ ap (λ n. joined_by sep (take place parts) ++ separated n sep part) (long parts place (omega (arith, within)))
  where
    long : (xs : List (List ℕ)) (n : ℕ) → n ≤ length xs → length (take n xs) ≡ n
    long xs zero le = none xs
      where
        none : (xs : List (List ℕ)) → length (take 0 xs) ≡ 0
        none [] = refl
        none (x ∷ xs) = refl
    long [] (suc n) le = absurd (no_more le)
      where
        no_more : {n : ℕ} → suc n ≤ 0 → ⊥
        no_more le = omega (arith, le)
    long (x ∷ xs) (suc n) le = ap suc (long xs n (omega (arith, le)))

-- some first parts have no longer text
joined_by-front : (sep : List ℕ) (first others : List (List ℕ)) → length (joined_by sep first) ≤ length (joined_by sep (first ++ others))
joined_by-front sep [] others = omega arith
joined_by-front sep (part ∷ []) [] = omega arith
joined_by-front sep (part ∷ []) (other ∷ others) = let sum = length-append part (sep ++ joined_by sep (other ∷ others)) in omega (arith, sum)
joined_by-front sep (part ∷ second ∷ parts) others =
    let more = joined_by-front sep (second ∷ parts) others in
    let before = length-append part (sep ++ joined_by sep (second ∷ parts)) in
    let inner = length-append sep (joined_by sep (second ∷ parts)) in
    let after = length-append part (sep ++ joined_by sep ((second ∷ parts) ++ others)) in
    let outer = length-append sep (joined_by sep ((second ∷ parts) ++ others)) in
    omega (arith, more, before, inner, after, outer)

pub joined_by-part : (sep : List ℕ) (parts : List (List ℕ)) (n : ℕ) → length (joined_by sep (take n parts)) ≤ length (joined_by sep parts)
joined_by-part sep parts n =
    let front = joined_by-front sep (take n parts) (drop n parts) in
    let whole = ap (λ ps. length (joined_by sep ps)) (take-append-drop n parts) in
    omega (arith, front, whole)
