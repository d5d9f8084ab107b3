-- Sums of 16-bit words, their carries, and words of several pieces.
use Rattle.std.proofs.Common.{◌≡◌, ◌↔◌, ℕ, zero, suc, ◌+◌, ◌-◌, ◌*◌, ◌%◌, ◌<◌, List, [], ◌∷◌, ◌++◌, length, sum, fold, refl, sym, ap, ◌∙◌, arith}
use Rattle.std.proofs.lemmas.List.Elements.{All-head, All-tail}
use Rattle.std.proofs.lemmas.List.Sums.{sum_by-cons}
use Rattle.zk_base.specs.Checksum.{words, AreWords, folded, end_around, ones_complement_sum}

-- A sum is right exactly where it is above 0 and a multiple of 2^16 - 1.
pub folded-is_right_checksum : (n : ℕ) → (folded n ≡ 0xffff) ↔ ((0 < n) × (n % 0xffff ≡ 0))
unfolding folded
folded-is_right_checksum zero = ((λ h. omega (arith, h)), (λ h. omega (arith, h.0)))
folded-is_right_checksum (suc n) = ((λ h. (omega arith, omega (arith, h))), (λ h. omega (arith, h.1)))

folded-above : (n : ℕ) → 0 < n → folded n ≡ (n - 1) % 0xffff + 1
unfolding folded
folded-above zero h = absurd (omega (arith, h))
folded-above (suc n) h = ap (λ m. m % 0xffff + 1) (omega arith)

folded-zero : folded 0 ≡ 0
unfolding folded
folded-zero = refl

-- Folding the carries early or late makes no difference.
pub end_around-folded : (n y : ℕ) → y < 0x10000 → end_around (folded n) y ≡ folded (n + y)
end_around-folded zero zero h = omega (arith, folded-zero)
end_around-folded zero (suc y) h = omega (arith, folded-zero, folded-above (0 + suc y) (omega arith))
end_around-folded (suc n) y h = omega (arith, folded-above (suc n) (omega arith), folded-above (suc n + y) (omega arith))

-- Adding words one by one with end-around carry folds their exact sum.
pub fold-end_around : (n : ℕ) (ws : List ℕ) → AreWords ws → fold end_around (folded n) ws ≡ folded (n + sum ws)
fold-end_around n [] h = ap folded (omega arith)
fold-end_around n (w ∷ ws) h =
    let first = All-head (λ v. v < 0x10000) w ws h in
    let rest = fold-end_around (n + w) ws (All-tail (λ v. v < 0x10000) w ws h) in
    ap (λ a. fold end_around a ws) (end_around-folded n w first) ∙ rest ∙ ap folded (omega (arith, sum_by-cons (λ x. x) w ws))

-- Words have a right checksum, added one by one, exactly where their exact sum is right.
pub ones_complement_sum-is_right_checksum : (ws : List ℕ) (n : ℕ) → AreWords ws → sum ws ≡ n → (ones_complement_sum ws ≡ 0xffff) ↔ ((0 < n) × (n % 0xffff ≡ 0))
unfolding folded
ones_complement_sum-is_right_checksum ws n h e =
    let folds : ones_complement_sum ws ≡ folded n = fold-end_around 0 ws h ∙ ap folded (omega (arith, e)) in
    let right = folded-is_right_checksum n in
    ((λ all. right.0 (sym folds ∙ all)), (λ fits. folds ∙ right.1 fits))

-- The words of a piece of even length and of what follows it are the words of both.
pub words-append : (xs ys : List ℕ) → length xs % 2 ≡ 0 → words (xs ++ ys) ≡ words xs ++ words ys
words-append [] ys h = refl
words-append (x ∷ []) ys h = absurd (omega (arith, h))
words-append (x ∷ y ∷ xs) ys h = ap (λ ws. (256 * x + y) ∷ ws) (words-append xs ys (omega (arith, h)))
