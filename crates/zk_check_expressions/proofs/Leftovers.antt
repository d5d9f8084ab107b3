-- What a loop over values that it takes has left.
use Rattle.std.proofs.Common.{◌≡◌, ℕ, zero, suc, ◌+◌, List, [], ◌∷◌, length, refl, sym, ◌∙◌, ap, arith}

-- one value more is taken
pub left_over : {A : Type 0} (items : List A) (one : A) (more : List A) (len less : ℕ) → items ≡ one ∷ more → less + 1 ≡ len → len ≡ length items → less ≡ length more
left_over items one more len less front one_less same =
    let lengths : length items ≡ suc (length more) = ap length front in omega (arith, lengths, one_less, same)

-- none is left
pub none_over : {A : Type 0} (items : List A) (len : ℕ) → len ≡ length items → len ≡ 0 → items ≡ []
none_over [] len same none = refl
none_over (one ∷ items) len same none = absurd (omega (arith, same, none))
