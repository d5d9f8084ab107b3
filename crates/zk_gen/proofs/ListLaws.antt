-- Lists that stand one behind another.
use Rattle.std.proofs.Common.{◌≡◌, ℕ, List, ◌++◌, append_assoc, ◌∙◌}

pub parts_of : (before a b c d e : List ℕ) → ((((before ++ a) ++ b) ++ c) ++ d) ++ e ≡ before ++ (a ++ (b ++ (c ++ (d ++ e))))
parts_of before a b c d e = simp append_assoc

-- what was added four times stands behind what was there
pub four_parts : (before a b c d x y z end : List ℕ) → x ≡ before ++ a → y ≡ x ++ b → z ≡ y ++ c → end ≡ z ++ d → end ≡ before ++ (a ++ (b ++ (c ++ d)))
four_parts before a b c d x y z end p q r s =
    let all : end ≡ (((before ++ a) ++ b) ++ c) ++ d = cc in all ∙ simp append_assoc

-- a part that is added twice
pub twice : (before a rest x y : List ℕ) → x ≡ before ++ a → y ≡ x ++ a → y ++ rest ≡ before ++ (a ++ (a ++ rest))
twice before a rest x y p q = let all : y ++ rest ≡ ((before ++ a) ++ a) ++ rest = cc in all ∙ simp append_assoc
