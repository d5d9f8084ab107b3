-- Tests of bytes, and pairs that are found.
use Rattle.std.proofs.Common.{◌≡◌, ◌≢◌, ℕ, Bool, true, false, not, ◌&&◌, ◌||◌, ◌==◌, eq-eqb, List, ◌∷◌, Some, refl, ap, ◌∙◌}
use Rattle.std.proofs.lemmas.Bool.{eqb-true}

pub both : (a b : Bool) → (a && b) ≡ true → (a ≡ true) × (b ≡ true)
both true b h = (refl, h)
both false b h = absurd (let never : ⊥ = cc in never)

pub neither : (a b : Bool) → (a || b) ≡ false → (a ≡ false) × (b ≡ false)
neither true b h = absurd (let never : ⊥ = cc in never)
neither false b h = (refl, h)

pub false_of : (b : Bool) → not b ≡ true → b ≡ false
false_of true h = absurd (let never : ⊥ = cc in never)
false_of false h = refl

pub differs : (a b : ℕ) → (a == b) ≡ false → a ≢ b
differs a b other same = let is = eq-eqb a b same in let never : ⊥ = cc in never

-- two pairs that are the same
pub pair_parts : {X Y : Type 0} (a b : X × Y) → Some a ≡ Some b → (a.0 ≡ b.0) × (a.1 ≡ b.1)
pair_parts a b same = let is : a ≡ b = cc in (ap (λ p. p.0) is, ap (λ p. p.1) is)

-- three bytes at the front, each tested
pub three_bytes : (a b c d e f : ℕ) (others : List ℕ) → (a == d && b == e && c == f) ≡ true → a ∷ b ∷ c ∷ others ≡ d ∷ e ∷ f ∷ others
three_bytes a b c d e f others same =
    let two = both (a == d && b == e) (c == f) same in
    let one = both (a == d) (b == e) two.0 in
    ap (λ x. x ∷ b ∷ c ∷ others) (eqb-true a d one.0) ∙ ap (λ x. d ∷ x ∷ c ∷ others) (eqb-true b e one.1) ∙ ap (λ x. d ∷ e ∷ x ∷ others) (eqb-true c f two.1)
