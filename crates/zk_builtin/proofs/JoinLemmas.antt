-- Texts that are joined one after another.
use Rattle.std.proofs.Common.{◌≡◌, ◌==◌, ◌+◌, ◌<◌, ◌≤◌, ℕ, zero, suc, false, cond, List, [], ◌∷◌, ◌++◌, map, take, drop, length, get_or, refl, sym, ap, ◌∙◌, arith, append_assoc, length-append, rules}
use Rattle.std.proofs.lemmas.List.{map-append, take-append-drop, take_more}
use Rattle.zk_tree.specs.Value as plain
use Rattle.zk_typed.specs.BuiltIns.{joined}
use Rattle.zk_typed.specs.Text.{text_of}
use Rattle.zk_value.specs.Plain.{value_of}
use Rattle.zk_value.specs.declared.value.Value.{Value}

pub joined-append : (first others : List plain.Value) → joined (first ++ others) ≡ joined first ++ joined others
joined-append [] others = refl
joined-append (value ∷ first) others = ap (λ text. text_of value ++ text) (joined-append first others) ∙ sym (append_assoc (text_of value) (joined first) (joined others))

-- one value more
pub joined-more : (values : List Value) (place : ℕ) (value : Value) → place < length values → value ≡ get_or values place value
    → joined (map value_of (take (place + 1) values)) ≡ joined (map value_of (take place values)) ++ text_of (value_of value)
joined-more values place value within is =
    ap (λ vs. joined (map value_of vs)) (take_more values place value within ∙ ap (λ v. take place values ++ v ∷ []) (sym is))
    ∙ ap joined (map-append value_of (take place values) (value ∷ []))
    ∙ joined-append (map value_of (take place values)) (value_of value ∷ [])
    ∙ ap (λ text. joined (map value_of (take place values)) ++ text) (append_nil (text_of (value_of value)))
  where
    append_nil : (xs : List ℕ) → xs ++ [] ≡ xs
    append_nil [] = refl
    append_nil (x ∷ xs) = ap (λ ys. x ∷ ys) (append_nil xs)

-- some first values have no longer text
pub joined-part : (values : List Value) (n : ℕ) → length (joined (map value_of (take n values))) ≤ length (joined (map value_of values))
joined-part values n =
    let whole = ap (λ vs. length (joined (map value_of vs))) (take-append-drop n values) in
    let parts = ap (λ vs. length (joined vs)) (map-append value_of (take n values) (drop n values)) in
    let split = ap length (joined-append (map value_of (take n values)) (map value_of (drop n values))) in
    let sum = length-append (joined (map value_of (take n values))) (joined (map value_of (drop n values))) in
    omega (arith, whole, parts, split, sum)
