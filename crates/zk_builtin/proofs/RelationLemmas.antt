-- How values are compared, and what stands in a text.
use Rattle.std.proofs.Common.{◌≡◌, Bool, ℕ, List, [], ◌∷◌, Some, refl, ap, arith, rules}
use Rattle.std.specs.Cmp.Lexicographic.{slice_partial_cmp}
use Rattle.std.specs.Ordering.{nat_cmp, is_lt, is_some_and}
use Rattle.std.proofs.lemmas.Bool.Decides.{same_from_decides, Decides-like, nat_tests}
use Rattle.std.proofs.lemmas.Cmp.{same_from_slice_cmp_tested}
use Rattle.zk_tree.proofs.ValueLaws.{same-Decides}
use Rattle.zk_tree.specs.Value as plain
use Rattle.zk_typed.specs.Operators.{bytes_below}
use Rattle.zk_value.proofs.PlainLaws.{key_of-apart}
use Rattle.zk_value.specs.Plain.{value_of}
use Rattle.zk_value.specs.contracts.value.ValuePartialEq.TheImpl as value_eq
use Rattle.zk_value.specs.declared.value.Value.{Value}

-- the order of slices is that of texts
pub bytes_below-lt : (a b : List ℕ) (r : Bool) → r ≡ is_some_and is_lt (slice_partial_cmp (λ x y. Some (nat_cmp x y)) a b) → r ≡ bytes_below a b
bytes_below-lt = same_from_slice_cmp_tested nat_cmp is_lt bytes_below refl (λ _ _. refl) (λ _ _. refl) (λ x y xs ys o h. grind (arith, nat_tests))

value_of-apart : (a b : Value) → value_of a ≡ value_of b → a ≡ b
value_of-apart a b e = let alone = key_of-apart (a ∷ []) (b ∷ []) (ap (λ v. v ∷ []) e) in cc

-- values are equal exactly where they are the same
pub same-eq : (a b : Value) → (value_eq.ghosts).eq a b ≡ plain.same (value_of a) (value_of b)
same-eq a b =
    same_from_decides ((value_eq.ghosts).eq a b) (plain.same (value_of a) (value_of b))
    (Decides-like ((value_eq.ghosts).eq a b) (λ e. ap value_of e) (value_of-apart a b) (search rules))
    (same-Decides (value_of a) (value_of b))
