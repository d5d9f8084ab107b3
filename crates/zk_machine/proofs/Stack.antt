-- Operands, of which the last one stands last: the plain stack has them the other way round.
use Rattle.std.proofs.Common.{◌≡◌, ℕ, ◌-◌, ◌<◌, ◌≤◌, ◌⊎◌, List, [], ◌∷◌, ◌++◌, length, map, reverse, take, drop, refl, sym, ap, ◌∙◌, arith, inl, inr, Option, Some, None, replicate}
use Rattle.std.specs.Prelude.{nat_le}
use Rattle.std.proofs.lemmas.Bool.{cases_Bool}
use Rattle.std.proofs.lemmas.Bool.Decides.{nat_tests}
use Rattle.zk_tree.specs.Value as plain
use Rattle.zk_typed.specs.Meaning.{first_locals}
use Rattle.zk_value.specs.declared.value.Value.{Value}
use Rattle.zk_value.specs.Plain.{field_of}
use Rattle.std.proofs.lemmas.List.{take-append-drop, take_at, drop_at, take_all, drop_all, reverse-append, length-reverse, length-map, map-append, length-drop}

pub either : (m n : ℕ) → (m ≤ n) ⊎ (n < m)
either m n = elim (cases_Bool (nat_le m n)) [ inl met ↦ inl (grind (arith, nat_tests)) | inr otherwise ↦ inr (grind (arith, nat_tests)) ]

module _ {A B : Type 0} (f : A → B) where
  -- two parts, the other way round
  parted : (a b : List A) → map f (reverse (a ++ b)) ≡ map f (reverse b) ++ map f (reverse a)
  parted a b = ap (map f) (reverse-append a b) ∙ map-append f (reverse b) (reverse a)

  -- the last operand is the plain stack's first
  pub last_is : (all others : List A) (one : A) → all ≡ others ++ one ∷ [] → map f (reverse all) ≡ f one ∷ map f (reverse others)
  last_is all others one is = ap (λ l. map f (reverse l)) is ∙ parted others (one ∷ [])

  size : (b : List A) → length (map f (reverse b)) ≡ length b
  size b = length-map (reverse b) f ∙ length-reverse b

  back_of : (b : List A) → reverse (map f (reverse b)) ≡ map f b
  back_of [] = refl
  back_of (one ∷ b) = ap (λ l. reverse (map f l)) (reverse-append (one ∷ []) b) ∙
      (ap reverse (map-append f (reverse b) (one ∷ [])) ∙ (reverse-append (map f (reverse b)) (f one ∷ []) ∙ ap (λ l. f one ∷ l) (back_of b)))

  module _ (items : List A) (count : ℕ) where
    abbrev front : List A
    front = take (length items - count) items

    abbrev back : List A
    back = drop (length items - count) items

    whole : map f (reverse items) ≡ map f (reverse back) ++ map f (reverse front)
    whole = ap (λ l. map f (reverse l)) (sym (take-append-drop (length items - count) items)) ∙ parted front back

    back_size : count ≤ length items → length (map f (reverse back)) ≡ count
    back_size le = size back ∙ (length-drop (length items - count) items ∙ omega (arith, le))

    no_front : length items < count → length items - count ≡ 0
    no_front lt = omega (arith, lt)

    -- the last operands
    pub operands_are : map f back ≡ reverse (take count (map f (reverse items)))
    operands_are = sym (back_of back) ∙ ap reverse (sym (elim (either count (length items)) [
      | inl le ↦ ap (take count) whole ∙ take_at (map f (reverse back)) (map f (reverse front)) count (back_size le)
      | inr lt ↦ take_all count (map f (reverse items)) (omega (arith, lt, size items)) ∙ ap (λ k. map f (reverse (drop k items))) (sym (no_front lt))
    ]))

    -- those before them
    pub without_are : map f (reverse front) ≡ drop count (map f (reverse items))
    without_are = sym (elim (either count (length items)) [
      | inl le ↦ ap (drop count) whole ∙ drop_at (map f (reverse back)) (map f (reverse front)) count (back_size le)
      | inr lt ↦ drop_all count (map f (reverse items)) (omega (arith, lt, size items)) ∙ ap (λ k. map f (reverse (take k items))) (sym (no_front lt))
    ])

-- the names of a body with these arguments
pub names_are : (names all : List (Option Value)) (args : List plain.Value) (locals : ℕ) → map field_of names ≡ map Some args → map field_of all ≡ map field_of names ++ replicate (locals - length names) None → map field_of all ≡ first_locals locals args
names_are names all args locals first whole =
    let same : length names ≡ length args = sym (length-map names field_of) ∙ (ap length first ∙ length-map args Some) in
    whole ∙ (ap (λ l. l ++ replicate (locals - length names) None) first ∙ ap (λ n. map Some args ++ replicate (locals - n) None) same)
