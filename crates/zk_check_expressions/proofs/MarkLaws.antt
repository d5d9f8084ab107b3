-- Numbers that are marked.
use Rattle.std.proofs.Common.{◌≡◌, ℕ, ◌==◌, ◌<◌, Bool, true, false, not, ◌||◌, List, [], ◌∷◌, ◌++◌, ◌+◌, length, take, get_or, map, cond, refl, ap, sym, ◌∙◌, arith}
use Rattle.std.proofs.lemmas.List.{take_more}
use Rattle.std.specs.List.{list_any}
use Rattle.std.specs.Ordering.{nat_cmp, is_eq}
use Rattle.std.specs.BTreeSet.{Updates}
use Rattle.std.specs.declared.alloc.Global.{Global}
use Rattle.std.specs.declared.collections.BTreeSet.{BTreeSet}
use Rattle.zk_typed.specs.Making.{GivenField}
use Rattle.zk_check_expressions.specs.declared.records.GivenField.{GivenField as RustGiven}
use Rattle.zk_check_expressions.specs.Marks.{Marks}
use Rattle.zk_check_expressions.specs.Records.{given_of}
use Rattle.zk_check_expressions.proofs.Eaches.{map_last}

or_swap : (a b c : Bool) → (a || (b || c)) ≡ (b || (a || c))
or_swap true true c = refl
or_swap true false c = refl
or_swap false true c = refl
or_swap false false c = refl

any_last : (test : ℕ → Bool) (before : List ℕ) (one : ℕ) → list_any test (before ++ one ∷ []) ≡ list_any test (one ∷ before)
any_last test [] one = refl
any_last test (first ∷ before) one = ap (λ more. test first || more) (any_last test before one) ∙ or_swap (test first) (test one) (list_any test before)

pub marks_last : (marked : BTreeSet ℕ Global) (before : List ℕ) (one : ℕ) → Marks marked (one ∷ before) → Marks marked (before ++ one ∷ [])
marks_last marked before one h number = h number ∙ sym (any_last (λ other. other == number) before one)

same_number : (k q : ℕ) → is_eq (nat_cmp k q) ≡ (k == q)
same_number k q = grind arith

pub marks_more : (old new : BTreeSet ℕ Global) (before : List ℕ) (one : ℕ) → Updates nat_cmp old new one true → Marks old before → Marks new (one ∷ before)
marks_more old new before one h marks number = h.0 number ∙ by_number (is_eq (nat_cmp one number)) (one == number) (same_number one number) (marks number)
  where
    by_number : (at same : Bool) {had has : Bool} → at ≡ same → had ≡ has → cond at true had ≡ (same || has)
    by_number true true a b = refl
    by_number true false a b = absurd (cc)
    by_number false true a b = absurd (cc)
    by_number false false a b = b

-- the numbers of the fields that are given
pub any_given : (number : ℕ) (given : List RustGiven) → list_any (λ one. one == number) (map (λ one. one.number) given) ≡ list_any (λ one. one.number == number) (map given_of given)
any_given number [] = refl
any_given number (one ∷ given) = ap (λ more. (one.number == number) || more) (any_given number given)

-- a number more
pub numbers_turn : (old new : BTreeSet ℕ Global) (given : List RustGiven) (i : ℕ) (one : RustGiven) → i < length given → one ≡ get_or given i one →
    Marks new (one.number ∷ map (λ one. one.number) (take i given)) → Marks new (map (λ one. one.number) (take (i + 1) given))
numbers_turn old new given i one within is marks =
    let last : map (λ (x : RustGiven). x.number) (take (i + 1) given) ≡ map (λ (x : RustGiven). x.number) (take i given) ++ one.number ∷ [] =
    ap (map (λ (x : RustGiven). x.number)) (take_more given i one within ∙ ap (λ (x : RustGiven). take i given ++ x ∷ []) (sym is)) ∙ map_last (λ (x : RustGiven). x.number) (take i given) one in
    rw last (marks_last new (map (λ (x : RustGiven). x.number) (take i given)) one.number marks)
