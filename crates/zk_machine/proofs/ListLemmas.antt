-- Lists, one item after another.
use Rattle.std.proofs.Common.{◌≡◌, ◌==◌, ℕ, zero, suc, ◌+◌, ◌-◌, ◌<◌, ◌≤◌, List, [], ◌∷◌, ◌++◌, length, map, take, drop, get_or, cond, Bool, true, false, find, Option, Some, None, refl, sym, ap, ◌∙◌, arith, ◌⊎◌, inl, inr}
use Rattle.std.specs.Option.{option_map}
use Rattle.std.proofs.lemmas.List.{map-append, take_more, drop_all, take_rest}
use Rattle.zk_lower.specs.Steps as steps
use Rattle.zk_typed.specs.Objects.{given_at}
use Rattle.std.proofs.Math.Seq.{drop-cons}
use Rattle.std.proofs.lemmas.List.Elements.{filter_map-append}
use Rattle.std.specs.List.{cons_option}
use Rattle.std.specs.Prelude.{slice_get}
use Rattle.zk_tree.specs.Value.{Value}
use Rattle.zk_typed.specs.Columns.{first_atoms, atom}
use Rattle.zk_typed.specs.Logs.{picked}
use Rattle.zk_typed.specs.Log.{Atom}

-- one item more
pub mapped-more : {A B : Type 0} (f : A → B) (xs : List A) (i : ℕ) (x : A) → i < length xs → x ≡ get_or xs i x
    → map f (take (i + 1) xs) ≡ map f (take i xs) ++ f x ∷ []
mapped-more f xs i x within is =
    ap (map f) (take_more xs i x within ∙ ap (λ one. take i xs ++ one ∷ []) (sym is)) ∙ map-append f (take i xs) (x ∷ [])

pub map-made : {A B C : Type 0} (f : A → B) (g : B → C) (xs : List A) → map g (map f xs) ≡ map (λ x. g (f x)) xs
map-made f g [] = refl
map-made f g (x ∷ xs) = ap (λ others. g (f x) ∷ others) (map-made f g xs)

-- the items from one on
pub drop-item : {A : Type 0} (xs : List A) (i : ℕ) (x : A) → i < length xs → x ≡ get_or xs i x → drop i xs ≡ x ∷ drop (i + 1) xs
drop-item xs i x within is =
    drop-cons xs i x within ∙ (ap (λ one. one ∷ drop (suc i) xs) (sym is) ∙ ap (λ n. x ∷ drop n xs) (let e : suc i ≡ i + 1 = omega arith in e))

-- the first item of some that are made of others
pub find-made : {A B C : Type 0} (make : A → B) (test : B → Bool) (part : B → C) (xs : List A)
    → option_map part (find test (map make xs)) ≡ option_map (λ x. part (make x)) (find (λ x. test (make x)) xs)
find-made make test part [] = refl
find-made make test part (x ∷ xs) =
    elim (test (make x)) as (λ (met : Bool). option_map part (cond met (Some (make x)) (find test (map make xs))) ≡ option_map (λ x. part (make x)) (cond met (Some x) (find (λ x. test (make x)) xs))) [
      | true ↦ refl
      | false ↦ find-made make test part xs
    ]

-- the element at one place more
pub picked-more : {A : Type 0} (all : List A) (places : List ℕ) (i : ℕ) → i < length places
    → picked all (take (i + 1) places) ≡ picked all (take i places) ++ cons_option (slice_get all (get_or places i 0)) []
picked-more all places i within =
    ap (picked all) (take_more places i 0 within) ∙ filter_map-append (λ place. slice_get all place) (take i places) (get_or places i 0 ∷ [])

-- the first values of keys
pub first_atoms-append : (first others : List (List Value)) → first_atoms (first ++ others) ≡ first_atoms first ++ first_atoms others
first_atoms-append [] others = refl
first_atoms-append ([] ∷ first) others = first_atoms-append first others
first_atoms-append ((value ∷ values) ∷ first) others = ap (λ (atoms : List Atom). atom value ∷ atoms) (first_atoms-append first others)

-- a list of two
pub two_are : {A : Type 0} (xs : List A) (a b : A) → 2 ≤ length xs → length xs < 3 → a ≡ get_or xs 0 a → b ≡ get_or xs 1 b → xs ≡ a ∷ b ∷ []
two_are [] a b least below first second = absurd (omega (arith, least))
two_are (x ∷ []) a b least below first second = absurd (omega (arith, least))
two_are (x ∷ y ∷ []) a b least below first second = ap (λ o. o ∷ y ∷ []) (sym first) ∙ ap (λ o. a ∷ o ∷ []) (sym second)
two_are (x ∷ y ∷ z ∷ xs) a b least below first second = absurd (omega (arith, below))

pub slice_get-made : {A B : Type 0} (make : A → B) (all : List A) (place : ℕ) → slice_get (map make all) place ≡ option_map make (slice_get all place)
slice_get-made make [] place = refl
slice_get-made make (x ∷ all) zero = refl
slice_get-made make (x ∷ all) (suc place) = slice_get-made make all place

one-made : {A B : Type 0} (make : A → B) (one : Option A) (others : List A) → map make (cons_option one others) ≡ cons_option (option_map make one) (map make others)
one-made make None others = refl
one-made make (Some x) others = refl

-- what is picked of a list that is made of another
pub picked-made : {A B : Type 0} (make : A → B) (all : List A) (places : List ℕ) → map make (picked all places) ≡ picked (map make all) places
picked-made make all [] = refl
picked-made make all (place ∷ places) =
    one-made make (slice_get all place) (picked all places)
    ∙ (ap (λ one. cons_option one (map make (picked all places))) (sym (slice_get-made make all place))
    ∙ ap (cons_option (slice_get (map make all) place)) (picked-made make all places))

-- a field's number among those that are given, of which one is passed over
pub given-passed : (number : ℕ) (given : List ℕ) (values : List Value) (i : ℕ) (value : Value) → i < length given → i < length values → (get_or given i 0 == number) ≡ false
    → given_at number (steps.given (drop i given) (drop i values)) ≡ given_at number (steps.given (drop (i + 1) given) (drop (i + 1) values))
given-passed number given values i value within inside other =
    ap (λ (g : List ℕ). given_at number (steps.given g (drop i values))) (drop-cons given i 0 within)
    ∙ (ap (λ (v : List Value). given_at number (steps.given (get_or given i 0 ∷ drop (suc i) given) v)) (drop-cons values i value inside)
    ∙ (ap (λ (met : Bool). option_map (λ (one : ℕ × Value). one.1) (cond met (Some (get_or given i 0, get_or values i value)) (find (λ (one : ℕ × Value). one.0 == number) (steps.given (drop (suc i) given) (drop (suc i) values))))) other
    ∙ ap (λ n. given_at number (steps.given (drop n given) (drop n values))) (let e : suc i ≡ i + 1 = omega arith in e)))

-- none is left
pub given-none : (number : ℕ) (given : List ℕ) (values : List Value) (i : ℕ) → (length given ≤ i) ⊎ (length values ≤ i) → given_at number (steps.given (drop i given) (drop i values)) ≡ None
given-none number given values i (inl le) = ap (λ g. given_at number (steps.given g (drop i values))) (drop_all i given le)
given-none number given values i (inr le) = ap (λ v. given_at number (steps.given (drop i given) v)) (drop_all i values le) ∙ nothing (drop i given)
  where
    nothing : (given : List ℕ) → given_at number (steps.given given []) ≡ None
    nothing [] = refl
    nothing (field ∷ given) = refl

-- a list of one
pub one_is : {A : Type 0} (xs : List A) (a : A) → 1 ≤ length xs → length xs < 2 → a ≡ get_or xs 0 a → xs ≡ a ∷ []
one_is [] a least below first = absurd (omega (arith, least))
one_is (x ∷ []) a least below first = ap (λ o. o ∷ []) (sym first)
one_is (x ∷ y ∷ xs) a least below first = absurd (omega (arith, below))

-- a list from its first item on
pub first_is : {A : Type 0} (xs : List A) (a : A) → 1 ≤ length xs → a ≡ get_or xs 0 a → xs ≡ a ∷ take (length xs - 1) (drop 1 xs)
first_is [] a least first = absurd (omega (arith, least))
first_is (x ∷ xs) a least first = ap (λ o. o ∷ xs) (sym first) ∙ ap (λ others. a ∷ others) (sym (take_rest (x ∷ xs) 1))
