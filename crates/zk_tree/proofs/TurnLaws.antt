-- The order of turns: the first of some is one of them, and stands before each.
use Rattle.std.proofs.Common.{◌≡◌, ℕ, zero, suc, ◌<◌, length, get_or, ltb, ℤ, Bool, true, false, cond, ◌||◌, ◌&&◌, ◌⊎◌, ⊎_elim, inl, inr, List, [], ◌∷◌, Option, None, Some, refl, sym, ap, subst, ◌∙◌, arith}
use Rattle.std.specs.Prelude.{All, Any, int_lt, int_le}
use Rattle.std.specs.Option.{option_map}
use Rattle.std.proofs.lemmas.Int.{ints}
use Rattle.std.proofs.lemmas.Bool.Decides.{nat_tests}
use Rattle.zk_base.specs.declared.time.Moment.{Moment}
use Rattle.zk_tree.specs.Table.{Entry, is_before, earlier, turn_of, first_due}

-- two turns
irrefl : (a : ℤ) (n : ℕ) → (int_lt a a || (int_le a a && ltb n n)) ≡ false
irrefl a n = grind (arith, ints, nat_tests)

asym : (a b : ℤ) (n m : ℕ) → (int_lt a b || (int_le a b && ltb n m)) ≡ true → (int_lt b a || (int_le b a && ltb m n)) ≡ false
asym a b n m first = grind (arith, ints, nat_tests)

trans : (a b c : ℤ) (k m n : ℕ) → (int_lt a b || (int_le a b && ltb k m)) ≡ false → (int_lt b c || (int_le b c && ltb m n)) ≡ false
    → (int_lt a c || (int_le a c && ltb k n)) ≡ false
trans a b c k m n first second = grind (arith, ints, nat_tests)

same_moment : (a b : ℤ) (n m : ℕ) → (int_lt a b || (int_le a b && ltb n m)) ≡ false → (int_lt b a || (int_le b a && ltb m n)) ≡ false → a ≡ b
same_moment a b n m first second = grind (arith, ints, nat_tests)

same_order : (a b : ℤ) (n m : ℕ) → (int_lt a b || (int_le a b && ltb n m)) ≡ false → (int_lt b a || (int_le b a && ltb m n)) ≡ false → n ≡ m
same_order a b n m first second = grind (arith, ints, nat_tests)

-- of two turns of which neither comes before the other, both are one
pub one_turn : (a b : Moment × ℕ) → is_before a b ≡ false → is_before b a ≡ false → a ≡ b
one_turn a b first second =
    ap (λ z. let m : Moment = record { 0 = z } in let t : Moment × ℕ = (m, a.1) in t) (same_moment a.0.0 b.0.0 a.1 b.1 first second)
    ∙ ap (λ n. let t : Moment × ℕ = (b.0, n) in t) (same_order a.0.0 b.0.0 a.1 b.1 first second)

-- a turn, if there is one, that comes before another or is it
abbrev pub AtMost : Option (Moment × ℕ) → Option (Moment × ℕ) → Type 0
AtMost first other = (f : Moment × ℕ) → other ≡ Some f → (g : Moment × ℕ) × (first ≡ Some g) × (is_before f g ≡ false)

pub at_most-refl : (a : Option (Moment × ℕ)) → AtMost a a
at_most-refl a f is = (f, is, irrefl f.0.0 f.1)

pub at_most-trans : (a b c : Option (Moment × ℕ)) → AtMost a b → AtMost b c → AtMost a c
at_most-trans a b c first second f is =
    let mid = second f is in
    let top = first mid.0 mid.1 in
    (top.0, top.1, trans f.0.0 mid.0.0.0 top.0.0.0 f.1 mid.0.1 top.0.1 mid.2 top.2)

same_turn : (x f : Moment × ℕ) → Some x ≡ Some f → x ≡ f
same_turn x f is = cc

-- the earlier of two comes before each
pub earlier-left : (a b : Option (Moment × ℕ)) → AtMost (earlier a b) a
earlier-left None b f is = cc
earlier-left (Some x) None f is = at_most-refl (Some x) f is
earlier-left (Some x) (Some y) f is = by_cases (is_before y x) refl
  where
    by_cases : (t : Bool) → is_before y x ≡ t → (g : Moment × ℕ) × (cond (is_before y x) (Some y) (Some x) ≡ Some g) × (is_before f g ≡ false)
    by_cases true before = (
      y,
      ap (λ b. cond b (Some y) (Some x)) before,
      subst (λ z. is_before z y ≡ false) (same_turn x f is) (asym y.0.0 x.0.0 y.1 x.1 before),
    )
    by_cases false after = (
      x,
      ap (λ b. cond b (Some y) (Some x)) after,
      subst (λ z. is_before z x ≡ false) (same_turn x f is) (irrefl x.0.0 x.1),
    )

pub earlier-right : (a b : Option (Moment × ℕ)) → AtMost (earlier a b) b
earlier-right None b f is = at_most-refl b f is
earlier-right (Some x) None f is = cc
earlier-right (Some x) (Some y) f is = by_cases (is_before y x) refl
  where
    by_cases : (t : Bool) → is_before y x ≡ t → (g : Moment × ℕ) × (cond (is_before y x) (Some y) (Some x) ≡ Some g) × (is_before f g ≡ false)
    by_cases true before = (
      y,
      ap (λ b. cond b (Some y) (Some x)) before,
      subst (λ z. is_before z y ≡ false) (same_turn y f is) (irrefl y.0.0 y.1),
    )
    by_cases false after = (
      x,
      ap (λ b. cond b (Some y) (Some x)) after,
      subst (λ z. is_before z x ≡ false) (same_turn y f is) after,
    )

-- the earlier of two is one of them
pub earlier-among : (a b : Option (Moment × ℕ)) (g : Moment × ℕ) → earlier a b ≡ Some g → (a ≡ Some g) ⊎ (b ≡ Some g)
earlier-among None b g is = inr is
earlier-among (Some x) None g is = inl is
earlier-among (Some x) (Some y) g is = by_cases (is_before y x) refl
  where
    by_cases : (t : Bool) → is_before y x ≡ t → (Some x ≡ Some g) ⊎ (Some y ≡ Some g)
    by_cases true before = inr (sym (ap (λ b. cond b (Some y) (Some x)) before) ∙ is)
    by_cases false after = inl (sym (ap (λ b. cond b (Some y) (Some x)) after) ∙ is)

-- the first due is the turn of an entry
pub first_due-among : (entries : List Entry) (turn : Moment × ℕ) → first_due entries ≡ Some turn → Any (λ entry. turn_of entry ≡ Some turn) entries
unfolding first_due
first_due-among [] turn is = cc
first_due-among (entry ∷ entries) turn is = ⊎_elim
    (λ own. (0, entry, omega arith, refl, own))
    (λ other. let found = first_due-among entries turn other in (suc found.0, found.1, let lt = found.2 in omega (arith, lt), found.3, found.4))
    (earlier-among (turn_of entry) (first_due entries) turn is)

-- and comes before each
first_due-before : (entries : List Entry) (k : ℕ) (d : Entry) → k < length entries → AtMost (first_due entries) (turn_of (get_or entries k d))
unfolding first_due
first_due-before [] k d within = absurd (no_less within)
  where
    no_less : {n : ℕ} → n < 0 → ⊥
    no_less lt = omega (arith, lt)
first_due-before (entry ∷ entries) zero d within = earlier-left (turn_of entry) (first_due entries)
first_due-before (entry ∷ entries) (suc k) d within =
    at_most-trans (earlier (turn_of entry) (first_due entries)) (first_due entries) (turn_of (get_or entries k d))
    (earlier-right (turn_of entry) (first_due entries)) (first_due-before entries k d (omega (arith, within)))

one_some : {A : Type 0} {o : Option A} (a b : A) → o ≡ Some a → o ≡ Some b → a ≡ b
one_some a b first second = cc

none_some : {A : Type 0} {o : Option A} {a : A} → o ≡ None → o ≡ Some a → ⊥
none_some none some = cc

pub first_due-least : (entries : List Entry) (turn : Moment × ℕ) → first_due entries ≡ Some turn
    → All (λ entry. (other : Moment × ℕ) → turn_of entry ≡ Some other → is_before other turn ≡ false) entries
first_due-least entries turn is k d within other at =
    let first = first_due-before entries k d within other at in
    subst (λ t. is_before other t ≡ false) (one_some first.0 turn first.1 is) first.2

pub first_due-none : (entries : List Entry) → first_due entries ≡ None → All (λ entry. entry.due ≡ None) entries
first_due-none entries none k d within = by (get_or entries k d).due refl
  where
    by : (due : Option Moment) → (get_or entries k d).due ≡ due → (get_or entries k d).due ≡ None
    by None e = e
    by (Some due) e =
        let first = first_due-before entries k d within (due, (get_or entries k d).order)
        (ap (option_map (λ (m : Moment). let t : Moment × ℕ = (m, (get_or entries k d).order) in t)) e) in
        absurd (none_some none first.1)
