-- The turns of a table's places, and the index where one place changed.
use Rattle.std.proofs.Common.{◌≡◌, ◌+◌, ℕ, zero, suc, ◌≤◌, List, [], ◌∷◌, ◌++◌, length, slice_get, Option, None, Some, refl, sym, ap, subst, ◌∙◌, arith, ⊎_elim, get_or, ◌*◌, false}
use Rattle.std.specs.List.{cons_option}
use Rattle.std.specs.Option.{option_map, option_and_then}
use Rattle.std.proofs.Math.ListN.{set}
use Rattle.std.proofs.lemmas.Bool.{cases_eq, cases_lt}
use Rattle.zk_base.specs.declared.time.Moment.{Moment}
use Rattle.zk_tree.specs.Table.{earlier, first_due, is_before, turn_of}
use Rattle.zk_tree.proofs.TurnLaws.{AtMost, at_most-trans, earlier-left, earlier-right, earlier-among, one_turn}
use Rattle.zk_table.specs.declared.slot.Slot.{Slot}
use Rattle.zk_table.specs.declared.slot.Stored.{Stored}
use Rattle.zk_table.specs.Index.{first_at, AllBut, IsTree}
use Rattle.zk_table.specs.Slots.{entries_in, entry_of, turn_at, turn_in}
use Rattle.zk_table.proofs.IndexLemmas.{top-least, top-turn}

-- Places -----------------------------------------------------------------------------------------------------------

pub slice_get-set_same : {A : Type 0} (xs : List A) (i : ℕ) (x y : A) → slice_get xs i ≡ Some x → slice_get (set xs i y) i ≡ Some y
slice_get-set_same [] i x y is = cc
slice_get-set_same (z ∷ xs) zero x y is = refl
slice_get-set_same (z ∷ xs) (suc i) x y is = slice_get-set_same xs i x y is

pub slice_get-set_other : {A : Type 0} (xs : List A) (i j : ℕ) (y : A) → (j ≡ i → ⊥) → slice_get (set xs i y) j ≡ slice_get xs j
slice_get-set_other [] i j y apart = refl
slice_get-set_other (z ∷ xs) zero zero y apart = absurd (apart refl)
slice_get-set_other (z ∷ xs) zero (suc j) y apart = refl
slice_get-set_other (z ∷ xs) (suc i) zero y apart = refl
slice_get-set_other (z ∷ xs) (suc i) (suc j) y apart = slice_get-set_other xs i j y (λ e. apart (ap suc e))

pub slice_get-push_other : {A : Type 0} (xs : List A) (y : A) (j : ℕ) → (j ≡ length xs → ⊥) → slice_get (xs ++ y ∷ []) j ≡ slice_get xs j
slice_get-push_other [] y zero apart = absurd (apart refl)
slice_get-push_other [] y (suc j) apart = refl
slice_get-push_other (z ∷ xs) y zero apart = refl
slice_get-push_other (z ∷ xs) y (suc j) apart = slice_get-push_other xs y j (λ e. apart (ap suc e))

pub slice_get-push_same : {A : Type 0} (xs : List A) (y : A) → slice_get (xs ++ y ∷ []) (length xs) ≡ Some y
slice_get-push_same [] y = refl
slice_get-push_same (z ∷ xs) y = slice_get-push_same xs y

pub turn_at-is : (slots : List Slot) (place : ℕ) (slot : Slot) → slice_get slots place ≡ Some slot → turn_at slots place ≡ turn_in slot
turn_at-is slots place slot is = ap (option_and_then turn_in) is

pub turn_at-set_other : (slots : List Slot) (place : ℕ) (slot : Slot) (other : ℕ) → (other ≡ place → ⊥) → turn_at (set slots place slot) other ≡ turn_at slots other
turn_at-set_other slots place slot other apart = ap (option_and_then turn_in) (slice_get-set_other slots place other slot apart)

pub turn_at-set_same : (slots : List Slot) (place : ℕ) (was slot : Slot) → slice_get slots place ≡ Some was → turn_at (set slots place slot) place ≡ turn_in slot
turn_at-set_same slots place was slot is = ap (option_and_then turn_in) (slice_get-set_same slots place was slot is)

-- The index --------------------------------------------------------------------------------------------------------

-- where the turns are the same the index stays right
pub tree-same : (turns others : ℕ → Option (Moment × ℕ)) (firsts : List (Option (Moment × ℕ))) → ((place : ℕ) → others place ≡ turns place) → IsTree turns firsts → IsTree others firsts
tree-same turns others firsts same tree = record {
  nodes = λ place within. tree.nodes place within
      ∙ ap (λ o. earlier (earlier o (get_or firsts (2 * place + 1) None)) (get_or firsts (2 * place + 2) None)) (sym (same place));
  beyond = λ place past. same place ∙ tree.beyond place past;
}

-- where one turn changed the index is right but there
pub tree-changed : (turns others : ℕ → Option (Moment × ℕ)) (firsts : List (Option (Moment × ℕ))) (at : ℕ) → ((place : ℕ) → (place ≡ at → ⊥) → others place ≡ turns place)
    → (length firsts ≤ at → others at ≡ None) → IsTree turns firsts → AllBut others firsts at
tree-changed turns others firsts at same past_end tree = record {
  nodes = λ place within apart. tree.nodes place within
      ∙ ap (λ o. earlier (earlier o (get_or firsts (2 * place + 1) None)) (get_or firsts (2 * place + 2) None)) (sym (same place apart));
  beyond = λ place past. ⊎_elim
      (λ here. subst (λ p. others p ≡ None) (sym here) (past_end (subst (λ p. length firsts ≤ p) here past)))
      (λ apart. same place apart ∙ tree.beyond place past)
      (cases_eq place at);
}

-- a longer index is as right
pub tree-longer : (turns : ℕ → Option (Moment × ℕ)) (firsts : List (Option (Moment × ℕ))) → IsTree turns firsts → IsTree turns (firsts ++ None ∷ [])
tree-longer turns firsts tree = record {
  nodes = λ place within. ⊎_elim
      (λ inside. same place ∙ tree.nodes place inside ∙ first_same place)
      (λ past. same place ∙ empty place past ∙ sym (below_none place past) ∙ first_same place)
      (cases_lt place (length firsts));
  beyond = λ place past. tree.beyond place (shorter place past);
}
  where
    unknown : (xs : List (Option (Moment × ℕ))) (place : ℕ) → get_or (xs ++ None ∷ []) place None ≡ get_or xs place None
    unknown [] zero = refl
    unknown [] (suc place) = refl
    unknown (x ∷ xs) zero = refl
    unknown (x ∷ xs) (suc place) = unknown xs place

    same : (place : ℕ) → get_or (firsts ++ None ∷ []) place None ≡ get_or firsts place None
    same place = unknown firsts place

    none_past : (xs : List (Option (Moment × ℕ))) (place : ℕ) → length xs ≤ place → get_or xs place None ≡ None
    none_past [] place past = refl
    none_past (x ∷ xs) zero past = absurd (no_less past)
      where
        no_less : {n : ℕ} → suc n ≤ 0 → ⊥
        no_less le = omega (arith, le)
    none_past (x ∷ xs) (suc place) past = none_past xs place (omega (arith, past))

    empty : (place : ℕ) → length firsts ≤ place → get_or firsts place None ≡ None
    empty place past = none_past firsts place past

    below_none : (place : ℕ) → length firsts ≤ place → first_at turns firsts place ≡ None
    below_none place past =
        ap (λ o. earlier (earlier o (get_or firsts (2 * place + 1) None)) (get_or firsts (2 * place + 2) None)) (tree.beyond place past)
        ∙ ap (λ o. earlier o (get_or firsts (2 * place + 2) None)) (empty (2 * place + 1) (omega (arith, past)))
        ∙ empty (2 * place + 2) (omega (arith, past))

    first_same : (place : ℕ) → first_at turns firsts place ≡ first_at turns (firsts ++ None ∷ []) place
    first_same place =
        ap (λ o. earlier (earlier (turns place) o) (get_or firsts (2 * place + 2) None)) (sym (same (2 * place + 1)))
        ∙ ap (earlier (earlier (turns place) (get_or (firsts ++ None ∷ []) (2 * place + 1) None))) (sym (same (2 * place + 2)))

    long : (xs : List (Option (Moment × ℕ))) → length (xs ++ None ∷ []) ≡ suc (length xs)
    long [] = refl
    long (x ∷ xs) = ap suc (long xs)

    shorter : (place : ℕ) → length (firsts ++ None ∷ []) ≤ place → length firsts ≤ place
    shorter place past = let l = long firsts in omega (arith, l, past)

-- The first due ----------------------------------------------------------------------------------------------------

-- the first due comes before each turn
first_due-least : (slots : List Slot) (place : ℕ) → AtMost (first_due (entries_in slots)) (turn_at slots place)
unfolding first_due entries_in
first_due-least [] place = λ f is. cc
first_due-least (slot ∷ slots) place = by place slot.entry (λ other. first_due-least slots other)
  where
    by : (p : ℕ) (o : Option Stored) → ((other : ℕ) → AtMost (first_due (entries_in slots)) (turn_at slots other))
        → AtMost (first_due (cons_option (option_map (entry_of slot.order) o) (entries_in slots)))
        (option_and_then (λ (s : Slot). option_and_then turn_of (option_map (entry_of s.order) s.entry)) (slice_get (record { order = slot.order; entry = o } ∷ slots) p))
    by zero None others = λ f is. cc
    by (suc p) None others = others p
    by zero (Some stored) others = earlier-left (turn_of (entry_of slot.order stored)) (first_due (entries_in slots))
    by (suc p) (Some stored) others =
        at_most-trans (earlier (turn_of (entry_of slot.order stored)) (first_due (entries_in slots))) (first_due (entries_in slots)) (turn_at slots p)
        (earlier-right (turn_of (entry_of slot.order stored)) (first_due (entries_in slots))) (others p)

-- and is the turn of a place
pub first_due-turn : (slots : List Slot) (g : Moment × ℕ) → first_due (entries_in slots) ≡ Some g → (place : ℕ) × (turn_at slots place ≡ Some g)
unfolding first_due entries_in
first_due-turn [] g is = cc
first_due-turn (slot ∷ slots) g is = by slot.entry refl is (λ found. first_due-turn slots g found)
  where
    behind : ((place : ℕ) × (turn_at slots place ≡ Some g)) → (place : ℕ) × (turn_at (slot ∷ slots) place ≡ Some g)
    behind found = (suc found.0, found.1)

    by : (o : Option Stored) → slot.entry ≡ o → first_due (cons_option (option_map (entry_of slot.order) o) (entries_in slots)) ≡ Some g
        → (first_due (entries_in slots) ≡ Some g → (place : ℕ) × (turn_at slots place ≡ Some g)) → (place : ℕ) × (turn_at (slot ∷ slots) place ≡ Some g)
    by None e is others = behind (others is)
    by (Some stored) e is others = ⊎_elim
        (λ own. (0, ap (λ o. option_and_then turn_of (option_map (entry_of slot.order) o)) e ∙ own))
        (λ found. behind (others found))
        (earlier-among (turn_of (entry_of slot.order stored)) (first_due (entries_in slots)) g is)

-- the first of an index is the first due
pub top-first_due : (slots : List Slot) (firsts : List (Option (Moment × ℕ))) → IsTree (turn_at slots) firsts → get_or firsts 0 None ≡ first_due (entries_in slots)
top-first_due slots firsts tree = by (get_or firsts 0 None) refl (first_due (entries_in slots)) refl
  where
    no_turn : {g : Moment × ℕ} {o : Option (Moment × ℕ)} → o ≡ None → o ≡ Some g → ⊥
    no_turn none some = cc

    one : {o : Option (Moment × ℕ)} (a b : Moment × ℕ) → o ≡ Some a → o ≡ Some b → a ≡ b
    one a b first second = cc

    by : (top : Option (Moment × ℕ)) → get_or firsts 0 None ≡ top → (first : Option (Moment × ℕ)) → first_due (entries_in slots) ≡ first → get_or firsts 0 None ≡ first_due (entries_in slots)
    by None t None f = t ∙ sym f
    by None t (Some b) f =
        let place = first_due-turn slots b f in
        let top = top-least (turn_at slots) firsts tree place.0 b place.1 in
        absurd (no_turn t top.1)
    by (Some a) t None f =
        let place = top-turn (turn_at slots) firsts tree a t in
        let first = first_due-least slots place.0 a place.1 in
        absurd (no_turn f first.1)
    by (Some a) t (Some b) f =
        let a_place = top-turn (turn_at slots) firsts tree a t in
        let b_place = first_due-turn slots b f in
        let top = top-least (turn_at slots) firsts tree b_place.0 b b_place.1 in
        let first = first_due-least slots a_place.0 a a_place.1 in
        let not_after : is_before b a ≡ false = subst (λ x. is_before b x ≡ false) (one top.0 a top.1 t) top.2 in
        let not_before : is_before a b ≡ false = subst (λ x. is_before a x ≡ false) (one first.0 b first.1 f) first.2 in
        t ∙ ap (λ x. Some x) (one_turn a b not_before not_after) ∙ sym f
