-- The first of all dues, where the index of a heap leads to it.
use Rattle.std.proofs.Common.{◌≡◌, ◌==◌, ℕ, zero, suc, ◌<◌, ◌≤◌, ltb, ℤ, Bool, true, false, cond, ◌||◌, ◌&&◌, ◌⊎◌, ⊎_elim, inl, inr, List, [], ◌∷◌, ◌++◌, Option, Some, None, slice_get, refl, sym, ap, subst, ◌∙◌, arith}
use Rattle.std.specs.Prelude.{int_lt, int_le}
use Rattle.std.specs.Option.{option_map, option_and_then}
use Rattle.std.proofs.lemmas.Bool.{cases_eq, cases_lt}
use Rattle.std.proofs.lemmas.Bool.Decides.{nat_tests}
use Rattle.std.proofs.lemmas.Int.{ints}
use Rattle.zk_base.specs.declared.numbers.ObjectNo.{ObjectNo}
use Rattle.zk_base.specs.declared.time.Moment.{Moment}
use Rattle.zk_tree.specs.Store as object
use Rattle.zk_tree.specs.Store.{Object, Store}
use Rattle.zk_typed.specs.Does.{named}
use Rattle.zk_typed.specs.Running as typed
use Rattle.zk_typed.specs.State.{World}
use Rattle.zk_table.specs.Dues as dues
use Rattle.zk_table.specs.Dues.{Held, IsFirst, NoneIsFirst, due_at, due_of, is_watched}
use Rattle.zk_machine.specs.Agenda.{Leads, due_in, earlier, entry_due, entry_dues, event_dues, first_of, is_before, kind_before}
use Rattle.zk_machine.specs.Entries.{object_named, turn_in, turn_of}
use Rattle.zk_machine.specs.Owners.{AllNamed, object_of}
use Rattle.zk_machine.specs.Schedule.{Each}
use Rattle.zk_machine.specs.declared.due.Due.{Due}
use Rattle.zk_machine.specs.declared.due.DueKind.{DueKind}
use Rattle.zk_machine.specs.declared.due.DueKind.TheVariants as kind
use Rattle.zk_machine.proofs.DueLemmas.{each-append}

-- The order of dues ------------------------------------------------------------------------------------------------

entries_after : (g h k n o p : ℕ) → (ltb g h || ((g == h) && ltb n o)) ≡ false → (ltb h k || ((h == k) && ltb o p)) ≡ false → (ltb g k || ((g == k) && ltb n p)) ≡ false
entries_after g h k n o p first second = grind (arith, nat_tests)

numbers_after : (g h k : ℕ) → ltb g h ≡ false → ltb h k ≡ false → ltb g k ≡ false
numbers_after g h k first second = grind (arith, nat_tests)

kinds_after : (a b c : DueKind) → kind_before a b ≡ false → kind_before b c ≡ false → kind_before a c ≡ false
kinds_after (kind.Entry g n) (kind.Entry h o) (kind.Entry k p) first second = entries_after g h k n o p first second
kinds_after (kind.Entry g n) (kind.Entry h o) (kind.Scheduled p) first second = cc
kinds_after (kind.Entry g n) (kind.Scheduled o) c first second = cc
kinds_after (kind.Scheduled n) (kind.Entry h o) (kind.Entry k p) first second = refl
kinds_after (kind.Scheduled n) (kind.Entry h o) (kind.Scheduled p) first second = cc
kinds_after (kind.Scheduled n) (kind.Scheduled o) (kind.Entry k p) first second = refl
kinds_after (kind.Scheduled n) (kind.Scheduled o) (kind.Scheduled p) first second = numbers_after n o p first second

moments_after : (a b c : ℤ) (p q r : Bool) → (p ≡ false → q ≡ false → r ≡ false) → (int_lt a b || (int_le a b && p)) ≡ false → (int_lt b c || (int_le b c && q)) ≡ false
    → (int_lt a c || (int_le a c && r)) ≡ false
moments_after a b c true true r kinds first second = grind (arith, ints)
moments_after a b c true false r kinds first second = grind (arith, ints)
moments_after a b c false true r kinds first second = grind (arith, ints)
moments_after a b c false false r kinds first second = let none = kinds refl refl in grind (arith, ints)

-- what isn't before another, which isn't before a third one, isn't before that
pub after : (a b c : Due) → is_before a b ≡ false → is_before b c ≡ false → is_before a c ≡ false
after a b c first second =
    moments_after a.at.0 b.at.0 c.at.0 (kind_before a.what b.what) (kind_before b.what c.what) (kind_before a.what c.what) (kinds_after a.what b.what c.what) first second

same_moment : (a b : ℤ) (p q : Bool) → (int_lt a b || (int_le a b && p)) ≡ false → (int_lt b a || (int_le b a && q)) ≡ false → a ≡ b
same_moment a b true true first second = grind (arith, ints)
same_moment a b true false first second = grind (arith, ints)
same_moment a b false true first second = grind (arith, ints)
same_moment a b false false first second = grind (arith, ints)

at_once : (a b : ℤ) (p : Bool) → a ≡ b → (int_lt a b || (int_le a b && p)) ≡ false → p ≡ false
at_once a b true same first = grind (arith, ints)
at_once a b false same first = refl

same_global : (g h n o : ℕ) → (ltb g h || ((g == h) && ltb n o)) ≡ false → (ltb h g || ((h == g) && ltb o n)) ≡ false → g ≡ h
same_global g h n o first second = grind (arith, nat_tests)

same_order : (g h n o : ℕ) → (ltb g h || ((g == h) && ltb n o)) ≡ false → (ltb h g || ((h == g) && ltb o n)) ≡ false → n ≡ o
same_order g h n o first second = grind (arith, nat_tests)

same_number : (n o : ℕ) → ltb n o ≡ false → ltb o n ≡ false → n ≡ o
same_number n o first second = grind (arith, nat_tests)

same_kind : (a b : DueKind) → kind_before a b ≡ false → kind_before b a ≡ false → a ≡ b
same_kind (kind.Entry g n) (kind.Entry h o) first second =
    ap (λ (g : ℕ). kind.Entry g n) (same_global g h n o first second) ∙ ap (λ (n : ℕ). kind.Entry h n) (same_order g h n o first second)
same_kind (kind.Entry g n) (kind.Scheduled o) first second = cc
same_kind (kind.Scheduled n) (kind.Entry h o) first second = cc
same_kind (kind.Scheduled n) (kind.Scheduled o) first second = ap (λ (n : ℕ). kind.Scheduled n) (same_number n o first second)

-- two dues of which neither is before the other are one
pub one_due : (a b : Due) → is_before a b ≡ false → is_before b a ≡ false → a ≡ b
one_due a b first second =
    let at = same_moment a.at.0 b.at.0 (kind_before a.what b.what) (kind_before b.what a.what) first second in
    let what = same_kind a.what b.what (at_once a.at.0 b.at.0 (kind_before a.what b.what) at first) (at_once b.at.0 a.at.0 (kind_before b.what a.what) (sym at) second) in
    ap (λ z. let m : Moment = record { 0 = z } in let d : Due = record { at = m; what = a.what } in d) at
    ∙ ap (λ w. let d : Due = record { at = b.at; what = w } in d) what

-- The first of a list ----------------------------------------------------------------------------------------------

abbrev pub IsIn : Due → List Due → Type 0
IsIn one [] = ⊥
IsIn one (other ∷ others) = (other ≡ one) ⊎ IsIn one others

in-left : (one : Due) (xs ys : List Due) → IsIn one xs → IsIn one (xs ++ ys)
in-left one [] ys is = absurd is
in-left one (x ∷ xs) ys is = ⊎_elim (λ here. inl here) (λ there. inr (in-left one xs ys there)) is

in-right : (one : Due) (xs ys : List Due) → IsIn one ys → IsIn one (xs ++ ys)
in-right one [] ys is = is
in-right one (x ∷ xs) ys is = inr (in-right one xs ys is)

-- one that isn't before another makes no difference to it
earlier-past : (one other : Due) (rest : Option Due) → is_before other one ≡ false → earlier one (Some (earlier other rest)) ≡ earlier one rest
earlier-past one other None past = ap (λ before. cond before other one) past
earlier-past one other (Some last) past = by (is_before last other) refl
  where
    by : (before : Bool) → is_before last other ≡ before → earlier one (Some (cond (is_before last other) last other)) ≡ earlier one (Some last)
    by true is = ap (λ before. earlier one (Some (cond before last other))) is
    by false is =
        ap (λ before. earlier one (Some (cond before last other))) is
        ∙ ap (λ before. cond before other one) past
        ∙ sym (ap (λ before. cond before last one) (after last other one is past))

rest-past : (one : Due) (dues more : List Due) → Each (λ other. is_before other one ≡ false) dues → earlier one (first_of (dues ++ more)) ≡ earlier one (first_of more)
rest-past one [] more past = refl
rest-past one (other ∷ dues) more past = earlier-past one other (first_of (dues ++ more)) past.0 ∙ rest-past one dues more past.1

-- and neither is it before that
first-past : (one other : Due) → is_before other one ≡ false → earlier other (Some one) ≡ one
first-past one other past = by (is_before one other) refl
  where
    by : (before : Bool) → is_before one other ≡ before → cond (is_before one other) one other ≡ one
    by true is = ap (λ before. cond before one other) is
    by false is = ap (λ before. cond before one other) is ∙ one_due other one past is

earlier-behind : (one other : Due) (rest : Option Due) → is_before other one ≡ false → earlier other (Some (earlier one rest)) ≡ earlier one rest
earlier-behind one other None past = first-past one other past
earlier-behind one other (Some last) past = by (is_before last one) refl
  where
    still : (before : Bool) → is_before last other ≡ before → is_before last one ≡ true → cond (is_before last other) last other ≡ last
    still true is first = ap (λ before. cond before last other) is
    still false is first = absurd (no (sym first ∙ after last other one is past))
      where
        no : true ≡ false → ⊥
        no e = cc

    by : (before : Bool) → is_before last one ≡ before → earlier other (Some (cond (is_before last one) last one)) ≡ cond (is_before last one) last one
    by true is =
        ap (λ before. earlier other (Some (cond before last one))) is
        ∙ still (is_before last other) refl is
        ∙ sym (ap (λ before. cond before last one) is)
    by false is =
        ap (λ before. earlier other (Some (cond before last one))) is
        ∙ first-past one other past
        ∙ sym (ap (λ before. cond before last one) is)

-- the first of some, none of which is before it, is the first of all
pub first_of-least : (one : Due) (dues more : List Due) → IsIn one dues → Each (λ other. is_before other one ≡ false) dues
    → first_of (dues ++ more) ≡ Some (earlier one (first_of more))
first_of-least one [] more is past = absurd is
first_of-least one (other ∷ dues) more is past = ⊎_elim
    (λ here. ap (λ (it : Due). Some (earlier it (first_of (dues ++ more)))) here ∙ ap (λ it. Some it) (rest-past one dues more past.1))
    (λ there. ap (λ rest. Some (earlier other rest)) (first_of-least one dues more there past.1) ∙ ap (λ it. Some it) (earlier-behind one other (first_of more) past.0))
    is

-- Entries ----------------------------------------------------------------------------------------------------------

tables-alike : (o : Option Object) → option_and_then dues.table_of o ≡ typed.table_of o
tables-alike None = refl
tables-alike (Some (object.Table table)) = refl
tables-alike (Some (object.Record of fields)) = refl
tables-alike (Some (object.Vector items)) = refl

-- the due of a number by the turn of its table
pub due-turn : (store : Store) (number : ObjectNo) → due_at store number.0 ≡ option_map (λ (turn : Moment × ℕ). let t : Moment × ℕ = (turn.0, number.0) in t) (turn_in store (Some number))
due-turn store number = by (slice_get store number.0)
  where
    by : (o : Option Object) → option_and_then (due_of number.0) (option_and_then dues.table_of o)
        ≡ option_map (λ (turn : Moment × ℕ). let t : Moment × ℕ = (turn.0, number.0) in t) (turn_of (typed.table_of o))
    by None = refl
    by (Some (object.Table table)) = refl
    by (Some (object.Record of fields)) = refl
    by (Some (object.Vector items)) = refl

-- what is due first, with and without the entries
pub due_in-ending : (world : World) (globals : List ℕ) → world.is_ending ≡ true → due_in world globals ≡ first_of (event_dues world)
due_in-ending world globals ends = ap (λ ends. first_of (cond ends [] (entry_dues world globals) ++ event_dues world)) ends

pub due_in-going : (world : World) (globals : List ℕ) → world.is_ending ≡ false → due_in world globals ≡ first_of (entry_dues world globals ++ event_dues world)
due_in-going world globals goes = ap (λ ends. first_of (cond ends [] (entry_dues world globals) ++ event_dues world)) goes

-- the heap of a world, where these tables are unwatched
abbrev pub held_in : World → List Bool → Held
held_in world unwatched = record { objects = world.store; unwatched = unwatched }

-- where none is due of those that globals name there is no entry
pub no_entries : (world : World) (unwatched : List Bool) (globals : List ℕ) → AllNamed world.globals (is_watched unwatched) → NoneIsFirst (held_in world unwatched)
    → entry_dues world globals ≡ []
no_entries world unwatched [] watched none = refl
no_entries world unwatched (global ∷ globals) watched none =
    ap (λ first. first ++ entry_dues world globals) (by (object_named (named world.globals global)) refl) ∙ no_entries world unwatched globals watched none
  where
    no_turn : (o : Option (Moment × ℕ)) (number : ℕ) → option_map (λ (turn : Moment × ℕ). let t : Moment × ℕ = (turn.0, number) in t) o ≡ None → entry_due global o ≡ []
    no_turn None number e = refl
    no_turn (Some turn) number e = cc

    by : (o : Option ObjectNo) → object_named (named world.globals global) ≡ o → entry_due global (turn_in world.store o) ≡ []
    by None e = refl
    by (Some number) e = no_turn (turn_in world.store (Some number)) number.0 (sym (due-turn world.store number) ∙ none number.0 (watched global number e))

-- the one of a global is not before the first
not_before : (a b : ℤ) (l o g h k n : ℕ) → (int_lt a b || (int_le a b && ltb l o)) ≡ false → (o ≤ l → h ≤ g) → (g ≡ h → k ≡ n)
    → (int_lt a b || (int_le a b && (ltb g h || ((g == h) && ltb k n)))) ≡ false
not_before a b l o g h k n least rises same = ⊎_elim
    (λ below. before below)
    (λ above. ⊎_elim
    (λ here. one here (same here))
    (λ apart. behind (rises above) apart)
    (cases_eq g h))
    (cases_lt l o)
  where
    before : l < o → (int_lt a b || (int_le a b && (ltb g h || ((g == h) && ltb k n)))) ≡ false
    before below = grind (arith, ints, nat_tests, below, least)

    one : g ≡ h → k ≡ n → (int_lt a b || (int_le a b && (ltb g h || ((g == h) && ltb k n)))) ≡ false
    one here order = grind (arith, ints, nat_tests, here, order, least)

    behind : h ≤ g → (g ≡ h → ⊥) → (int_lt a b || (int_le a b && (ltb g h || ((g == h) && ltb k n)))) ≡ false
    behind above apart = let over : h < g = omega (arith, above, apart) in grind (arith, ints, nat_tests, over, least)

-- the turn that the first due of all tables is
first-turn : (store : Store) (at : Moment) (number : ObjectNo) → due_at store number.0 ≡ Some (at, number.0) → (order : ℕ) × (turn_in store (Some number) ≡ Some (at, order))
first-turn store at number first = by (turn_in store (Some number)) refl (sym (due-turn store number) ∙ first)
  where
    same : (a b : Moment × ℕ) → Some a ≡ Some b → a ≡ b
    same a b e = cc

    by : (o : Option (Moment × ℕ)) → turn_in store (Some number) ≡ o → option_map (λ (turn : Moment × ℕ). let t : Moment × ℕ = (turn.0, number.0) in t) o ≡ Some (at, number.0)
        → (order : ℕ) × (turn_in store (Some number) ≡ Some (at, order))
    by None e is = cc
    by (Some turn) e is =
        let moment : turn.0 ≡ at = ap (λ (t : Moment × ℕ). t.0) (same (turn.0, number.0) (at, number.0) is) in
        (turn.1, e ∙ ap (λ (m : Moment). let t : Moment × ℕ = (m, turn.1) in Some t) moment)

module _ (world : World) (unwatched : List Bool) (at : Moment) (object : ObjectNo) (global order : ℕ) (watched : AllNamed world.globals (is_watched unwatched))
    (first : IsFirst (held_in world unwatched) at object.0)
    (names : object_of world.globals global ≡ Some object) (turn_is : turn_in world.store (Some object) ≡ Some (at, order)) where
  -- where another global names a later table that is due, it is a later one
  abbrev Rising : ℕ → Type 0
  Rising other = (later : ObjectNo) (turn : Moment × ℕ) → object_of world.globals other ≡ Some later → object.0 ≤ later.0 → due_at world.store later.0 ≡ Some turn → global ≤ other

  -- the first entry of the global's table
  abbrev one : Due
  one = record { at = at; what = kind.Entry global order }

  own : turn_in world.store (object_named (named world.globals global)) ≡ Some (at, order)
  own = ap (turn_in world.store) names ∙ turn_is

  same_global_is : (n : ℕ) → Some n ≡ Some global → n ≡ global
  same_global_is n e = cc

  within : (list : List ℕ) (place : ℕ) → slice_get list place ≡ Some global → IsIn one (entry_dues world list)
  within [] place is = cc
  within (other ∷ list) zero is =
      in-left one (entry_due other (turn_in world.store (object_named (named world.globals other)))) (entry_dues world list)
      (subst (λ n. IsIn one (entry_due n (turn_in world.store (object_named (named world.globals n))))) (sym (same_global_is other is))
      (subst (λ turn. IsIn one (entry_due global turn)) (sym own) (inl refl)))
  within (other ∷ list) (suc place) is =
      in-right one (entry_due other (turn_in world.store (object_named (named world.globals other)))) (entry_dues world list) (within list place is)

  same_object : (a b : ObjectNo) (o : Option ObjectNo) → o ≡ Some a → o ≡ Some b → a ≡ b
  same_object a b o first second = cc

  same_turn : (turn : Moment × ℕ) (o : Option (Moment × ℕ)) → o ≡ Some turn → o ≡ Some (at, order) → turn ≡ (at, order)
  same_turn turn o first second = cc

  -- that of another global is not before it
  later : (other : ℕ) (number : ObjectNo) (turn : Moment × ℕ) → Rising other → object_named (named world.globals other) ≡ Some number → turn_in world.store (Some number) ≡ Some turn
      → is_before (record { at = turn.0; what = kind.Entry other turn.1 }) one ≡ false
  later other number turn rises is there =
      let due : due_at world.store number.0 ≡ Some (turn.0, number.0) =
      due-turn world.store number ∙ ap (option_map (λ (turn : Moment × ℕ). let t : Moment × ℕ = (turn.0, number.0) in t)) there in
      not_before turn.0.0 at.0 number.0 object.0 other global turn.1 order
      (first.least number.0 (turn.0, number.0) (watched other number is) due)
      (λ above. rises number (turn.0, number.0) is above due)
      (λ here. ap (λ (turn : Moment × ℕ). turn.1) (same_turn turn (turn_in world.store (Some number)) there
      (ap (λ n. turn_in world.store (Some n)) (same_object number object (object_named (named world.globals other)) is (ap (λ n. object_named (named world.globals n)) here ∙ names))
      ∙ turn_is)))

  of_turn : (other : ℕ) (number : ObjectNo) → Rising other → object_named (named world.globals other) ≡ Some number → (o : Option (Moment × ℕ)) → turn_in world.store (Some number) ≡ o
      → Each (λ (due : Due). is_before due one ≡ false) (entry_due other o)
  of_turn other number rises is None there = tt
  of_turn other number rises is (Some turn) there = (later other number turn rises is there, tt)

  of_global : (other : ℕ) (o : Option ObjectNo) → Rising other → object_named (named world.globals other) ≡ o → Each (λ (due : Due). is_before due one ≡ false) (entry_due other (turn_in world.store o))
  of_global other None rises is = tt
  of_global other (Some number) rises is = of_turn other number rises is (turn_in world.store (Some number)) refl

  past : (list : List ℕ) → ((place other : ℕ) → slice_get list place ≡ Some other → Rising other) → Each (λ (due : Due). is_before due one ≡ false) (entry_dues world list)
  past [] all = tt
  past (other ∷ list) all = each-append (λ (due : Due). is_before due one ≡ false) (entry_due other (turn_in world.store (object_named (named world.globals other)))) (entry_dues world list)
      (of_global other (object_named (named world.globals other)) (all 0 other refl) refl) (past list (λ place one is. all (suc place) one is))

  first_is : (globals : List ℕ) (more : List Due) (place : ℕ) → ((place other : ℕ) → slice_get globals place ≡ Some other → Rising other) → slice_get globals place ≡ Some global
      → first_of (entry_due global (turn_in world.store (object_named (named world.globals global))) ++ more) ≡ first_of (entry_dues world globals ++ more)
  first_is globals more place all among =
      ap (λ turn. first_of (entry_due global turn ++ more)) own ∙ sym (first_of-least one (entry_dues world globals) more (within globals place among) (past globals all))

-- Where the index leads to a global, its entry is the first of all entries.
pub led : (world : World) (unwatched : List Bool) (globals : List ℕ) (more : List Due) (at : Moment) (object : ObjectNo) (global : ℕ) → AllNamed world.globals (is_watched unwatched)
    → IsFirst (held_in world unwatched) at object.0 → Leads world globals global object.0
    → first_of (entry_due global (turn_in world.store (object_named (named world.globals global))) ++ more) ≡ first_of (entry_dues world globals ++ more)
led world unwatched globals more at object global watched first leads =
    let turn = first-turn world.store at object first.due in
    first_is world unwatched at object global turn.0 watched first leads.names turn.1 globals more leads.among.0 leads.first leads.among.1
