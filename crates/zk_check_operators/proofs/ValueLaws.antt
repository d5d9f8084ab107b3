-- What an operator makes of values of its operands' types, row by row.
use Rattle.std.proofs.Common.{arith, ◌≡◌, ℕ, ◌+◌, ◌-◌, ◌*◌, ◌/◌, ◌%◌, ◌^◌, ◌≤◌, nat_lt, nat_le, ◌==◌, ℤ, pos, ◌+ℤ◌, ◌-ℤ◌, ◌*ℤ◌, neg_ℤ, int_div, int_rem, Bool, true, false, List, [], ◌∷◌, ◌++◌, All, refl}
use Rattle.std.specs.List.{AllByRecursion}
use Rattle.std.proofs.lemmas.List.Elements.{All-cons, All-nil}
use Rattle.std.proofs.lemmas.Bool.Decides.{nat_tests}
use Rattle.std.specs.Ordering.{int_eq}
use Rattle.zk_base.specs.declared.time.Moment.{Moment}
use Rattle.zk_base.specs.declared.time.Span.{Span}
use Rattle.zk_tree.specs.declared.place.Place.{Place}
use Rattle.zk_tree.specs.Value as value
use Rattle.zk_tree.specs.Value.{Value}
use Rattle.zk_typed.specs.declared.ends.FaultKind.{FaultKind}
use Rattle.zk_typed.specs.declared.ends.FaultKind.TheVariants.{Overflow}
use Rattle.zk_typed.specs.declared.script.primitive.Binary.TheVariants.{Plus, Minus, Times, Over, Modulo}
use Rattle.zk_typed.specs.declared.script.primitive.Direction.TheVariants.{Up, Down}
use Rattle.zk_typed.specs.declared.script.primitive.Unary.TheVariants.{Not, Negate, ToInt}
use Rattle.zk_typed.specs.declared.script.types.SimpleType.{SimpleType}
use Rattle.zk_typed.specs.declared.script.types.SimpleType.TheVariants as simple
use Rattle.zk_typed.specs.Does.{Does, pure}
use Rattle.zk_typed.specs.Operations.{arithmetic, row}
use Rattle.zk_typed.specs.Operators.{binary, give_if, count, int, interval, time, string, is_int, divided, minus, unary, stepped}
use Rattle.zk_typed.specs.State.{State}
use Rattle.zk_check_operators.specs.Values.{is_of, IsOfNumbers, Came, RowHolds, OperatorHolds}

-- Values by their types ---------------------------------------------------------------------------------------------

truth : (one : Value) → is_of simple.Bool one ≡ true → (x : Bool) × (one ≡ value.Bool x)
truth (value.Bool x) h = (x, refl)
truth (value.Count x) h = absurd cc
truth (value.Int x) h = absurd cc
truth (value.String x) h = absurd cc
truth (value.Time x) h = absurd cc
truth (value.Interval x) h = absurd cc
truth (value.Addr x) h = absurd cc
truth (value.Port x p) h = absurd cc
truth (value.Subnet x w) h = absurd cc
truth (value.Enum x) h = absurd cc
truth (value.Object x) h = absurd cc

counted : (one : Value) → is_of simple.Count one ≡ true → (x : ℕ) × (one ≡ value.Count x)
counted (value.Bool x) h = absurd cc
counted (value.Count x) h = (x, refl)
counted (value.Int x) h = absurd cc
counted (value.String x) h = absurd cc
counted (value.Time x) h = absurd cc
counted (value.Interval x) h = absurd cc
counted (value.Addr x) h = absurd cc
counted (value.Port x p) h = absurd cc
counted (value.Subnet x w) h = absurd cc
counted (value.Enum x) h = absurd cc
counted (value.Object x) h = absurd cc

whole : (one : Value) → is_of simple.Int one ≡ true → (x : ℤ) × (one ≡ value.Int x)
whole (value.Bool x) h = absurd cc
whole (value.Count x) h = absurd cc
whole (value.Int x) h = (x, refl)
whole (value.String x) h = absurd cc
whole (value.Time x) h = absurd cc
whole (value.Interval x) h = absurd cc
whole (value.Addr x) h = absurd cc
whole (value.Port x p) h = absurd cc
whole (value.Subnet x w) h = absurd cc
whole (value.Enum x) h = absurd cc
whole (value.Object x) h = absurd cc

text : (one : Value) → is_of simple.String one ≡ true → (x : List ℕ) × (one ≡ value.String x)
text (value.Bool x) h = absurd cc
text (value.Count x) h = absurd cc
text (value.Int x) h = absurd cc
text (value.String x) h = (x, refl)
text (value.Time x) h = absurd cc
text (value.Interval x) h = absurd cc
text (value.Addr x) h = absurd cc
text (value.Port x p) h = absurd cc
text (value.Subnet x w) h = absurd cc
text (value.Enum x) h = absurd cc
text (value.Object x) h = absurd cc

at_moment : (one : Value) → is_of simple.Time one ≡ true → (x : Moment) × (one ≡ value.Time x)
at_moment (value.Bool x) h = absurd cc
at_moment (value.Count x) h = absurd cc
at_moment (value.Int x) h = absurd cc
at_moment (value.String x) h = absurd cc
at_moment (value.Time x) h = (x, refl)
at_moment (value.Interval x) h = absurd cc
at_moment (value.Addr x) h = absurd cc
at_moment (value.Port x p) h = absurd cc
at_moment (value.Subnet x w) h = absurd cc
at_moment (value.Enum x) h = absurd cc
at_moment (value.Object x) h = absurd cc

spanned : (one : Value) → is_of simple.Interval one ≡ true → (x : Span) × (one ≡ value.Interval x)
spanned (value.Bool x) h = absurd cc
spanned (value.Count x) h = absurd cc
spanned (value.Int x) h = absurd cc
spanned (value.String x) h = absurd cc
spanned (value.Time x) h = absurd cc
spanned (value.Interval x) h = (x, refl)
spanned (value.Addr x) h = absurd cc
spanned (value.Port x p) h = absurd cc
spanned (value.Subnet x w) h = absurd cc
spanned (value.Enum x) h = absurd cc
spanned (value.Object x) h = absurd cc

-- what is shown of values of two types holds of any that are of them
of_both : {L R : Type 0} (l : L → Value) (r : R → Value) (a b : Value) (P : Value → Value → Type 0) →
    ((x : L) × (a ≡ l x)) → ((y : R) × (b ≡ r y)) → ((x : L) (y : R) → P (l x) (r y)) → P a b
of_both l r a b P (x, e) (y, k) shown = rw (e, k) (shown x y)

of_one : {L : Type 0} (l : L → Value) (a : Value) (P : Value → Type 0) → ((x : L) × (a ≡ l x)) → ((x : L) → P (l x)) → P a
of_one l a P (x, e) shown = rw e (shown x)

-- What comes of a number or a text that is made ----------------------------------------------------------------------

-- what is given where it is within the range
comes_if : (holds : Bool) (why : FaultKind) (place : Place) (type : SimpleType) (one : Value) (state : State) → IsOfNumbers why →
    (holds ≡ true → is_of type one ≡ true) → Came type state (give_if holds why place one state)
comes_if true why place type one state of_numbers within = (within refl, refl)
comes_if false why place type one state of_numbers within = of_numbers

count_comes : (place : Place) (n : ℕ) (state : State) → Came simple.Count state (count place n state)
count_comes place n state = comes_if (nat_lt n (2 ^ 64)) Overflow place simple.Count (value.Count n) state tt (λ e. e)

int_comes : (place : Place) (n : ℤ) (state : State) → Came simple.Int state (int place n state)
int_comes place n state = comes_if (is_int n) Overflow place simple.Int (value.Int n) state tt (λ e. e)

interval_comes : (place : Place) (n : ℤ) (state : State) → Came simple.Interval state (interval place n state)
interval_comes place n state = comes_if (is_int n) Overflow place simple.Interval (value.Interval record { 0 = n }) state tt (λ e. e)

time_comes : (place : Place) (n : ℤ) (state : State) → Came simple.Time state (time place n state)
time_comes place n state = comes_if (is_int n) Overflow place simple.Time (value.Time record { 0 = n }) state tt (λ e. e)

string_comes : (place : Place) (bytes : List ℕ) (state : State) → Came simple.String state (string place bytes state)
string_comes place bytes state = comes_if _ _ place simple.String (value.String bytes) state tt (λ e. refl)

divided_comes : (place : Place) (type : SimpleType) (by_zero : Bool) (quotient : Does Value) (state : State) →
    Came type state (quotient state) → Came type state (divided place by_zero quotient state)
divided_comes place type true quotient state comes = tt
divided_comes place type false quotient state comes = comes

-- what is not greater than a count is a count
no_more : (a b : ℕ) → a ≤ b → nat_lt b (2 ^ 64) ≡ true → nat_lt a (2 ^ 64) ≡ true
no_more a b below h = grind (arith, nat_tests)

minus_comes : (place : Place) (a b : ℕ) (state : State) → nat_lt a (2 ^ 64) ≡ true → Came simple.Count state (minus place (value.Count a) (value.Count b) state)
minus_comes place a b state h = comes_if (nat_le b a) Overflow place simple.Count (value.Count (a - b)) state tt (λ e. no_more (a - b) a (omega arith) h)

-- The rows ----------------------------------------------------------------------------------------------------------

plus_count_count : RowHolds (row Plus simple.Count simple.Count simple.Count)
plus_count_count place a b state in_a in_b = of_both value.Count value.Count a b (λ x y. Came simple.Count state (binary place Plus x y state))
    (counted a in_a) (counted b in_b) (λ x y. count_comes place (x + y) state)

plus_int_int : RowHolds (row Plus simple.Int simple.Int simple.Int)
plus_int_int place a b state in_a in_b = of_both value.Int value.Int a b (λ x y. Came simple.Int state (binary place Plus x y state))
    (whole a in_a) (whole b in_b) (λ x y. int_comes place (x +ℤ y) state)

plus_string_string : RowHolds (row Plus simple.String simple.String simple.String)
plus_string_string place a b state in_a in_b = of_both value.String value.String a b (λ x y. Came simple.String state (binary place Plus x y state))
    (text a in_a) (text b in_b) (λ x y. string_comes place (x ++ y) state)

plus_interval_interval : RowHolds (row Plus simple.Interval simple.Interval simple.Interval)
plus_interval_interval place a b state in_a in_b = of_both value.Interval value.Interval a b (λ x y. Came simple.Interval state (binary place Plus x y state))
    (spanned a in_a) (spanned b in_b) (λ x y. interval_comes place (x.0 +ℤ y.0) state)

plus_time_interval : RowHolds (row Plus simple.Time simple.Interval simple.Time)
plus_time_interval place a b state in_a in_b = of_both value.Time value.Interval a b (λ x y. Came simple.Time state (binary place Plus x y state))
    (at_moment a in_a) (spanned b in_b) (λ x y. time_comes place (x.0 +ℤ y.0) state)

minus_count_count : RowHolds (row Minus simple.Count simple.Count simple.Count)
minus_count_count place a b state in_a in_b = of_both value.Count value.Count a b (λ x y. is_of simple.Count x ≡ true → Came simple.Count state (binary place Minus x y state))
    (counted a in_a) (counted b in_b) (λ x y h. minus_comes place x y state h) in_a

minus_int_int : RowHolds (row Minus simple.Int simple.Int simple.Int)
minus_int_int place a b state in_a in_b = of_both value.Int value.Int a b (λ x y. Came simple.Int state (binary place Minus x y state))
    (whole a in_a) (whole b in_b) (λ x y. int_comes place (x -ℤ y) state)

minus_interval_interval : RowHolds (row Minus simple.Interval simple.Interval simple.Interval)
minus_interval_interval place a b state in_a in_b = of_both value.Interval value.Interval a b (λ x y. Came simple.Interval state (binary place Minus x y state))
    (spanned a in_a) (spanned b in_b) (λ x y. interval_comes place (x.0 -ℤ y.0) state)

minus_time_interval : RowHolds (row Minus simple.Time simple.Interval simple.Time)
minus_time_interval place a b state in_a in_b = of_both value.Time value.Interval a b (λ x y. Came simple.Time state (binary place Minus x y state))
    (at_moment a in_a) (spanned b in_b) (λ x y. time_comes place (x.0 -ℤ y.0) state)

minus_time_time : RowHolds (row Minus simple.Time simple.Time simple.Interval)
minus_time_time place a b state in_a in_b = of_both value.Time value.Time a b (λ x y. Came simple.Interval state (binary place Minus x y state))
    (at_moment a in_a) (at_moment b in_b) (λ x y. interval_comes place (x.0 -ℤ y.0) state)

times_count_count : RowHolds (row Times simple.Count simple.Count simple.Count)
times_count_count place a b state in_a in_b = of_both value.Count value.Count a b (λ x y. Came simple.Count state (binary place Times x y state))
    (counted a in_a) (counted b in_b) (λ x y. count_comes place (x * y) state)

times_int_int : RowHolds (row Times simple.Int simple.Int simple.Int)
times_int_int place a b state in_a in_b = of_both value.Int value.Int a b (λ x y. Came simple.Int state (binary place Times x y state))
    (whole a in_a) (whole b in_b) (λ x y. int_comes place (x *ℤ y) state)

times_interval_count : RowHolds (row Times simple.Interval simple.Count simple.Interval)
times_interval_count place a b state in_a in_b = of_both value.Interval value.Count a b (λ x y. Came simple.Interval state (binary place Times x y state))
    (spanned a in_a) (counted b in_b) (λ x y. interval_comes place (x.0 *ℤ pos y) state)

times_interval_int : RowHolds (row Times simple.Interval simple.Int simple.Interval)
times_interval_int place a b state in_a in_b = of_both value.Interval value.Int a b (λ x y. Came simple.Interval state (binary place Times x y state))
    (spanned a in_a) (whole b in_b) (λ x y. interval_comes place (x.0 *ℤ y) state)

over_count_count : RowHolds (row Over simple.Count simple.Count simple.Count)
over_count_count place a b state in_a in_b = of_both value.Count value.Count a b (λ x y. is_of simple.Count x ≡ true → Came simple.Count state (binary place Over x y state))
    (counted a in_a) (counted b in_b) (λ x y h. divided_comes place simple.Count (y == 0) (pure (value.Count (x / y))) state (no_more (x / y) x (omega arith) h, refl)) in_a

over_int_int : RowHolds (row Over simple.Int simple.Int simple.Int)
over_int_int place a b state in_a in_b = of_both value.Int value.Int a b (λ x y. Came simple.Int state (binary place Over x y state))
    (whole a in_a) (whole b in_b) (λ x y. divided_comes place simple.Int (int_eq y (pos 0)) (int place (int_div x y)) state (int_comes place (int_div x y) state))

over_interval_count : RowHolds (row Over simple.Interval simple.Count simple.Interval)
over_interval_count place a b state in_a in_b = of_both value.Interval value.Count a b (λ x y. Came simple.Interval state (binary place Over x y state))
    (spanned a in_a) (counted b in_b) (λ x y. divided_comes place simple.Interval (y == 0) (interval place (int_div x.0 (pos y))) state (interval_comes place (int_div x.0 (pos y)) state))

over_interval_int : RowHolds (row Over simple.Interval simple.Int simple.Interval)
over_interval_int place a b state in_a in_b = of_both value.Interval value.Int a b (λ x y. Came simple.Interval state (binary place Over x y state))
    (spanned a in_a) (whole b in_b) (λ x y. divided_comes place simple.Interval (int_eq y (pos 0)) (interval place (int_div x.0 y)) state (interval_comes place (int_div x.0 y) state))

modulo_count_count : RowHolds (row Modulo simple.Count simple.Count simple.Count)
modulo_count_count place a b state in_a in_b = of_both value.Count value.Count a b (λ x y. is_of simple.Count x ≡ true → Came simple.Count state (binary place Modulo x y state))
    (counted a in_a) (counted b in_b) (λ x y h. divided_comes place simple.Count (y == 0) (pure (value.Count (x % y))) state (no_more (x % y) x (omega arith) h, refl)) in_a

modulo_int_int : RowHolds (row Modulo simple.Int simple.Int simple.Int)
modulo_int_int place a b state in_a in_b = of_both value.Int value.Int a b (λ x y. Came simple.Int state (binary place Modulo x y state))
    (whole a in_a) (whole b in_b) (λ x y. divided_comes place simple.Int (int_eq y (pos 0)) (int place (int_rem x y)) state (int_comes place (int_rem x y) state))

by_recursion : {X : Type 0} (P : X → Type 0) (xs : List X) → AllByRecursion P xs → All P xs
by_recursion P [] each = All-nil P
by_recursion P (x ∷ xs) each = All-cons P x xs each.0 (by_recursion P xs each.1)

pub rows_hold : All RowHolds arithmetic
rows_hold = by_recursion RowHolds arithmetic (
  plus_count_count,
  (
    plus_int_int,
    (
      plus_string_string,
      (
        plus_interval_interval,
        (
          plus_time_interval,
          (
            minus_count_count,
            (
              minus_int_int,
              (
                minus_interval_interval,
                (
                  minus_time_interval,
                  (
                    minus_time_time,
                    (
                      times_count_count,
                      (
                        times_int_int,
                        (
                          times_interval_count,
                          (
                            times_interval_int,
                            (
                              over_count_count,
                              (
                                over_int_int,
                                (
                                  over_interval_count,
                                  (
                                    over_interval_int,
                                    (
                                      modulo_count_count,
                                      (
                                        modulo_int_int,
                                        (
                                            tt),
                                      ),
                                    ),
                                  ),
                                ),
                              ),
                            ),
                          ),
                        ),
                      ),
                    ),
                  ),
                ),
              ),
            ),
          ),
        ),
      ),
    ),
  ),
)

-- One operand -------------------------------------------------------------------------------------------------------

pub inverted : OperatorHolds (λ place. unary place Not) simple.Bool simple.Bool
inverted place a state in_a = of_one value.Bool a (λ x. Came simple.Bool state (unary place Not x state)) (truth a in_a) (λ x. (refl, refl))

pub negated_count : OperatorHolds (λ place. unary place Negate) simple.Count simple.Int
negated_count place a state in_a = of_one value.Count a (λ x. Came simple.Int state (unary place Negate x state)) (counted a in_a) (λ x. int_comes place (neg_ℤ (pos x)) state)

pub negated_int : OperatorHolds (λ place. unary place Negate) simple.Int simple.Int
negated_int place a state in_a = of_one value.Int a (λ x. Came simple.Int state (unary place Negate x state)) (whole a in_a) (λ x. int_comes place (neg_ℤ x) state)

pub negated_interval : OperatorHolds (λ place. unary place Negate) simple.Interval simple.Interval
negated_interval place a state in_a = of_one value.Interval a (λ x. Came simple.Interval state (unary place Negate x state)) (spanned a in_a) (λ x. interval_comes place (neg_ℤ x.0) state)

pub turned : OperatorHolds (λ place. unary place ToInt) simple.Count simple.Int
turned place a state in_a = of_one value.Count a (λ x. Came simple.Int state (unary place ToInt x state)) (counted a in_a) (λ x. int_comes place (pos x) state)

pub count_up : OperatorHolds (λ place. stepped place Up) simple.Count simple.Count
count_up place a state in_a = of_one value.Count a (λ x. Came simple.Count state (stepped place Up x state)) (counted a in_a) (λ x. count_comes place (x + 1) state)

pub int_up : OperatorHolds (λ place. stepped place Up) simple.Int simple.Int
int_up place a state in_a = of_one value.Int a (λ x. Came simple.Int state (stepped place Up x state)) (whole a in_a) (λ x. int_comes place (x +ℤ pos 1) state)

pub int_down : OperatorHolds (λ place. stepped place Down) simple.Int simple.Int
int_down place a state in_a = of_one value.Int a (λ x. Came simple.Int state (stepped place Down x state)) (whole a in_a) (λ x. int_comes place (x -ℤ pos 1) state)

pub count_down : OperatorHolds (λ place. stepped place Down) simple.Count simple.Count
count_down place a state in_a = of_one value.Count a (λ x. is_of simple.Count x ≡ true → Came simple.Count state (stepped place Down x state)) (counted a in_a)
    (λ x h. minus_comes place x 1 state h) in_a
