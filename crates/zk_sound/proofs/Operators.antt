-- Operators give values of the types of their rows, and no operator meets a value of another type.
use Rattle.std.proofs.Common.{◌≡◌, ℕ, ◌+◌, ◌-◌, ◌*◌, ◌/◌, ◌%◌, ◌^◌, ◌==◌, nat_lt, nat_le, ℤ, pos, ◌+ℤ◌, ◌-ℤ◌, ◌*ℤ◌, neg_ℤ, int_div, int_rem, Bool, true, false, cond, ◌&&◌, List, [], ◌∷◌, ◌++◌, length, find, Option, Some, None, refl, sym}
use Rattle.std.specs.List.{AllByRecursion}
use Rattle.std.specs.Option.{option_map}
use Rattle.std.specs.Ordering.{int_eq}
use Rattle.std.proofs.lemmas.Bool.{and_parts}
use Rattle.zk_base.specs.declared.network.Addr as network
use Rattle.zk_base.specs.declared.time.Moment.{Moment}
use Rattle.zk_base.specs.declared.time.Span.{Span}
use Rattle.zk_tree.specs.declared.place.Place.{Place}
use Rattle.zk_tree.specs.Value as value
use Rattle.zk_tree.specs.Value.{Value}
use Rattle.zk_typed.specs.declared.ends.FaultKind.{FaultKind}
use Rattle.zk_typed.specs.declared.ends.FaultKind.TheVariants.{Overflow, TooLong, ZeroDivisor}
use Rattle.zk_typed.specs.declared.script.primitive.Binary.{Binary}
use Rattle.zk_typed.specs.declared.script.primitive.Binary.TheVariants.{Plus, Minus, Times, Over, Modulo}
use Rattle.zk_typed.specs.declared.script.primitive.Direction.{Direction}
use Rattle.zk_typed.specs.declared.script.primitive.Direction.TheVariants.{Up, Down}
use Rattle.zk_typed.specs.declared.script.primitive.Unary.{Unary}
use Rattle.zk_typed.specs.declared.script.primitive.Unary.TheVariants.{Not, Negate, ToInt}
use Rattle.zk_typed.specs.declared.script.types.SimpleType.{SimpleType}
use Rattle.zk_typed.specs.declared.script.types.SimpleType.TheVariants as simple
use Rattle.zk_typed.specs.Does.{Does}
use Rattle.zk_typed.specs.Operations.{Row, row, arithmetic, arithmetic_of, same_binary, same_simple}
use Rattle.zk_typed.specs.Operators.{binary, give_if, count, int, interval, time, string, strings_max, is_int, divided, minus, unary, stepped}
use Rattle.zk_typed.specs.Predefined as type
use Rattle.zk_typed.specs.Types.{ValueType, Simple}
use Rattle.zk_sound.specs.Holding.{Kinds, is_kind, HasType}
use Rattle.zk_sound.specs.Having.{UnaryTakes, IsStepped}
use Rattle.zk_sound.specs.Keeping.{Setting, MayFault, Keeps, Of}
use Rattle.zk_sound.proofs.Core.{keeps_pure, keeps_fault}
use Rattle.zk_sound.proofs.Same.{same_simple_is, same_binary_is}

-- Values by their types ---------------------------------------------------------------------------------------------

-- what a value of a simple type is made of
abbrev pub IsMade : SimpleType → Value → Type 0
IsMade simple.Bool one = (x : Bool) × (one ≡ value.Bool x)
IsMade simple.Count one = (x : ℕ) × (one ≡ value.Count x)
IsMade simple.Int one = (x : ℤ) × (one ≡ value.Int x)
IsMade simple.String one = (x : List ℕ) × (one ≡ value.String x)
IsMade simple.Time one = (x : Moment) × (one ≡ value.Time x)
IsMade simple.Interval one = (x : Span) × (one ≡ value.Interval x)
IsMade simple.Addr one = (x : network.Addr) × (one ≡ value.Addr x)
IsMade simple.Port one = Unit {0}
IsMade simple.Subnet one = Unit {0}
IsMade (simple.Enum number) one = (x : List ℕ) × (one ≡ value.Enum x)

pub made : (of : SimpleType) (one : Value) → is_kind of one ≡ true → IsMade of one
made simple.Bool (value.Bool x) h = (x, refl)
made simple.Count (value.Count x) h = (x, refl)
made simple.Int (value.Int x) h = (x, refl)
made simple.String (value.String x) h = (x, refl)
made simple.Time (value.Time x) h = (x, refl)
made simple.Interval (value.Interval x) h = (x, refl)
made simple.Addr (value.Addr x) h = (x, refl)
made simple.Port one h = tt
made simple.Subnet one h = tt
made (simple.Enum number) (value.Enum x) h = (x, refl)
made of one h = absurd cc

-- what is shown of values of two types holds of any that are of them
pub of_both : {L R : Type 0} (l : L → Value) (r : R → Value) (a b : Value) (P : Value → Value → Type 0) →
    ((x : L) × (a ≡ l x)) → ((y : R) × (b ≡ r y)) → ((x : L) (y : R) → P (l x) (r y)) → P a b
of_both l r a b P (x, e) (y, k) shown = rw (e, k) (shown x y)

pub of_one : {L : Type 0} (l : L → Value) (a : Value) (P : Value → Type 0) → ((x : L) × (a ≡ l x)) → ((x : L) → P (l x)) → P a
of_one l a P (x, e) shown = rw e (shown x)

-- Rows -------------------------------------------------------------------------------------------------------------

find_both : {A : Type 0} (P : A → Type 0) (test : A → Bool) (xs : List A) (one : A) → find test xs ≡ Some one → AllByRecursion P xs → P one × (test one ≡ true)
find_both P test [] one is h = absurd cc
find_both P test (x ∷ xs) one is (first, others) = by (test x) refl (λ e. find_both P test xs one e others) is
  where
    by : (passes : Bool) → test x ≡ passes → (find test xs ≡ Some one → P one × (test one ≡ true)) → cond passes (Some x) (find test xs) ≡ Some one → P one × (test one ≡ true)
    by true t rest e = let same : x ≡ one = cc in (rw same at first, rw same at t)
    by false t rest e = rest e

mapped : {A B : Type 0} (f : A → B) (found : Option A) (b : B) → option_map f found ≡ Some b → (a : A) × (found ≡ Some a) × (f a ≡ b)
mapped f None b e = absurd cc
mapped f (Some a) b e = (a, refl, cc)

module _ {setting : Setting} {kinds : Kinds} where
  given_if : (holds : Bool) (why : FaultKind) (place : Place) (of : SimpleType) (one : Value) → MayFault setting.strict why → is_kind of one ≡ true → Keeps setting (Of (Simple of)) kinds (give_if holds why place one)
  given_if true why place of one may h = keeps_pure one h
  given_if false why place of one may h = keeps_fault why place may

  pub keeps_count : (place : Place) (n : ℕ) → Keeps setting (Of type.count) kinds (count place n)
  keeps_count place n = given_if (nat_lt n (2 ^ 64)) Overflow place simple.Count (value.Count n) tt refl

  pub keeps_int : (place : Place) (n : ℤ) → Keeps setting (Of type.int) kinds (int place n)
  keeps_int place n = given_if (is_int n) Overflow place simple.Int (value.Int n) tt refl

  pub keeps_interval : (place : Place) (n : ℤ) → Keeps setting (Of type.interval) kinds (interval place n)
  keeps_interval place n = given_if (is_int n) Overflow place simple.Interval (value.Interval record { 0 = n }) tt refl

  keeps_time : (place : Place) (n : ℤ) → Keeps setting (Of type.time) kinds (time place n)
  keeps_time place n = given_if (is_int n) Overflow place simple.Time (value.Time record { 0 = n }) tt refl

  pub keeps_string : (place : Place) (bytes : List ℕ) → Keeps setting (Of type.string) kinds (string place bytes)
  keeps_string place bytes = given_if (nat_le (length bytes) strings_max) TooLong place simple.String (value.String bytes) tt refl

  keeps_divided : (place : Place) (of : ValueType) (by_zero : Bool) {quotient : Does Value} → Keeps setting (Of of) kinds quotient → Keeps setting (Of of) kinds (divided place by_zero quotient)
  keeps_divided place of true keeps = keeps_fault ZeroDivisor place tt
  keeps_divided place of false keeps = keeps

  keeps_minus : (place : Place) (a b : ℕ) → Keeps setting (Of type.count) kinds (minus place (value.Count a) (value.Count b))
  keeps_minus place a b = given_if (nat_le b a) Overflow place simple.Count (value.Count (a - b)) tt refl

module _ (setting : Setting) (kinds : Kinds) where
  abbrev RowKeeps : Row → Type 0
  RowKeeps one = (place : Place) (a b : Value) → is_kind one.left a ≡ true → is_kind one.right b ≡ true → Keeps setting (Of (Simple one.gives)) kinds (binary place one.operator a b)

  plus_count_count : RowKeeps (row Plus simple.Count simple.Count simple.Count)
  plus_count_count place a b in_a in_b = of_both value.Count value.Count a b (λ x y. Keeps setting (Of type.count) kinds (binary place Plus x y))
      (made simple.Count a in_a) (made simple.Count b in_b) (λ x y. keeps_count place (x + y))

  plus_int_int : RowKeeps (row Plus simple.Int simple.Int simple.Int)
  plus_int_int place a b in_a in_b = of_both value.Int value.Int a b (λ x y. Keeps setting (Of type.int) kinds (binary place Plus x y))
      (made simple.Int a in_a) (made simple.Int b in_b) (λ x y. keeps_int place (x +ℤ y))

  plus_string_string : RowKeeps (row Plus simple.String simple.String simple.String)
  plus_string_string place a b in_a in_b = of_both value.String value.String a b (λ x y. Keeps setting (Of type.string) kinds (binary place Plus x y))
      (made simple.String a in_a) (made simple.String b in_b) (λ x y. keeps_string place (x ++ y))

  plus_interval_interval : RowKeeps (row Plus simple.Interval simple.Interval simple.Interval)
  plus_interval_interval place a b in_a in_b = of_both value.Interval value.Interval a b (λ x y. Keeps setting (Of type.interval) kinds (binary place Plus x y))
      (made simple.Interval a in_a) (made simple.Interval b in_b) (λ x y. keeps_interval place (x.0 +ℤ y.0))

  plus_time_interval : RowKeeps (row Plus simple.Time simple.Interval simple.Time)
  plus_time_interval place a b in_a in_b = of_both value.Time value.Interval a b (λ x y. Keeps setting (Of type.time) kinds (binary place Plus x y))
      (made simple.Time a in_a) (made simple.Interval b in_b) (λ x y. keeps_time place (x.0 +ℤ y.0))

  minus_count_count : RowKeeps (row Minus simple.Count simple.Count simple.Count)
  minus_count_count place a b in_a in_b = of_both value.Count value.Count a b (λ x y. Keeps setting (Of type.count) kinds (binary place Minus x y))
      (made simple.Count a in_a) (made simple.Count b in_b) (λ x y. keeps_minus place x y)

  minus_int_int : RowKeeps (row Minus simple.Int simple.Int simple.Int)
  minus_int_int place a b in_a in_b = of_both value.Int value.Int a b (λ x y. Keeps setting (Of type.int) kinds (binary place Minus x y))
      (made simple.Int a in_a) (made simple.Int b in_b) (λ x y. keeps_int place (x -ℤ y))

  minus_interval_interval : RowKeeps (row Minus simple.Interval simple.Interval simple.Interval)
  minus_interval_interval place a b in_a in_b = of_both value.Interval value.Interval a b (λ x y. Keeps setting (Of type.interval) kinds (binary place Minus x y))
      (made simple.Interval a in_a) (made simple.Interval b in_b) (λ x y. keeps_interval place (x.0 -ℤ y.0))

  minus_time_interval : RowKeeps (row Minus simple.Time simple.Interval simple.Time)
  minus_time_interval place a b in_a in_b = of_both value.Time value.Interval a b (λ x y. Keeps setting (Of type.time) kinds (binary place Minus x y))
      (made simple.Time a in_a) (made simple.Interval b in_b) (λ x y. keeps_time place (x.0 -ℤ y.0))

  minus_time_time : RowKeeps (row Minus simple.Time simple.Time simple.Interval)
  minus_time_time place a b in_a in_b = of_both value.Time value.Time a b (λ x y. Keeps setting (Of type.interval) kinds (binary place Minus x y))
      (made simple.Time a in_a) (made simple.Time b in_b) (λ x y. keeps_interval place (x.0 -ℤ y.0))

  times_count_count : RowKeeps (row Times simple.Count simple.Count simple.Count)
  times_count_count place a b in_a in_b = of_both value.Count value.Count a b (λ x y. Keeps setting (Of type.count) kinds (binary place Times x y))
      (made simple.Count a in_a) (made simple.Count b in_b) (λ x y. keeps_count place (x * y))

  times_int_int : RowKeeps (row Times simple.Int simple.Int simple.Int)
  times_int_int place a b in_a in_b = of_both value.Int value.Int a b (λ x y. Keeps setting (Of type.int) kinds (binary place Times x y))
      (made simple.Int a in_a) (made simple.Int b in_b) (λ x y. keeps_int place (x *ℤ y))

  times_interval_count : RowKeeps (row Times simple.Interval simple.Count simple.Interval)
  times_interval_count place a b in_a in_b = of_both value.Interval value.Count a b (λ x y. Keeps setting (Of type.interval) kinds (binary place Times x y))
      (made simple.Interval a in_a) (made simple.Count b in_b) (λ x y. keeps_interval place (x.0 *ℤ pos y))

  times_interval_int : RowKeeps (row Times simple.Interval simple.Int simple.Interval)
  times_interval_int place a b in_a in_b = of_both value.Interval value.Int a b (λ x y. Keeps setting (Of type.interval) kinds (binary place Times x y))
      (made simple.Interval a in_a) (made simple.Int b in_b) (λ x y. keeps_interval place (x.0 *ℤ y))

  over_count_count : RowKeeps (row Over simple.Count simple.Count simple.Count)
  over_count_count place a b in_a in_b = of_both value.Count value.Count a b (λ x y. Keeps setting (Of type.count) kinds (binary place Over x y))
      (made simple.Count a in_a) (made simple.Count b in_b) (λ x y. keeps_divided place type.count (y == 0) (keeps_pure (value.Count (x / y)) refl))

  over_int_int : RowKeeps (row Over simple.Int simple.Int simple.Int)
  over_int_int place a b in_a in_b = of_both value.Int value.Int a b (λ x y. Keeps setting (Of type.int) kinds (binary place Over x y))
      (made simple.Int a in_a) (made simple.Int b in_b) (λ x y. keeps_divided place type.int (int_eq y (pos 0)) (keeps_int place (int_div x y)))

  over_interval_count : RowKeeps (row Over simple.Interval simple.Count simple.Interval)
  over_interval_count place a b in_a in_b = of_both value.Interval value.Count a b (λ x y. Keeps setting (Of type.interval) kinds (binary place Over x y))
      (made simple.Interval a in_a) (made simple.Count b in_b) (λ x y. keeps_divided place type.interval (y == 0) (keeps_interval place (int_div x.0 (pos y))))

  over_interval_int : RowKeeps (row Over simple.Interval simple.Int simple.Interval)
  over_interval_int place a b in_a in_b = of_both value.Interval value.Int a b (λ x y. Keeps setting (Of type.interval) kinds (binary place Over x y))
      (made simple.Interval a in_a) (made simple.Int b in_b) (λ x y. keeps_divided place type.interval (int_eq y (pos 0)) (keeps_interval place (int_div x.0 y)))

  modulo_count_count : RowKeeps (row Modulo simple.Count simple.Count simple.Count)
  modulo_count_count place a b in_a in_b = of_both value.Count value.Count a b (λ x y. Keeps setting (Of type.count) kinds (binary place Modulo x y))
      (made simple.Count a in_a) (made simple.Count b in_b) (λ x y. keeps_divided place type.count (y == 0) (keeps_pure (value.Count (x % y)) refl))

  modulo_int_int : RowKeeps (row Modulo simple.Int simple.Int simple.Int)
  modulo_int_int place a b in_a in_b = of_both value.Int value.Int a b (λ x y. Keeps setting (Of type.int) kinds (binary place Modulo x y))
      (made simple.Int a in_a) (made simple.Int b in_b) (λ x y. keeps_divided place type.int (int_eq y (pos 0)) (keeps_int place (int_rem x y)))

  all_rows : AllByRecursion RowKeeps arithmetic
  all_rows = (
    plus_count_count,
    (
      plus_int_int,
      (
        plus_string_string,
        (
          plus_interval_interval,
          (
            plus_time_interval,
            (
              minus_count_count,
              (
                minus_int_int,
                (
                  minus_interval_interval,
                  (
                    minus_time_interval,
                    (
                      minus_time_time,
                      (
                        times_count_count,
                        (
                          times_int_int,
                          (
                            times_interval_count,
                            (
                              times_interval_int,
                              (
                                over_count_count,
                                (
                                  over_int_int,
                                  (
                                    over_interval_count,
                                    (
                                      over_interval_int,
                                      (modulo_count_count, (modulo_int_int, tt)),
                                    ),
                                  ),
                                ),
                              ),
                            ),
                          ),
                        ),
                      ),
                    ),
                  ),
                ),
              ),
            ),
          ),
        ),
      ),
    ),
  )

  of_row : (operator : Binary) (left right gives : SimpleType) (one : Row) → RowKeeps one → one.operator ≡ operator → one.left ≡ left → one.right ≡ right → one.gives ≡ gives → RowKeeps (row operator left right gives)
  of_row operator left right gives one keeps o l r g = rw (sym o, sym l, sym r, sym g) keeps

  pub row_keeps : (operator : Binary) (left right gives : SimpleType) → arithmetic_of operator left right ≡ Some gives → RowKeeps (row operator left right gives)
  row_keeps operator left right gives is =
      let test : Row → Bool = λ one. same_binary one.operator operator && same_simple one.left left && same_simple one.right right in
      let (one, there, gave) = mapped (λ one. one.gives) (find test arithmetic) gives is in
      let both = find_both RowKeeps test arithmetic one there all_rows in
      let parts = and_parts (same_binary one.operator operator && same_simple one.left left) (same_simple one.right right) both.1 in
      let firsts = and_parts (same_binary one.operator operator) (same_simple one.left left) parts.0 in
      of_row operator left right gives one both.0 (same_binary_is one.operator operator firsts.0) (same_simple_is one.left left firsts.1) (same_simple_is one.right right parts.1) gave

  pub keeps_binary : (place : Place) (operator : Binary) (left right gives : SimpleType) (a b : Value) → arithmetic_of operator left right ≡ Some gives
      → HasType kinds (Simple left) a → HasType kinds (Simple right) b → Keeps setting (Of (Simple gives)) kinds (binary place operator a b)
  keeps_binary place operator left right gives a b is in_a in_b = row_keeps operator left right gives is place a b in_a in_b

  -- One operand ----------------------------------------------------------------------------------------------------

  keeps_not : (place : Place) (a : Value) → is_kind simple.Bool a ≡ true → Keeps setting (Of type.bool) kinds (unary place Not a)
  keeps_not place a h = of_one value.Bool a (λ x. Keeps setting (Of type.bool) kinds (unary place Not x)) (made simple.Bool a h) (λ x. keeps_pure _ refl)

  negated_count : (place : Place) (a : Value) → is_kind simple.Count a ≡ true → Keeps setting (Of type.int) kinds (unary place Negate a)
  negated_count place a h = of_one value.Count a (λ x. Keeps setting (Of type.int) kinds (unary place Negate x)) (made simple.Count a h) (λ x. keeps_int place (neg_ℤ (pos x)))

  negated_int : (place : Place) (a : Value) → is_kind simple.Int a ≡ true → Keeps setting (Of type.int) kinds (unary place Negate a)
  negated_int place a h = of_one value.Int a (λ x. Keeps setting (Of type.int) kinds (unary place Negate x)) (made simple.Int a h) (λ x. keeps_int place (neg_ℤ x))

  negated_interval : (place : Place) (a : Value) → is_kind simple.Interval a ≡ true → Keeps setting (Of type.interval) kinds (unary place Negate a)
  negated_interval place a h = of_one value.Interval a (λ x. Keeps setting (Of type.interval) kinds (unary place Negate x)) (made simple.Interval a h) (λ x. keeps_interval place (neg_ℤ x.0))

  pub keeps_to_int : (place : Place) (a : Value) → is_kind simple.Count a ≡ true → Keeps setting (Of type.int) kinds (unary place ToInt a)
  keeps_to_int place a h = of_one value.Count a (λ x. Keeps setting (Of type.int) kinds (unary place ToInt x)) (made simple.Count a h) (λ x. keeps_int place (pos x))

  pub keeps_unary : (place : Place) (operator : Unary) (operand of : ValueType) (a : Value) → UnaryTakes operator operand of → HasType kinds operand a → Keeps setting (Of of) kinds (unary place operator a)
  keeps_unary place Not operand of a (is, gives) h = rw gives (keeps_not place a (rw is at h))
  keeps_unary place ToInt operand of a (is, gives) h = rw gives (keeps_to_int place a (rw is at h))
  keeps_unary place Negate (Simple simple.Count) of a gives h = rw gives (negated_count place a h)
  keeps_unary place Negate (Simple simple.Int) of a gives h = rw gives (negated_int place a h)
  keeps_unary place Negate (Simple simple.Interval) of a gives h = rw gives (negated_interval place a h)
  keeps_unary place Negate operand of a gives h = absurd gives

  stepped_count : (place : Place) (by : Direction) (a : Value) → is_kind simple.Count a ≡ true → Keeps setting (Of type.count) kinds (stepped place by a)
  stepped_count place Up a h = of_one value.Count a (λ x. Keeps setting (Of type.count) kinds (stepped place Up x)) (made simple.Count a h) (λ x. keeps_count place (x + 1))
  stepped_count place Down a h = of_one value.Count a (λ x. Keeps setting (Of type.count) kinds (stepped place Down x)) (made simple.Count a h) (λ x. keeps_minus place x 1)

  stepped_int : (place : Place) (by : Direction) (a : Value) → is_kind simple.Int a ≡ true → Keeps setting (Of type.int) kinds (stepped place by a)
  stepped_int place Up a h = of_one value.Int a (λ x. Keeps setting (Of type.int) kinds (stepped place Up x)) (made simple.Int a h) (λ x. keeps_int place (x +ℤ pos 1))
  stepped_int place Down a h = of_one value.Int a (λ x. Keeps setting (Of type.int) kinds (stepped place Down x)) (made simple.Int a h) (λ x. keeps_int place (x -ℤ pos 1))

  pub keeps_stepped : (place : Place) (by : Direction) (of : ValueType) (a : Value) → IsStepped of → HasType kinds of a → Keeps setting (Of of) kinds (stepped place by a)
  keeps_stepped place by (Simple simple.Count) a stepped h = stepped_count place by a h
  keeps_stepped place by (Simple simple.Int) a stepped h = stepped_int place by a h
  keeps_stepped place by of a stepped h = absurd stepped
