-- Types that compare the same are the same.
use Rattle.std.proofs.Common.{◌≡◌, ◌≤◌, ℕ, ◌+◌, ◌-◌, ◌==◌, true, false, List, [], ◌∷◌, if◌then◌else◌, refl, ap, sym, ◌∙◌, arith, rules}
use Rattle.std.proofs.lemmas.Bool.{and_parts, eqb-true, ne_eqb}
use Rattle.zk_base.specs.declared.numbers.RecordNo.{RecordNo}
use Rattle.zk_typed.specs.declared.script.types.SimpleType.{SimpleType}
use Rattle.zk_typed.specs.declared.script.types.SimpleType.TheVariants as simple
use Rattle.zk_typed.specs.declared.script.types.ValueType.{fold-roll-ValueType}
use Rattle.zk_typed.specs.declared.script.types.ValueType.TheVariants as types
use Rattle.zk_typed.specs.declared.script.types.ValueType.TheVariants.{rolls-Simple}
use Rattle.zk_typed.specs.View.{type_of}
use Rattle.zk_typed.specs.Operations.{same_keys, same_simple, same_type, simple_number}
use Rattle.zk_typed.specs.Types.{ValueType, Simple, Record, Table, Set, Vector}

-- the type of a number
simple_at : ℕ → SimpleType
simple_at number =
    if number == 0 then simple.Bool else if number == 1 then simple.Count else if number == 2 then simple.Int else if number == 3 then simple.String
    else if number == 4 then simple.Time else if number == 5 then simple.Interval else if number == 6 then simple.Addr else if number == 7 then simple.Port
    else if number == 8 then simple.Subnet else simple.Enum (number - 9)

above : (number least : ℕ) → least ≤ 8 → (number + 9 == least) ≡ false
above number least low = ne_eqb (number + 9) least (λ e. absurd (omega arith))

enum_back : (number : ℕ) → simple_at (number + 9) ≡ simple.Enum number
unfolding simple_at
enum_back number =
    rw (
      above number 0 (omega arith),
      above number 1 (omega arith),
      above number 2 (omega arith),
      above number 3 (omega arith),
      above number 4 (omega arith),
      above number 5 (omega arith),
      above number 6 (omega arith),
      above number 7 (omega arith),
      above number 8 (omega arith),
    )
    (let less : number + 9 - 9 ≡ number = omega arith in ap (λ n. simple.Enum n) less)

back : (one : SimpleType) → simple_at (simple_number one) ≡ one
unfolding simple_at
back simple.Bool = refl
back simple.Count = refl
back simple.Int = refl
back simple.String = refl
back simple.Time = refl
back simple.Interval = refl
back simple.Addr = refl
back simple.Port = refl
back simple.Subnet = refl
back (simple.Enum number) = enum_back number

pub same_simple_is : (a b : SimpleType) → same_simple a b ≡ true → a ≡ b
same_simple_is a b e = sym (back a) ∙ ap simple_at (eqb-true (simple_number a) (simple_number b) e) ∙ back b

apart : {P : Type 0} → false ≡ true → P
apart e = cc

pub same_keys_is : (a b : List SimpleType) → same_keys a b ≡ true → a ≡ b
same_keys_is [] [] e = refl
same_keys_is [] (b ∷ bs) e = apart e
same_keys_is (a ∷ xs) [] e = apart e
same_keys_is (a ∷ xs) (b ∷ bs) e =
    let parts = and_parts (same_simple a b) (same_keys xs bs) e in
    ap (λ x. x ∷ xs) (same_simple_is a b parts.0) ∙ ap (λ more. b ∷ more) (same_keys_is xs bs parts.1)

number_is : (a b : RecordNo) → a.0 ≡ b.0 → a ≡ b
number_is a b e = ap (λ n. record { 0 = n }) e

pub same_type_is : (a b : ValueType) → same_type a b ≡ true → a ≡ b
same_type_is (Simple a) (Simple b) e = ap Simple (same_simple_is a b e)
same_type_is (Record a) (Record b) e = ap Record (number_is a b (eqb-true a.0 b.0 e))
same_type_is (Table keys value) (Table others other) e =
    let parts = and_parts (same_keys keys others) (same_type value other) e in
    ap (λ k. Table k value) (same_keys_is keys others parts.0) ∙ ap (Table others) (same_type_is value other parts.1)
same_type_is (Set keys) (Set others) e = ap Set (same_keys_is keys others e)
same_type_is (Vector item) (Vector other) e = ap Vector (same_type_is item other e)
same_type_is (Simple a) (Record b) e = apart e
same_type_is (Simple a) (Table others other) e = apart e
same_type_is (Simple a) (Set others) e = apart e
same_type_is (Simple a) (Vector other) e = apart e
same_type_is (Record a) (Simple b) e = apart e
same_type_is (Record a) (Table others other) e = apart e
same_type_is (Record a) (Set others) e = apart e
same_type_is (Record a) (Vector other) e = apart e
same_type_is (Table keys value) (Simple b) e = apart e
same_type_is (Table keys value) (Record b) e = apart e
same_type_is (Table keys value) (Set others) e = apart e
same_type_is (Table keys value) (Vector other) e = apart e
same_type_is (Set keys) (Simple b) e = apart e
same_type_is (Set keys) (Record b) e = apart e
same_type_is (Set keys) (Table others other) e = apart e
same_type_is (Set keys) (Vector other) e = apart e
same_type_is (Vector item) (Simple b) e = apart e
same_type_is (Vector item) (Record b) e = apart e
same_type_is (Vector item) (Table others other) e = apart e
same_type_is (Vector item) (Set others) e = apart e

-- a type without parts, as the definitions see it
pub simple_is : (one : SimpleType) → type_of (types.Simple one) ≡ Simple one
simple_is one = ap type_of (sym (rolls-Simple one)) ∙ search (rules, fold-roll-ValueType)
