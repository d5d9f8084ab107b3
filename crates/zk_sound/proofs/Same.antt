-- Types and operators that compare the same are the same.
use Rattle.std.proofs.Common.{◌≡◌, ◌+◌, true, false, List, [], ◌∷◌, refl, ap, ◌∙◌, arith}
use Rattle.std.proofs.lemmas.Bool.{and_parts, eqb-true}
use Rattle.zk_base.specs.declared.numbers.RecordNo.{RecordNo}
use Rattle.zk_typed.specs.declared.script.primitive.Binary.{Binary}
use Rattle.zk_typed.specs.declared.script.primitive.Binary.TheVariants.{Plus, Minus, Times, Over, Modulo}
use Rattle.zk_typed.specs.declared.script.types.SimpleType.{SimpleType}
use Rattle.zk_typed.specs.declared.script.types.SimpleType.TheVariants as simple
use Rattle.zk_typed.specs.Operations.{same_keys, same_simple, same_type, simple_number, same_binary}
use Rattle.zk_typed.specs.Types.{ValueType, Simple, Record, Table, Set, Vector}

apart : {P : Type 0} → false ≡ true → P
apart e = cc

pub same_simple_is : (a b : SimpleType) → same_simple a b ≡ true → a ≡ b
same_simple_is simple.Bool simple.Bool e = refl
same_simple_is simple.Count simple.Count e = refl
same_simple_is simple.Int simple.Int e = refl
same_simple_is simple.String simple.String e = refl
same_simple_is simple.Time simple.Time e = refl
same_simple_is simple.Interval simple.Interval e = refl
same_simple_is simple.Addr simple.Addr e = refl
same_simple_is simple.Port simple.Port e = refl
same_simple_is simple.Subnet simple.Subnet e = refl
same_simple_is (simple.Enum a) (simple.Enum b) e = let same : a ≡ b = omega (arith, eqb-true (a + 9) (b + 9) e) in ap simple.Enum same
same_simple_is a b e = absurd (omega (arith, eqb-true (simple_number a) (simple_number b) e))

pub same_binary_is : (a b : Binary) → same_binary a b ≡ true → a ≡ b
same_binary_is Plus Plus e = refl
same_binary_is Minus Minus e = refl
same_binary_is Times Times e = refl
same_binary_is Over Over e = refl
same_binary_is Modulo Modulo e = refl
same_binary_is a b e = apart e

pub same_keys_is : (a b : List SimpleType) → same_keys a b ≡ true → a ≡ b
same_keys_is [] [] e = refl
same_keys_is [] (b ∷ bs) e = apart e
same_keys_is (a ∷ xs) [] e = apart e
same_keys_is (a ∷ xs) (b ∷ bs) e =
    let parts = and_parts (same_simple a b) (same_keys xs bs) e in
    ap (λ x. x ∷ xs) (same_simple_is a b parts.0) ∙ ap (λ more. b ∷ more) (same_keys_is xs bs parts.1)

number_is : (a b : RecordNo) → a.0 ≡ b.0 → a ≡ b
number_is a b e = ap (λ n. record { 0 = n }) e

pub same_type_is : (a b : ValueType) → same_type a b ≡ true → a ≡ b
same_type_is (Simple a) (Simple b) e = ap Simple (same_simple_is a b e)
same_type_is (Record a) (Record b) e = ap Record (number_is a b (eqb-true a.0 b.0 e))
same_type_is (Table keys item) (Table others other) e =
    let parts = and_parts (same_keys keys others) (same_type item other) e in
    ap (λ k. Table k item) (same_keys_is keys others parts.0) ∙ ap (Table others) (same_type_is item other parts.1)
same_type_is (Set keys) (Set others) e = ap Set (same_keys_is keys others e)
same_type_is (Vector item) (Vector other) e = ap Vector (same_type_is item other e)
same_type_is a b e = apart e
