-- The fields of record types, one after another.
use Rattle.std.proofs.Common.{◌≡◌, ℕ, ◌+◌, ◌<◌, ◌==◌, Bool, true, false, List, [], ◌++◌, length, take, get_or, map, Option, if◌then◌else◌, refl, ap, sym, ◌∙◌, append_assoc}
use Rattle.std.proofs.lemmas.List.Folds.{flat_map-map}
use Rattle.zk_typed.specs.Resolving.{FieldInfo}
use Rattle.zk_typed.specs.Types.{ValueType}
use Rattle.zk_check_declarations.proofs.ListLaws.{flat_turn}
use Rattle.zk_scope.specs.FieldPlaces.{is_among}
use Rattle.zk_check_declarations.specs.Edges.{kind_of, kinds, only}

only_by : {A : Type 0} (b : Bool) (xs ys : List A) → (if b then xs ++ ys else []) ≡ (if b then xs else []) ++ (if b then ys else [])
only_by true xs ys = refl
only_by false xs ys = refl

pub only-append : {A : Type 0} (owner number : ℕ) (xs ys : List A) → only owner number (xs ++ ys) ≡ only owner number xs ++ only owner number ys
only-append owner number xs ys = only_by (owner == number) xs ys

-- what was there, what was added, and one more behind
pub one_behind : {A : Type 0} (old now next before part all : List A) → now ≡ old ++ before → next ≡ now ++ part → all ≡ before ++ part → next ≡ old ++ all
one_behind old now next before part all e f g = f ∙ ap (λ x. x ++ part) e ∙ append_assoc old before part ∙ ap (λ x. old ++ x) (sym g)

-- the types of fields, and of one more
pub kinds_turn : {A : Type 0} (view : A → FieldInfo) (xs : List A) (i : ℕ) (x : A) (owner number : ℕ) (old now next : List ValueType) → i < length xs → x ≡ get_or xs i x →
    now ≡ old ++ only owner number (kinds (map view (take i xs))) → next ≡ now ++ only owner number (kind_of (view x).field_type) →
    next ≡ old ++ only owner number (kinds (map view (take (i + 1) xs)))
kinds_turn {A} view xs i x owner number old now next within is e f =
    let of_one : A → List ValueType = λ one. kind_of (view one).field_type in
    let of_fields : FieldInfo → List ValueType = λ field. kind_of field.field_type in
    one_behind old now next (only owner number (kinds (map view (take i xs)))) (only owner number (of_one x)) (only owner number (kinds (map view (take (i + 1) xs)))) e f
    (ap (only owner number) (flat_map-map of_fields view (take (i + 1) xs) ∙ flat_turn of_one xs i x within is ∙ ap (λ front. front ++ of_one x) (sym (flat_map-map of_fields view (take i xs)))) ∙
    only-append owner number (kinds (map view (take i xs))) (of_one x))

kinds_by : (b : Bool) (fields : List FieldInfo) → (if b then kinds fields else []) ≡ kinds (if b then fields else [])
kinds_by true fields = refl
kinds_by false fields = refl

-- the fields that `redef record` adds, by the number of the record type that it names
pub added_by : (number : ℕ) (b : Bool) (found : Option ℕ) (fields : List FieldInfo) → b ≡ is_among number found → kinds (if b then fields else []) ≡ (if is_among number found then kinds fields else [])
added_by number b found fields e = ap (λ t. kinds (if t then fields else [])) e ∙ sym (kinds_by (is_among number found) fields)
