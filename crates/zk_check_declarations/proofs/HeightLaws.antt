-- Heights of types, and what nests deeper than so many.
use Rattle.std.proofs.Common.{◌≡◌, ℕ, zero, suc, ◌+◌, ◌<◌, ◌≤◌, nat_lt, nat_le, Bool, true, false, ◌||◌, not, List, [], ◌∷◌, length, take, flat_map, Ok, Err, get_or, if◌then◌else◌, refl, ap, sym, ◌∙◌, arith}
use Rattle.std.specs.List.{list_any}
use Rattle.std.proofs.lemmas.Bool.{ltb-true, ltb-false, lt-ltb, le-ltb, lt-leb, le-leb}
use Rattle.std.proofs.lemmas.List.Folds.{list_any-append}
use Rattle.zk_base.specs.declared.numbers.RecordNo.{RecordNo}
use Rattle.zk_typed.specs.Checked.{Checked}
use Rattle.zk_typed.specs.Resolving.{FieldInfo, Scripts, deeper, fields_of}
use Rattle.zk_typed.specs.Types.{ValueType, Simple, Record, Table, Set, Vector}
use Rattle.zk_check_declarations.specs.declared.edges.Edge.{Edge}
use Rattle.zk_check_declarations.specs.Edges.{edges_at, kind_of, kinds}
use Rattle.zk_check_declarations.specs.Heights.{Measures, height_at, height_in, is_raised, raised}
use Rattle.zk_check_declarations.specs.declared.heights.Heights.{Heights}
use Rattle.zk_check_declarations.proofs.ListLaws.{flat_turn}

-- `raised` by the test that it makes
raised_true : (m h : ℕ) (b : Bool) → nat_lt h 201 ≡ b → m < 200 → nat_lt m h ≡ true → nat_lt (suc m) (if b then h + 1 else 201) ≡ true
raised_true m h true test low k = let l : m < h = ltb-true m h k in lt-ltb (suc m) (h + 1) (omega arith)
raised_true m h false test low k = lt-ltb (suc m) 201 (omega arith)

raised_false : (m h : ℕ) (b : Bool) → nat_lt h 201 ≡ b → m < 200 → nat_lt m h ≡ false → nat_lt (suc m) (if b then h + 1 else 201) ≡ false
raised_false m h true test low k = let l : h ≤ m = ltb-false m h k in le-ltb (suc m) (h + 1) (omega arith)
raised_false m h false test low k = let l : h ≤ m = ltb-false m h k in let t : 201 ≤ h = ltb-false h 201 test in absurd (omega arith)

raised_by : (m h : ℕ) (b : Bool) → nat_lt m h ≡ b → m < 200 → nat_lt (suc m) (raised h) ≡ b
raised_by m h true e low = raised_true m h (nat_lt h 201) refl low e
raised_by m h false e low = raised_false m h (nat_lt h 201) refl low e

pub raised_lt : (m h : ℕ) → m < 200 → nat_lt (suc m) (raised h) ≡ nat_lt m h
raised_lt m h low = raised_by m h (nat_lt m h) refl low

above_none : (h : ℕ) (b : Bool) → nat_lt 0 (if b then h + 1 else 201) ≡ true
above_none h true = lt-ltb 0 (h + 1) (omega arith)
above_none h false = refl

pub raised_some : (h : ℕ) → nat_lt 0 (raised h) ≡ true
raised_some h = above_none h (nat_lt h 201)

any_same : {A : Type 0} (p q : A → Bool) → ((x : A) → p x ≡ q x) → (xs : List A) → list_any p xs ≡ list_any q xs
any_same p q e [] = refl
any_same p q e (x ∷ xs) = ap (λ b. b || list_any p xs) (e x) ∙ ap (λ b. q x || b) (any_same p q e xs)

or_false : (b : Bool) → (b || false) ≡ b
or_false true = refl
or_false false = refl

-- the test of a field, by its type where it isn't broken
abbrev of_field : (ValueType → Bool) → Checked ValueType → Bool
of_field more (Ok one) = more one
of_field more (Err rules) = false

field_any : (p : ValueType → Bool) (one : Checked ValueType) → list_any p (kind_of one) ≡ of_field p one
field_any p (Ok one) = or_false (p one)
field_any p (Err rules) = refl

kinds_any : (p : ValueType → Bool) (fields : List FieldInfo) → list_any p (kinds fields) ≡ list_any (λ field. of_field p field.field_type) fields
kinds_any p [] = refl
kinds_any p (field ∷ fields) =
    list_any-append p (kind_of field.field_type) (kinds fields) ∙ ap (λ b. b || list_any p (kinds fields)) (field_any p field.field_type) ∙
    ap (λ b. of_field p field.field_type || b) (kinds_any p fields)

deeper_record : (most : ℕ) (scripts : Scripts) (number : RecordNo) → deeper (suc most) scripts (Record number) ≡ list_any (deeper most scripts) (kinds (fields_of scripts number.0))
deeper_record most scripts number = sym (kinds_any (deeper most scripts) (fields_of scripts number.0))

-- heights tell what nests deeper than so many, up to a number of rounds
pub record MeasuresTo (round : ℕ) (heights : List ℕ) (scripts : Scripts) : Type 0 where
  pub deep : (most : ℕ) → most ≤ round → (one : ValueType) → deeper most scripts one ≡ nat_lt most (height_in heights one)

-- every type has a height
some_height : (heights : List ℕ) → ((number : ℕ) → nat_lt 0 (height_at heights number) ≡ true) → (one : ValueType) → nat_lt 0 (height_in heights one) ≡ true
some_height heights some (Simple one) = refl
some_height heights some (Set keys) = refl
some_height heights some (Table keys value) = raised_some (height_in heights value)
some_height heights some (Vector item) = raised_some (height_in heights item)
some_height heights some (Record number) = some number.0

pub lowest_measures : (heights : List ℕ) (scripts : Scripts) → ((number : ℕ) → height_at heights number ≡ 1) → MeasuresTo 0 heights scripts
lowest_measures heights scripts ones = record { deep = at_none }
  where
    at_none : (most : ℕ) → most ≤ 0 → (one : ValueType) → deeper most scripts one ≡ nat_lt most (height_in heights one)
    at_none zero h one = sym (some_height heights (λ number. ap (nat_lt 0) (ones number)) one)
    at_none (suc most) h one = absurd (omega arith)

-- a round of raising
module _ (heights next : List ℕ) (edges : List Edge) (scripts : Scripts) (round : ℕ) (low : round < 200)
    (fields : (number : ℕ) → edges_at number edges ≡ kinds (fields_of scripts number))
    (risen : (number most : ℕ) → nat_lt most (height_at next number) ≡ nat_lt most 1 || list_any (is_raised heights most) (edges_at number edges))
    (before : MeasuresTo round heights scripts) where
  higher : (one : ValueType) (most : ℕ) → most ≤ round + 1 → deeper most scripts one ≡ nat_lt most (height_in next one)
  higher one zero h = sym (some_height next (λ number. risen number 0) one)
  higher (Simple one) (suc most) h = sym (le-ltb (suc most) 1 (omega arith))
  higher (Set keys) (suc most) h = sym (le-ltb (suc most) 1 (omega arith))
  higher (Table keys value) (suc most) h = higher value most (omega arith) ∙ sym (raised_lt most (height_in next value) (omega arith))
  higher (Vector item) (suc most) h = higher item most (omega arith) ∙ sym (raised_lt most (height_in next item) (omega arith))
  higher (Record number) (suc most) h =
      let within : most ≤ round = omega arith in
      let few : most < 200 = omega arith in
      let parts = kinds (fields_of scripts number.0) in
      deeper_record most scripts number ∙ any_same (deeper most scripts) (λ part. nat_lt most (height_in heights part)) (before.deep most within) parts ∙
      any_same (λ part. nat_lt most (height_in heights part)) (is_raised heights (suc most)) (λ part. sym (raised_lt most (height_in heights part) few)) parts ∙
      ap (list_any (is_raised heights (suc most))) (sym (fields number.0)) ∙
      sym (risen number.0 (suc most) ∙ ap (λ b. b || list_any (is_raised heights (suc most)) (edges_at number.0 edges)) (le-ltb (suc most) 1 (omega arith)))

  pub higher_measures : MeasuresTo (round + 1) next scripts
  higher_measures = record { deep = λ most h one. higher one most h }

or_assoc : (a b c : Bool) → ((a || b) || c) ≡ (a || (b || c))
or_assoc true b c = refl
or_assoc false b c = refl

-- tests of the edges so far, and of one more
pub any_turn : {A : Type 0} (p : ValueType → Bool) (f : A → List ValueType) (xs : List A) (i : ℕ) (x : A) (old now next : Bool) → i < length xs → x ≡ get_or xs i x →
    now ≡ (old || list_any p (flat_map f (take i xs))) → next ≡ (now || list_any p (f x)) → next ≡ (old || list_any p (flat_map f (take (i + 1) xs)))
any_turn p f xs i x old now next within is e g =
    g ∙ ap (λ b. b || list_any p (f x)) e ∙ or_assoc old (list_any p (flat_map f (take i xs))) (list_any p (f x)) ∙
    ap (λ b. old || b) (sym (list_any-append p (flat_map f (take i xs)) (f x)) ∙ ap (list_any p) (sym (flat_turn f xs i x within is)))

-- after as many rounds as types may nest deep
pub measured : (heights : Heights) (scripts : Scripts) (round : ℕ) → 200 ≤ round → MeasuresTo round heights.heights.items scripts → Measures heights scripts
measured heights scripts round all known = record { deep = λ most h one. known.deep most (omega arith) one }

-- what isn't deeper than so many is no higher
pub not_deeper : (most height : ℕ) (b deep : Bool) → b ≡ nat_le height most → deep ≡ nat_lt most height → b ≡ not deep
not_deeper most height b deep e f = e ∙ by_test (nat_lt most height) refl ∙ ap not (sym f)
  where
    by_test : (t : Bool) → nat_lt most height ≡ t → nat_le height most ≡ not (nat_lt most height)
    by_test true g = let l : most < height = ltb-true most height g in lt-leb height most (omega arith) ∙ sym (ap not g)
    by_test false g = let l : height ≤ most = ltb-false most height g in le-leb height most l ∙ sym (ap not g)
