-- Fields that are added to record types, one after another.
use Rattle.std.proofs.Common.{◌≡◌, ℕ, ◌+◌, ◌<◌, ◌≤◌, ◌==◌, ◌||◌, ◌&&◌, nat_lt, Bool, true, false, List, [], ◌∷◌, ◌++◌, length, take, get_or, refl, ap, sym, ◌∙◌, arith}
use Rattle.std.specs.Str.{bytes_eq}
use Rattle.std.proofs.lemmas.Bool.{eqb-true, eqb-false, eq-eqb, ltb-true, ltb-false, lt-ltb, le-ltb}
use Rattle.std.proofs.lemmas.List.{map-append, take_more}
use Rattle.std.proofs.lemmas.List.Folds.{list_any-append}
use Rattle.zk_tree.specs.declared.types.Field.{Field, out-Field}
use Rattle.zk_typed.specs.Declarations.{is_one_of}
use Rattle.zk_check_declarations.specs.declared.records.FieldNames.{FieldNames}
use Rattle.zk_check_declarations.specs.Adding.{HasFields, field_texts, has_field}

or_comm : (a b : Bool) → (a || b) ≡ (b || a)
or_comm true true = refl
or_comm true false = refl
or_comm false true = refl
or_comm false false = refl

pub or_false : (a : Bool) → (a || false) ≡ a
or_false true = refl
or_false false = refl

self_test : (number : ℕ) → (number == number) ≡ true
self_test number = eq-eqb number number refl

-- a record type has one more field
pub now_has : (owner : ℕ) (known next : FieldNames) (names : List (List ℕ)) (name text : List ℕ) → name ≡ text → HasFields owner known names →
    ((number : ℕ) (other : List ℕ) → has_field next number other ≡ (has_field known number other || (owner == number && bytes_eq name other))) → HasFields owner next (text ∷ names)
now_has owner known next names name text same has added = record {
  has = λ other.
      added owner other ∙ ap (λ b. has_field known owner other || (b && bytes_eq name other)) (self_test owner) ∙ ap (λ b. b || bytes_eq name other) (has.has other) ∙
      or_comm (is_one_of names other) (bytes_eq name other) ∙ ap (λ given. bytes_eq given other || is_one_of names other) same;
}

texts_turn : (fields : List Field) (i : ℕ) (field : Field) (name : List ℕ) → i < length fields → field ≡ get_or fields i field →
    is_one_of (field_texts (take (i + 1) fields)) name ≡ (is_one_of (field_texts (take i fields)) name || bytes_eq (out-Field field).name.text name)
texts_turn fields i field name within is =
    ap (λ items. is_one_of (field_texts items) name) (take_more fields i field within ∙ ap (λ one. take i fields ++ one ∷ []) (sym is)) ∙
    ap (λ names. is_one_of names name) (map-append (λ one. (out-Field one).name.text) (take i fields) (field ∷ [])) ∙
    list_any-append (λ other. bytes_eq other name) (field_texts (take i fields)) ((out-Field field).name.text ∷ []) ∙
    ap (λ b. is_one_of (field_texts (take i fields)) name || b) (or_false (bytes_eq (out-Field field).name.text name))

spread : (a t b c : Bool) → ((a || (t && b)) || (t && c)) ≡ (a || (t && (b || c)))
spread true t b c = refl
spread false true b c = refl
spread false false b c = refl

pub more_names : (owner number : ℕ) (name : List ℕ) (old known next : FieldNames) (fields : List Field) (i : ℕ) (field : Field) (text : List ℕ) → i < length fields → field ≡ get_or fields i field →
    text ≡ (out-Field field).name.text → has_field known number name ≡ (has_field old number name || (owner == number && is_one_of (field_texts (take i fields)) name)) →
    has_field next number name ≡ (has_field known number name || (owner == number && bytes_eq text name)) →
    has_field next number name ≡ (has_field old number name || (owner == number && is_one_of (field_texts (take (i + 1) fields)) name))
more_names owner number name old known next fields i field text within is same before added =
    added ∙ ap (λ b. b || (owner == number && bytes_eq text name)) before ∙
    spread (has_field old number name) (owner == number) (is_one_of (field_texts (take i fields)) name) (bytes_eq text name) ∙
    ap (λ given. has_field old number name || (owner == number && (is_one_of (field_texts (take i fields)) name || bytes_eq given name))) same ∙
    ap (λ b. has_field old number name || (owner == number && b)) (sym (texts_turn fields i field name within is))

-- numbers below the next one have their names
named_by : (f : ℕ → Bool) (count number : ℕ) (b : Bool) → (count == number) ≡ b → (now next : Bool) → now ≡ (nat_lt number count && f number) → next ≡ (now || (b && f count)) → next ≡ (nat_lt number (count + 1) && f number)
named_by f count number true e now next before more =
    let same : count ≡ number = eqb-true count number e in
    let not_yet : nat_lt number count ≡ false = le-ltb number count (omega arith) in
    let later : nat_lt number (count + 1) ≡ true = lt-ltb number (count + 1) (omega arith) in
    more ∙ ap (λ b. b || f count) (before ∙ ap (λ b. b && f number) not_yet) ∙ ap f same ∙ sym (ap (λ b. b && f number) later)
named_by f count number false e now next before more =
    more ∙ or_false now ∙ before ∙ ap (λ b. b && f number) (same_test (nat_lt number count) refl)
  where
    same_test : (b : Bool) → nat_lt number count ≡ b → nat_lt number count ≡ nat_lt number (count + 1)
    same_test true low = let l : number < count = ltb-true number count low in low ∙ sym (lt-ltb number (count + 1) (omega arith))
    same_test false low =
        let l : count ≤ number = ltb-false number count low in
        let other : count ≡ number → ⊥ = eqb-false count number e in
        low ∙ sym (le-ltb number (count + 1) (omega (arith, other)))

pub named_turn : (f : ℕ → Bool) (count number : ℕ) (now next : Bool) → now ≡ (nat_lt number count && f number) → next ≡ (now || ((count == number) && f count)) → next ≡ (nat_lt number (count + 1) && f number)
named_turn f count number now next before more = named_by f count number (count == number) refl now next before more

named_past : (f : ℕ → Bool) (count number : ℕ) (b : Bool) → nat_lt number count ≡ b → (count ≤ number → f number ≡ false) → (nat_lt number count && f number) ≡ f number
named_past f count number true e past = ap (λ b. b && f number) e
named_past f count number false e past = ap (λ b. b && f number) e ∙ sym (past (ltb-false number count e))

pub named_all : (f : ℕ → Bool) (count number : ℕ) → (count ≤ number → f number ≡ false) → (nat_lt number count && f number) ≡ f number
named_all f count number past = named_past f count number (nat_lt number count) refl past
