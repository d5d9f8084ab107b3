-- Parameters and locals that are found by their names.
use Rattle.std.proofs.Common.{◌≡◌, ℕ, suc, ◌+◌, Bool, true, false, List, [], ◌∷◌, ◌++◌, map, Option, None, Some, slice_get, refl, ap, sym, ◌∙◌, subst, arith}
use Rattle.std.proofs.lemmas.List.{map-append}
use Rattle.std.specs.Option.{option_map}
use Rattle.std.specs.Str.{bytes_eq}
use Rattle.zk_scope.specs.declared.first_places.FirstPlaces.{FirstPlaces}
use Rattle.zk_scope.specs.Numbering.{Stands}
use Rattle.zk_typed.specs.Checked.{Checked}
use Rattle.zk_typed.specs.Names.{count_before}
use Rattle.zk_typed.specs.Types.{ValueType}
use Rattle.zk_typed.specs.Typing.{local_named}
use Rattle.zk_check_expressions.specs.declared.env.LocalName.{LocalName as LentLocal}
use Rattle.zk_check_expressions.specs.Envs.{local_of, locals_of}
use Rattle.zk_check_expressions.specs.Locals.{named}

-- names are found among one more
pub stands_more : (names : FirstPlaces (List ℕ)) (old new : List LentLocal) (one : LentLocal) (name : List ℕ) → name ≡ one.name.now → new ≡ old ++ one ∷ [] → Stands bytes_eq names (named old ++ name ∷ []) → Stands bytes_eq names (named new)
stands_more names old new one name said pushed stands =
    let same : named old ++ name ∷ [] ≡ named new =
    ap (λ (x : List ℕ). named old ++ x ∷ []) said ∙ sym (ap named pushed ∙ map-append (λ (local : LentLocal). local.name.now) old (one ∷ [])) in
    subst (Stands bytes_eq names) same stands

local_type : LentLocal → Checked ValueType
local_type one = (local_of one).type

-- how many stand before the first of a name
abbrev before : List ℕ → List LentLocal → ℕ
before name locals = count_before (λ other. bytes_eq other name) (named locals)

local_by : (name : List ℕ) (from : ℕ) (one : LentLocal) (others : List LentLocal) (b : Bool) → bytes_eq one.name.now name ≡ b →
    ((on : ℕ) → local_named name on (locals_of others) ≡ option_map (λ local. (on + before name others, local_type local)) (slice_get others (before name others))) →
    local_named name from (locals_of (one ∷ others)) ≡ option_map (λ local. (from + before name (one ∷ others), local_type local)) (slice_get (one ∷ others) (before name (one ∷ others)))
unfolding local_type
local_by name from one others true e rest =
    let here : from ≡ from + 0 = omega arith in
    let count : before name (one ∷ others) ≡ 0 = ap (λ (b : Bool). elim b as (λ x. ℕ) [ true ↦ 0 | false ↦ suc (before name others) ]) e in
    ap (λ (b : Bool). elim b as (λ x. Option (ℕ × Checked ValueType)) [ true ↦ Some (from, local_type one) | false ↦ local_named name (from + 1) (locals_of others) ]) e ∙
    ap (λ (n : ℕ). Some (n, local_type one)) here ∙
    sym (ap (λ (n : ℕ). option_map (λ (local : LentLocal). (from + n, local_type local)) (slice_get (one ∷ others) n)) count)
local_by name from one others false e rest =
    let behind : from + 1 + before name others ≡ from + suc (before name others) = omega arith in
    let count : before name (one ∷ others) ≡ suc (before name others) = ap (λ (b : Bool). elim b as (λ x. ℕ) [ true ↦ 0 | false ↦ suc (before name others) ]) e in
    ap (λ (b : Bool). elim b as (λ x. Option (ℕ × Checked ValueType)) [ true ↦ Some (from, local_type one) | false ↦ local_named name (from + 1) (locals_of others) ]) e ∙
    rest (from + 1) ∙ ap (λ (n : ℕ). option_map (λ (local : LentLocal). (n, local_type local)) (slice_get others (before name others))) behind ∙
    sym (ap (λ (n : ℕ). option_map (λ (local : LentLocal). (from + n, local_type local)) (slice_get (one ∷ others) n)) count)

first_local : (name : List ℕ) (from : ℕ) (locals : List LentLocal) →
    local_named name from (locals_of locals) ≡ option_map (λ local. (from + before name locals, local_type local)) (slice_get locals (before name locals))
first_local name from [] = refl
first_local name from (one ∷ others) = local_by name from one others (bytes_eq one.name.now name) refl (λ on. first_local name on others)

-- the local of a name is the one whose number is the first of the name
pub local_found_at : (name : List ℕ) (locals : List LentLocal) (number : ℕ) (found : Option LentLocal) → number ≡ count_before (λ other. bytes_eq other name) (named locals) → found ≡ slice_get locals number →
    option_map (λ local. (number, (local_of local).type)) found ≡ local_named name 0 (locals_of locals)
unfolding local_type
local_found_at name locals number found counted is =
    let from_none : number ≡ 0 + number = omega arith in
    ap (option_map (λ (local : LentLocal). (number, local_type local))) is ∙ ap (λ (n : ℕ). option_map (λ (local : LentLocal). (n, local_type local)) (slice_get locals number)) from_none ∙
    ap (λ (n : ℕ). option_map (λ (local : LentLocal). (0 + n, local_type local)) (slice_get locals n)) counted ∙ sym (first_local name 0 locals)
