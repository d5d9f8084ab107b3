-- The record types within a type.
use Rattle.std.proofs.Common.{◌≡◌, ℕ, zero, suc, ◌-◌, ◌^◌, Bool, not, List, Ok, Err, [], ◌∷◌, ◌++◌, refl, ap, sym, ◌∙◌, arith}
use Rattle.zk_tree.specs.declared.name.Name.{Name}
use Rattle.zk_tree.specs.declared.types.Field.{Field}
use Rattle.zk_tree.specs.declared.types.Type.{«Type»}
use Rattle.zk_tree.specs.declared.types.Type.TheVariants as tree
use Rattle.zk_tree.specs.declared.types.Type.TheVariants.{outs-Record}
use Rattle.zk_typed.specs.declared.rule.Rule.TheVariants as rule
use Rattle.zk_typed.specs.Checked.{Checked, both, each, require, ◌>>=◌}
use Rattle.zk_typed.specs.Declarations.{is_one_of, nested_to, nothing, param_rules, parts_rules, recursive_rules, type_rules}
use Rattle.zk_typed.specs.Within.{depth_max}
use Rattle.zk_typed.specs.Types.{ValueType}
use Rattle.zk_tree.specs.Places.{type_place}
use Rattle.zk_tree.specs.declared.types.Param.{Param, out-Param}
use Rattle.zk_typed.specs.LoadOrder.{Home}
use Rattle.zk_typed.specs.Resolving.{Scripts, leads, place_in, type_of}
use Rattle.zk_check_operators.proofs.BothLaws.{grouped}
use Rattle.zk_check_declarations.specs.Nesting.{depth_rules, nested_fields, one_param}

pub nested_record : (depth : ℕ) (scripts : Scripts) (home : Home) (place : ℕ) (fields : List Field) → (depth ≡ 0 → ⊥) →
    nested_to depth scripts home (tree.Record place fields) ≡ nested_fields (depth - 1) scripts home fields
nested_record zero scripts home place fields h = absurd (h refl)
nested_record (suc depth) scripts home place fields h = let less : suc depth - 1 ≡ depth = omega arith in rw (less, outs-Record) refl

unit_left : (one : Checked (Unit {0})) → nothing (both (Ok (tt {0})) one) ≡ one
unit_left (Ok tt) = refl
unit_left (Err rules) = refl

-- rules of two runs of names
pub recursive-append : (scripts : Scripts) (home : Home) (whole : List ℕ) (names more : List Name) →
    recursive_rules scripts home whole (names ++ more) ≡ nothing (both (recursive_rules scripts home whole names) (recursive_rules scripts home whole more))
recursive-append scripts home whole [] more = sym (unit_left (recursive_rules scripts home whole more))
recursive-append scripts home whole (name ∷ names) more =
    let one : Checked (Unit {0}) = require (not (leads scripts whole home name)) rule.Recursive (place_in home name.place) in
    ap (λ rest. nothing (both one rest)) (recursive-append scripts home whole names more) ∙ grouped one (recursive_rules scripts home whole names) (recursive_rules scripts home whole more)

-- the parts of a list, without what they are
each_by : {B : Type 0} (one : Checked B) (others : Checked (List B)) → nothing (both one others >>= (λ parts. Ok (parts.0 ∷ parts.1))) ≡ nothing (both (nothing one) (nothing others))
each_by (Ok a) (Ok b) = refl
each_by (Ok a) (Err more) = refl
each_by (Err rules) (Ok b) = refl
each_by (Err rules) (Err more) = refl

unit_only : (one : Checked (Unit {0})) → nothing one ≡ one
unit_only (Ok tt) = refl
unit_only (Err rules) = refl

pub each_more : {A : Type 0} (check : A → Checked (Unit {0})) (x : A) (xs : List A) → nothing (each check (x ∷ xs)) ≡ nothing (both (check x) (nothing (each check xs)))
each_more check x xs = each_by (check x) (each check xs) ∙ ap (λ one. nothing (both one (nothing (each check xs)))) (unit_only (check x))

-- how deep a tree can be at most
pub deepest : (depth : ℕ) → depth ≡ 2 ^ 64 - 1 → depth ≡ depth_max
unfolding depth_max
deepest depth e = e

-- what is broken in a type beside what is told of it as a whole
pub parts_is : (too_deep : ValueType → Bool) (scripts : Scripts) (home : Home) (tree : «Type») →
    parts_rules too_deep scripts home tree ≡ nothing (both (depth_rules too_deep (place_in home (type_place tree)) (type_of scripts home tree)) (nested_to depth_max scripts home tree))
parts_is too_deep scripts home tree = refl

pub inner_nothing : {A B C : Type 0} (a : Checked A) (b : Checked B) (c : Checked C) → nothing (both (both a b) c) ≡ nothing (both (nothing (both a b)) c)
inner_nothing (Ok a) (Ok b) (Ok c) = refl
inner_nothing (Ok a) (Ok b) (Err rules) = refl
inner_nothing (Ok a) (Err rules) c = refl
inner_nothing (Err rules) b c = refl

pub params_more : (scripts : Scripts) (home : Home) (before : List (List ℕ)) (param : Param) (params : List Param) →
    param_rules scripts home before (param ∷ params) ≡ nothing (both (one_param scripts home before param) (param_rules scripts home ((out-Param param).name.text ∷ before) params))
params_more scripts home before param params =
    inner_nothing (require (not (is_one_of before (out-Param param).name.text)) rule.Twice (place_in home (out-Param param).name.place)) (type_rules scripts home (out-Param param).param_type)
    (param_rules scripts home ((out-Param param).name.text ∷ before) params)
