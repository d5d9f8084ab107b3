-- The list of broken rules, declaration by declaration.
use Rattle.std.proofs.Common.{◌≡◌, ℕ, ◌+◌, ◌<◌, List, [], ◌∷◌, ◌++◌, length, map, take, drop, get_or, Option, Some, None, Ok, Err, Result, refl, ap, sym, ◌∙◌, append_assoc, append-nil}
use Rattle.std.proofs.lemmas.List.{map-append, take_more}
use Rattle.zk_tree.specs.declared.decl.Decl.{out-Decl}
use Rattle.zk_typed.specs.declared.refusal.Broken.{Broken as BrokenRule}
use Rattle.zk_typed.specs.declared.refusal.Refusal.{Refusal}
use Rattle.zk_typed.specs.declared.refusal.Refusal.TheVariants.{Broken, NoMemory}
use Rattle.zk_typed.specs.Checked.{Checked, both, rules_of}
use Rattle.zk_typed.specs.Declarations.{nothing}
use Rattle.zk_typed.specs.Errors.{by_place, decl_rules, declared_before, declares, errors_from, errors_of, twice_rules}
use Rattle.zk_typed.specs.LoadOrder.{Stated}
use Rattle.zk_typed.specs.Resolving.{Scripts}
use Rattle.zk_scope.specs.declared.home.Stated.{Stated as LentStated}
use Rattle.zk_scope.specs.Lent.{stated_lent, stated_of}
use Rattle.zk_check.specs.Faults.{head_of}
use Rattle.zk_check.specs.Listing.{all_rules, path_rules}
use Rattle.zk_check_declarations.proofs.ListLaws.{front_of}

head_more : {A : Type 0} (xs ys : List A) (first : Option A) → first ≡ head_of xs → first ≡ None → head_of (xs ++ ys) ≡ head_of ys
head_more [] ys first e none = refl
head_more (x ∷ xs) ys first e none = let no : Some x ≡ None = sym e ∙ none in cc

head_found : {A : Type 0} (xs ys : List A) (one : A) (first : Option A) → first ≡ head_of xs → first ≡ Some one → Some one ≡ head_of (xs ++ ys)
head_found [] ys one first e some = let no : None ≡ Some one = sym e ∙ some in cc
head_found (x ∷ xs) ys one first e some = sym some ∙ e

-- the declarations so far, one more, and what is left
errors_front : (scripts : Scripts) (stated : List LentStated) (i : ℕ) (one : LentStated) → i < length stated → one ≡ get_or stated i one →
    errors_from scripts (stated_lent (take i stated)) (stated_lent (drop i stated)) ≡
    errors_of scripts (stated_lent (take i stated)) (stated_of one) ++ errors_from scripts (stated_lent (take (i + 1) stated)) (stated_lent (drop (i + 1) stated))
errors_front scripts stated i one within is =
    ap (λ left. errors_from scripts (stated_lent (take i stated)) (stated_lent left)) (front_of stated i one within is) ∙
    ap (λ before. errors_of scripts (stated_lent (take i stated)) (stated_of one) ++ errors_from scripts before (stated_lent (drop (i + 1) stated)))
    (sym (ap stated_lent (take_more stated i one within ∙ ap (λ x. take i stated ++ x ∷ []) (sym is)) ∙ map-append stated_of (take i stated) (one ∷ [])))

pub errors_on : (scripts : Scripts) (stated : List LentStated) (i : ℕ) (one : LentStated) (first whole : Option BrokenRule) → i < length stated → one ≡ get_or stated i one →
    first ≡ head_of (errors_of scripts (stated_lent (take i stated)) (stated_of one)) → first ≡ None →
    head_of (errors_from scripts (stated_lent (take i stated)) (stated_lent (drop i stated))) ≡ whole →
    head_of (errors_from scripts (stated_lent (take (i + 1) stated)) (stated_lent (drop (i + 1) stated))) ≡ whole
errors_on scripts stated i one first whole within is e none before =
    sym (ap head_of (errors_front scripts stated i one within is) ∙ head_more (errors_of scripts (stated_lent (take i stated)) (stated_of one)) _ first e none) ∙ before

pub errors_found : (scripts : Scripts) (stated : List LentStated) (i : ℕ) (one : LentStated) (first whole : Option BrokenRule) (rule : BrokenRule) → i < length stated → one ≡ get_or stated i one →
    first ≡ head_of (errors_of scripts (stated_lent (take i stated)) (stated_of one)) → first ≡ Some rule →
    head_of (errors_from scripts (stated_lent (take i stated)) (stated_lent (drop i stated))) ≡ whole → Some rule ≡ whole
errors_found scripts stated i one first whole rule within is e some before =
    head_found (errors_of scripts (stated_lent (take i stated)) (stated_of one)) _ rule first e some ∙ sym (ap head_of (errors_front scripts stated i one within is)) ∙ before

-- the declarations so far, and one more
pub stated_more : (stated : List LentStated) (i : ℕ) (one : LentStated) → i < length stated → one ≡ get_or stated i one → stated_lent (take i stated) ++ stated_of one ∷ [] ≡ stated_lent (take (i + 1) stated)
stated_more stated i one within is = sym (ap stated_lent (take_more stated i one within ∙ ap (λ x. take i stated ++ x ∷ []) (sym is)) ∙ map-append stated_of (take i stated) (one ∷ []))
