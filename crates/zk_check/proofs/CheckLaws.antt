-- The rule that is told of those that scripts break.
use Rattle.std.proofs.Common.{◌≡◌, List, [], ◌∷◌, Option, Some, None, refl, sym, subst, ◌∙◌}
use Rattle.zk_tree.specs.declared.place.Place.{Place}
use Rattle.zk_typed.specs.declared.refusal.Broken.{Broken}
use Rattle.zk_typed.specs.declared.rule.Rule.{Rule}
use Rattle.zk_typed.specs.declared.rule.Rule.TheVariants as rule
use Rattle.zk_typed.specs.Declaring.{scripts_of}
use Rattle.zk_typed.specs.Errors.{errors}
use Rattle.zk_typed.specs.LoadOrder.{File}
use Rattle.zk_typed.specs.Program.{Program}
use Rattle.zk_typed.specs.Programs.{Typed, typed_program}
use Rattle.zk_typed.specs.Resolving.{Scripts}
use Rattle.zk_check.specs.Checking.{IsAccepted}
use Rattle.zk_check.specs.Faults.{IsFirst, fault_of, head_of}

abbrev is_none : {A : Type 0} → Option A → Type 0
is_none None = Unit {0}
is_none (Some one) = ⊥

abbrev one_of : {A : Type 0} → A → Option A → A
one_of other None = other
one_of other (Some one) = one

pub none_broken : {A : Type 0} (rules : List A) → None ≡ head_of rules → rules ≡ []
none_broken [] e = refl
none_broken {A} (one ∷ others) e = absurd (subst (λ (found : Option A). is_none found) e tt)

told_first : (rule : Rule) (place : Place) (others : List Broken) → IsFirst (fault_of (record { rule = rule; place = place })) (record { rule = rule; place = place } ∷ others)
told_first rule.Unknown place others = refl
told_first rule.Twice place others = refl
told_first rule.WrongType place others = refl
told_first rule.Field place others = refl
told_first rule.Recursive place others = refl
told_first rule.NotConst place others = refl
told_first rule.FixedGlobal place others = refl
told_first rule.Arguments place others = refl
told_first rule.Return place others = refl
told_first rule.Break place others = refl
told_first rule.Attribute place others = refl
told_first rule.Format place others = refl

pub first_fault : (rules : List Broken) (one : Broken) → Some one ≡ head_of rules → IsFirst (fault_of one) rules
first_fault [] one e = absurd (subst (λ (found : Option Broken). is_none found) (sym e) tt)
first_fault (first ∷ others) one e =
    let same : one ≡ first = λ i. one_of one (e i) in
    subst (λ (told : Broken). IsFirst (fault_of told) (first ∷ others)) (sym same) (told_first first.rule first.place others)

-- what the scripts of files are accepted with is the program of the files
pub accepted_typed : (files : List File) (scripts : Scripts) (program : Program) → scripts ≡ scripts_of files → IsAccepted files scripts program → Typed files program
accepted_typed files scripts program e is =
    let here = subst (λ (declared : Scripts). IsAccepted files declared program) e is in
    record { right = here.right; whole = here.whole }

-- files that break no rule have their program, and no other one
pub has_program : (files : List File) → errors files ≡ [] → (program : Program) × Typed files program
has_program files right = (typed_program files, record { right = right; whole = refl })

pub same_program : (files : List File) (a b : Program) → Typed files a → Typed files b → a ≡ b
same_program files a b is too = is.whole ∙ sym too.whole
