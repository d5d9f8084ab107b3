-- From broken rules to refusals, and from typed programs to their code.
use Rattle.std.proofs.Common.{◌≡◌, ◌⊎◌, inl, inr, ℕ, ◌==◌, ◌||◌, map, List, [], ◌∷◌, Some, None, refl, sym, ap, subst, ◌∙◌}
use Rattle.zk_tree.specs.declared.place.Place.{Place}
use Rattle.zk_typed.specs.declared.refusal.Broken.{Broken}
use Rattle.zk_typed.specs.declared.rule.Rule.{Rule}
use Rattle.zk_typed.specs.declared.rule.Rule.TheVariants as rule
use Rattle.zk_typed.specs.Errors.{errors}
use Rattle.std.specs.List.{list_any}
use Rattle.zk_typed.specs.declared.script.program.Handler.{Handler as RustHandler}
use Rattle.zk_typed.specs.Program.{Program}
use Rattle.zk_typed.specs.View.{handler_of}
use Rattle.zk_typed.specs.Programs.{Typed}
use Rattle.zk_scope.specs.Lent.{files_of}
use Rattle.zk_check.specs.declared.fault.CheckFault.{CheckFault}
use Rattle.zk_check.specs.declared.fault.CheckFault.TheVariants as fault
use Rattle.zk_check.specs.Faults.{IsFirst, fault_of}
use Rattle.zk_outcome.specs.declared.found.Found.{Found}
use Rattle.zk_outcome.specs.declared.found.Found.TheVariants.{Accepted, Refused}
use Rattle.zk_outcome.specs.declared.stop.Stop.TheVariants.{NoMemory}
use Rattle.zk_load.specs.Loading.{Loading, Scripts}
use Rattle.zk_load.specs.Loads.{LoadsAll, LoadsPart}
use Rattle.zk_outcome.specs.Prefix.{IsPrefix}
use Rattle.zk_outcome.proofs.Doing.{prefix_all}
use Rattle.zk_top.specs.declared.runnable.Refusal.{Refusal}
use Rattle.zk_top.specs.declared.runnable.Runnable.{Runnable}
use Rattle.zk_top.specs.Compiling.{IsCodeOf, Runs, refusal_in}
use Rattle.zk_top.specs.Script.{judged, kind_of, program_of, refused_at}
use Rattle.zk_base.specs.Shelf.{Outside}

-- a fault that is the first of broken rules is that of one
first_of : (told : CheckFault) (rules : List Broken) → IsFirst told rules → (told ≡ fault.NoMemory) ⊎ ((one : Broken) × (others : List Broken) × (rules ≡ one ∷ others) × (told ≡ fault_of one))
first_of fault.NoMemory rules is = inl refl
first_of (fault.Unknown file place) [] is = absurd is
first_of (fault.Unknown file place) (one ∷ others) is = inr (one, others, refl, is)
first_of (fault.Twice file place) [] is = absurd is
first_of (fault.Twice file place) (one ∷ others) is = inr (one, others, refl, is)
first_of (fault.WrongType file place) [] is = absurd is
first_of (fault.WrongType file place) (one ∷ others) is = inr (one, others, refl, is)
first_of (fault.Field file place) [] is = absurd is
first_of (fault.Field file place) (one ∷ others) is = inr (one, others, refl, is)
first_of (fault.Recursive file place) [] is = absurd is
first_of (fault.Recursive file place) (one ∷ others) is = inr (one, others, refl, is)
first_of (fault.NotConst file place) [] is = absurd is
first_of (fault.NotConst file place) (one ∷ others) is = inr (one, others, refl, is)
first_of (fault.FixedGlobal file place) [] is = absurd is
first_of (fault.FixedGlobal file place) (one ∷ others) is = inr (one, others, refl, is)
first_of (fault.Arguments file place) [] is = absurd is
first_of (fault.Arguments file place) (one ∷ others) is = inr (one, others, refl, is)
first_of (fault.Return file place) [] is = absurd is
first_of (fault.Return file place) (one ∷ others) is = inr (one, others, refl, is)
first_of (fault.Break file place) [] is = absurd is
first_of (fault.Break file place) (one ∷ others) is = inr (one, others, refl, is)
first_of (fault.Attribute file place) [] is = absurd is
first_of (fault.Attribute file place) (one ∷ others) is = inr (one, others, refl, is)
first_of (fault.Format file place) [] is = absurd is
first_of (fault.Format file place) (one ∷ others) is = inr (one, others, refl, is)

refusal_of_rule : (broken : Rule) (place : Place) → refusal_in (fault_of (record { rule = broken; place = place })) ≡ Some (record { file = place.file; place = place.byte; kind = kind_of broken })
refusal_of_rule rule.Unknown place = refl
refusal_of_rule rule.Twice place = refl
refusal_of_rule rule.WrongType place = refl
refusal_of_rule rule.Field place = refl
refusal_of_rule rule.Recursive place = refl
refusal_of_rule rule.NotConst place = refl
refusal_of_rule rule.FixedGlobal place = refl
refusal_of_rule rule.Arguments place = refl
refusal_of_rule rule.Return place = refl
refusal_of_rule rule.Break place = refl
refusal_of_rule rule.Attribute place = refl
refusal_of_rule rule.Format place = refl

refusal_by : (told : CheckFault) (refusal : Refusal) (one : Broken) → refusal_in told ≡ Some refusal → told ≡ fault_of one
    → refusal ≡ record { file = one.place.file; place = one.place.byte; kind = kind_of one.rule }
refusal_by told refusal one is same =
    let both : Some refusal ≡ Some (record { file = one.place.file; place = one.place.byte; kind = kind_of one.rule }) =
    sym is ∙ ap refusal_in same ∙ refusal_of_rule one.rule one.place in
    cc

-- a run is refused for the rule that is told
pub refused_as : (scripts : Scripts) (told : CheckFault) (refusal : Refusal) (rules : List Broken) → refusal_in told ≡ Some refusal → IsFirst told rules
    → IsCodeOf (Refused (refused_at scripts refusal)) (judged scripts rules)
refused_as scripts told refusal rules is first = elim (first_of told rules first) [
  | inl none ↦ absurd (let clash : None ≡ Some refusal = sym (ap refusal_in none) ∙ is in let never : ⊥ = cc in never)
  | inr found ↦ of_one found.0 found.1 found.2 found.3
]
  where
    of_one : (one : Broken) (others : List Broken) → rules ≡ one ∷ others → told ≡ fault_of one
        → IsCodeOf (Refused (refused_at scripts refusal)) (judged scripts rules)
    of_one one others are same =
        subst (λ rs. IsCodeOf (Refused (refused_at scripts refusal)) (judged scripts rs)) (sym are)
        (ap (refused_at scripts) (refusal_by told refusal one is same))

-- the code of scripts that break no rule
pub code_accepted : (scripts : Scripts) (runnable : Runnable) (program : Program) → Typed (files_of scripts) program → Runs runnable program → IsCodeOf (Accepted runnable) (judged scripts (errors (files_of scripts)))
code_accepted scripts runnable program typed runs =
    subst (λ rules. IsCodeOf (Accepted runnable) (judged scripts rules)) (sym typed.right) (subst (Runs runnable) typed.whole runs)

-- the code of the program
pub code_of_judged : (scripts : Scripts) (found : Found Runnable) → IsCodeOf found (judged scripts (errors (files_of scripts))) → IsCodeOf found (program_of scripts)
unfolding program_of
code_of_judged scripts found is = is

-- handlers of an event, as the code and as the definition have them
pub handled : (number : ℕ) (handlers : List RustHandler)
    → list_any (λ handler. handler.event.0 == number) handlers ≡ list_any (λ handler. handler.event.0 == number) (map handler_of handlers)
handled number [] = refl
handled number (one ∷ others) = ap (λ other. (one.event.0 == number) || other) (handled number others)

-- memory ran out behind the scripts
pub stopped_behind_scripts : (before : Scripts) (names : List (List ℕ)) (old : Outside) (found : Found Scripts) (new : Outside) → LoadsAll before names old found new → LoadsPart before names old NoMemory new
stopped_behind_scripts before names old found new loads = record {
  asked = loads.asked;
  does = loads.does.does;
  cause = loads.does.faults;
  told = λ inputs t. subst (λ (l : Loading). IsPrefix loads.asked l.asked) (sym (loads.told inputs t)) (prefix_all loads.asked);
}
