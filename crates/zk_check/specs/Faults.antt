-- The rule that is told of those that scripts break.
use Rattle.std.specs.Prelude.{◌≡◌, List, [], ◌∷◌, Option, Some, None}
use Rattle.zk_typed.specs.declared.refusal.Broken.{Broken}
use Rattle.zk_typed.specs.declared.rule.Rule.{Rule}
use Rattle.zk_typed.specs.declared.rule.Rule.TheVariants as rule
use Rattle.zk_check.specs.declared.fault.CheckFault.{CheckFault}
use Rattle.zk_check.specs.declared.fault.CheckFault.TheVariants as fault

abbrev pub fault_of : Broken → CheckFault
fault_of one = of_rule one.rule
  where
    of_rule : Rule → CheckFault
    of_rule rule.Unknown = fault.Unknown one.place.file one.place.byte
    of_rule rule.Twice = fault.Twice one.place.file one.place.byte
    of_rule rule.WrongType = fault.WrongType one.place.file one.place.byte
    of_rule rule.Field = fault.Field one.place.file one.place.byte
    of_rule rule.Recursive = fault.Recursive one.place.file one.place.byte
    of_rule rule.NotConst = fault.NotConst one.place.file one.place.byte
    of_rule rule.FixedGlobal = fault.FixedGlobal one.place.file one.place.byte
    of_rule rule.Arguments = fault.Arguments one.place.file one.place.byte
    of_rule rule.Return = fault.Return one.place.file one.place.byte
    of_rule rule.Break = fault.Break one.place.file one.place.byte
    of_rule rule.Attribute = fault.Attribute one.place.file one.place.byte
    of_rule rule.Format = fault.Format one.place.file one.place.byte

abbrev pub head_of : {A : Type 0} → List A → Option A
head_of [] = None
head_of (one ∷ others) = Some one

-- the first of several broken rules, unless memory ran out
abbrev pub IsFirst : CheckFault → List Broken → Type 0
IsFirst fault.NoMemory rules = Unit {0}
IsFirst told [] = ⊥
IsFirst told (one ∷ others) = told ≡ fault_of one
