use Rattle.std.proofs.Common.{◌≡◌, false, [], refl, sym, subst, ◌∙◌}
use Rattle.zk_typed.specs.Errors.{errors_from}
use Rattle.zk_scope.specs.Scripted.{scripts_in}
use Rattle.zk_check.specs.declared.fault.CheckFault.{CheckFault}
use Rattle.zk_check.specs.Faults.{IsFirst}
use Rattle.zk_check.proofs.CheckLaws.{first_fault}
use Rattle.zk_check.proofs.scripts.check_typed.Goals as goal

pub first_rule-requires-clause-source : goal.first_rule-requires-clause-source
first_rule-requires-clause-source c = record { known = c.requires.known.are (record { types = c.args.known; circular = false }) refl refl }

pub first_rule-requires-clause-told : goal.first_rule-requires-clause-told
first_rule-requires-clause-told c = c.requires.told.are (record { types = c.args.told; circular = false }) refl refl

pub returns-in-Some-clause-refused : goal.returns-in-Some-clause-refused
returns-in-Some-clause-refused c =
    let scripts = scripts_in c.args.scripts.now.names in
    subst (λ (fault : CheckFault). IsFirst fault (errors_from scripts [] scripts.stated)) (sym c.fault_of.ensures)
    (first_fault (errors_from scripts [] scripts.stated) c.in-Some.first (sym c.in-Some.is ∙ c.in_ok-first.ensures))

pub typed_program-requires-clause-known : goal.typed_program-requires-clause-known
typed_program-requires-clause-known c = record { known = c.requires.known.are (record { types = c.args.known; circular = false }) refl refl }
