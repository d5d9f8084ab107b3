use Rattle.std.proofs.Common.{◌≡◌, [], List, ap, sym, subst, ◌∙◌}
use Rattle.zk_typed.specs.declared.refusal.Broken.{Broken}
use Rattle.zk_typed.specs.declared.script.program.Program.{Program}
use Rattle.zk_typed.specs.Errors.{errors_from}
use Rattle.zk_typed.specs.Resolving.{Scripts}
use Rattle.zk_typed.specs.Programs.{Typed}
use Rattle.zk_typed.specs.View.{program_of}
use Rattle.zk_scope.specs.Lent.{files_of}
use Rattle.zk_scope.specs.Scripted.{scripts_in}
use Rattle.zk_check.specs.declared.fault.CheckFault.{CheckFault}
use Rattle.zk_check.specs.Checking.{IsAccepted}
use Rattle.zk_check.specs.Faults.{IsFirst}
use Rattle.std.specs.Prelude.{IfErr}
use Rattle.zk_check.proofs.CheckLaws.{accepted_typed}
use Rattle.zk_check_declarations.proofs.RoundLaws.{ok_map}
use Rattle.zk_check.proofs.scripts.check.Goals as goal

pub returns-clause-accepted : goal.returns-clause-accepted
returns-clause-accepted c =
    let files = files_of c.args.files.now in
    let scripts = scripts_in c.in_ok-scripts.scripts.names in
    ok_map
    (λ (program : Program). IsAccepted files scripts (program_of program))
    (λ (program : Program). Typed files (program_of program))
    c.check_scripts.result
    (λ program is. accepted_typed files scripts (program_of program) (c.in_ok-scripts.ensures ∙ c.requires) is)
    c.check_scripts.ensures.accepted

pub returns-clause-refused : goal.returns-clause-refused
returns-clause-refused c =
    subst (λ (declared : Scripts). IfErr c.check_scripts.result (λ fault. IsFirst fault (errors_from declared [] declared.stated))) (c.in_ok-scripts.ensures ∙ c.requires) c.check_scripts.ensures.refused
