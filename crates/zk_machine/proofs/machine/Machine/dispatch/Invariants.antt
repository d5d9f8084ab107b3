use Rattle.std.proofs.Common.{◌≡◌, fold, take}
use Rattle.zk_lower.specs.Told.{Told}
use Rattle.zk_typed.specs.Dispatch.{handlers_of}
use Rattle.zk_typed.specs.Program.{Program}
use Rattle.zk_typed.specs.State.{World}
use Rattle.zk_value.specs.Plain.{key_of}
use Rattle.zk_machine.specs.Standing.{StandsFor, code_of}
use Rattle.zk_machine.proofs.DispatchLemmas.{runs}
use Rattle.zk_machine.proofs.machine.Machine.dispatch.Given as goal

abbrev pub invariant-loop-place : goal.invariant-loop-place
invariant-loop-place l =
    (code_of l.self ≡ code_of l.fn.self)
    × ((program : Program) (given : Told) (world : World) → StandsFor l.fn.self program given world
    → StandsFor l.self program given (fold (runs program (key_of l.args) l.budget) world (take l.place (handlers_of program l.event))))
