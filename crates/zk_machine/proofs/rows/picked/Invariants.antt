use Rattle.std.proofs.Common.{◌≡◌, take}
use Rattle.zk_typed.specs.Logs.{picked}
use Rattle.zk_machine.proofs.rows.picked.Given as goal

abbrev pub invariant-loop-place : goal.invariant-loop-place
invariant-loop-place g l = l.picked.items ≡ picked l.all (take l.place-index l.places)
