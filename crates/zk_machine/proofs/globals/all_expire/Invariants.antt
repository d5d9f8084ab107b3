use Rattle.std.proofs.Common.{◌≡◌, ◌<◌, ℕ, true, Some, slice_get}
use Rattle.zk_machine.specs.Owners.{expires_in}
use Rattle.zk_machine.proofs.globals.all_expire.Given as goal

abbrev pub invariant-loop-place : goal.invariant-loop-place
invariant-loop-place l = (place global : ℕ) → place < l.place → slice_get l.globals place ≡ Some global → expires_in l.truths global ≡ true
