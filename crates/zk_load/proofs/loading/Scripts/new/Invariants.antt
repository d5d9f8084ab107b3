use Rattle.std.proofs.Common.{◌≡◌, take}
use Rattle.zk_load.proofs.loading.Scripts.new.Given as goal

abbrev pub invariant-loop-name : goal.invariant-loop-name
invariant-loop-name l = l.pending.items ≡ take l.name-index l.names
