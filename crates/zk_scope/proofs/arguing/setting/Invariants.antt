use Rattle.std.proofs.Common.{◌≡◌, drop}
use Rattle.zk_typed.specs.LogCalls.{setting}
use Rattle.zk_scope.proofs.arguing.setting.Given as goal

abbrev pub invariant-loop-item : goal.invariant-loop-item
invariant-loop-item l = setting l.name (drop l.item-index l.items) ≡ setting l.name l.items
