use Rattle.std.proofs.Common.{◌≡◌, drop}
use Rattle.zk_typed.specs.LogCalls.{among}
use Rattle.zk_check_expressions.specs.LogSettings.{texts_lent}
use Rattle.zk_check_expressions.proofs.log_columns.is_among.Given as goal

abbrev pub invariant-loop-other : goal.invariant-loop-other
invariant-loop-other l = among l.name (texts_lent (drop l.other-index l.names)) ≡ among l.name (texts_lent l.names)
