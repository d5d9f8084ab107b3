-- The broken rule that is told first.
use Rattle.std.specs.Prelude.{Option, Some, None, if◌then◌else◌}
use Rattle.zk_typed.specs.declared.refusal.Broken.{Broken}
use Rattle.zk_typed.specs.Errors.{is_told_before}

abbrev pub sooner : Option Broken → Broken → Broken
sooner None one = one
sooner (Some other) one = if is_told_before other one then other else one
