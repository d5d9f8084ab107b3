use Rattle.std.proofs.Common.{◌≡◌, map}
use Rattle.zk_typed.specs.Programs as spec
use Rattle.zk_typed.specs.View as view
use Rattle.zk_check_declarations.specs.Sources.{scripts_from}
use Rattle.zk_check.proofs.program.records.all_records.Given as goal

abbrev pub invariant-loop-number : goal.invariant-loop-number
invariant-loop-number l = map view.record_of l.all.items ≡ map (spec.record_of (scripts_from l.source)) (spec.numbers_from 0 l.number)
