use Rattle.zk_typed.specs.Programs as spec
use Rattle.zk_typed.specs.View as view
use Rattle.zk_check_declarations.specs.Sources.{scripts_from}
use Rattle.zk_check.proofs.ProgramLaws.{one_record_more}
use Rattle.zk_check.proofs.program.records.all_records.Goals as goal

pub loop-number-preserved : goal.loop-number-preserved
loop-number-preserved c =
    one_record_more view.record_of (spec.record_of (scripts_from c.args.source.now)) c.loop-number.all.items c.push.new.self.items c.in_ok-record_of.field-0 c.loop-number.number
    c.in_ok-push.ensures.items c.loop-number.invariant c.in_ok-record_of.ensures
