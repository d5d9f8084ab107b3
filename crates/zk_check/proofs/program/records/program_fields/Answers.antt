use Rattle.std.proofs.Common.{arith}
use Rattle.zk_scope.specs.Fields.{field_of}
use Rattle.zk_typed.specs.Programs as spec
use Rattle.zk_typed.specs.View as view
use Rattle.zk_check.proofs.PushLaws.{pushed_lent}
use Rattle.zk_check.proofs.program.records.program_fields.Goals as goal

pub loop-field-preserved : goal.loop-field-preserved
loop-field-preserved c scripts =
    pushed_lent view.field_of (spec.field_of scripts) field_of c.args.fields.now c.loop-field.field-index c.field-item.result c.loop-field.all.items c.push.new.self.items c.in_ok-program_field.field-0
    c.in_ok-push.ensures.items (omega arith) c.field-item.is (c.loop-field.invariant scripts) (c.in_ok-program_field.ensures scripts)
