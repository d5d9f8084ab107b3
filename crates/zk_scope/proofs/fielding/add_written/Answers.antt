use Rattle.zk_typed.specs.Resolving.{written_field}
use Rattle.zk_scope.specs.Fields.{field_of}
use Rattle.zk_scope.specs.Lent.{home_of}
use Rattle.zk_scope.specs.Scripted.{scripts_in}
use Rattle.zk_scope.proofs.FieldLaws.{added_on}
use Rattle.zk_scope.proofs.fielding.add_written.Goals as goal

pub loop-field-preserved : goal.loop-field-preserved
loop-field-preserved c =
    added_on field_of (written_field (scripts_in c.args.names.now) (home_of c.args.home)) c.args.fields.now c.loop-field.field-index c.field-item.result c.in_ok-one.one c.args.all.now.items c.loop-field.all.items c.push.new.self.items
    c.loop-field-test.true c.field-item.is c.loop-field.invariant c.in_ok-one.ensures c.in_ok-push.ensures.items
