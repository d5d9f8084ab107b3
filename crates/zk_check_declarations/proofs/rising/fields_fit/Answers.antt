use Rattle.zk_scope.specs.Lent.{home_of}
use Rattle.zk_scope.specs.Scripted.{scripts_in}
use Rattle.zk_check_declarations.specs.Heights.{field_fits}
use Rattle.zk_check_declarations.proofs.ListLaws.{all_fails, all_turn}
use Rattle.zk_check_declarations.proofs.rising.fields_fit.Goals as goal

pub returns-then-not-branch : goal.returns-then-not-branch
returns-then-not-branch c = λ measures.
    all_fails (field_fits (scripts_in c.args.names.now) (home_of c.args.home)) c.args.fields.now c.loop-field.field-index c.field-item.result c.in_ok-field_fits.field-0 _
    c.loop-field-test.true c.field-item.is (c.in_ok-field_fits.ensures measures) c.if-not-branch.true (c.loop-field.invariant measures)

pub loop-field-preserved : goal.loop-field-preserved
loop-field-preserved c = λ measures.
    all_turn (field_fits (scripts_in c.args.names.now) (home_of c.args.home)) c.args.fields.now c.loop-field.field-index c.field-item.result c.in_ok-field_fits.field-0 _
    c.loop-field-test.true c.field-item.is (c.in_ok-field_fits.ensures measures) c.if-not-branch.false (c.loop-field.invariant measures)
