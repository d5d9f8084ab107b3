use Rattle.zk_typed.specs.Resolving.{written_field}
use Rattle.zk_scope.specs.Lent.{home_of}
use Rattle.zk_scope.specs.Scripted.{scripts_in}
use Rattle.zk_check_declarations.specs.Edges.{edges_at}
use Rattle.zk_check_declarations.proofs.EdgeLaws.{kinds_turn}
use Rattle.zk_check_declarations.proofs.edges.add_fields.Goals as goal

pub loop-field-preserved : goal.loop-field-preserved
loop-field-preserved c = λ number.
    kinds_turn (written_field (scripts_in c.args.names.now) (home_of c.args.home)) c.args.fields.now c.loop-field.field-index c.field-item.result c.args.owner number
    (edges_at number c.args.edges.now.items) (edges_at number c.loop-field.edges.items) (edges_at number c.add_field.new.edges.items)
    c.loop-field-test.true c.field-item.is (c.loop-field.invariant number) (c.in_ok-add_field.ensures number)
