use Rattle.zk_scope.specs.Fields.{field_of}
use Rattle.zk_check_declarations.specs.Edges.{edges_at}
use Rattle.zk_check_declarations.proofs.EdgeLaws.{kinds_turn}
use Rattle.zk_check_declarations.proofs.edges.add_all_known.Goals as goal

pub loop-field-preserved : goal.loop-field-preserved
loop-field-preserved c = λ number.
    kinds_turn field_of c.args.fields.now c.loop-field.field-index c.field-item.result c.args.owner number (edges_at number c.args.edges.now.items) (edges_at number c.loop-field.edges.items) (edges_at number c.add_known.new.edges.items)
    c.loop-field-test.true c.field-item.is (c.loop-field.invariant number) (c.in_ok-add_known.ensures number)
