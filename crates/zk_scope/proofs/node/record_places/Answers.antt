use Rattle.std.proofs.Common.{ℕ, List, [], ◌∷◌, ◌++◌, ap, ◌∙◌, if◌then◌else◌}
use Rattle.zk_typed.specs.Names.{is_record}
use Rattle.zk_scope.specs.Lent.{node_of}
use Rattle.zk_scope.proofs.PassingLaws.{one_more_passing}
use Rattle.zk_scope.proofs.node.record_places.Goals as goal

pub loop-place-preserved : goal.loop-place-preserved
loop-place-preserved c =
    c.in_ok-add_record.ensures ∙ ap (λ (x : List ℕ). x ++ (if is_record (node_of c.index-nodes-place.result) then c.loop-place.place ∷ [] else [])) c.loop-place.invariant ∙
    one_more_passing node_of is_record c.args.nodes.now c.loop-place.place c.index-nodes-place.result c.loop-place-test.true c.index-nodes-place.is
