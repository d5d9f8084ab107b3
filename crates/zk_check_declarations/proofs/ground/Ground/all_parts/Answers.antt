use Rattle.std.proofs.Common.{List, Bor}
use Rattle.zk_tree.specs.declared.types.Type.{«Type»}
use Rattle.zk_typed.specs.Declarations.{is_too_deep, parts_rules}
use Rattle.zk_scope.specs.Lent.{home_of, types_lent}
use Rattle.zk_scope.specs.Scripted.{scripts_in}
use Rattle.zk_check_declarations.specs.Nesting.{all_parts}
use Rattle.zk_check_declarations.proofs.NestLaws.{each_more}
use Rattle.zk_check_declarations.proofs.RuleLaws.{each_turn}
use Rattle.zk_check_declarations.proofs.ground.Ground.all_parts.Goals as goal

pub loop-tree-preserved : goal.loop-tree-preserved
loop-tree-preserved c =
    let scripts = scripts_in c.args.self.now.names.now in
    let home = home_of c.args.home in
    let one = parts_rules (is_too_deep scripts) scripts home in
    each_turn (λ (trees : List (Bor «Type»)). all_parts scripts home (types_lent trees)) (λ (tree : Bor «Type»). one tree.now)
    c.loop-tree.rules c.parts_rules-one.result c.also-rules.result c.args.trees.now c.loop-tree.tree-index c.tree-item.result (all_parts scripts home (types_lent c.args.trees.now))
    (λ x xs. each_more one x.now (types_lent xs)) c.loop-tree-test.true c.tree-item.is c.loop-tree.invariant c.parts_rules-one.ensures c.also-rules.ensures
