use Rattle.std.proofs.Common.{List, Bor, flat_map}
use Rattle.zk_tree.specs.declared.types.Type.{«Type»}
use Rattle.zk_typed.specs.Declarations.{recursive_rules}
use Rattle.zk_typed.specs.Within.{mention}
use Rattle.zk_scope.specs.Lent.{home_of, types_lent}
use Rattle.zk_scope.specs.Scripted.{scripts_in}
use Rattle.zk_check_declarations.proofs.NestLaws.{recursive-append}
use Rattle.zk_check_declarations.proofs.RuleLaws.{each_turn}
use Rattle.zk_check_declarations.proofs.ground.Ground.all_mentions.Goals as goal

pub loop-tree-preserved : goal.loop-tree-preserved
loop-tree-preserved c =
    let scripts = scripts_in c.args.self.now.names.now in
    let home = home_of c.args.home in
    let whole = c.args.whole.now in
    each_turn (λ (trees : List (Bor «Type»)). recursive_rules scripts home whole (flat_map mention (types_lent trees))) (λ (tree : Bor «Type»). recursive_rules scripts home whole (mention tree.now))
    c.loop-tree.rules c.mention_rules-one.result c.also-rules.result c.args.trees.now c.loop-tree.tree-index c.tree-item.result (recursive_rules scripts home whole (flat_map mention (types_lent c.args.trees.now)))
    (λ x xs. recursive-append scripts home whole (mention x.now) (flat_map mention (types_lent xs))) c.loop-tree-test.true c.tree-item.is c.loop-tree.invariant c.mention_rules-one.ensures c.also-rules.ensures
