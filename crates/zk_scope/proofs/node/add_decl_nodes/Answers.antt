use Rattle.std.proofs.Common.{◌≡◌, List, ◌++◌, Bor, flat_map, ap, ◌∙◌}
use Rattle.zk_tree.specs.declared.decl.Decl.{out-Decl}
use Rattle.zk_tree.specs.declared.types.Type.{«Type»}
use Rattle.zk_typed.specs.Names.{decl_types, node}
use Rattle.zk_typed.specs.Within.{within}
use Rattle.zk_scope.specs.Lent.{home_of, nodes_lent, types_lent}
use Rattle.zk_scope.proofs.StepLaws.{one_pass}
use Rattle.zk_scope.proofs.node.add_decl_nodes.Goals as goal

pub returns : goal.returns
returns c =
    let home = home_of c.args.one.home in
    let trees = decl_types (out-Decl c.args.one.decl.now) in
    let listed : types_lent c.deref.result.now ≡ trees =
    ap types_lent c.deref.ensures.value ∙ c.in_ok-add_decl_types.ensures ∙ ap (λ (x : List (Bor «Type»)). types_lent x ++ trees) c.new-types.ensures.items in
    let inside : types_lent c.deref-2.result.now ≡ flat_map within trees =
    ap types_lent c.deref-2.ensures.value ∙ c.in_ok-all_within.ensures ∙
    ap (λ (x : List (Bor «Type»)). types_lent x ++ flat_map within (types_lent c.deref.result.now)) c.new-found.ensures.items ∙ ap (flat_map within) listed in
    c.in_ok-add_nodes.ensures ∙ ap (λ x. nodes_lent c.args.nodes.now.items ++ x) (ap (flat_map (node home)) inside ∙ one_pass within (node home) trees)
