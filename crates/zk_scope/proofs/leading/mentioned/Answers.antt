use Rattle.std.proofs.Common.{ℕ, List, ◌++◌, Bor, flat_map, ap, ◌∙◌}
use Rattle.zk_tree.specs.declared.types.Type.{«Type»}
use Rattle.zk_typed.specs.Within.{within}
use Rattle.zk_scope.specs.Leading.{mention_places}
use Rattle.zk_scope.specs.Lent.{declared_lent, types_lent}
use Rattle.zk_scope.proofs.LeadLaws.{all_mentions}
use Rattle.zk_scope.proofs.leading.mentioned.Goals as goal

pub returns : goal.returns
returns c =
    let names = declared_lent c.args.table.now.names.items in
    let here = mention_places names c.args.from_module.now in
    c.in_ok-add_mentions.ensures ∙ ap (λ (x : List ℕ). x ++ flat_map here (types_lent c.deref.result.now)) c.new-found.ensures.items ∙
    ap (flat_map here) (ap types_lent c.deref.ensures.value ∙ c.in_ok-within.ensures ∙ ap (λ (x : List (Bor «Type»)). types_lent x ++ within c.args.tree.now) c.new-types.ensures.items) ∙
    all_mentions names c.args.from_module.now (within c.args.tree.now)
