use Rattle.std.proofs.Common.{◌≡◌, List, ◌++◌, flat_map, ap, ◌∙◌}
use Rattle.zk_typed.specs.Declaring.{outright_of, predefined_names}
use Rattle.zk_typed.specs.LoadOrder.{Stated, load_order}
use Rattle.zk_typed.specs.Names.{all_nodes}
use Rattle.zk_scope.specs.declared.home.Stated.{Stated as LentStated}
use Rattle.zk_scope.specs.Lent.{files_of, stated_lent}
use Rattle.zk_scope.specs.Scripted.{scripts_in}
use Rattle.zk_names.proofs.ScriptLaws.{same_scripts}
use Rattle.zk_names.proofs.making.known_names.Goals as goal

pub returns : goal.returns
unfolding scripts_in
returns c =
    let order : stated_lent c.in_ok-stated.stated.items ≡ load_order (files_of c.args.files.now) = c.in_ok-stated.ensures in
    same_scripts _ _ _ _ _ _ (c.in_ok-known.ensures.stated ∙ order)
    (c.in_ok-known.ensures.nodes ∙ c.in_ok-nodes.ensures ∙ ap (λ (x : List LentStated). all_nodes (stated_lent x)) c.deref.ensures.value ∙ ap all_nodes order)
    (c.in_ok-known.ensures.names ∙ c.in_ok-table.ensures ∙
    ap (λ (x : List LentStated). predefined_names ++ flat_map outright_of (stated_lent x)) c.deref-2.ensures.value ∙ ap (λ (x : List Stated). predefined_names ++ flat_map outright_of x) order)
