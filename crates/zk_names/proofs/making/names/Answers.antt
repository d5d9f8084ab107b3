use Rattle.std.proofs.Common.{◌++◌, flat_map, ap, ◌∙◌}
use Rattle.zk_typed.specs.Declaring.{predefined_names, with_words}
use Rattle.zk_typed.specs.LoadOrder.{load_order}
use Rattle.zk_typed.specs.Resolving.{Scripts}
use Rattle.zk_scope.specs.Lent.{files_of}
use Rattle.zk_scope.specs.Scripted.{scripts_in}
use Rattle.zk_names.specs.Words.{with_bodies}
use Rattle.zk_names.proofs.ScriptLaws.{all_known, same_scripts}
use Rattle.zk_names.proofs.making.names.Goals as goal

pub returns-in_ok-names-in-Ok : goal.returns-in_ok-names-in-Ok
unfolding scripts_in
returns-in_ok-names-in-Ok c =
    same_scripts _ _ _ _ _ _ (c.in_ok-names-in-Ok.ensures.stated ∙ c.texts_of-stated.ensures.stated ∙ ap (λ (x : Scripts). x.stated) c.in_ok-known.ensures)
    (c.in_ok-names-in-Ok.ensures.nodes ∙ c.texts_of-stated.ensures.nodes ∙ ap (λ (x : Scripts). x.nodes) c.in_ok-known.ensures)
    (c.in_ok-names-in-Ok.ensures.names ∙ c.in-Ok.ensures ∙
    ap (λ (x : Scripts). with_bodies x.stated (predefined_names ++ flat_map (with_words x) x.stated)) c.in_ok-known.ensures ∙
    all_known (load_order (files_of c.args.files.now)))
