use Rattle.std.proofs.Common.{[], ◌∷◌, ◌++◌, Some, ap, ◌∙◌}
use Rattle.zk_base.specs.Files.{files_of}
use Rattle.zk_base.specs.Shelf.{Outside}
use Rattle.zk_top.specs.Outcome.{generated_name}
use Rattle.zk_top.proofs.generated.run_over.Goals as goal

pub returns-in-Ok : goal.returns-in-Ok
returns-in-Ok c program runs =
    let inputs = (c.in_ok-name.name, c.args.capture) ∷ [] in
    c.in-Ok.ensures program (files_of inputs) c.args.capture runs
    (ap (λ (o : Outside). o.inputs) c.in_ok-shelf.ensures.outside
    ∙ ap (λ items. Some (files_of items)) (c.in_ok-push.ensures.items ∙ ap (λ items. items ++ inputs) c.in_ok-inputs.ensures.items)) (ap (λ name. files_of ((name, c.args.capture) ∷ []) generated_name) c.in_ok-name.ensures) c.len-bytes.ensures
