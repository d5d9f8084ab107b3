use Rattle.std.proofs.Common.{sym, ap, ◌∙◌, ◌++◌, ◌∷◌, []}
use Rattle.std.specs.Prelude.{filter_map}
use Rattle.zk_typed.specs.Does.{Gives}
use Rattle.zk_machine.specs.State.{state_of, line_in, row_in}
use Rattle.zk_machine.proofs.OutLemmas.{telling, line-told}
use Rattle.zk_machine.proofs.state.State.print.Goals as goal

pub returns : goal.returns
returns c = λ place.
    let state = state_of c.args.self.now in
    let before = c.args.self.now.world.out.items in
    ap (λ line. Gives tt (record state { world = telling (filter_map row_in before) (filter_map line_in before ++ line ∷ []) state.world })) (sym c.in_ok-line.ensures)
    ∙ ap (λ world. Gives tt (record state { world = world })) (sym (line-told state.world before _ c.in_ok-line.line c.in_ok-push_back.ensures.items))
