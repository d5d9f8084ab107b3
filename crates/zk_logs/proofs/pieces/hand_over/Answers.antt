use Rattle.std.proofs.Common.{IfErr, sym, subst, ◌∙◌}
use Rattle.zk_base.specs.Shelf.{Puts, after_append}
use Rattle.zk_logs.specs.Logs.{file_name}
use Rattle.zk_logs.specs.Handed.{HandsPart}
use Rattle.zk_logs.proofs.OutsideLemmas.{appended_stopped}
use Rattle.zk_logs.proofs.pieces.hand_over.Goals as goal

pub returns-clause-stopped : goal.returns-clause-stopped
returns-clause-stopped g c =
    let old = g.S.Shelf.outside c.args.shelf.now in
    let new = g.S.Shelf.outside c.append.new.self in
    let name = file_name c.args.path.now in
    let puts : Puts (after_append old name) old c.args.bytes.now c.append.result new =
    subst (λ n. Puts (after_append old n) old c.args.bytes.now c.append.result new) (c.as_slice.ensures ∙ c.in_ok-name.ensures) c.append.ensures.leaves in
    subst (λ answer. IfErr answer (λ stop. HandsPart name c.args.bytes.now old stop new)) (sym c.written.ensures)
    (appended_stopped c.append.result name c.args.bytes.now old new puts)
