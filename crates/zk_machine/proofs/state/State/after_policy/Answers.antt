use Rattle.std.proofs.Common.{◌≡◌, ◌<◌, length, Some, ap, ◌∙◌, arith}
use Rattle.zk_lower.specs.Steps as steps
use Rattle.zk_lower.specs.View.{code_of}
use Rattle.zk_typed.specs.Does.{and_then}
use Rattle.zk_machine.specs.Onwards.{onward_of, waiting_for}
use Rattle.zk_machine.specs.Running.{pending_of, pending_with}
use Rattle.zk_machine.specs.State.{state_of}
use Rattle.zk_machine.proofs.FilterLemmas.{rest}
use Rattle.zk_machine.proofs.ListLemmas.{drop-item}
use Rattle.zk_machine.proofs.ThenLemmas.{stops, comes_as}
use Rattle.zk_machine.proofs.state.State.after_policy.Goals as goal

pub returns-then-not-ran : goal.returns-then-not-ran
returns-then-not-ran c = λ place.
    let code = code_of c.args.code.now in
    let write = c.args.write in
    let one = c.index-filter.result.now in
    let state = state_of c.args.self.now in
    let within : write.at < length write.filters.items = omega (arith, c.if-write-len.false) in
    let next : pending_of write ≡ Some (waiting_for write one) = ap (pending_with write) (drop-item write.filters.items write.at one within c.index-filter.ensures) in
    comes_as onward_of place c.filters.result _ _ _
    (ap (λ p. steps.after_hook code c.args.left place c.args.ran p state) next ∙ ap (λ r. steps.after_hook code c.args.left place r (Some (waiting_for write one)) state) c.if-not-ran.true)
    (c.filters.ensures place)

pub returns-in-Ok : goal.returns-in-Ok
returns-in-Ok c = λ place.
    let code = code_of c.args.code.now in
    let write = c.args.write in
    let one = c.index-filter.result.now in
    let state = state_of c.args.self.now in
    let within : write.at < length write.filters.items = omega (arith, c.if-write-len.false) in
    let next : pending_of write ≡ Some (waiting_for write one) = ap (pending_with write) (drop-item write.filters.items write.at one within c.index-filter.ensures) in
    comes_as onward_of place c.filters-in-Ok.result _ _ _
    (ap (λ p. steps.after_hook code c.args.left place c.args.ran p state) next ∙ (ap (λ r. steps.after_hook code c.args.left place r (Some (waiting_for write one)) state) c.if-not-ran.false
    ∙ ap (λ ran. and_then ran (λ u now. rest code c.args.left place write one now)) (c.in-Ok.ensures place)))
    (c.filters-in-Ok.ensures place)

pub returns-in-Err : goal.returns-in-Err
returns-in-Err c = λ place.
    let code = code_of c.args.code.now in
    let write = c.args.write in
    let one = c.index-filter.result.now in
    let state = state_of c.args.self.now in
    let within : write.at < length write.filters.items = omega (arith, c.if-write-len.false) in
    let next : pending_of write ≡ Some (waiting_for write one) = ap (pending_with write) (drop-item write.filters.items write.at one within c.index-filter.ensures) in
    comes_as onward_of place (Rattle.std.proofs.Common.Err c.in-Err.halt) _ _ _
    (ap (λ p. steps.after_hook code c.args.left place c.args.ran p state) next ∙ ap (λ r. steps.after_hook code c.args.left place r (Some (waiting_for write one)) state) c.if-not-ran.false)
    (stops (λ (u : Unit {0}). tt {0}) onward_of place c.in-Err.halt _ (λ u now. rest code c.args.left place write one now) _ (c.in-Err.ensures place))
