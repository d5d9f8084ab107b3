use Rattle.std.proofs.Common.{◌<◌, List, length, sym, ap, ◌∙◌, arith}
use Rattle.zk_lower.specs.Steps as steps
use Rattle.zk_lower.specs.View.{code_of}
use Rattle.zk_typed.specs.Does.{Gives, and_then}
use Rattle.zk_typed.specs.Log.{Filter}
use Rattle.zk_value.specs.Plain.{value_of}
use Rattle.zk_machine.specs.Onwards.{begins_of, begun_of, onward_of}
use Rattle.zk_machine.specs.Running.{pending_with, stream_in}
use Rattle.zk_machine.specs.State.{state_of}
use Rattle.zk_machine.proofs.FilterLemmas.{filter_step, onward}
use Rattle.zk_machine.proofs.ListLemmas.{drop-item}
use Rattle.zk_machine.proofs.ThenLemmas.{stops, comes_as}
use Rattle.zk_machine.proofs.state.State.filters.Goals as goal

pub walk-preserved : goal.walk-preserved
walk-preserved c = λ place.
    let code = code_of c.args.code.now in
    let left = c.args.left in
    let write = c.walk.write in
    let one = c.index.result.now in
    let state = state_of c.walk.self in
    let within : write.at < length write.filters.items = omega (arith, c.walk-test.true) in
    sym (ap (λ (fs : List Filter). steps.by_filters code left place (stream_in write) (value_of write.row) fs state) (drop-item write.filters.items write.at one within c.index.ensures)
    ∙ (filter_step code left place write one state
    ∙ ap (λ ran. and_then ran (onward code left place write one)) (c.in-Ok-None.ensures place ∙ ap (λ o. Gives (begins_of write one o) (state_of c.filter.new.self)) c.in-Ok-None.field-0-is)))
    ∙ c.walk.invariant place

pub returns-in-Ok-Some : goal.returns-in-Ok-Some
returns-in-Ok-Some c = λ place.
    let code = code_of c.args.code.now in
    let left = c.args.left in
    let write = c.walk.write in
    let one = c.index.result.now in
    let state = state_of c.walk.self in
    let within : write.at < length write.filters.items = omega (arith, c.walk-test.true) in
    let next = drop-item write.filters.items write.at one within c.index.ensures in
    sym (c.walk.invariant place) ∙ (ap (λ (fs : List Filter). steps.by_filters code left place (stream_in write) (value_of write.row) fs state) next
    ∙ (filter_step code left place write one state
    ∙ (ap (λ ran. and_then ran (onward code left place write one)) (c.in-Ok-Some.ensures place ∙ ap (λ o. Gives (begins_of write one o) (state_of c.filter.new.self)) c.in-Ok-Some.field-0-is)
    ∙ ap (λ pending. Gives (begun_of c.in-Ok-Some.asked pending) (state_of c.filter.new.self)) (sym (ap (pending_with write) next)))))

pub returns-in-Err : goal.returns-in-Err
returns-in-Err c = λ place.
    let code = code_of c.args.code.now in
    let left = c.args.left in
    let write = c.walk.write in
    let one = c.index.result.now in
    let state = state_of c.walk.self in
    let within : write.at < length write.filters.items = omega (arith, c.walk-test.true) in
    let next = drop-item write.filters.items write.at one within c.index.ensures in
    comes_as onward_of place (Rattle.std.proofs.Common.Err c.in-Err.halt) _ _ _
    (sym (c.walk.invariant place) ∙ (ap (λ (fs : List Filter). steps.by_filters code left place (stream_in write) (value_of write.row) fs state) next ∙ filter_step code left place write one state))
    (stops (begins_of write one) onward_of place c.in-Err.halt _ (onward code left place write one) _ (c.in-Err.ensures place))
