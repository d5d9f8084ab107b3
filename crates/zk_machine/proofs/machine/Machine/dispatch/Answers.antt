use Rattle.std.proofs.Common.{rules, ◌≡◌, ◌<◌, ◌+◌, Some, get_or, length, fold, take, sym, ap, subst, ◌∙◌, arith}
use Rattle.std.specs.Prelude.{slice_get}
use Rattle.std.proofs.lemmas.List.{take_all}
use Rattle.zk_lower.specs.Code.{Code}
use Rattle.zk_machine.specs.Handling.{numbers_for}
use Rattle.zk_base.specs.declared.numbers.HandlerNo.{HandlerNo}
use Rattle.zk_lower.specs.Told.{Told}
use Rattle.zk_typed.specs.Dispatch.{handler_body, handlers_of, world_after}
use Rattle.zk_typed.specs.Program.{Program, Handler}
use Rattle.zk_typed.specs.State.{World}
use Rattle.zk_value.specs.Plain.{key_of}
use Rattle.zk_machine.specs.Standing.{StandsFor}
use Rattle.zk_machine.proofs.DispatchLemmas.{runs, runs-more, next_handler, handlers_count, same_count}
use Rattle.zk_machine.proofs.machine.Machine.dispatch.Goals as goal

pub bounds-list-place : goal.bounds-list-place
bounds-list-place c =
    let same = same_count c.handlers-count.result.now c.handlers-list.result.now _ (c.handlers-count.ensures.numbers ∙ ap (λ (code : Code). numbers_for c.args.event code.handlers) (sym c.loop-place.invariant.0)) c.handlers-list.ensures.numbers in
    omega (arith, c.loop-place-test.true, same)

pub loop-place-preserved : goal.loop-place-preserved
loop-place-preserved c =
    let place = c.loop-place.place in
    let list = c.handlers-list.result.now in
    let args = key_of c.args.args.now in
    let budget = c.args.budget in
    let self = c.loop-place.self in
    let new = c.body.new.self in
    let same = same_count c.handlers-count.result.now list _ (c.handlers-count.ensures.numbers ∙ ap (λ (code : Code). numbers_for c.args.event code.handlers) (sym c.loop-place.invariant.0)) c.handlers-list.ensures.numbers in
    let within : place < length list = omega (arith, c.loop-place-test.true, same) in
    let step : (number : HandlerNo)
    → ((program : Program) (given : Told) (world : World) (of : Handler) → StandsFor self program given world → slice_get program.handlers number.0 ≡ Some of
    → StandsFor new program given (world_after program (handler_body program of args world budget)))
    → number ≡ get_or list place number
    → (program : Program) (given : Told) (world : World) → StandsFor c.args.self.now program given world
    → StandsFor new program given (fold (runs program args budget) world (take (place + 1) (handlers_of program c.args.event))) =
    λ number ran is program given world stands.
    let all = handlers_of program c.args.event in
    let mid = c.loop-place.invariant.1 program given world stands in
    let next = next_handler program.handlers list all place number (c.handlers-list.ensures.handlers program mid.code) within is in
    let P : World → Type 0 = StandsFor new program given in
    subst P (sym (runs-more program args budget world all place next.of next.more)) (ran program given (fold (runs program args budget) world (take place all)) next.of mid next.there) in
    (c.in_ok-body.ensures.code ∙ c.loop-place.invariant.0, step _ c.in_ok-body.ensures.stands (search rules))

pub returns-clause-stands : goal.returns-clause-stands
returns-clause-stands c = λ program given world stands.
    let all = handlers_of program c.args.event in
    let count = handlers_count program.handlers c.handlers-count.result.now all (c.handlers-count.ensures.handlers program stands.code) in
    let whole : take c.loop-place.place all ≡ all = take_all c.loop-place.place all (omega (arith, count, c.loop-place-test.false)) in
    subst (StandsFor _ program given) (ap (fold (runs program (key_of c.args.args.now) c.args.budget) world) whole) (c.loop-place.invariant.1 program given world stands)
