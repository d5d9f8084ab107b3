use Rattle.std.proofs.Common.{◌≡◌, Some, refl, sym, ap, ◌∙◌}
use Rattle.std.specs.Option.{option_map}
use Rattle.zk_lower.specs.Meant.{handler_run}
use Rattle.zk_lower.specs.Told.{behind, left_behind}
use Rattle.zk_lower.specs.Lowering.{lowered}
use Rattle.zk_lower.specs.View as lower
use Rattle.zk_typed.specs.Dispatch.{Left, left, handler_body, world_after}
use Rattle.zk_value.specs.Plain.{key_of}
use Rattle.zk_machine.specs.Leads.{ran_of}
use Rattle.zk_machine.specs.State.{state_of, world_of}
use Rattle.zk_machine.proofs.MachineLemmas.{handler_ends, world_behind, world_types}
use Rattle.zk_machine.proofs.machine.Machine.body.Goals as goal

pub returns-clause-ended : goal.returns-clause-ended
returns-clause-ended c = λ program given world of stands there.
    let code = lower.code_of c.code-lent.result.now in
    let same : code ≡ lowered program = c.code-lent.ensures ∙ stands.code in
    let before = world_of c.args.self.now.running.state.world in
    let number = c.args.handler.0 in
    let args = key_of c.args.args.now in
    let budget = c.args.budget in
    let ran = ran_of c.in-Some.ending (state_of c.run_handler.new.self.state) in
    let run : handler_run code number args before budget ≡ Some (left ran) = c.in_ok-found.ensures ∙ ap (option_map (λ one. left (ran_of one (state_of c.run_handler.new.self.state)))) c.in-Some.is in
    let ends : left (handler_body program of args (behind given before) budget) ≡ left_behind given (left ran) =
    handler_ends program given before budget code number args of (left ran) c.code_means.ensures.handlers c.told_stays.ensures.handlers same there run in
    c.in_ok-end.ensures.end ∙ (ap (λ (one : Left). one.end) (sym ends) ∙ ap (λ now. (left (handler_body program of args now budget)).end) (sym stands.comes))

pub returns-clause-left : goal.returns-clause-left
returns-clause-left c = λ program given world of stands there.
    let code = lower.code_of c.code-lent.result.now in
    let same : code ≡ lowered program = c.code-lent.ensures ∙ stands.code in
    let before = world_of c.args.self.now.running.state.world in
    let number = c.args.handler.0 in
    let args = key_of c.args.args.now in
    let budget = c.args.budget in
    let ran = ran_of c.in-Some.ending (state_of c.run_handler.new.self.state) in
    let run : handler_run code number args before budget ≡ Some (left ran) = c.in_ok-found.ensures ∙ ap (option_map (λ one. left (ran_of one (state_of c.run_handler.new.self.state)))) c.in-Some.is in
    let ends : left (handler_body program of args (behind given before) budget) ≡ left_behind given (left ran) =
    handler_ends program given before budget code number args of (left ran) c.code_means.ensures.handlers c.told_stays.ensures.handlers same there run in
    c.in_ok-end.ensures.units ∙ (ap (λ (one : Left). one.units) (sym ends) ∙ ap (λ now. (left (handler_body program of args now budget)).units) (sym stands.comes))

pub returns-clause-stands : goal.returns-clause-stands
returns-clause-stands c = λ program given world of stands there.
    let code = lower.code_of c.code-lent.result.now in
    let same : code ≡ lowered program = c.code-lent.ensures ∙ stands.code in
    let before = world_of c.args.self.now.running.state.world in
    let number = c.args.handler.0 in
    let args = key_of c.args.args.now in
    let budget = c.args.budget in
    let ran = ran_of c.in-Some.ending (state_of c.run_handler.new.self.state) in
    let run : handler_run code number args before budget ≡ Some (left ran) = c.in_ok-found.ensures ∙ ap (option_map (λ one. left (ran_of one (state_of c.run_handler.new.self.state)))) c.in-Some.is in
    let ends : left (handler_body program of args (behind given before) budget) ≡ left_behind given (left ran) =
    handler_ends program given before budget code number args of (left ran) c.code_means.ensures.handlers c.told_stays.ensures.handlers same there run in
    record {
      code = stands.code;
      comes = ap (λ now. world_after program (handler_body program of args now budget)) stands.comes
          ∙ (world_behind program given (handler_body program of args (behind given before) budget) ran ends ∙ ap (behind given) (world_types code program ran same ∙ sym c.in_ok-end.ensures.world));
      works = refl;
    }
