use Rattle.std.proofs.Common.{rules, ◌≡◌, Bool, true, Option, None, Some, ap, ◌∙◌}
use Rattle.zk_base.specs.declared.numbers.HookNo.{HookNo}
use Rattle.zk_lower.specs.Steps as steps
use Rattle.zk_lower.specs.View.{code_of}
use Rattle.zk_typed.specs.Does.{pure}
use Rattle.zk_typed.specs.Logs.{policy_of, still_there}
use Rattle.zk_machine.specs.Onwards.{begins_of, one_policy}
use Rattle.zk_machine.specs.Running.{stream_in}
use Rattle.zk_machine.specs.State.{state_of}
use Rattle.zk_machine.proofs.ThenLemmas.{comes_as}
use Rattle.zk_machine.proofs.state.State.filter.Goals as goal

pub returns-in-Some : goal.returns-in-Some
returns-in-Some c = λ place.
    let code = code_of c.args.code.now in
    let left = c.args.left in
    let write = c.args.write.now in
    let one = c.args.filter.now in
    let state = state_of c.args.self.now in
    let there : still_there write.log one.name state.world ≡ true = search rules in
    let policy : policy_of (stream_in write) one ≡ Some c.in-Some.policy = search rules in
    comes_as (begins_of write one) place c.ask.result _ _ _
    (ap (λ (there : Bool). steps.if_there there (one_policy code left place write one (policy_of (stream_in write) one)) (pure None) state) there
    ∙ ap (λ (policy : Option HookNo). one_policy code left place write one policy state) policy)
    (c.ask.ensures place)
