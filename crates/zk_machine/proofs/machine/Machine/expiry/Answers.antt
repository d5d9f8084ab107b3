use Rattle.std.proofs.Common.{◌≡◌, Option, IfSome, refl, sym, ap, subst, ◌∙◌}
use Rattle.zk_lower.specs.Told.{behind}
use Rattle.zk_lower.specs.View as lower
use Rattle.zk_typed.specs.Dispatch.{Left, left, expiry_body, world_after}
use Rattle.zk_typed.specs.Running.{wait_of}
use Rattle.zk_typed.specs.State.{State}
use Rattle.zk_machine.specs.declared.expiring.Expiring.{Expiring}
use Rattle.zk_value.specs.Plain.{key_of}
use Rattle.zk_machine.specs.Expiring.{span_ran}
use Rattle.zk_machine.specs.Leads.{ran_of}
use Rattle.zk_machine.specs.State.{state_of, world_of}
use Rattle.zk_machine.proofs.MachineLemmas.{expiry_leaves, expiry_waits, world_behind, world_types}
use Rattle.zk_machine.proofs.machine.Machine.expiry.Goals as goal

pub returns-clause-ended : goal.returns-clause-ended
returns-clause-ended c = λ program given world of stands there.
    let args = key_of c.args.args.now in
    let budget = c.args.budget in
    let leaves = expiry_leaves program given (world_of c.args.self.now.running.state.world) budget (lower.code_of c.code-lent.result.now) c.args.global args of _ c.in-Some.expiring
    (state_of c.expiry_of.new.self.state) c.code_means.ensures.expiries c.told_stays.ensures.expiries (c.code-lent.ensures ∙ stands.code) there c.in_ok-found.ensures.ran c.in-Some.is in
    c.in_ok-end.ensures.end ∙ (ap (λ (one : Left). one.end) (sym leaves) ∙ ap (λ now. (left (expiry_body program of args now budget)).end) (sym stands.comes))

pub returns-clause-wait : goal.returns-clause-wait
returns-clause-wait c = λ program given world of stands there.
    let args = key_of c.args.args.now in
    let budget = c.args.budget in
    let now = state_of c.expiry_of.new.self.state in
    let waits = expiry_waits program given (world_of c.args.self.now.running.state.world) budget (lower.code_of c.code-lent.result.now) c.args.global args of _ c.in-Some.expiring
    now c.code_means.ensures.expiries c.told_stays.ensures.expiries (c.code-lent.ensures ∙ stands.code) there c.in_ok-found.ensures.ran c.in-Some.is in
    let Waits : Option Expiring → Type 0 = λ found. IfSome found (λ expiring. (state : State) → expiring.wait ≡ wait_of (span_ran expiring state)) in
    subst Waits c.in-Some.is c.in_ok-found.ensures.wait now ∙ (sym waits ∙ ap (λ now. wait_of (expiry_body program of args now budget)) (sym stands.comes))

pub returns-clause-left : goal.returns-clause-left
returns-clause-left c = λ program given world of stands there.
    let args = key_of c.args.args.now in
    let budget = c.args.budget in
    let leaves = expiry_leaves program given (world_of c.args.self.now.running.state.world) budget (lower.code_of c.code-lent.result.now) c.args.global args of _ c.in-Some.expiring
    (state_of c.expiry_of.new.self.state) c.code_means.ensures.expiries c.told_stays.ensures.expiries (c.code-lent.ensures ∙ stands.code) there c.in_ok-found.ensures.ran c.in-Some.is in
    c.in_ok-end.ensures.units ∙ (ap (λ (one : Left). one.units) (sym leaves) ∙ ap (λ now. (left (expiry_body program of args now budget)).units) (sym stands.comes))

pub returns-clause-stands : goal.returns-clause-stands
returns-clause-stands c = λ program given world of stands there.
    let args = key_of c.args.args.now in
    let budget = c.args.budget in
    let before = world_of c.args.self.now.running.state.world in
    let code = lower.code_of c.code-lent.result.now in
    let same = c.code-lent.ensures ∙ stands.code in
    let ran = ran_of c.in-Some.expiring.ending (state_of c.expiry_of.new.self.state) in
    let leaves = expiry_leaves program given before budget code c.args.global args of _ c.in-Some.expiring
    (state_of c.expiry_of.new.self.state) c.code_means.ensures.expiries c.told_stays.ensures.expiries same there c.in_ok-found.ensures.ran c.in-Some.is in
    record {
      code = stands.code;
      comes = ap (λ now. world_after program (expiry_body program of args now budget)) stands.comes
          ∙ (world_behind program given (expiry_body program of args (behind given before) budget) ran leaves
          ∙ ap (behind given) (world_types code program ran same ∙ sym c.in_ok-end.ensures.world));
      works = refl;
    }
