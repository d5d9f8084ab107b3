use Rattle.std.proofs.Common.{◌≡◌, ℕ, suc, ◌-◌, ◌<◌, length, ap, sym, ◌∙◌, arith}
use Rattle.zk_typed.specs.Resolving.{followed_to}
use Rattle.zk_scope.specs.Scripted.{scripts_in}
use Rattle.zk_scope.proofs.FollowLaws.{way_end, way_on}
use Rattle.zk_scope.proofs.LeadLaws.{lent_length}
use Rattle.zk_scope.proofs.typing.walked_end.Goals as goal

pub loop-step-init : goal.loop-step-init
loop-step-init c = λ first is.
    let scripts = scripts_in c.args.names.now in
    let long : length c.declared-most.result.now ≡ length scripts.names = sym (lent_length c.declared-most.result.now) ∙ ap length c.declared-most.ensures in
    let left : suc (length c.declared-most.result.now) - 0 ≡ suc (length scripts.names) = omega (arith, long) in
    (first, is, ap (λ (n : ℕ). followed_to n scripts first.0 first.1) left)

pub loop-step-preserved : goal.loop-step-preserved
loop-step-preserved c = λ first is.
    let scripts = scripts_in c.args.names.now in
    let most = length c.declared-most.result.now in
    let within : c.loop-step._step < suc most = omega arith in
    way_on scripts most c.loop-step._step c.loop-step.end c.in-Some.next first within c.in-Some.ensures.is c.in-Some.ensures.text (c.loop-step.invariant first is)

pub returns-in-None : goal.returns-in-None
returns-in-None c = λ first is.
    let scripts = scripts_in c.args.names.now in
    let most = length c.declared-most.result.now in
    let within : c.loop-step._step < suc most = omega arith in
    way_end scripts most c.loop-step._step c.loop-step.end first within c.in-None.ensures.is (c.loop-step.invariant first is)

pub returns : goal.returns
returns c = λ first is.
    let scripts = scripts_in c.args.names.now in
    let way = c.loop-step.invariant first is in
    let now = way.0 in
    let none : suc (length c.declared-most.result.now) - c.loop-step._step ≡ 0 = omega arith in
    sym (ap (λ (n : ℕ). followed_to n scripts now.0 now.1) none) ∙ way.2
