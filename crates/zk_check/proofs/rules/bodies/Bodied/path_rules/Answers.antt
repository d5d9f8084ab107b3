use Rattle.std.proofs.Common.{List, ◌++◌, flat_map, ap, sym, subst, ◌∙◌}
use Rattle.zk_typed.specs.Errors.{PathUse, call_uses, path_rules}
use Rattle.zk_typed.specs.LogCalls.{Call}
use Rattle.zk_scope.specs.Calls.{calls_lent}
use Rattle.zk_scope.specs.Scripted.{scripts_in}
use Rattle.zk_check_declarations.specs.Paths.{HasPaths}
use Rattle.zk_check_declarations.proofs.PathLaws.{call_turn, calls_begun, calls_end, calls_met}
use Rattle.zk_check_declarations.proofs.RuleLaws.{same_rules}
use Rattle.zk_check.proofs.rules.bodies.Bodied.path_rules.Goals as goal

pub loop-call-init : goal.loop-call-init
loop-call-init c = λ before known. calls_begun (scripts_in c.args.self.now.valued.ground.names.now) before c.args.paths.now _ known

pub loop-call-preserved : goal.loop-call-preserved
loop-call-preserved c = λ before known.
    call_turn (scripts_in c.args.self.now.valued.ground.names.now) before c.loop-call.paths c.call_rules-one.new.paths c.loop-call.rules c.call_rules-one.result c.also-rules.result _ c.loop-call.call-index c.call-item.result
    c.loop-call-test.true c.call-item.is (c.loop-call.invariant before known) c.call_rules-one.ensures.rules c.call_rules-one.ensures.met c.also-rules.ensures

pub returns-clause-rules : goal.returns-clause-rules
returns-clause-rules c = λ before known.
    let scripts = scripts_in c.args.self.now.valued.ground.names.now in
    same_rules c.loop-call.rules (ap (path_rules scripts before) (sym (ap calls_lent c.deref-call-items.ensures.value ∙ c.in_ok-calls.ensures)))
    (calls_end scripts before c.loop-call.paths c.loop-call.rules _ c.loop-call.call-index c.loop-call-test.false (c.loop-call.invariant before known))

pub returns-clause-met : goal.returns-clause-met
returns-clause-met c = λ told before known.
    let scripts = scripts_in c.args.self.now.valued.ground.names.now in
    subst (λ (calls : List Call). HasPaths c.loop-call.paths (before ++ flat_map (call_uses scripts) calls)) (ap calls_lent c.deref-call-items.ensures.value ∙ c.in_ok-calls.ensures)
    (calls_met scripts before c.loop-call.paths c.loop-call.rules _ c.loop-call.call-index c.loop-call-test.false (c.loop-call.invariant before known) told)
