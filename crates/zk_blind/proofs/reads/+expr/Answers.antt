use Rattle.std.proofs.Common.{rules, ap, ◌∙◌}
use Rattle.zk_typed.specs.Blind as spec
use Rattle.zk_typed.specs.View as view
use Rattle.zk_blind.proofs.Views.{apply_is, new_is, call_is, hook_is}
use Rattle.zk_blind.proofs.reads.+expr.Goals as goal

pub expr_blind-returns-then-primitive_blind : goal.expr_blind-returns-then-primitive_blind
expr_blind-returns-then-primitive_blind t c =
    let e = ap (λ one. spec.expr_blind (view.program_of c.args.program.now) (view.expr_of one)) c.in-Apply.is
    ∙ ap (spec.expr_blind (view.program_of c.args.program.now)) (apply_is c.in-Apply.primitive c.in-Apply.operands) in
    search (rules, e)

pub expr_blind-returns-in-New : goal.expr_blind-returns-in-New
expr_blind-returns-in-New t c =
    let e = ap (λ one. spec.expr_blind (view.program_of c.args.program.now) (view.expr_of one)) c.in-New.is
    ∙ ap (spec.expr_blind (view.program_of c.args.program.now)) (new_is c.in-New.«record» c.in-New.given) in
    search (rules, e)

pub expr_blind-returns-in-Call : goal.expr_blind-returns-in-Call
expr_blind-returns-in-Call t c =
    let e = ap (λ one. spec.expr_blind (view.program_of c.args.program.now) (view.expr_of one)) c.in-Call.is
    ∙ ap (spec.expr_blind (view.program_of c.args.program.now)) (call_is c.in-Call.function c.in-Call.operands) in
    search (rules, e)

pub expr_blind-returns-in-Hook : goal.expr_blind-returns-in-Hook
expr_blind-returns-in-Hook t c =
    let e = ap (λ one. spec.expr_blind (view.program_of c.args.program.now) (view.expr_of one)) c.in-Hook.is
    ∙ ap (spec.expr_blind (view.program_of c.args.program.now)) (hook_is c.in-Hook.hook c.in-Hook.operands) in
    search (rules, e)
