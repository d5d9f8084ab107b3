use Rattle.zk_check_operators.specs.Views.{typed_all}
use Rattle.zk_check_expressions.proofs.CallForms.{given_hook}
use Rattle.zk_check_expressions.proofs.judge.Judge.hook_call.Goals as goal

pub returns-in_ok-operands-in-Ok : goal.returns-in_ok-operands-in-Ok
returns-in_ok-operands-in-Ok g c =
    given_hook _ (typed_all c.in-Ok.args.items) _ c.in_ok-number-in-Ok.number c.in_ok-operands-in-Ok.operands
    c.in-Ok.ensures c.in_ok-number-in-Ok.ensures c.in_ok-operands-in-Ok.ensures
