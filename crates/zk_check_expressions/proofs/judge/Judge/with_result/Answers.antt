use Rattle.zk_check_operators.specs.Views.{typed_all}
use Rattle.zk_check_expressions.proofs.CallForms.{given_call}
use Rattle.zk_check_expressions.proofs.judge.Judge.with_result.Goals as goal

pub returns-in_ok-operands-in-Ok-Some : goal.returns-in_ok-operands-in-Ok-Some
returns-in_ok-operands-in-Ok-Some g c =
    given_call _ c.in-Ok-Some.field-0 c.in-Ok-Some.value_type _ c.in_ok-function.function (typed_all c.args.args.items) c.in_ok-operands-in-Ok-Some.operands
    c.in-Ok-Some.ensures c.in-Ok-Some.field-0-is c.in_ok-function.ensures c.in_ok-operands-in-Ok-Some.ensures
