use Rattle.std.proofs.Common.{Some, ap, sym, ◌∙◌}
use Rattle.std.specs.Borrow.{Bor}
use Rattle.std.specs.Option.{option_map}
use Rattle.zk_tree.specs.declared.expr.Expr.{Expr}
use Rattle.zk_typed.specs.Making.{called_name}
use Rattle.zk_typed.specs.Names.{look_up}
use Rattle.zk_scope.specs.declared.declared.Declared.{Declared}
use Rattle.zk_scope.specs.Calls.{call_of}
use Rattle.zk_scope.specs.Lent.{declared_of}
use Rattle.zk_check_expressions.specs.Envs.{call_in}
use Rattle.zk_check_declarations.specs.Sources.{scripts_from}
use Rattle.zk_check_declarations.proofs.OtherCalls.{other_call, post_out}
use Rattle.zk_check_declarations.proofs.logging.may_log.Goals as goal

pub returns-in_ok-found-in-Some : goal.returns-in_ok-found-in-Some
returns-in_ok-found-in-Some c = λ differs.
    let scripts = scripts_from c.args.source.now in
    let call = call_of c.args.call.now in
    other_call scripts call c.in-Post.first c.in-Post.parts (call_in (c.in-Some.name, c.in-Some.field-0-1, c.in-Some.field-0-2)) (option_map (λ (one : Bor Declared). declared_of one.now) c.in_ok-found-in-Some.found)
    (post_out c.args.call.now.whole.now c.in-Post.first c.in-Post.parts c.in-Post.is)
    (sym (ap (λ (first : Expr). called_name first c.as_slice.result.now) c.get.ensures ∙ ap (called_name c.in-Post.first) c.as_slice.ensures) ∙ sym c.called_name.ensures ∙ ap (option_map call_in) c.in-Some.is)
    (ap (look_up scripts.names call.home.module_name) (sym c.as_slice-text.ensures) ∙ sym c.in_ok-found-in-Some.ensures)
    (sym c.means_log.ensures ∙ differs)
