use Rattle.std.proofs.Common.{List, ℕ, ap, ◌∙◌, arith}
use Rattle.std.specs.Option.{option_map}
use Rattle.zk_check_expressions.specs.Envs.{known_or, local_of}
use Rattle.zk_scope.specs.Lent.{home_of}
use Rattle.zk_scope.specs.Scripted.{scripts_in}
use Rattle.zk_tree.specs.declared.types.Param.{Param, out-Param}
use Rattle.zk_typed.specs.Checked.{Checked}
use Rattle.zk_typed.specs.Resolving.{hushed, type_of}
use Rattle.zk_typed.specs.Types.{ValueType}
use Rattle.zk_typed.specs.Typing.{LocalName}
use Rattle.zk_typed.specs.View as view
use Rattle.zk_check.proofs.PushLaws.{pushed}
use Rattle.zk_check.proofs.judged.param_locals.Goals as goal

pub loop-param-preserved : goal.loop-param-preserved
loop-param-preserved c =
    let scripts = scripts_in c.args.names.now in
    let home = home_of c.args.home in
    let named : List ℕ → Checked ValueType → LocalName = λ text is. record { name = text; type = is } in
    let f : Param → LocalName = λ param. named (out-Param param).name.text (hushed (type_of scripts home (out-Param param).param_type)) in
    let known : Checked ValueType = known_or (option_map view.type_of c.in_ok-value_type.value_type) in
    pushed local_of f c.args.params.now c.loop-param.param-index c.param-item.result c.loop-param.locals c.add.new.self _
    c.in_ok-add.ensures (omega arith) c.param-item.is c.loop-param.invariant
    (ap (λ text. named text known) c.as_slice-name.ensures ∙ ap (named (out-Param c.param-item.result).name.text) c.in_ok-value_type.ensures)
