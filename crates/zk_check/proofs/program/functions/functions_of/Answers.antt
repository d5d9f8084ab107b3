use Rattle.std.proofs.Common.{List, ◌++◌, map, ap, sym, ◌∙◌, arith}
use Rattle.zk_scope.specs.Lent.{declared_of}
use Rattle.zk_typed.specs.Program as program
use Rattle.zk_typed.specs.Typing.{is_function}
use Rattle.zk_check.specs.Functions.{function_among}
use Rattle.zk_typed.specs.View as view
use Rattle.zk_check_declarations.specs.Choosing.{chosen}
use Rattle.zk_check_declarations.specs.Sources.{scripts_from}
use Rattle.zk_check.proofs.ProgramLaws.{gathered, kept}
use Rattle.zk_check.proofs.PushLaws.{gathered_more}
use Rattle.zk_check.proofs.program.functions.functions_of.Goals as goal

pub loop-one-preserved : goal.loop-one-preserved
loop-one-preserved c =
    let scripts = scripts_from c.args.source.now in
    let make = function_among scripts c.args.bodies.now in
    c.in_ok-add_function.ensures
    ∙ ap (λ (made : List program.Function). made ++ chosen is_function make (declared_of c.one-item.result)) c.loop-one.invariant
    ∙ sym (gathered_more (chosen is_function make) declared_of c.declared-one-items.result.now c.loop-one.one-index c.one-item.result c.loop-one-test.true c.one-item.is)

pub returns : goal.returns
returns c =
    let scripts = scripts_from c.args.source.now in
    let make = function_among scripts c.args.bodies.now in
    gathered declared_of (chosen is_function make) c.declared-one-items.result.now c.loop-one.one-index (map view.function_of c.loop-one.all.items) scripts.names (omega arith) c.loop-one.invariant c.declared-one-items.ensures
    ∙ kept is_function make scripts.names
