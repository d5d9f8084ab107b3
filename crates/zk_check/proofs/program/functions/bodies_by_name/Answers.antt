use Rattle.std.proofs.Common.{List, ◌++◌, ap, sym, ◌∙◌, arith}
use Rattle.zk_scope.specs.Lent.{stated_of}
use Rattle.zk_typed.specs.Program as program
use Rattle.zk_check.specs.Functions.{functions_at, stated_function}
use Rattle.zk_check_declarations.specs.Sources.{scripts_from}
use Rattle.zk_check.proofs.ProgramLaws.{gathered}
use Rattle.zk_check.proofs.PushLaws.{gathered_more}
use Rattle.zk_check.proofs.program.functions.bodies_by_name.Goals as goal

pub loop-one-preserved : goal.loop-one-preserved
loop-one-preserved c = λ scripts name.
    c.in_ok-add_stated.ensures scripts name
    ∙ ap (λ (made : List program.Function). made ++ stated_function scripts name (stated_of c.one-item.result)) (c.loop-one.invariant scripts name)
    ∙ sym (gathered_more (stated_function scripts name) stated_of c.stated-one-items.result.now c.loop-one.one-index c.one-item.result c.loop-one-test.true c.one-item.is)

pub returns : goal.returns
returns c = λ name.
    let scripts = scripts_from c.args.source.now in
    gathered stated_of (stated_function scripts name) c.stated-one-items.result.now c.loop-one.one-index (functions_at scripts c.loop-one.bodies name) scripts.stated (omega arith) (c.loop-one.invariant scripts name) c.stated-one-items.ensures
