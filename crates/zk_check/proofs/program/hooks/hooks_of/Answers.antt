use Rattle.std.proofs.Common.{map, ◌∙◌, arith}
use Rattle.zk_scope.specs.Lent.{declared_of}
use Rattle.zk_typed.specs.Typing.{is_hook}
use Rattle.zk_check.specs.Hooks.{hook_among}
use Rattle.zk_typed.specs.View as view
use Rattle.zk_check_declarations.specs.Choosing.{chosen}
use Rattle.zk_check_declarations.specs.Sources.{scripts_from}
use Rattle.zk_check.proofs.ProgramLaws.{gathered, kept}
use Rattle.zk_check.proofs.program.hooks.hooks_of.Goals as goal

pub returns : goal.returns
returns c =
    let scripts = scripts_from c.args.source.now in
    let make = hook_among scripts c.args.bodies.now in
    gathered declared_of (chosen is_hook make) c.declared-one-items.result.now c.loop-one.one-index (map view.hook_of c.loop-one.all.items) scripts.names (omega arith) c.loop-one.invariant c.declared-one-items.ensures
    ∙ kept is_hook make scripts.names
