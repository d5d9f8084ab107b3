use Rattle.std.proofs.Common.{map, ◌∙◌, arith}
use Rattle.zk_scope.specs.Lent.{declared_of}
use Rattle.zk_typed.specs.Programs.{event_of}
use Rattle.zk_typed.specs.Typing.{is_event}
use Rattle.zk_typed.specs.View as view
use Rattle.zk_check_declarations.specs.Choosing.{chosen}
use Rattle.zk_check_declarations.specs.Sources.{scripts_from}
use Rattle.zk_check.proofs.ProgramLaws.{gathered, kept}
use Rattle.zk_check.proofs.program.events.all_events.Goals as goal

pub returns : goal.returns
returns c =
    let scripts = scripts_from c.args.source.now in
    let make = event_of scripts in
    gathered declared_of (chosen is_event make) c.declared-one-items.result.now c.loop-one.one-index (map view.event_of c.loop-one.all.items) scripts.names (omega arith) c.loop-one.invariant c.declared-one-items.ensures
    ∙ kept is_event make scripts.names
