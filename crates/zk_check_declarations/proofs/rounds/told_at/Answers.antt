use Rattle.std.proofs.Common.{Some, false, map, refl, slice_get, sym}
use Rattle.zk_typed.specs.Declarations.{variable_type}
use Rattle.zk_scope.specs.Lent.{declared_of}
use Rattle.zk_scope.specs.Scripted.{scripts_in}
use Rattle.zk_check_expressions.specs.declared.env.Globals.{Globals}
use Rattle.zk_check_expressions.specs.Envs.{global_of, globals_at}
use Rattle.zk_check_declarations.specs.Rounds.{types_at}
use Rattle.zk_check_declarations.proofs.RoundLaws.{nothing_there, ok_at, told_there}
use Rattle.zk_check_declarations.proofs.rounds.told_at.Goals as goal

pub returns-in-Some : goal.returns-in-Some
returns-in-Some c =
    let scripts = scripts_in c.args.scripts.now.names in
    let globals : Globals = record { types = c.args.types; circular = false } in
    ok_at global_of c.variable_type.result (variable_type scripts (globals_at globals) (Some (declared_of c.in-Some.one.now))) (variable_type scripts (types_at (map global_of c.args.types.now)) (slice_get scripts.names c.args.place))
    (told_there scripts globals c.declared.result.now c.args.place c.in-Some.one.now refl c.declared.ensures (sym c.in-Some.ensures))
    c.variable_type.ensures

pub returns-in-None : goal.returns-in-None
returns-in-None c =
    let scripts = scripts_in c.args.scripts.now.names in
    nothing_there scripts (types_at (map global_of c.args.types.now)) c.declared.result.now c.args.place c.declared.ensures (sym c.in-None.ensures)
