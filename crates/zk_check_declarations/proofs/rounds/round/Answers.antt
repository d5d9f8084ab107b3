use Rattle.std.proofs.Common.{◌≡◌, false, filter, map, refl}
use Rattle.std.specs.declared.alloc.Global.{Global}
use Rattle.std.specs.declared.vec.Vec.{Vec}
use Rattle.zk_typed.specs.Declarations.{variables}
use Rattle.zk_typed.specs.Typing.{is_variable}
use Rattle.zk_scope.specs.Lent.{declared_lent}
use Rattle.zk_scope.specs.Scripted.{scripts_in}
use Rattle.zk_check_expressions.specs.declared.env.Globals.{Globals}
use Rattle.zk_check_expressions.specs.declared.env.GlobalType.{GlobalType}
use Rattle.zk_check_expressions.specs.Envs.{global_of, globals_at}
use Rattle.zk_check_declarations.specs.Rounds.{filled, types_at}
use Rattle.zk_check_declarations.proofs.RoundLaws.{ok_map, round_lent}
use Rattle.zk_check_declarations.proofs.rounds.round.Goals as goal

pub returns : goal.returns
returns c =
    let scripts = scripts_in c.args.scripts.now.names in
    let globals : Globals = record { types = c.args.before; circular = false } in
    ok_map
    (λ (types : Vec GlobalType Global). map global_of types.items ≡ filled scripts (globals_at globals) (filter is_variable (declared_lent c.declared.result.now)))
    (λ (types : Vec GlobalType Global). map global_of types.items ≡ filled scripts (types_at (map global_of c.args.before.now)) (variables scripts))
    c.types_by.result
    (λ types told. round_lent scripts globals types.items (declared_lent c.declared.result.now) refl c.declared.ensures told)
    c.types_by.ensures
