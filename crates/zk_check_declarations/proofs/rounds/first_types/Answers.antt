use Rattle.std.proofs.Common.{◌≡◌, filter, map, List, ap, ◌∙◌}
use Rattle.std.specs.declared.alloc.Global.{Global}
use Rattle.std.specs.declared.vec.Vec.{Vec}
use Rattle.zk_typed.specs.Declarations.{circular}
use Rattle.zk_typed.specs.Names.{Declared}
use Rattle.zk_typed.specs.Typing.{is_variable}
use Rattle.zk_scope.specs.Lent.{declared_lent}
use Rattle.zk_scope.specs.Scripted.{scripts_in}
use Rattle.zk_check_expressions.specs.declared.env.GlobalType.{GlobalType}
use Rattle.zk_check_expressions.specs.Envs.{global_of}
use Rattle.zk_check_declarations.specs.Rounds.{IsAfter, filled}
use Rattle.zk_check_declarations.proofs.RoundLaws.{first_after, ok_map}
use Rattle.zk_check_declarations.proofs.rounds.first_types.Goals as goal

pub returns : goal.returns
returns c =
    let scripts = scripts_in c.args.scripts.now.names in
    ok_map
    (λ (types : Vec GlobalType Global). map global_of types.items ≡ filled scripts (λ number. circular) (filter is_variable (declared_lent c.declared.result.now)))
    (λ (types : Vec GlobalType Global). IsAfter scripts 0 types.items)
    c.types_by.result
    (λ types told. first_after scripts types.items (told ∙ ap (λ (names : List Declared). filled scripts (λ number. circular) (filter is_variable names)) c.declared.ensures))
    c.types_by.ensures
