use Rattle.std.proofs.Common.{map, sym, subst, ap, ◌∙◌}
use Rattle.std.specs.Prelude.{List}
use Rattle.zk_typed.specs.Declarations.{told_type, global_type}
use Rattle.zk_scope.specs.Scripted.{scripts_in}
use Rattle.zk_check_expressions.specs.declared.env.GlobalType.{GlobalType}
use Rattle.zk_check_expressions.specs.Envs.{global_of}
use Rattle.zk_check_declarations.specs.Rounds.{IsGlobals}
use Rattle.zk_check_declarations.proofs.RoundLaws.{known_told}
use Rattle.zk_check.proofs.scripts.check_scripts.Goals as goal

pub check_typed-requires-clause-told : goal.check_typed-requires-clause-told
check_typed-requires-clause-told c =
    subst (λ (types : List GlobalType). IsGlobals types (told_type (scripts_in c.args.scripts.now.names))) (sym c.deref-2.ensures.value) c.in_ok-told.ensures

pub check_typed-requires-clause-known : goal.check_typed-requires-clause-known
check_typed-requires-clause-known c =
    let scripts = scripts_in c.args.scripts.now.names in
    known_told scripts c.deref.result.now c.deref-3.result.now
    (subst (λ (types : List GlobalType). IsGlobals types (told_type scripts)) (sym c.deref.ensures.value) c.in_ok-told.ensures)
    (ap (map global_of) c.deref-3.ensures.value ∙ c.in_ok-known.ensures)
