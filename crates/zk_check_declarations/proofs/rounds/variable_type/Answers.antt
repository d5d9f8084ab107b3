use Rattle.std.proofs.Common.{Some, ap}
use Rattle.zk_typed.specs.Declarations.{variable_type}
use Rattle.zk_typed.specs.Resolving.{hushed, type_of}
use Rattle.zk_scope.specs.Lent.{declared_of, home_of, meant_of}
use Rattle.zk_scope.specs.Scripted.{scripts_in}
use Rattle.zk_check_expressions.specs.Envs.{global_of, globals_at}
use Rattle.zk_check_declarations.specs.Rounds.{by_init}
use Rattle.zk_check_declarations.proofs.RoundLaws.{by_inferred, by_written, ok_at}
use Rattle.zk_check_declarations.proofs.rounds.variable_type.Goals as goal

pub returns-in-Some : goal.returns-in-Some
returns-in-Some c =
    let scripts = scripts_in c.args.scripts.now.names in
    let others = globals_at c.args.globals in
    let home = home_of c.in-Variable.home in
    ok_at global_of c.by_type.result (hushed (type_of scripts home c.in-Some.tree)) (variable_type scripts others (Some (declared_of c.args.one.now)))
    (by_written scripts others (declared_of c.args.one.now) home c.in-Variable.lasting c.in-Variable.tree.now c.in-Variable.init.now c.in-Variable.attrs.now c.in-Some.tree (ap meant_of c.in-Variable.is) c.in-Some.is)
    c.by_type.ensures

pub returns-in-None : goal.returns-in-None
returns-in-None c =
    let scripts = scripts_in c.args.scripts.now.names in
    let others = globals_at c.args.globals in
    let home = home_of c.in-Variable.home in
    ok_at global_of c.by_init.result (by_init scripts others home c.in-Variable.init.now) (variable_type scripts others (Some (declared_of c.args.one.now)))
    (by_inferred scripts others (declared_of c.args.one.now) home c.in-Variable.lasting c.in-Variable.tree.now c.in-Variable.init.now c.in-Variable.attrs.now (ap meant_of c.in-Variable.is) c.in-None.is)
    c.by_init.ensures
