use Rattle.zk_scope.specs.Lent.{declared_of, home_of}
use Rattle.zk_scope.specs.Scripted.{scripts_in}
use Rattle.zk_check_expressions.specs.Envs.{globals_at}
use Rattle.zk_check_declarations.proofs.RuleLaws.{same_rules}
use Rattle.zk_check_declarations.proofs.ValueLaws.{redef_by}
use Rattle.zk_check_declarations.proofs.variables.Valued.redef_variable.Goals as goal

pub returns : goal.returns
returns c =
    same_rules c.anew.result
    (redef_by (scripts_in c.args.self.now.ground.names.now) (home_of c.args.home) c.args.place c.args.operator c.args.init.now c.args.attrs.now (declared_of c.args.one.now) (globals_at c.args.self.now.known) c.has_attr.result c.in_ok-number.number
    c.has_attr.ensures c.if-not-has_attr.false c.requires.known c.in_ok-number.ensures)
    c.anew.ensures
