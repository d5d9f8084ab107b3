use Rattle.zk_scope.specs.Scripted.{scripts_in}
use Rattle.zk_check.proofs.DeclLaws.{earlier_begun}
use Rattle.zk_check.proofs.rules.decls.Earlier.new.Goals as goal

pub returns : goal.returns
returns c =
    earlier_begun (record { declared = c.in_ok-declared.declared; bodies = c.new-bodies.result; fields = c.in_ok-fields.fields; paths = c.new-paths.result }) (scripts_in c.args.names.now)
    c.in_ok-declared.ensures c.new-bodies.ensures c.in_ok-fields.ensures c.new-paths.ensures
