use Rattle.zk_scope.specs.Lent.{files_of}
use Rattle.zk_check_declarations.specs.Sources.{scripts_from}
use Rattle.zk_check.proofs.program.typed_program.Goals as goal

pub returns : goal.returns
returns c = c.joined.ensures (files_of c.args.files.now) (scripts_from c.args.source.now) c.in_ok-first.ensures c.in_ok-code.ensures
