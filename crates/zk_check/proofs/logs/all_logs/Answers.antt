use Rattle.std.proofs.Common.{◌∙◌, arith}
use Rattle.zk_scope.specs.Lent.{declared_of}
use Rattle.zk_scope.specs.Scripted.{scripts_in}
use Rattle.zk_typed.specs.LogCalls.{is_log_word}
use Rattle.zk_check_declarations.specs.Logging.{log_of, logs_by}
use Rattle.zk_check.proofs.ProgramLaws.{gathered, kept}
use Rattle.zk_check.proofs.logs.all_logs.Goals as goal

pub returns : goal.returns
returns c =
    let scripts = scripts_in c.args.scripts.now.names in
    gathered declared_of (logs_by scripts) c.declared-one-items.result.now c.loop-one.one-index c.loop-one.all.items scripts.names (omega arith) c.loop-one.invariant c.declared-one-items.ensures
    ∙ kept is_log_word (log_of scripts) scripts.names
