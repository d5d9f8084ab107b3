use Rattle.std.proofs.Common.{rules, map}
use Rattle.zk_typed.specs.View.{program_of, record_of}
use Rattle.zk_lower.specs.View as view
use Rattle.zk_lower.proofs.Whole.{whole_copied}
use Rattle.zk_lower.proofs.program.lower.Goals as goal

pub returns : goal.returns
returns c =
    whole_copied (program_of c.args.program.now) c.in_ok-files_copy.field-0 (map record_of c.in_ok-records.records) c.in_ok-logs.logs
    c.add_handlers.new.ops c.add_functions.new.ops c.add_hooks.new.ops (map view.op_of c.into_sequence.result)
    (map view.global_of c.in_ok-globals.globals) (map view.body_of c.in_ok-functions.functions) (map (map view.body_of) c.in_ok-hooks.hooks) (map view.handler_of c.in_ok-handlers.handlers)
    (search rules) (search rules) (search rules) (search rules) (search rules) (search rules) (search rules) (search rules) (search rules) (search rules) (search rules)
