use Rattle.zk_check_expressions.specs.Envs.{locals_of}
use Rattle.zk_check_statements.specs.Bodies.{context_of}
use Rattle.zk_check_statements.proofs.BegunLaws.{local_gives}
use Rattle.zk_check_statements.proofs.begins.local_stmt.Goals as goal

pub returns-in-Ok : goal.returns-in-Ok
returns-in-Ok c =
    local_gives c.local_made-value_type.result.made c.new_local.new.locals (context_of c.args.context.now) (locals_of c.args.locals.now)
    c.args.place c.args.name.now c.as_slice.result.now c.args.tree.now c.args.init.now c.place_of-place.result _
    c.place_of-place.ensures c.as_slice.ensures c.local_made-value_type.ensures.made c.local_made-value_type.ensures.known c.in-Ok.ensures.visible
