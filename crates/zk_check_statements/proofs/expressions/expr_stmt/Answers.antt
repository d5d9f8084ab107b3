use Rattle.zk_check_expressions.specs.Envs.{env_of}
use Rattle.zk_typed.specs.Expressions.{expr_typed}
use Rattle.zk_check_statements.proofs.Acts.{post_is}
use Rattle.zk_check_statements.proofs.expressions.expr_stmt.Goals as goal

pub returns-in-Post : goal.returns-in-Post
returns-in-Post c =
    post_is c.post_stmt.result (expr_typed (env_of c.args.env.now)) (env_of c.args.env.now) c.expr_place-place.result c.in-Post.first c.get-in-Post.result.now c.in-Post.parts c.as_slice.result.now c.args.one.now
    c.in-Post.is c.expr_place-place.ensures c.get-in-Post.ensures c.as_slice.ensures c.post_stmt.ensures
