use Rattle.std.proofs.Common.{rules, ap, ◌∙◌}
use Rattle.zk_typed.specs.Blind as spec
use Rattle.zk_typed.specs.View as view
use Rattle.zk_blind.proofs.Views.{block_is_blind}
use Rattle.zk_blind.proofs.reads.+stmt.Goals as goal

pub stmt_blind-returns-in-Block : goal.stmt_blind-returns-in-Block
stmt_blind-returns-in-Block t c =
    let e = ap (λ one. spec.stmt_blind (view.program_of c.args.program.now) (view.stmt_of one)) c.in-Block.is
    ∙ block_is_blind (view.program_of c.args.program.now) c.in-Block.all in
    search (rules, e)
