use Rattle.std.proofs.Common.{◌≡◌, drop}
use Rattle.std.specs.List.{list_all}
use Rattle.zk_typed.specs.Blind as spec
use Rattle.zk_typed.specs.View as view
use Rattle.zk_blind.proofs.reads.+stmt.Given as goal

abbrev pub invariant-stmts_blind-loop-one : goal.invariant-stmts_blind-loop-one
invariant-stmts_blind-loop-one l =
    list_all (λ one. spec.stmt_blind (view.program_of l.program) (view.stmt_of one)) (drop l.one-index l.all) ≡ list_all (λ one. spec.stmt_blind (view.program_of l.program) (view.stmt_of one)) l.all
