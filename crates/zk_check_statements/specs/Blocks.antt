-- The statements of a block, as the Rust types hold them.
use Rattle.std.specs.Prelude.{List, [], ◌∷◌}
use Rattle.zk_typed.specs.declared.script.stmt.Stmt.{Stmt}
use Rattle.zk_typed.specs.Forms.{Stmts, NoStmt, AndStmt}
use Rattle.zk_typed.specs.View.{stmt_of}

abbrev pub all_stated : List Stmt → Stmts
all_stated [] = NoStmt
all_stated (first ∷ others) = AndStmt (stmt_of first) (all_stated others)
