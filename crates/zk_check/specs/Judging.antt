-- What judging a whole body gives.
use Rattle.std.specs.Prelude.{◌≡◌, length}
use Rattle.zk_check_operators.specs.Gather.{Told}
use Rattle.zk_typed.specs.Statements.{Stated}
use Rattle.zk_typed.specs.Tells.{Tells}
use Rattle.zk_typed.specs.View.{stmt_of}
use Rattle.zk_check.specs.declared.judged.Judged.{Judged}

-- it tells the typed form, and how many names the body has, unless memory ran out
pub record IsJudged (judged : Judged) (wanted : Stated) : Type 0 where
  pub made : Tells stmt_of judged.made wanted.made
  pub many : Told judged.made → judged.locals ≡ length wanted.locals
