-- What checking scripts gives.
use Rattle.std.specs.Prelude.{◌≡◌, List, []}
use Rattle.zk_typed.specs.Errors.{errors_from}
use Rattle.zk_typed.specs.LoadOrder.{File}
use Rattle.zk_typed.specs.Program.{Program}
use Rattle.zk_typed.specs.Resolving.{Scripts}
use Rattle.zk_check.specs.Programming.{program_in}

-- scripts of these files that break no rule, with their program
pub record IsAccepted (files : List File) (scripts : Scripts) (program : Program) : Type 0 where
  pub right : errors_from scripts [] scripts.stated ≡ []
  pub whole : program ≡ program_in files scripts
