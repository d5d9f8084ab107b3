-- The code of the program of scripts.
use Rattle.std.specs.Prelude.{◌≡◌, ℕ, List, Option, Some, None}
use Rattle.zk_base.specs.declared.endings.ScriptKind.TheVariants as kind
use Rattle.zk_base.specs.Shelf.{Outside}
use Rattle.zk_lower.specs.Lowering.{lowered}
use Rattle.zk_lower.specs.View as lower
use Rattle.zk_typed.specs.Predefined.{packet_seen}
use Rattle.zk_typed.specs.Program.{Program}
use Rattle.zk_check.specs.declared.fault.CheckFault.{CheckFault}
use Rattle.zk_check.specs.declared.fault.CheckFault.TheVariants as fault
use Rattle.zk_outcome.specs.declared.found.Found.{Found}
use Rattle.zk_outcome.specs.declared.found.Found.TheVariants.{Accepted, Refused}
use Rattle.zk_load.specs.Loading.{Scripts}
use Rattle.zk_load.specs.Loads.{LoadsAll}
use Rattle.zk_top.specs.declared.runnable.Runnable.{Runnable}
use Rattle.zk_top.specs.declared.runnable.Refusal.{Refusal}
use Rattle.zk_top.specs.Printed.{handles}
use Rattle.zk_top.specs.Script.{program_of}

-- it is the code of a program, and says whether that handles packets
pub record Runs (runnable : Runnable) (program : Program) : Type 0 where
  pub code : lower.code_of runnable.code ≡ lowered program
  pub packets : runnable.packets ≡ handles packet_seen program

-- what is found is the code of a program, or the run ends as it ends without one
abbrev pub IsCodeOf : Found Runnable → Found Program → Type 0
IsCodeOf (Accepted runnable) (Accepted program) = Runs runnable program
IsCodeOf (Accepted runnable) (Refused ending) = ⊥
IsCodeOf (Refused ending) (Accepted program) = ⊥
IsCodeOf (Refused ending) (Refused other) = ending ≡ other

-- the program of scripts that were read, or how the run ends
abbrev pub program_by : Found Scripts → Found Program
program_by (Accepted scripts) = program_of scripts
program_by (Refused ending) = Refused ending

-- Behind some scripts those of these names were read, and the code of their program is found, or the run ends so.
pub record FindsCode (before : Scripts) (names : List (List ℕ)) (old : Outside) (found : Found Runnable) (new : Outside) : Type 0 where
  pub scripts : Found Scripts
  pub loads : LoadsAll before names old scripts new
  pub code : IsCodeOf found (program_by scripts)

-- where and why scripts are refused, unless memory ran out
abbrev pub refusal_in : CheckFault → Option Refusal
refusal_in (fault.Unknown file place) = Some (record { file = file; place = place; kind = kind.Unknown })
refusal_in (fault.Twice file place) = Some (record { file = file; place = place; kind = kind.Twice })
refusal_in (fault.WrongType file place) = Some (record { file = file; place = place; kind = kind.WrongType })
refusal_in (fault.Field file place) = Some (record { file = file; place = place; kind = kind.Field })
refusal_in (fault.Recursive file place) = Some (record { file = file; place = place; kind = kind.Recursive })
refusal_in (fault.NotConst file place) = Some (record { file = file; place = place; kind = kind.NotConst })
refusal_in (fault.FixedGlobal file place) = Some (record { file = file; place = place; kind = kind.FixedGlobal })
refusal_in (fault.Arguments file place) = Some (record { file = file; place = place; kind = kind.Arguments })
refusal_in (fault.Return file place) = Some (record { file = file; place = place; kind = kind.Return })
refusal_in (fault.Break file place) = Some (record { file = file; place = place; kind = kind.Break })
refusal_in (fault.Attribute file place) = Some (record { file = file; place = place; kind = kind.Attribute })
refusal_in (fault.Format file place) = Some (record { file = file; place = place; kind = kind.Format })
refusal_in fault.NoMemory = None
