-- The exit status of each ending, and the names of what a script is refused for.
use Rattle.std.specs.Prelude.{ℕ, List, codes}
use Rattle.zk_base.specs.declared.endings.Ending.{Ending}
use Rattle.zk_base.specs.declared.endings.Ending.TheVariants.{Done, Usage, ScriptRefused, NoInput, CaptureRefused, CutShort, ReadFault, WriteFault, NoMemory, Flood}
use Rattle.zk_base.specs.declared.endings.ScriptKind.{ScriptKind}
use Rattle.zk_base.specs.declared.endings.ScriptKind.TheVariants as kind

abbrev pub exit_status : Ending → ℕ
exit_status Done = 0
exit_status (Usage word) = 1
exit_status (ScriptRefused file place kind) = 2
exit_status (CaptureRefused name place) = 3
exit_status (CutShort name place) = 4
exit_status ReadFault = 5
exit_status WriteFault = 6
exit_status NoMemory = 7
exit_status (Flood moment) = 8
exit_status (NoInput name) = 9

-- the bare name of a kind
abbrev pub kind_name : ScriptKind → List ℕ
kind_name kind.TooLarge = codes "TooLarge"
kind_name kind.TooMany = codes "TooMany"
kind_name kind.BadByte = codes "BadByte"
kind_name kind.OpenString = codes "OpenString"
kind_name kind.BigNumber = codes "BigNumber"
kind_name kind.NoTree = codes "NoTree"
kind_name kind.Unknown = codes "Unknown"
kind_name kind.Twice = codes "Twice"
kind_name kind.WrongType = codes "WrongType"
kind_name kind.Field = codes "Field"
kind_name kind.Recursive = codes "Recursive"
kind_name kind.NotConst = codes "NotConst"
kind_name kind.FixedGlobal = codes "FixedGlobal"
kind_name kind.Arguments = codes "Arguments"
kind_name kind.Return = codes "Return"
kind_name kind.Break = codes "Break"
kind_name kind.Attribute = codes "Attribute"
kind_name kind.Format = codes "Format"
