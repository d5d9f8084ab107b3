-- The words of the command line, and the exit status where they can't be had.
use Rattle.std.specs.Prelude.{ℕ, List, map, drop, string_bytes}
use Rattle.std.specs.declared.io.ErrorKind.{ErrorKind}
use Rattle.std.specs.declared.io.ErrorKind.TheVariants.{OutOfMemory}
use Rattle.std.specs.declared.string.String.{String}
use Rattle.zk_base.specs.Ending as ending
use Rattle.zk_base.specs.declared.endings.Ending.TheVariants as Ending
use Rattle.zk_system.specs.declared.arguments.ArgumentFault.{ArgumentFault}
use Rattle.zk_system.specs.declared.arguments.ArgumentFault.TheVariants.{NoMemory, NotText}

abbrev pub fault_of : ErrorKind → ArgumentFault
fault_of OutOfMemory = NoMemory
fault_of _ = NotText

abbrev pub exit_status : ArgumentFault → ℕ
exit_status NoMemory = ending.exit_status Ending.NoMemory
exit_status NotText = 10

-- the first argument is the program's own name
abbrev pub words_behind_name : {A : Type 0} → List (String A) → List (List ℕ)
words_behind_name arguments = map string_bytes (drop 1 arguments)
