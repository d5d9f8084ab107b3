-- What a built-in function gives.
use Rattle.std.specs.Prelude.{◌≡◌, ℕ, ◌<◌, ◌≤◌, List, length, Result, Ok, Err}
use Rattle.zk_tree.specs.Value as plain
use Rattle.zk_value.specs.Plain.{value_of}
use Rattle.zk_value.specs.declared.value.Value.{Value}
use Rattle.zk_builtin.specs.declared.fault.BuiltinFault.{BuiltinFault}
use Rattle.zk_builtin.specs.declared.fault.BuiltinFault.TheVariants.{TooLong, NoMemory}

-- the length of the longest string
abbrev pub longest : ℕ
longest = 1_048_576

-- It is the string of this text. `TooLong` comes exactly where that is longer than the longest string, and only
-- want of memory is free.
abbrev pub GivesText : Result Value BuiltinFault → List ℕ → Type 0
GivesText (Ok value) text = (value_of value ≡ plain.String text) × (length text ≤ longest)
GivesText (Err TooLong) text = longest < length text
GivesText (Err NoMemory) text = Unit {0}

-- It is the string of this text, whatever its length. Only want of memory is free.
abbrev pub IsText : Result Value BuiltinFault → List ℕ → Type 0
IsText (Ok value) text = value_of value ≡ plain.String text
IsText (Err fault) text = fault ≡ NoMemory
