-- What a built-in function gives that takes no memory.
use Rattle.std.specs.Prelude.{◌≡◌, Result, Ok, Err}
use Rattle.zk_tree.specs.Value as plain
use Rattle.zk_value.specs.Plain.{value_of}
use Rattle.zk_value.specs.declared.value.Value.{Value}
use Rattle.zk_builtin.specs.declared.fault.BuiltinFault.{BuiltinFault}

-- It is this value. A fault would say nothing.
abbrev pub GivesValue : Result Value BuiltinFault → plain.Value → Type 0
GivesValue (Ok value) one = value_of value ≡ one
GivesValue (Err fault) one = Unit {0}
