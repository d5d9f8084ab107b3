-- What a computation of zk_typed on values alone comes to.
use Rattle.std.specs.Prelude.{◌≡◌, Result, Ok, Err}
use Rattle.zk_tree.specs.declared.place.Place.{Place}
use Rattle.zk_tree.specs.Value as plain
use Rattle.zk_typed.specs.Does.{Does, pure, fault}
use Rattle.zk_value.specs.Plain.{value_of}
use Rattle.zk_value.specs.declared.value.Value.{Value}
use Rattle.zk_builtin.specs.declared.fault.OperatorFault.{OperatorFault}
use Rattle.zk_builtin.specs.declared.fault.OperatorFault.TheVariants.{Fault, NoMemory}

-- It gives exactly this value and changes nothing, or it is at fault with exactly this kind, at whatever place. Want of
-- memory alone is free.
abbrev pub Computes : Result Value OperatorFault → (Place → Does plain.Value) → Type 0
Computes (Ok value) does = (place : Place) → does place ≡ pure (value_of value)
Computes (Err (Fault kind)) does = (place : Place) → does place ≡ fault kind place
Computes (Err NoMemory) does = Unit {0}
