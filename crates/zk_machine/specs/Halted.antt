-- What stops a statement whose operator gives no value.
use Rattle.zk_builtin.specs.declared.fault.OperatorFault.{OperatorFault}
use Rattle.zk_builtin.specs.declared.fault.OperatorFault.TheVariants as operator
use Rattle.zk_machine.specs.declared.halt.Halt.{Halt}
use Rattle.zk_machine.specs.declared.halt.Halt.TheVariants as halt

abbrev pub halted_by : OperatorFault → Halt
halted_by (operator.Fault kind) = halt.Fault kind
halted_by operator.NoMemory = halt.NoMemory
