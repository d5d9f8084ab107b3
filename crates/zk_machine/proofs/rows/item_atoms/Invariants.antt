use Rattle.std.proofs.Common.{◌≡◌, map, take}
use Rattle.zk_typed.specs.Columns.{atom}
use Rattle.zk_value.specs.Plain.{key_of}
use Rattle.zk_machine.specs.State.{atom_of}
use Rattle.zk_machine.proofs.rows.item_atoms.Given as goal

abbrev pub invariant-loop-item : goal.invariant-loop-item
invariant-loop-item l = map atom_of l.atoms.items ≡ map atom (key_of (take l.item-index l.items))
