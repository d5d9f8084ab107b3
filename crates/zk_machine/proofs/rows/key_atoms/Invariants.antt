use Rattle.std.proofs.Common.{◌≡◌, map, take}
use Rattle.zk_typed.specs.Columns.{first_atoms}
use Rattle.zk_value.specs.Plain.{key_of}
use Rattle.zk_machine.specs.State.{atom_of}
use Rattle.zk_machine.proofs.rows.key_atoms.Given as goal

abbrev pub invariant-loop-key : goal.invariant-loop-key
invariant-loop-key l = map atom_of l.atoms.items ≡ first_atoms (map key_of (take l.key-index l.keys))
