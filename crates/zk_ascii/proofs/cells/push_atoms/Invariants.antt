use Rattle.std.proofs.Common.{◌≡◌, ◌∷◌, ◌++◌, take, flat_map}
use Rattle.zk_value.specs.declared.cell.Atom.{Atom}
use Rattle.zk_ascii.specs.Text.{element_text}
use Rattle.zk_ascii.proofs.cells.push_atoms.Given as goal

abbrev pub invariant-loop-atom : goal.invariant-loop-atom
invariant-loop-atom l = l.out.items ≡ l.initial.out.items ++ flat_map (λ (atom : Atom). 44 ∷ element_text atom) (take l.atom-index l.rest)
