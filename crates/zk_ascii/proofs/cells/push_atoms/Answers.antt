use Rattle.zk_ascii.proofs.TextLemmas.{atoms_whole}
use Rattle.zk_ascii.proofs.cells.push_atoms.Goals as goal

pub returns : goal.returns
returns c =
    atoms_whole c.args.atoms.now c.first-item.result c.loop-atom.atom-index c.args.out.now.items c.push_element.new.out.items c.loop-atom.out.items
    c.in-len1-up.len_at_least c.first-item.is c.loop-atom-test.false c.in_ok-push_element.ensures c.loop-atom.invariant
