use Rattle.zk_ascii.proofs.TextLemmas.{cells_whole}
use Rattle.zk_ascii.proofs.cells.push_cells.Goals as goal

pub returns : goal.returns
returns c =
    cells_whole c.args.cells.now c.first-item.result c.loop-cell.cell-index c.args.out.now.items c.push_cell.new.out.items c.loop-cell.out.items
    c.in-len1-up.len_at_least c.first-item.is c.loop-cell-test.false c.in_ok-push_cell.ensures c.loop-cell.invariant
