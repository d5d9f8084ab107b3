use Rattle.zk_traffic.proofs.NewLemmas.{current_new}
use Rattle.zk_traffic.proofs.table.Table.new.Goals as goal

pub returns : goal.returns
returns c = λ t. current_new (record { alloc = c.args.alloc; conns = c.new.result; streams = c.new-2.result }) c.args.limit t c.new.ensures c.new-2.ensures.limit c.new-2.ensures.entries c.new-2.ensures.kept
