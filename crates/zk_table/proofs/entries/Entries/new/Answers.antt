use Rattle.std.proofs.Common.{◌≡◌, refl, ap, []}
use Rattle.std.specs.Map.{lookup}
use Rattle.zk_tree.specs.Table as plain
use Rattle.zk_value.specs.contracts.key.KeyPartialEq.TheImpl as key_eq
use Rattle.zk_table.specs.Kept.{order_at}
use Rattle.zk_table.specs.Slots.{entries_in}
use Rattle.zk_table.proofs.OperationLemmas.{kept-new}
use Rattle.zk_table.proofs.entries.Entries.new.Goals as goal

pub returns-clause-kept : goal.returns-clause-kept
unfolding order_at
returns-clause-kept c =
    kept-new (record { alloc = c.args.alloc; expiry = c.args.expiry; insertions = 0; live = 0; slots = c.new.result; orders = c.new-2.result; firsts = c.new-3.result; recent = c.new-4.result })
    c.new.ensures.items c.new-3.ensures.items (λ key. ap (λ es. lookup ((key_eq.ghosts).eq key) es) c.new-2.ensures.empty) refl

pub returns-clause-table : goal.returns-clause-table
unfolding entries_in
returns-clause-table c =
    ap (λ xs. let t : plain.Table = record { expiry = c.args.expiry; insertions = 0; entries = entries_in xs } in t) c.new.ensures.items
