use Rattle.std.proofs.Common.{sym, ap, ◌∙◌}
use Rattle.zk_tree.specs.Table.{renews}
use Rattle.zk_table.proofs.OperationLemmas.{assigned-moment, assigned-value}
use Rattle.zk_table.proofs.entries.Entries.assign.Goals as goal

pub returns-then-renews : goal.returns-then-renews
returns-then-renews c = λ key kept found.
    let rewrites = c.set_value.ensures.rewrites found.order found.stored found.there in
    assigned-moment c.args.self.now key c.args.place c.args.now c.args.value kept found c.set_value.new.self c.renew.new.self
    rewrites c.renew.ensures (ap renews (sym rewrites.expiry) ∙ sym c.if-renews.ensures)

pub returns-else-renews : goal.returns-else-renews
returns-else-renews c = λ key kept found.
    let rewrites = c.set_value.ensures.rewrites found.order found.stored found.there in
    assigned-value c.args.self.now key c.args.place c.args.now c.args.value kept found c.set_value.new.self
    rewrites (ap renews (sym rewrites.expiry) ∙ sym c.if-renews.ensures)
