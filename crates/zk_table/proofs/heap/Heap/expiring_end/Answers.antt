use Rattle.std.proofs.Common.{◌≡◌, None, sym, ap, ◌∙◌, arith}
use Rattle.zk_table.specs.Dues.{Held, due_at, table_at}
use Rattle.zk_table.proofs.DueLemmas.{none-beyond}
use Rattle.zk_table.proofs.heap.Heap.expiring_end.Goals as goal

pub returns-clause-dues : goal.returns-clause-dues
returns-clause-dues c = λ number past.
    let s = c.self.inside in
    ap (λ (held : Held). due_at held.objects number) (sym c.self.view_is)
    ∙ none-beyond s.watched.unwatched.items s.watched.objects s.firsts.items number c.self.invariant (omega (arith, past, s.firsts.ok.0))

pub returns-clause-expiry : goal.returns-clause-expiry
returns-clause-expiry c = λ number table past there.
    let s = c.self.inside in
    let is = ap (λ (held : Held). table_at held.objects number) c.self.view_is ∙ there in
    (c.self.invariant.beyond number table (omega (arith, past, s.firsts.ok.0)) is).expiry
