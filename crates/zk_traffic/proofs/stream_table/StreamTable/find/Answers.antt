use Rattle.std.proofs.Common.{◌≡◌, Some, nat_eq, slice_get, subst, sym}
use Rattle.indexmap.specs.IndexMap as indexed
use Rattle.zk_traffic.specs.StreamTable.{entry_at}
use Rattle.zk_traffic.proofs.StreamTableLemmas.{found_entry}
use Rattle.zk_traffic.proofs.stream_table.StreamTable.find.Goals as goal

pub returns-clause-there : goal.returns-clause-there
unfolding entry_at
returns-clause-there c =
    let index = c.in_ok-index.index in
    let number = c.args.conn.0 in
    let at = found_entry c.args.self.now index number c.in_ok-index.field-0-1.now c.in_ok-index.field-0-2.now (sym c.in_ok-index.ensures.key) (sym c.in_ok-index.ensures.value) c.in_ok-index.ensures.entry in (
      at.0,
      subst (λ m. slice_get m.entries index ≡ Some (number, at.0)) (sym c.note.ensures.streams) at.1,
      subst (λ m. indexed.get nat_eq m number ≡ Some at.0) (sym c.note.ensures.streams) at.2,
    )
