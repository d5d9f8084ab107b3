use Rattle.std.proofs.Common.{◌++◌, refl, ap, ◌∙◌}
use Rattle.zk_units.proofs.UnreadLemmas.{add-bytes, on_both, same-places}
use Rattle.zk_units.proofs.unread.Unread.add_bytes.Goals as goal

pub returns-clause-places : goal.returns-clause-places
returns-clause-places c =
    add-bytes c.args.self.now _ c.args.bytes.now refl refl refl (c.append.ensures.bytes ∙ ap (λ l. l ++ c.args.bytes.now) c.in_ok-reserve.ensures.same)

pub returns-in_err-reserve-clause-memory : goal.returns-in_err-reserve-clause-memory
returns-in_err-reserve-clause-memory c = on_both _ (same-places c.args.self.now _ refl refl refl c.reserve.ensures.same) refl
