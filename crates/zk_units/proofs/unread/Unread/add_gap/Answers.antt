use Rattle.std.proofs.Common.{refl, arith}
use Rattle.zk_units.proofs.UnreadLemmas.{add-first_gap, add-gap, on_both, same-places}
use Rattle.zk_units.proofs.unread.Unread.add_gap.Goals as goal

pub returns-then-self-eq0-clause-places : goal.returns-then-self-eq0-clause-places
returns-then-self-eq0-clause-places c = add-first_gap c.args.self.now _ c.args.places c.if-self-eq0.true (omega arith) refl refl refl refl

pub returns-clause-places : goal.returns-clause-places
returns-clause-places c = add-gap c.args.self.now _ c.args.places (omega arith) refl refl c.in_ok-push_back.ensures.items refl

pub returns-in_err-push_back-clause-memory : goal.returns-in_err-push_back-clause-memory
returns-in_err-push_back-clause-memory c = on_both _ (same-places c.args.self.now _ refl refl c.in_err-push_back.ensures.items refl) refl
