use Rattle.std.proofs.Common.{refl}
use Rattle.zk_units.proofs.UnreadLemmas.{same-places}
use Rattle.zk_units.proofs.unread.Unread.end.Goals as goal

pub returns-clause-places : goal.returns-clause-places
returns-clause-places c = same-places c.args.self.now _ refl refl refl refl
