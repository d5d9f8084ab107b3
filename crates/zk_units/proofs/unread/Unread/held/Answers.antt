use Rattle.std.proofs.Common.{length, ap, arith}
use Rattle.zk_units.proofs.UnreadLemmas.{bytes_within}
use Rattle.zk_units.proofs.unread.Unread.held.Goals as goal

pub returns-clause-within : goal.returns-clause-within
returns-clause-within c = omega (arith, ap length c.as_slice.ensures, bytes_within c.args.self.now)
