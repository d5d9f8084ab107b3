use Rattle.std.proofs.Common.{arith}
use Rattle.zk_units.proofs.UnreadLemmas.{length-places}
use Rattle.zk_units.proofs.unread.Unread.len.Goals as goal

pub returns : goal.returns
returns c = omega (arith, length-places c.args.self.now, c.held.ensures.bytes)
