use Rattle.std.proofs.Common.{sym}
use Rattle.zk_dns.proofs.ReadLemmas.{own-end, own-refused}
use Rattle.zk_dns.proofs.parts.own_end.Goals as goal

pub unreachable-requires : goal.unreachable-requires
unreachable-requires c = own-refused _ _ _ _ c.requires (sym (rw c.whole.ensures at c.in-Err.ensures.exact))

pub returns : goal.returns
returns c = rw c.behind_ending.ensures (own-end _ _ _ _ c.requires (sym (rw c.whole.ensures at c.in-Ok.ensures.exact)))
