use Rattle.std.proofs.Common.{refl}
use Rattle.zk_conn.proofs.StandingLemmas.{stands_empty}
use Rattle.zk_conn.proofs.conns.Conns.new.Goals as goal

pub returns : goal.returns
returns c = stands_empty _ c.new.ensures.empty c.new-2.ensures.empty c.new-3.ensures.empty c.new-4.ensures.filings c.new-4.ensures.firsts refl
