use Rattle.std.proofs.Common.{subst, IsOk}
use Rattle.zk_dns.proofs.ContentLemmas.{internet-data, other-data, same-told}
use Rattle.zk_dns.proofs.content.what.Goals as goal

pub what_by_type-requires-clause-read : goal.what_by_type-requires-clause-read
what_by_type-requires-clause-read c = subst IsOk (internet-data _ _ _ _ _ c.if-rclass-eq-INTERNET.true) c.requires.read

pub returns-then-rclass-eq-INTERNET : goal.returns-then-rclass-eq-INTERNET
returns-then-rclass-eq-INTERNET c =
    same-told _ _ _ (internet-data _ _ _ _ _ c.if-rclass-eq-INTERNET.true) c.what_by_type.ensures

pub returns-else-rclass-eq-INTERNET : goal.returns-else-rclass-eq-INTERNET
returns-else-rclass-eq-INTERNET c = other-data _ _ _ _ _ c.if-rclass-eq-INTERNET.false
