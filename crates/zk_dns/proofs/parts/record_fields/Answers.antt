use Rattle.zk_dns.proofs.ReadLemmas.{resource-within, read-before}
use Rattle.zk_dns.specs.Sections.{resource_at}
use Rattle.zk_dns.proofs.parts.record_fields.Goals as goal

pub own_end-requires : goal.own_end-requires
unfolding resource_at
own_end-requires c = read-before _ _ c.requires

pub returns-clause-within : goal.returns-clause-within
returns-clause-within c = resource-within _ _ _ c.requires c.own_end.ensures
