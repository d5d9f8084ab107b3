use Rattle.zk_units.proofs.HttpReaderLemmas.{each_side}
use Rattle.zk_units.proofs.dns.DnsReader.new.Goals as goal

pub returns-clause-held : goal.returns-clause-held
returns-clause-held c = each_side _ c.new.ensures.held c.new-2.ensures.held
