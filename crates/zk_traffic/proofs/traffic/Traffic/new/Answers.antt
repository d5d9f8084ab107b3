use Rattle.std.proofs.Common.{[], refl}
use Rattle.zk_base.specs.NetworkTime.{now}
use Rattle.zk_traffic.proofs.OpenLemmas.{stands_new}
use Rattle.zk_traffic.proofs.traffic.Traffic.new.Goals as goal

pub returns-clause-stands : goal.returns-clause-stands
returns-clause-stands c = stands_new _ c.args.options c.args.link refl refl refl refl c.new.ensures.empty (c.new-2.ensures.table (now [])) c.new-2.ensures.items c.new-2.ensures.news
