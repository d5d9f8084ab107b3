use Rattle.zk_dns.proofs.ContentLemmas.{soa-first, soa-places, soa-second}
use Rattle.zk_dns.proofs.content.soa_places.Goals as goal

pub own_end-between-requires : goal.own_end-between-requires
own_end-between-requires c = soa-first _ _ _ c.requires.whole c.requires.read

pub own_end-requires : goal.own_end-requires
own_end-requires c = soa-second _ _ _ _ c.requires.whole c.requires.read c.own_end-between.ensures

pub returns : goal.returns
returns c =
    let is = soa-places _ _ _ _ _ c.requires.whole c.requires.read c.own_end-between.ensures c.own_end.ensures in
    record { first = soa-first _ _ _ c.requires.whole c.requires.read; second = is.0; within = is.1; says = is.2 }
