use Rattle.std.proofs.Common.{refl}
use Rattle.zk_pcap.proofs.StandingLemmas.{first_within, stands_behind_some}
use Rattle.zk_pcap.proofs.feed.Feed.advance.Goals as goal

pub take-requires : goal.take-requires
take-requires c = first_within c.args.self.now c.first_len-n.result c.requires c.first_len-n.ensures

pub returns : goal.returns
returns c header file packets packet stands at =
    stands_behind_some c.args.self.now (record { big = c.args.self.now.big; nano = c.args.self.now.nano; place = c.saturating_add-self.result; held = c.take.new.self })
    c.first_len-n.result header file packets packet stands at c.requires c.first_len-n.ensures refl refl c.saturating_add-self.ensures c.take.ensures
