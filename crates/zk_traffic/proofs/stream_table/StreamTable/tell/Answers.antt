use Rattle.std.proofs.Common.{ap, ◌∙◌}
use Rattle.indexmap.specs.IndexMap as indexed
use Rattle.std.specs.Prelude.{nat_eq}
use Rattle.zk_traffic.specs.StreamTable.{entry_at}
use Rattle.zk_traffic.specs.Taken.{segment_of}
use Rattle.zk_traffic.proofs.StreamTableLemmas.{none_has, takes_none}
use Rattle.zk_traffic.proofs.stream_table.StreamTable.tell.Goals as goal

pub returns-in-None-clause-taken : goal.returns-in-None-clause-taken
unfolding entry_at
returns-in-None-clause-taken c = λ t talk has syn side stops was within.
    let none = c.in-None.ensures.none in
    let nothing = none_has c.args.self.now.limit _ talk none has in
    takes_none c.args.self.now.limit c.args.conn talk (segment_of t c.args.segment.now) c.args.self.now _ c.args.news.now nothing.0 nothing.1 nothing.2 (syn none)
    (ap (λ m. indexed.get nat_eq m c.args.conn.0) c.find.ensures.streams ∙ none) c.find.ensures.kept
