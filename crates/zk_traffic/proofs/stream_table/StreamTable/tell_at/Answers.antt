use Rattle.std.proofs.Common.{◌+◌, ◌<◌, ◌^◌, subst, arith}
use Rattle.std.specs.Cmp.{nat_eq_equiv}
use Rattle.std.specs.Option.{SomeIff}
use Rattle.indexmap.proofs.CallerLemmas.{updates-with_value_at}
use Rattle.zk_base.specs.declared.network.Side.TheVariants.{Orig, Resp}
use Rattle.zk_traffic.specs.Conversation.{direction_with}
use Rattle.zk_traffic.specs.Kept.{held_by, held_in}
use Rattle.zk_traffic.specs.StreamTable.{entry_at}
use Rattle.zk_traffic.specs.Taken.{segment_of}
use Rattle.zk_traffic.proofs.StreamTableLemmas.{apart_eq, held_is, kept_as, same_streams, some_has, some_sum, stand_entry, takes_some}
use Rattle.zk_traffic.specs.Reading.{held_in as reader_held}
use Rattle.zk_traffic.proofs.stream_table.StreamTable.tell_at.Goals as goal

pub returns-clause-others : goal.returns-clause-others
unfolding entry_at
returns-clause-others c = λ number apart.
    (updates-with_value_at c.args.self.now.streams c.args.index c.read.new.self nat_eq_equiv c.pair_mut-streams.ensures.unique c.args.conn.0 c.requires.there.0 c.requires.there.1).2 number (apart_eq c.args.conn.0 number apart)

pub returns-clause-taken : goal.returns-clause-taken
unfolding entry_at
returns-clause-taken c = λ t talk has side stops was within.
    let limit = c.args.self.now.limit in
    let s = segment_of t c.args.segment.now in
    let streams = c.pair_mut-streams.result.1 in
    let held = stand_entry c.args.self.now c.args.index c.args.conn.0 c.pair_mut-streams.result.0.now streams.now c.requires.there c.pair_mut-streams.ensures.value in
    let are = some_has limit _ streams.now talk held.1 has in
    let taken = c.in_ok-moves.ensures t talk are.0 side stops was in
    let before = some_sum c.kept.result (held_in limit talk) c.in_ok-before.before (kept_as c.kept.result _ (held_in limit talk) (held_is limit talk streams.now.readers are.1) (c.kept.ensures limit talk.orig talk.resp are.0)) c.in_ok-before.ensures.ok_part in
    let after = some_sum c.kept-2.result (held_by limit (direction_with talk s Orig) + held_by limit (direction_with talk s Resp) + (reader_held Orig c.read.new.self.readers + reader_held Resp c.read.new.self.readers)) c.in_ok-after.after
    (c.kept-2.ensures limit (direction_with talk s Orig) (direction_with talk s Resp) (same_streams limit talk s c.take.new.self c.read.new.self c.read.ensures.streams taken.stands)) c.in_ok-after.ensures.ok_part in
    let sum = c.in_ok-self.ensures.ok_part in
    let add = c.checked_add.ensures in
    let written = updates-with_value_at c.args.self.now.streams c.args.index c.read.new.self nat_eq_equiv c.pair_mut-streams.ensures.unique c.args.conn.0 streams.now held.0 in
    takes_some limit c.args.conn talk s c.in_ok-moves.moves c.args.self.now _ streams.now c.take.new.self c.read.new.self c.args.news.now c.take.new.news c.read.new.news c.args.side c.in_ok-before.before c.in_ok-after.after
    taken are.1 side c.read.ensures.streams c.read.ensures.news c.in_ok-read.ensures.units written.1 before after within
    (let now = subst (λ o. SomeIff o (c.saturating_sub-others.result + c.in_ok-after.after < 2 ^ 64) (c.saturating_sub-others.result + c.in_ok-after.after)) sum add in omega (arith, now.1, c.saturating_sub-others.ensures))
