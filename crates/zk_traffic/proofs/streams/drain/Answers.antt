use Rattle.std.proofs.Common.{subst}
use Rattle.zk_traffic.specs.Moves.{IsTaken}
use Rattle.zk_traffic.proofs.StreamLemmas.{adds_behind, drained, gets_behind}
use Rattle.zk_traffic.proofs.streams.drain.Goals as goal

pub loop-next-preserved : goal.loop-next-preserved
loop-next-preserved c = λ base limit told stands within.
    let so_far = c.loop-next.invariant base limit told stands within in
    let got = subst (λ o. IsTaken c.args.conn c.args.side base limit told c.loop-next.place o c.take_run.new.stream c.loop-next.news c.take_run.new.news c.loop-next.readers c.take_run.new.readers) c.in-Some.is
    (c.in_ok-next.ensures.taken base limit told so_far.stands so_far.within) in
    record {
      stands = got.2;
      within = got.1;
      adds = λ new rest. so_far.adds new (adds_behind c.args.conn c.args.side base limit told c.loop-next.place c.in-Some.next c.loop-next.news c.take_run.new.news new got.0 got.3 rest);
      gets = λ new rest. so_far.gets new (gets_behind c.args.side base limit told c.loop-next.place c.in-Some.next c.loop-next.readers c.take_run.new.readers new got.0 got.4 rest);
    }

pub returns : goal.returns
returns c = λ base limit told stands within.
    let so_far = c.loop-next.invariant base limit told stands within in
    let got = subst (λ o. IsTaken c.args.conn c.args.side base limit told c.loop-next.place o c.take_run.new.stream c.loop-next.news c.take_run.new.news c.loop-next.readers c.take_run.new.readers) c.in_default.is
    (c.in_ok-next.ensures.taken base limit told so_far.stands so_far.within) in
    drained c.args.conn c.args.side base limit told c.args.front c.loop-next.place c.take_run.new.stream c.args.news.now c.loop-next.news c.take_run.new.news c.args.readers.now c.loop-next.readers c.take_run.new.readers
    got.0 got.1 got.2 so_far.adds got.3 so_far.gets
