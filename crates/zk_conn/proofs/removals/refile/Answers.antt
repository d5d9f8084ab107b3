use Rattle.std.proofs.Common.{length, ◌-◌, ◌/◌, ◌<◌, arith}
use Rattle.zk_conn.proofs.RemovalLemmas.{all_beyond, refreshed_up, refreshed_same, refreshed_top, same_length}
use Rattle.zk_conn.proofs.removals.refile.Goals as goal

pub loop-at-preserved : goal.loop-at-preserved
loop-at-preserved c =
    let kept = same_length c.args.filings.now c.loop-at.firsts c.loop-at.at in
    let long : (c.loop-at.at - 1) / 2 < length c.refresh.new.firsts = rw c.refresh.ensures.found (omega (arith, kept, c.loop-at.invariant.0)) in (
      long,
      λ all. rw c.refresh.ensures.found
          (refreshed_up c.args.filings.now c.loop-at.firsts c.loop-at.at c.loop-at.invariant.0 (omega arith) (c.loop-at.invariant.1 all)),
    )

pub returns : goal.returns
returns c = λ all.
    rw c.refresh-2.ensures.found
    (refreshed_top c.args.filings.now c.loop-at.firsts c.loop-at.at c.loop-at.invariant.0 (omega arith) (c.loop-at.invariant.1 all))

pub returns-then-refresh : goal.returns-then-refresh
returns-then-refresh c = λ all.
    rw c.refresh.ensures.found
    (refreshed_same c.args.filings.now c.loop-at.firsts c.loop-at.at (c.refresh.ensures.known c.if-refresh.true) (c.loop-at.invariant.1 all))

pub returns-then-slot-firsts : goal.returns-then-slot-firsts
returns-then-slot-firsts c = all_beyond c.args.filings.now c.args.firsts.now c.args.slot (omega arith)
