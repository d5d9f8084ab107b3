use Rattle.std.proofs.Common.{arith, length-take}
use Rattle.std.proofs.lemmas.List.{take_rest}
use Rattle.zk_dns.proofs.ContentLemmas.{strings-done, strings-step}
use Rattle.zk_dns.proofs.content.strings.Goals as goal

pub slice_bounds-copy_of-end : goal.slice_bounds-copy_of-end
slice_bounds-copy_of-end c =
    let step = strings-step _ _ _ _ _ c.in-Some.ensures.cases.0 c.loop-len.invariant.rest c.loop-len.invariant.all in
    omega (arith, step.0, c.from-len.ensures, length-take c.from-len.result c.in-Some.behind.now)

pub slice_bounds-rest-count : goal.slice_bounds-rest-count
slice_bounds-rest-count c =
    let step = strings-step _ _ _ _ _ c.in-Some.ensures.cases.0 c.loop-len.invariant.rest c.loop-len.invariant.all in
    omega (arith, step.0, c.from-len.ensures)

pub slice_bounds-rest-start : goal.slice_bounds-rest-start
slice_bounds-rest-start c =
    let step = strings-step _ _ _ _ _ c.in-Some.ensures.cases.0 c.loop-len.invariant.rest c.loop-len.invariant.all in
    omega (arith, step.0, c.from-len.ensures)

pub loop-len-preserved : goal.loop-len-preserved
loop-len-preserved c =
    let step = strings-step _ _ _ _ _ c.in-Some.ensures.cases.0 c.loop-len.invariant.rest c.loop-len.invariant.all in
    rw (take_rest, c.in_ok-push.ensures.items, c.in_ok-copy_of.ensures, c.from-len.ensures) (record { rest = step.1; all = step.2 })

pub returns : goal.returns
returns c = rw c.from.ensures (strings-done _ _ _ c.in_default.ensures.cases c.loop-len.invariant.all)
