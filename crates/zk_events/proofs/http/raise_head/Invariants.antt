use Rattle.std.proofs.Common.{take, fold}
use Rattle.zk_events.specs.Becomes.{Becomes}
use Rattle.zk_events.specs.Http.{header_raises}
use Rattle.zk_events.proofs.http.raise_head.Given as goal

abbrev pub invariant-loop-header : goal.invariant-loop-header
invariant-loop-header l = Becomes l.initial.machine l.machine (λ program world. fold (header_raises l.c l.side) world (take l.header-index l.header-items))
