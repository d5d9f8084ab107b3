use Rattle.std.proofs.Common.{take, fold}
use Rattle.zk_events.specs.Becomes.{Becomes}
use Rattle.zk_events.specs.Dns.{answer_raises}
use Rattle.zk_events.proofs.dns.raise_answers.Given as goal

abbrev pub invariant-loop-answer : goal.invariant-loop-answer
invariant-loop-answer l = Becomes l.initial.machine l.machine (λ program world. fold (answer_raises program l.c l.msg) world (take l.answer-index l.answers))
