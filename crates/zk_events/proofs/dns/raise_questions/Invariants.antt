use Rattle.std.proofs.Common.{take, fold}
use Rattle.zk_events.specs.Becomes.{Becomes}
use Rattle.zk_events.specs.Dns.{question_raises}
use Rattle.zk_events.proofs.dns.raise_questions.Given as goal

abbrev pub invariant-loop-question : goal.invariant-loop-question
invariant-loop-question l = Becomes l.initial.machine l.machine (λ program world. fold (question_raises l.c l.msg) world (take l.question-index l.questions))
