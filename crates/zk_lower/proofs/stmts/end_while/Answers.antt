use Rattle.std.proofs.Common.{rules, ◌∷◌, ap, ◌∙◌}
use Rattle.zk_lower.specs.Code as op
use Rattle.zk_lower.proofs.Emission.{on_ok}
use Rattle.zk_lower.proofs.Seams.{while_ended}
use Rattle.zk_lower.proofs.stmts.end_while.Goals as goal

pub returns : goal.returns
returns c = on_ok c.put.result (λ e body test old was all brk nxt. e ∙ (ap (λ list. op.Tick c.args.place ∷ list) (search rules) ∙ while_ended c.args.place body test old c.args.tail.now c.replace.new.self was c.args.ways.break_at c.args.ways.next_at c.saturating_sub-back.result all brk nxt (search rules) (search rules))) c.put.ensures
