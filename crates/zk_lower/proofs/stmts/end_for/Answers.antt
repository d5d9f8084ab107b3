use Rattle.std.proofs.Common.{rules, ◌∷◌, ◌-◌, ap, ◌∙◌, length}
use Rattle.std.specs.Prelude.{slice_set}
use Rattle.zk_lower.specs.View.{begin_of, next_of}
use Rattle.zk_lower.proofs.Emission.{on_ok}
use Rattle.zk_lower.proofs.Seams.{for_ended}
use Rattle.zk_lower.proofs.stmts.end_for.Goals as goal

pub returns : goal.returns
returns c = on_ok c.put.result (λ e body old all brk nxt.
    e ∙ (ap (λ one. one ∷ c.put_jump.new.self) c.begin.ensures ∙ (ap (λ list. begin_of c.args.walk c.args.place ∷ list) c.in_ok-put_jump.ensures ∙
    for_ended (begin_of c.args.walk c.args.place) (next_of c.args.walk c.args.place c.args.names.now) body old c.args.tail.now c.replace.new.self c.args.ways.break_at c.args.ways.next_at c.saturating_sub-back.result all brk nxt (search rules)
    (λ lt. c.replace.ensures lt ∙ ap (λ one. slice_set c.args.tail.now (length c.args.tail.now - 1 - c.args.ways.break_at) one) (c.next.ensures ∙ ap (λ names. next_of c.args.walk c.args.place names c.saturating_sub-back.result) c.in_ok-names.ensures))))) c.put.ensures
