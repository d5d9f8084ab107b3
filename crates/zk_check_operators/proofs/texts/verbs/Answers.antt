use Rattle.std.proofs.Common.{ℕ, ◌+◌, List, drop, ap, sym, ◌∙◌}
use Rattle.std.proofs.lemmas.List.{at_drop_more}
use Rattle.zk_check_operators.specs.Verbs.{after, verbs_in}
use Rattle.zk_check_operators.proofs.texts.verbs.Goals as goal

pub loop-byte-preserved : goal.loop-byte-preserved
loop-byte-preserved c =
    let left : List ℕ = drop (c.loop-byte.byte-index + 1) c.args.text.now in
    let step = rw c.in-Some.is at c.in_ok-step.ensures in
    sym (step left)
    ∙ sym (at_drop_more (λ rest. after c.loop-byte.found.items (verbs_in c.loop-byte.behind rest)) c.args.text.now c.loop-byte.byte-index 0 c.loop-byte-test.true)
    ∙ c.loop-byte.invariant

pub returns-in-None : goal.returns-in-None
returns-in-None c =
    let left : List ℕ = drop (c.loop-byte.byte-index + 1) c.args.text.now in
    let step = rw c.in-None.is at c.in_ok-step.ensures in
    ap (after c.loop-byte.found.items) (sym (step left))
    ∙ sym (at_drop_more (λ rest. after c.loop-byte.found.items (verbs_in c.loop-byte.behind rest)) c.args.text.now c.loop-byte.byte-index 0 c.loop-byte-test.true)
    ∙ c.loop-byte.invariant
