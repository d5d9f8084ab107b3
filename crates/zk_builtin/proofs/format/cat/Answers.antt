use Rattle.std.proofs.Common.{◌++◌, ◌+◌, ◌<◌, length, sym, ap, ◌∙◌, arith, ltb}
use Rattle.std.proofs.lemmas.Bool.Decides.{Decides-ltb}
use Rattle.zk_typed.specs.Text.{text_of}
use Rattle.zk_value.specs.Plain.{value_of}
use Rattle.zk_builtin.specs.Given.{longest}
use Rattle.zk_builtin.proofs.JoinLemmas.{joined-more, joined-part}
use Rattle.zk_builtin.proofs.format.cat.Goals as goal

pub returns-then-is_too_long : goal.returns-then-is_too_long
returns-then-is_too_long c =
    let values = c.args.args.now in
    let i = c.loop-value.value-index in
    let text = c.in_ok-push_value.ensures.ok ∙ ap (λ before. before ++ text_of (value_of c.value-item.result)) c.loop-value.invariant
    ∙ sym (joined-more values i c.value-item.result c.loop-value-test.true c.value-item.is) in
    let long : longest < length c.push_value.new.out.items =
    (Decides-ltb longest (length c.push_value.new.out.items)).0
    (ap (λ bytes. ltb longest (length bytes)) (sym c.deref.ensures.value) ∙ sym c.is_too_long.ensures ∙ c.if-is_too_long.true) in
    let part = joined-part values (i + 1) in
    let same = ap length text in
    omega (arith, long, part, same)

pub loop-value-preserved : goal.loop-value-preserved
loop-value-preserved c =
    c.in_ok-push_value.ensures.ok ∙ ap (λ before. before ++ text_of (value_of c.value-item.result)) c.loop-value.invariant
    ∙ sym (joined-more c.args.args.now c.loop-value.value-index c.value-item.result c.loop-value-test.true c.value-item.is)
