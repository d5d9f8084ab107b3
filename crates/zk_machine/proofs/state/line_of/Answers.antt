use Rattle.std.proofs.Common.{◌++◌, ◌==◌, [], codes, if◌then◌else◌, take, sym, ap, ◌∙◌, append_assoc}
use Rattle.zk_typed.specs.Text.{text_of, line_of}
use Rattle.zk_value.specs.Plain.{value_of, key_of}
use Rattle.zk_machine.proofs.LineLemmas.{line-more}
use Rattle.zk_machine.proofs.state.line_of.Goals as goal

pub loop-number-preserved : goal.loop-number-preserved
loop-number-preserved c =
    let number = c.loop-number.number in
    let value = c.index-values-number.result in
    c.in_ok-push_value.ensures.ok
    ∙ (ap (λ line. line ++ text_of (value_of value)) (c.in_ok-push_separator.ensures ∙ ap (λ line. line ++ (if number == 0 then [] else codes ", ")) c.loop-number.invariant)
    ∙ (append_assoc (line_of (key_of (take number c.args.values.now))) (if number == 0 then [] else codes ", ") (text_of (value_of value)) ∙ sym (line-more c.args.values.now number value c.loop-number-test.true c.index-values-number.is)))
