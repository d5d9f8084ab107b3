use Rattle.std.proofs.Common.{◌++◌, ◌+◌, ◌<◌, length, sym, ap, ◌∙◌, arith, ltb}
use Rattle.std.proofs.lemmas.Bool.Decides.{Decides-ltb}
use Rattle.zk_builtin.specs.Given.{longest}
use Rattle.zk_tree.proofs.JoinLaws.{joined_by-more, joined_by-part, separated}
use Rattle.zk_builtin.proofs.format.join_string_vec.Goals as goal

pub returns-then-is_too_long : goal.returns-then-is_too_long
returns-then-is_too_long c =
    let sep = c.args.sep.now in
    let parts = c.args.v.now in
    let i = c.loop-number.number in
    let text = c.in_ok-push_part.ensures ∙ ap (λ part. c.loop-number.text.items ++ separated i sep part) c.as_slice.ensures
    ∙ ap (λ before. before ++ separated i sep c.index-v-number.result) c.loop-number.invariant
    ∙ sym (joined_by-more sep parts i c.index-v-number.result c.loop-number-test.true c.index-v-number.is) in
    let long : longest < length c.push_part.new.text.items =
    (Decides-ltb longest (length c.push_part.new.text.items)).0
    (ap (λ bytes. ltb longest (length bytes)) (sym c.deref.ensures.value) ∙ sym c.is_too_long.ensures ∙ c.if-is_too_long.true) in
    let part = joined_by-part sep parts (i + 1) in
    let same = ap length text in
    omega (arith, long, part, same)

pub loop-number-preserved : goal.loop-number-preserved
loop-number-preserved c =
    let sep = c.args.sep.now in
    let i = c.loop-number.number in
    c.in_ok-push_part.ensures ∙ ap (λ part. c.loop-number.text.items ++ separated i sep part) c.as_slice.ensures
    ∙ ap (λ before. before ++ separated i sep c.index-v-number.result) c.loop-number.invariant
    ∙ sym (joined_by-more sep c.args.v.now i c.index-v-number.result c.loop-number-test.true c.index-v-number.is)
