use Rattle.std.proofs.Common.{◌≡◌, ◌∙◌, ◌<◌, length, map, sym, arith}
use Rattle.zk_check_expressions.proofs.GivenLaws.{field_step}
use Rattle.zk_check_expressions.proofs.records.all_given.Goals as goal

pub returns-then-not-is_given : goal.returns-then-not-is_given
returns-then-not-is_given c =
    let has = c.is_given.ensures (map (λ one. one.number) c.args.given.now) c.in_ok-marked.ensures in
    sym (field_step c.args.fields.now c.loop-at.at c.index-fields-at.result c.args.given.now _ c.loop-at-test.true c.index-fields-at.is (sym c.if-not-is_given.true ∙ has)) ∙ c.loop-at.invariant

pub loop-at-preserved : goal.loop-at-preserved
loop-at-preserved c =
    let has = c.is_given.ensures (map (λ one. one.number) c.args.given.now) c.in_ok-marked.ensures in
    sym (field_step c.args.fields.now c.loop-at.at c.index-fields-at.result c.args.given.now _ c.loop-at-test.true c.index-fields-at.is (sym c.if-not-is_given.false ∙ has)) ∙ c.loop-at.invariant
