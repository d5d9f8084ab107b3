use Rattle.std.proofs.Common.{◌<◌, length, drop, [], sym, ap, ◌∙◌, ◌+◌, arith}
use Rattle.zk_typed.specs.Checked.{both}
use Rattle.zk_typed.specs.Declarations as spec
use Rattle.zk_check_operators.specs.Attributes.{before, one_rule}
use Rattle.zk_check_operators.specs.Gather.{told}
use Rattle.zk_check_operators.proofs.AttrLaws.{rules_step}
use Rattle.zk_check_operators.proofs.BothLaws.{one_more}
use Rattle.zk_check_operators.proofs.attrs.attr_rules.Goals as goal

pub loop-end-preserved : goal.loop-end-preserved
loop-end-preserved g c home here known =
    let within : c.loop-end.end < length c.args.attrs.now = omega arith in
    let allowed = g.A.Attributes.allowed c.args.kind.now in
    let value_rules = g.A.Attributes.value_rules c.args.kind.now in
    one_more c.loop-end.rules c.one_attr-one.result c.also-rules.result
    (one_rule home allowed value_rules (before c.loop-end.end c.args.attrs.now) c.index-attrs-end.result)
    (spec.attr_rules home allowed spec.with_value value_rules (before (c.loop-end.end + 1) c.args.attrs.now) (drop (c.loop-end.end + 1) c.args.attrs.now))
    (spec.attr_rules home allowed spec.with_value value_rules [] c.args.attrs.now)
    (λ known_before. ap (λ given. spec.nothing (both (told c.loop-end.rules) given)) (sym (rules_step home allowed value_rules c.loop-end.end c.args.attrs.now c.index-attrs-end.result within c.index-attrs-end.is)) ∙ c.loop-end.invariant home here known_before)
    (c.one_attr-one.ensures home here) c.also-rules.ensures known
