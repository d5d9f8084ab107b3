use Rattle.std.proofs.Common.{List, sym, ap, ◌∙◌}
use Rattle.std.proofs.lemmas.List.{drop_all}
use Rattle.zk_check_operators.specs.declared.operands.Typed.{Typed as RustTyped}
use Rattle.zk_check_operators.specs.Views.{typed_all}
use Rattle.zk_check_expressions.specs.Members.{keys_same}
use Rattle.zk_check_expressions.proofs.MemberLaws.{keys_ended, same_step}
use Rattle.zk_check_expressions.proofs.containers.fitting.Goals as goal

pub returns-then-not-has_type : goal.returns-then-not-has_type
returns-then-not-has_type c =
    sym (same_step c.loop-one.others.now c.in-Some.rest.now c.in-Some.key.now c.args.ones.now c.loop-one.one-index c.one-item.result _ c.in-Some.ensures.cases.0
    c.loop-one-test.true c.one-item.is (sym c.if-not-has_type.true ∙ c.has_type.ensures)) ∙ c.loop-one.invariant

pub loop-one-preserved : goal.loop-one-preserved
loop-one-preserved c =
    sym (same_step c.loop-one.others.now c.in-Some.rest.now c.in-Some.key.now c.args.ones.now c.loop-one.one-index c.one-item.result _ c.in-Some.ensures.cases.0
    c.loop-one-test.true c.one-item.is (sym c.if-not-has_type.false ∙ c.has_type.ensures)) ∙ c.loop-one.invariant

pub returns : goal.returns
returns c =
    sym (keys_ended c.loop-one.others.now)
    ∙ ap (λ (x : List RustTyped). keys_same c.loop-one.others.now (typed_all x)) (sym (drop_all c.loop-one.one-index c.args.ones.now c.loop-one-test.false))
    ∙ c.loop-one.invariant
