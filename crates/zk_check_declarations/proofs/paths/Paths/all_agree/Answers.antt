use Rattle.std.proofs.Common.{sym, ◌∙◌}
use Rattle.zk_typed.specs.Errors.{agrees}
use Rattle.zk_scope.specs.Leaves.{leaves_lent}
use Rattle.zk_check_declarations.specs.Paths.{use_of}
use Rattle.zk_check_declarations.proofs.ListLaws.{all_fails, all_map, all_turn}
use Rattle.zk_check_declarations.proofs.paths.Paths.all_agree.Goals as goal

pub loop-one-init : goal.loop-one-init
loop-one-init c = λ before known. sym (all_map (agrees before) use_of c.args.uses.now)

pub returns-then-not-agreed : goal.returns-then-not-agreed
returns-then-not-agreed c = λ before known.
    all_fails (λ one. agrees before (use_of one)) c.args.uses.now c.loop-one.one-index c.one-item.result c.in_ok-agreed.agreed _ c.loop-one-test.true c.one-item.is
    (c.in_ok-agreed.ensures ∙ known.agreed c.one-item.result.path.items (leaves_lent c.one-item.result.columns.items)) c.if-not-agreed.true (c.loop-one.invariant before known)

pub loop-one-preserved : goal.loop-one-preserved
loop-one-preserved c = λ before known.
    all_turn (λ one. agrees before (use_of one)) c.args.uses.now c.loop-one.one-index c.one-item.result c.in_ok-agreed.agreed _ c.loop-one-test.true c.one-item.is
    (c.in_ok-agreed.ensures ∙ known.agreed c.one-item.result.path.items (leaves_lent c.one-item.result.columns.items)) c.if-not-agreed.false (c.loop-one.invariant before known)
