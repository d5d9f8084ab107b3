use Rattle.std.proofs.Common.{List, ◌++◌, take, sym, subst, append-nil}
use Rattle.zk_typed.specs.Errors.{PathUse}
use Rattle.zk_check_declarations.specs.Paths.{HasPaths, use_of, uses_lent}
use Rattle.zk_check_declarations.proofs.PathLaws.{uses_more, uses_turn}
use Rattle.zk_check_declarations.proofs.paths.Paths.add_all.Goals as goal

pub loop-one-init : goal.loop-one-init
loop-one-init c = λ before known. subst (λ (uses : List PathUse). HasPaths c.args.self.now uses) (sym (append-nil before)) known

pub loop-one-preserved : goal.loop-one-preserved
loop-one-preserved c = λ before known.
    subst (λ (uses : List PathUse). HasPaths c.add.new.self uses) (sym (uses_turn before c.args.uses.now c.loop-one.one-index c.one-item.result c.loop-one-test.true c.one-item.is))
    (uses_more c.loop-one.self c.add.new.self (before ++ uses_lent (take c.loop-one.one-index c.args.uses.now)) (use_of c.one-item.result) (c.loop-one.invariant before known) c.in_ok-add.ensures)
