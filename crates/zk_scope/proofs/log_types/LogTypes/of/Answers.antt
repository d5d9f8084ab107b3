use Rattle.std.proofs.Common.{◌≡◌, ◌-◌, ℕ, drop, length, subst, arith}
use Rattle.zk_scope.specs.Streams.{AreTypes, created_lent}
use Rattle.zk_scope.proofs.StreamLaws.{types_none, types_step}
use Rattle.zk_scope.proofs.log_types.LogTypes.of.Goals as goal

pub loop-index-init : goal.loop-index-init
loop-index-init c = types_none c.args.created.now (length c.args.created.now) c.new-types.result (omega arith) c.new-types.ensures

pub loop-index-preserved : goal.loop-index-preserved
loop-index-preserved c =
    types_step c.args.created.now (c.loop-index.index - 1) c.loop-index.index c.index-created-index.result c.loop-index.types c.add.new.self (omega arith) (omega arith) c.index-created-index.is
    c.in_ok-add.ensures c.loop-index.invariant

pub returns : goal.returns
returns c =
    let none : c.loop-index.index ≡ 0 = omega arith in
    subst (λ (n : ℕ). AreTypes c.loop-index.types (created_lent (drop n c.args.created.now))) none c.loop-index.invariant
