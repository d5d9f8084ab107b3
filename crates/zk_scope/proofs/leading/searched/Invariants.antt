use Rattle.std.proofs.Common.{◌≡◌, ℕ, true}
use Rattle.zk_typed.specs.Resolving.{Scripts}
use Rattle.zk_scope.specs.Leading.{is_target, led, steps}
use Rattle.zk_scope.specs.Lent.{declared_lent}
use Rattle.zk_scope.proofs.SearchLaws.{IsClosed, IsReached, mem}
use Rattle.zk_scope.proofs.leading.searched.Given as goal

abbrev pub invariant-loop-step : goal.invariant-loop-step
invariant-loop-step l = record {
  reached : (scripts : Scripts) → scripts.names ≡ declared_lent l.table.names.items → IsReached (λ m v. led scripts l.target m v) l.starts l.found.keys l.step;
  closed : IsClosed (is_target (declared_lent l.table.names.items) l.target) (steps (declared_lent l.table.names.items)) l.found.keys l.step;
  begun : (w : ℕ) → mem w l.starts ≡ true → mem w l.found.keys ≡ true;
}
