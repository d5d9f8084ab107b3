use Rattle.std.proofs.Common.{◌≡◌, ◌-◌, suc, Some}
use Rattle.zk_scope.specs.Leading.{Text, text_at}
use Rattle.zk_scope.specs.Scripted.{scripts_in}
use Rattle.zk_scope.proofs.FollowLaws.{IsOnWay}
use Rattle.zk_scope.proofs.typing.walked_end.Given as goal

abbrev pub invariant-loop-step : goal.invariant-loop-step
invariant-loop-step l = (first : Text) → text_at (scripts_in l.names).names l.place ≡ Some first → IsOnWay (scripts_in l.names) (suc l.most - l._step) l.end first
