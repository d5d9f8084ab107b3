use Rattle.std.proofs.Common.{◌≡◌, [], take, drop}
use Rattle.zk_typed.specs.Errors.{errors_from}
use Rattle.zk_scope.specs.Lent.{stated_lent}
use Rattle.zk_scope.specs.Scripted.{scripts_in}
use Rattle.zk_check.specs.Earlier.{IsEarlier}
use Rattle.zk_check.specs.Faults.{head_of}
use Rattle.zk_check.proofs.rules.bodies.Bodied.first_broken.Given as goal

abbrev pub invariant-loop-one : goal.invariant-loop-one
invariant-loop-one l = IsEarlier l.fn.earlier (scripts_in l.self.valued.ground.names.now) [] →
    IsEarlier l.earlier (scripts_in l.self.valued.ground.names.now) (stated_lent (take l.one-index l.stated)) ×
    (head_of (errors_from (scripts_in l.self.valued.ground.names.now) (stated_lent (take l.one-index l.stated)) (stated_lent (drop l.one-index l.stated))) ≡ head_of (errors_from (scripts_in l.self.valued.ground.names.now) [] (stated_lent l.stated)))
