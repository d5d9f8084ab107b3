use Rattle.std.proofs.Common.{[]}
use Rattle.zk_tree.specs.declared.types.Param.{out-Param}
use Rattle.zk_typed.specs.Declarations.{param_rules}
use Rattle.zk_scope.specs.Lent.{home_of}
use Rattle.zk_scope.specs.Scripted.{scripts_in}
use Rattle.zk_check_declarations.specs.Nesting.{one_param}
use Rattle.zk_check_declarations.specs.Seeing.{Sees}
use Rattle.zk_check_declarations.proofs.RuleLaws.{WalksOn}
use Rattle.zk_check_declarations.proofs.ground.Ground.param_rules.Given as goal

abbrev pub invariant-loop-param : goal.invariant-loop-param
invariant-loop-param l =
    WalksOn Sees (param_rules (scripts_in l.self.names.now) (home_of l.home)) (one_param (scripts_in l.self.names.now) (home_of l.home)) (λ param. (out-Param param).name.text)
    l.seen l.rules l.params l.param-index (param_rules (scripts_in l.self.names.now) (home_of l.home) [] l.params)
