use Rattle.std.proofs.Common.{map, take}
use Rattle.zk_typed.specs.Tells.{Tells}
use Rattle.zk_typed.specs.View.{type_of}
use Rattle.zk_scope.specs.Keys.{param_types_of}
use Rattle.zk_scope.specs.Lent.{home_of}
use Rattle.zk_scope.specs.Scripted.{scripts_in}
use Rattle.zk_scope.proofs.known.Names.param_types.Given as goal

abbrev pub invariant-loop-param : goal.invariant-loop-param
invariant-loop-param l = Tells (map type_of) l.all (param_types_of (scripts_in l.self) (home_of l.home) (take l.param-index l.params))
