use Rattle.std.proofs.Common.{map}
use Rattle.zk_tree.specs.declared.types.Param.{out-Param}
use Rattle.zk_typed.specs.Resolving as spec
use Rattle.zk_typed.specs.View.{type_of}
use Rattle.zk_scope.specs.Lent.{home_of}
use Rattle.zk_scope.specs.Scripted.{scripts_in}
use Rattle.zk_scope.proofs.GatherLaws.{told_on, map_more}
use Rattle.zk_scope.proofs.known.Names.param_types.Goals as goal

pub loop-param-preserved : goal.loop-param-preserved
loop-param-preserved c =
    told_on type_of (map type_of) (map_more type_of) (λ param. spec.type_of (scripts_in c.args.self.now) (home_of c.args.home) (out-Param param).param_type) c.args.params.now c.loop-param.param-index c.param-item.result
    c.loop-param.all c.type_of-one.result c.appended-all.result c.loop-param-test.true c.param-item.is c.loop-param.invariant c.type_of-one.ensures c.appended-all.ensures
