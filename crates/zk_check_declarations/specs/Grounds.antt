-- What the rules of declarations stand on.
use Rattle.std.specs.Prelude.{◌≡◌}
use Rattle.zk_scope.specs.Scripted.{scripts_in}
use Rattle.zk_check_declarations.specs.declared.ground.Ground.{Ground}
use Rattle.zk_check_declarations.specs.Heights.{IsDepths}
use Rattle.zk_check_declarations.specs.Sources.{IsSource, scripts_from}
use Rattle.zk_check_declarations.specs.Valuing.{IsValues}

-- it is that of the scripts whose names it has
pub record IsGround (ground : Ground) : Type 0 where
  pub source : IsSource ground.source.now
  pub same : scripts_from ground.source.now ≡ scripts_in ground.names.now
  pub depths : IsDepths ground.depths.now (scripts_in ground.names.now)
  pub values : IsValues ground.values.now (scripts_in ground.names.now)
