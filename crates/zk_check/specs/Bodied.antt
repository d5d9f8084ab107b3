-- What the rules of bodies and of the paths of logs stand on.
use Rattle.std.specs.Prelude.{◌≡◌}
use Rattle.zk_scope.specs.Scripted.{scripts_in}
use Rattle.zk_check.specs.declared.rules.bodies.Bodied.{Bodied}
use Rattle.zk_check_declarations.specs.Sources.{IsSource, scripts_from}
use Rattle.zk_check_declarations.specs.Uses.{created_in, streams_lent}
use Rattle.zk_check_declarations.specs.Logging.{logs_of}
use Rattle.zk_check_declarations.specs.Valued.{IsValued}

-- it has the types of all globals, the logs and their streams, and its bodies are those of the same scripts
pub record IsBodied (bodied : Bodied) : Type 0 where
  pub valued : IsValued bodied.valued
  pub source : IsSource bodied.source.now
  pub same : scripts_from bodied.source.now ≡ scripts_in bodied.valued.ground.names.now
  pub logs : bodied.logs.now ≡ logs_of (scripts_in bodied.valued.ground.names.now)
  pub streams : streams_lent bodied.streams.now ≡ created_in (scripts_in bodied.valued.ground.names.now)
