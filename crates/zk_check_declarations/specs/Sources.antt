-- Scripts with the types of their globals.
use Rattle.std.specs.Prelude.{◌≡◌}
use Rattle.zk_check_expressions.specs.Envs.{globals_at}
use Rattle.zk_scope.specs.Scripted.{scripts_in}
use Rattle.zk_typed.specs.Declarations.{global_type}
use Rattle.zk_typed.specs.Resolving.{Scripts}
use Rattle.zk_check_declarations.specs.declared.source.Source.{Source}

-- what the scripts of a source declare
abbrev pub scripts_from : Source → Scripts
scripts_from source = scripts_in source.scripts.now.names

-- the types are those of all globals and constants
pub record IsSource (source : Source) : Type 0 where
  pub known : globals_at source.globals ≡ global_type (scripts_from source)
