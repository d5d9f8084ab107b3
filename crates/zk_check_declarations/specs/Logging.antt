-- The logs of a program.
use Rattle.std.specs.Prelude.{List, filter, map}
use Rattle.zk_typed.specs.declared.script.program.Log.{Log}
use Rattle.zk_typed.specs.LogCalls.{is_log_word, stream_type}
use Rattle.zk_typed.specs.Names.{Declared}
use Rattle.zk_typed.specs.Resolving.{Scripts}
use Rattle.zk_check_declarations.specs.Choosing.{chosen}

-- a word of `Log::ID`, with the record type of its stream
abbrev pub log_of : Scripts → Declared → Log
log_of scripts one = record { word = one.name; columns = stream_type scripts one.name }

abbrev pub logs_of : Scripts → List Log
logs_of scripts = map (log_of scripts) (filter is_log_word scripts.names)

-- the logs that a name stands for
abbrev pub logs_by : Scripts → Declared → List Log
logs_by scripts = chosen is_log_word (log_of scripts)
