-- Kinds of names.
use Rattle.std.specs.Prelude.{Bool}
use Rattle.zk_typed.specs.LogCalls.{is_log_word}
use Rattle.zk_typed.specs.Names.{Declared}
use Rattle.zk_typed.specs.Typing.{is_variable, is_event, is_hook, is_function}
use Rattle.zk_scope.specs.declared.kind.Kind.{Kind}
use Rattle.zk_scope.specs.declared.kind.Kind.TheVariants as kind

-- whether a name is of a kind
abbrev pub is_of : Kind → Declared → Bool
is_of kind.Variable = is_variable
is_of kind.Event = is_event
is_of kind.Hook = is_hook
is_of kind.Function = is_function
is_of kind.LogWord = is_log_word
