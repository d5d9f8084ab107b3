-- Predefined names, as the rows that the code has of them.
use Rattle.std.specs.Prelude.{ℕ, List, map}
use Rattle.std.specs.Borrow.{Bor}
use Rattle.zk_typed.specs.declared.script.primitive.BuiltIn.{BuiltIn}
use Rattle.zk_typed.specs.Declaring.{everywhere, predefined_event}
use Rattle.zk_typed.specs.Names.{Declared, KnownType as KnownName, Word, Event, BuiltInFunction, Log, Known}
use Rattle.zk_typed.specs.Predefined as predefined
use Rattle.zk_typed.specs.Predefined.{record_no, string_vec}
use Rattle.zk_typed.specs.Types.{ValueType, Simple, Record}
use Rattle.zk_scope.specs.declared.declared.LogFunction.{LogFunction}
use Rattle.zk_names.specs.declared.given.EventRow.{EventRow}
use Rattle.zk_names.specs.declared.given.NamedType.{NamedType}
use Rattle.zk_names.specs.declared.given.NamedType.TheVariants as named
use Rattle.zk_scope.specs.Lent.{log_function_of}

abbrev pub named_type : NamedType → ValueType
named_type (named.Simple simple) = Simple simple
named_type (named.Record number) = Record (record_no number)
named_type named.Strings = string_vec

abbrev pub named_types : List NamedType → List ValueType
named_types types = map named_type types

abbrev pub type_name_of : Bor (List ℕ) × NamedType → Declared
type_name_of row = everywhere row.0.now (KnownName (named_type row.1))

abbrev pub word_of : Bor (List ℕ) × ℕ → Declared
word_of row = everywhere row.0.now (Word row.1)

abbrev pub event_of : EventRow → Declared
event_of row = everywhere row.name.now (Event (Known (named_types row.params.now)))

abbrev pub built_in_of : Bor (List ℕ) × BuiltIn → Declared
built_in_of row = everywhere row.0.now (BuiltInFunction row.1)

abbrev pub log_of : Bor (List ℕ) × LogFunction → Declared
log_of row = everywhere row.0.now (Log (log_function_of row.1))

-- The parts of the predefined names ---------------------------------------------------------------------------------

abbrev pub type_names : List Declared
type_names = map (λ one. everywhere one.0 (KnownName one.1)) predefined.type_names

abbrev pub words : List Declared
words = map (λ one. everywhere one.0 (Word one.1)) predefined.words

abbrev pub events : List Declared
events = map predefined_event predefined.events
