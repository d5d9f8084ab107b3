-- Bodies, however they end, go onward.
use Rattle.std.specs.Prelude.{ℕ, List}
use Rattle.zk_tree.specs.Value.{Value}
use Rattle.zk_typed.specs.Dispatch.{left, handler_body, initial_body, expiry_body}
use Rattle.zk_typed.specs.Program.{Program, Handler, Global}
use Rattle.zk_typed.specs.State.{World}
use Rattle.zk_agenda.specs.Onward.{Step}

abbrev pub HandlersGo : Type 0
HandlersGo = (program : Program) (handler : Handler) (args : List Value) (world : World) (budget : ℕ) → Step world (left (handler_body program handler args world budget)).world

abbrev pub InitialsGo : Type 0
InitialsGo = (program : Program) (number : ℕ) (global : Global) (world : World) (budget : ℕ) → Step world (left (initial_body program number global world budget)).world

abbrev pub ExpiriesGo : Type 0
ExpiriesGo = (program : Program) (global : Global) (args : List Value) (world : World) (budget : ℕ) → Step world (left (expiry_body program global args world budget)).world
