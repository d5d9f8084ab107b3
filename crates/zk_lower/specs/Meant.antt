-- What code is to do: what the bodies, initial values and expiry functions of its program mean.
use Rattle.std.specs.Prelude.{◌≡◌, ◌≤◌, ℕ, pos, List, [], Option, Some, None, slice_get}
use Rattle.std.specs.Option.{option_map}
use Rattle.zk_base.specs.declared.time.Span.{Span}
use Rattle.zk_tree.specs.declared.place.Place.{Place}
use Rattle.zk_tree.specs.Value.{Value}
use Rattle.zk_typed.specs.declared.ends.FaultKind.TheVariants.{Unset}
use Rattle.zk_typed.specs.Dispatch.{Left, left, handler_body, initial_body, expiry_body, interval_of}
use Rattle.zk_typed.specs.Does.{Ran, Gives, Faults, Spent, and_then, ◌>>=◌, or_fault}
use Rattle.zk_typed.specs.Meaning.{first_locals}
use Rattle.zk_typed.specs.Program.{Program, Handler, Global}
use Rattle.zk_typed.specs.State.{World}
use Rattle.zk_lower.specs.Code.{BodyCode, Code}
use Rattle.zk_lower.specs.Frames.{Machine}
use Rattle.zk_lower.specs.Lowering.{lowered}
use Rattle.zk_lower.specs.Run.{run}

-- code at the beginning of a body, for which no other waits
abbrev pub begin : ℕ → List (Option Value) → World → ℕ → Machine
begin entry locals world budget = record {
  at = entry;
  held = record { stack = []; loops = []; frames = [] };
  state = record { world = world; locals = locals; units = budget };
}

abbrev pub run_body : Code → BodyCode → List Value → World → ℕ → Ran (Option Value)
run_body code body args world budget = run code (begin body.entry (first_locals body.locals args) world budget)

-- Handlers ---------------------------------------------------------------------------------------------------------

-- what the handler of a number leaves, where there is one
abbrev pub handler_left : Program → ℕ → List Value → World → ℕ → Option Left
handler_left program number args world budget = option_map (λ handler. left (handler_body program handler args world budget)) (slice_get program.handlers number)

abbrev pub handler_run : Code → ℕ → List Value → World → ℕ → Option Left
handler_run code number args world budget = option_map (λ handler. left (run_body code handler.body args world budget)) (slice_get code.handlers number)

-- Initial values ---------------------------------------------------------------------------------------------------

abbrev pub initial_left : Program → ℕ → World → ℕ → Option Left
initial_left program number world budget = option_map (λ global. left (initial_body program number global world budget)) (slice_get program.globals number)

-- without an initial value there is nothing to run
abbrev pub run_initial : Code → Option ℕ → World → ℕ → Ran (Option Value)
run_initial code None world budget = Gives None (record { world = world; locals = []; units = budget })
run_initial code (Some entry) world budget = run code (begin entry [] world budget)

abbrev pub initial_run : Code → ℕ → World → ℕ → Option Left
initial_run code number world budget = option_map (λ global. left (run_initial code global.initial world budget)) (slice_get code.globals number)

-- Expiry functions -------------------------------------------------------------------------------------------------

-- the same end with its value, without the names of the body
abbrev pub without_names : {A : Type 0} → Ran A → Ran A
without_names (Gives a state) = Gives a (record state { locals = [] })
without_names (Faults kind place world units) = Faults kind place world units
without_names (Spent place world) = Spent place world

abbrev pub expiry_left : Program → ℕ → List Value → World → ℕ → Option (Ran Span)
expiry_left program number args world budget = option_map (λ global. without_names (expiry_body program global args world budget)) (slice_get program.globals number)

abbrev pub run_found : Code → Place → List Value → World → ℕ → Option BodyCode → Ran (Option Value)
run_found code place args world budget None = Faults Unset place world budget
run_found code place args world budget (Some body) = run_body code body args world budget

-- the interval that the function gives, or 0 where there is none
abbrev pub run_expiry : Code → Place → List Value → World → ℕ → Option ℕ → Ran Span
run_expiry code place args world budget None = Gives (record { 0 = pos 0 }) (record { world = world; locals = []; units = budget })
run_expiry code place args world budget (Some function) =
    and_then (run_found code place args world budget (slice_get code.functions function)) (λ given. or_fault Unset place given >>= interval_of place)

abbrev pub expiry_run : Code → ℕ → List Value → World → ℕ → Option (Ran Span)
expiry_run code number args world budget = option_map (λ global. without_names (run_expiry code global.place args world budget global.expire_func)) (slice_get code.globals number)

-- Laws -------------------------------------------------------------------------------------------------------------

-- From each handler the code ends as the handler does, with the same world and as many units left.
abbrev pub HandlersMean : Type 0
HandlersMean = (program : Program) (number : ℕ) (args : List Value) (world : World) (budget : ℕ) → handler_run (lowered program) number args world budget ≡ handler_left program number args world budget

abbrev pub InitialsMean : Type 0
InitialsMean = (program : Program) (number : ℕ) (world : World) (budget : ℕ) → initial_run (lowered program) number world budget ≡ initial_left program number world budget

abbrev pub ExpiriesMean : Type 0
ExpiriesMean = (program : Program) (number : ℕ) (args : List Value) (world : World) (budget : ℕ) → expiry_run (lowered program) number args world budget ≡ expiry_left program number args world budget

-- No handler, no initial value and no expiry function uses more units than its budget.
abbrev pub HandlersWithin : Type 0
HandlersWithin = (program : Program) (handler : Handler) (args : List Value) (world : World) (budget : ℕ) → (left (handler_body program handler args world budget)).units ≤ budget

abbrev pub InitialsWithin : Type 0
InitialsWithin = (program : Program) (number : ℕ) (global : Global) (world : World) (budget : ℕ) → (left (initial_body program number global world budget)).units ≤ budget

abbrev pub ExpiriesWithin : Type 0
ExpiriesWithin = (program : Program) (global : Global) (args : List Value) (world : World) (budget : ℕ) → (left (expiry_body program global args world budget)).units ≤ budget
