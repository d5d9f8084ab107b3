-- How the bodies of handlers and of expiry functions, and initial values, are run: each has the whole budget. A fault, or
-- the want of a unit, ends that body alone and keeps what it did; a row of the log `reporter` tells it (Zeek manual, Events,
-- and the reporter framework).
use Rattle.std.specs.Prelude.{ℕ, ◌==◌, pos, false, List, [], ◌∷◌, ◌++◌, filter, fold, codes, decimal, Option, Some, None, unwrap_or, slice_get}
use Rattle.zk_base.specs.declared.numbers.EventNo.{EventNo}
use Rattle.zk_base.specs.declared.time.Span.{Span}
use Rattle.zk_tree.specs.declared.place.Place.{Place}
use Rattle.zk_tree.specs.Value as plain
use Rattle.zk_tree.specs.Value.{Value}
use Rattle.zk_text.specs.Span.{span_decimal}
use Rattle.zk_typed.specs.declared.ends.BodyEnd.{BodyEnd}
use Rattle.zk_typed.specs.declared.ends.BodyEnd.TheVariants as ended
use Rattle.zk_typed.specs.declared.ends.FaultKind.{FaultKind}
use Rattle.zk_typed.specs.declared.ends.FaultKind.TheVariants as kind
use Rattle.zk_typed.specs.declared.ends.FaultKind.TheVariants.{Unset}
use Rattle.zk_typed.specs.declared.script.primitive.Binary.TheVariants.{Plus}
use Rattle.zk_typed.specs.Does.{Does, Ran, Gives, Faults, Spent, ◌>>=◌, pure, done, or_fault, misfit, set_global}
use Rattle.zk_typed.specs.Forms.{Expr}
use Rattle.zk_typed.specs.Log.{Column, One, Text, Plain}
use Rattle.zk_typed.specs.Meaning.{Calls, calls, depth_max, value, does, Flow, first_locals, function_body, in_order}
use Rattle.zk_typed.specs.Primitives.{updated}
use Rattle.zk_typed.specs.Program.{Program, Global, Handler}
use Rattle.zk_typed.specs.State.{World, with_row}
use Rattle.zk_typed.specs.World.{Queued}

-- Bodies -----------------------------------------------------------------------------------------------------------

-- what a body leaves: how it ended, the world, and the units that it did not use
pub record Left : Type 0 where
  pub end : BodyEnd
  pub world : World
  pub units : ℕ

abbrev pub left : {A : Type 0} → Ran A → Left
left (Gives a state) = record { end = ended.Done; world = state.world; units = state.units }
left (Faults kind place world units) = record { end = ended.Fault kind place; world = world; units = units }
left (Spent place world) = record { end = ended.Spent place; world = world; units = 0 }

-- a body with these locals, in a world, with a budget
abbrev pub started : {A : Type 0} → Does A → List (Option Value) → World → ℕ → Ran A
started body locals world budget = body (record { world = world; locals = locals; units = budget })

-- what a dispatched body may call
abbrev pub all_calls : Program → Calls
all_calls program = calls program depth_max

-- The body of a handler, with the values of its parameters
abbrev pub handler_body : Program → Handler → List Value → World → ℕ → Ran Flow
handler_body program one args = started (does program (all_calls program) one.body) (first_locals one.locals args)

-- values that are added to an initial value, one after another
abbrev pub with_added : Program → Place → List Expr → Value → Does Value
with_added program place [] given = pure given
with_added program place (one ∷ others) given = do
  more ← value program (all_calls program) place one
  sum ← updated place Plus given more
  with_added program place others sum

-- the initial value of a global or a constant
abbrev pub initial_value : Program → ℕ → Global → Option Expr → Does (Unit {0})
initial_value program number one None = done
initial_value program number one (Some initial) = do
  first ← value program (all_calls program) one.place initial
  whole ← with_added program one.place one.added first
  set_global number (Some whole)

abbrev pub initial_body : Program → ℕ → Global → World → ℕ → Ran (Unit {0})
initial_body program number one = started (initial_value program number one one.initial) []

-- the interval that an expiry function gives
abbrev pub interval_of : Place → Value → Does Span
interval_of place (plain.Interval span) = pure span
interval_of place given = misfit place

-- how much longer an entry is to stay: 0 without a function
abbrev pub wait_for : Program → Place → List Value → Option ℕ → Does Span
wait_for program place args None = pure (record { 0 = pos 0 })
wait_for program place args (Some function) = do
  given ← function_body program (all_calls program) args place (slice_get program.functions function)
  one ← or_fault Unset place given
  interval_of place one

-- the function of a global's table, with the table and the values of the key
abbrev pub expiry_body : Program → Global → List Value → World → ℕ → Ran Span
expiry_body program one args = started (wait_for program one.place args one.expire_func) []

-- Reports ----------------------------------------------------------------------------------------------------------

abbrev pub fault_name : FaultKind → List ℕ
fault_name kind.NoIndex = codes "NoIndex"
fault_name kind.NoField = codes "NoField"
fault_name kind.Unset = codes "Unset"
fault_name kind.ZeroDivisor = codes "ZeroDivisor"
fault_name kind.Overflow = codes "Overflow"
fault_name kind.Depth = codes "Depth"
fault_name kind.TooLong = codes "TooLong"

abbrev pub reporter_column : List ℕ → List ℕ → Column
reporter_column name type = record { name = name; kind = type; wire = false }

abbrev pub reporter_columns : List Column
reporter_columns =
    reporter_column (codes "ts") (codes "time") ∷ reporter_column (codes "level") (codes "enum") ∷
    reporter_column (codes "message") (codes "string") ∷ reporter_column (codes "location") (codes "string") ∷ []

-- a place as a person reads it: the file and the byte
abbrev pub place_text : Program → Place → List ℕ
place_text program place = unwrap_or (slice_get program.files place.file) [] ++ codes ", byte " ++ decimal place.byte

abbrev pub reported : Program → List ℕ → Place → World → World
reported program message place world = with_row (record {
  path = codes "reporter";
  columns = reporter_columns;
  cells =
      One (Plain (span_decimal world.time.0)) ∷ One (Plain (codes "Reporter::ERROR")) ∷
      One (Text message) ∷ One (Text (place_text program place)) ∷ [];
  at = world.time;
}) world

-- the world after a body, with a row where it did not run to its end
abbrev pub told : Program → BodyEnd → World → World
told program ended.Done world = world
told program (ended.Fault kind place) world = reported program (fault_name kind) place world
told program (ended.Spent place) world = reported program (codes "Spent") place world

abbrev pub world_after : {A : Type 0} → Program → Ran A → World
world_after program ran = told program (left ran).end (left ran).world

-- Dispatch ---------------------------------------------------------------------------------------------------------

-- the handlers of an event, by falling priority and then in load order
abbrev pub handlers_of : Program → EventNo → List Handler
handlers_of program event = in_order (λ one. one.priority) (filter (λ one. one.event.0 == event.0) program.handlers)

-- each body from the world that the last one left
abbrev pub dispatch : Program → ℕ → World → Queued → World
dispatch program budget world what =
    fold (λ before one. world_after program (handler_body program one what.args before budget)) world (handlers_of program what.event)
