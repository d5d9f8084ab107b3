-- Bodies go onward, and spare the globals that their forms spare.
use Rattle.std.proofs.Common.{ℕ, List, [], ◌∷◌, Option, Some, None}
use Rattle.std.specs.Prelude.{slice_get}
use Rattle.std.specs.List.{AllByRecursion}
use Rattle.zk_tree.specs.declared.place.Place.{Place}
use Rattle.zk_tree.specs.Value as plain
use Rattle.zk_tree.specs.Value.{Value}
use Rattle.zk_typed.specs.declared.ends.FaultKind.TheVariants.{Unset}
use Rattle.zk_typed.specs.declared.script.primitive.Binary.TheVariants.{Plus}
use Rattle.zk_typed.specs.Dispatch.{left, handler_body, initial_body, initial_value, expiry_body, wait_for, with_added, interval_of, all_calls}
use Rattle.zk_typed.specs.Does.{Ran, Gives, Faults, Spent}
use Rattle.zk_typed.specs.Forms.{Expr}
use Rattle.zk_typed.specs.Meaning.{depth_max, first_locals}
use Rattle.zk_typed.specs.Program.{Program, Global, Handler}
use Rattle.zk_typed.specs.State.{World}
use Rattle.zk_agenda.specs.Bodies.{HandlersGo, InitialsGo, ExpiriesGo}
use Rattle.zk_agenda.specs.Sparing.{Numbers, SparesExpr, SparesStmt, Spares}
use Rattle.zk_agenda.proofs.Dues.{Moves, moves-step}
use Rattle.zk_agenda.proofs.Meaning.{value_goes, does_goes, calls_go, goes_function_body, function-spares}
use Rattle.zk_agenda.proofs.Primitives.{goes_updated}
use Rattle.zk_agenda.proofs.Spared.{Nothing, expr-spares, stmt-spares, program-spares}
use Rattle.zk_agenda.proofs.Steps.{Goes, Leaves, reached, goes_bind, goes_pure, goes_misfit, goes_or_fault, goes_set_global}

left_leaves : {A : Type 0} {fixed : Numbers} (before : World) (ran : Ran A) → Leaves fixed before (reached ran) → Leaves fixed before (left ran).world
left_leaves before (Gives a state) goes = goes
left_leaves before (Faults kind place world units) goes = goes
left_leaves before (Spent place world) goes = goes

-- Bodies of programs that spare globals --------------------------------------------------------------------------------------

module _ {fixed : Numbers} (program : Program) (spares : Spares fixed program) where
  pub handler-leaves : (handler : Handler) → SparesStmt fixed handler.body → (args : List Value) (world : World) (budget : ℕ) → Leaves fixed world (left (handler_body program handler args world budget)).world
  handler-leaves handler own args world budget = left_leaves world (handler_body program handler args world budget)
      ((does_goes program (all_calls program) (calls_go program spares depth_max) handler.body own).by (record { world = world; locals = first_locals handler.locals args; units = budget }))

  goes_added : (place : Place) (list : List Expr) (given : Value) → AllByRecursion (SparesExpr fixed) list → Goes fixed (with_added program place list given)
  goes_added place [] given all = goes_pure given
  goes_added place (one ∷ others) given all = goes_bind (value_goes program (all_calls program) (calls_go program spares depth_max) place one all.0) (λ more.
      goes_bind (goes_updated place Plus given more) (λ sum. goes_added place others sum all.1))

  goes_interval_of : (place : Place) (given : Value) → Goes fixed (interval_of place given)
  goes_interval_of place (plain.Interval span) = goes_pure span
  goes_interval_of place given = goes_misfit place

  goes_wait_for : (place : Place) (args : List Value) (function : Option ℕ) → Goes fixed (wait_for program place args function)
  goes_wait_for place args None = goes_pure _
  goes_wait_for place args (Some function) = goes_bind
      (goes_function_body program (all_calls program) (calls_go program spares depth_max) args place (slice_get program.functions function) (function-spares program spares function)) (λ given.
      goes_bind (goes_or_fault Unset place given) (λ one. goes_interval_of place one))

  pub expiry-leaves : (global : Global) (args : List Value) (world : World) (budget : ℕ) → Leaves fixed world (left (expiry_body program global args world budget)).world
  expiry-leaves global args world budget = left_leaves world (expiry_body program global args world budget)
      ((goes_wait_for global.place args global.expire_func).by (record { world = world; locals = []; units = budget }))

-- Bodies of any program ------------------------------------------------------------------------------------------------------

module _ (program : Program) where
  goes_initial : (number : ℕ) (global : Global) (initial : Option Expr) → Goes Nothing (initial_value program number global initial)
  goes_initial number global None = goes_pure tt
  goes_initial number global (Some initial) = goes_bind (value_goes program (all_calls program) (calls_go program (program-spares program) depth_max) global.place initial (expr-spares initial)) (λ first.
      goes_bind (goes_added program (program-spares program) global.place global.added first (each_spares global.added)) (λ whole. goes_set_global number (Some whole) (λ never. never)))
    where
      each_spares : (list : List Expr) → AllByRecursion (SparesExpr Nothing) list
      each_spares [] = tt
      each_spares (one ∷ others) = (expr-spares one, each_spares others)

  pub handler-moves : (handler : Handler) (args : List Value) (world : World) (budget : ℕ) → Moves world (left (handler_body program handler args world budget)).world
  handler-moves handler args world budget = (handler-leaves program (program-spares program) handler (stmt-spares handler.body) args world budget).moves

  pub initial-moves : (number : ℕ) (global : Global) (world : World) (budget : ℕ) → Moves world (left (initial_body program number global world budget)).world
  initial-moves number global world budget = (left_leaves {fixed = Nothing} world (initial_body program number global world budget)
      ((goes_initial number global global.initial).by (record { world = world; locals = []; units = budget }))).moves

  pub expiry-moves : (global : Global) (args : List Value) (world : World) (budget : ℕ) → Moves world (left (expiry_body program global args world budget)).world
  expiry-moves global args world budget = (expiry-leaves program (program-spares program) global args world budget).moves

-- What a body does, as it is told ---------------------------------------------------------------------------------------------------

pub handlers_go : HandlersGo
handlers_go program handler args world budget = moves-step world _ (handler-moves program handler args world budget)

pub initials_go : InitialsGo
initials_go program number global world budget = moves-step world _ (initial-moves program number global world budget)

pub expiries_go : ExpiriesGo
expiries_go program global args world budget = moves-step world _ (expiry-moves program global args world budget)
