-- No body uses more units than its budget.
use Rattle.std.proofs.Common.{ℕ, ◌≤◌, List, [], ◌∷◌, Option, Some, None, arith}
use Rattle.std.specs.Prelude.{slice_get}
use Rattle.zk_tree.specs.declared.place.Place.{Place}
use Rattle.zk_tree.specs.Value as plain
use Rattle.zk_tree.specs.Value.{Value}
use Rattle.zk_typed.specs.declared.ends.FaultKind.TheVariants.{Unset}
use Rattle.zk_typed.specs.declared.script.primitive.Binary.TheVariants.{Plus}
use Rattle.zk_typed.specs.Dispatch.{left, handler_body, initial_body, initial_value, expiry_body, wait_for, with_added, interval_of, all_calls}
use Rattle.zk_typed.specs.Does.{Ran, Gives, Faults, Spent}
use Rattle.zk_typed.specs.Forms.{Expr}
use Rattle.zk_typed.specs.Meaning.{depth_max, first_locals}
use Rattle.zk_typed.specs.Program.{Program, Global}
use Rattle.zk_lower.specs.Meant.{HandlersWithin, InitialsWithin, ExpiriesWithin}
use Rattle.zk_lower.proofs.MeaningUnits.{value_keeps, does_keeps, calls_keep, keeps_function_body}
use Rattle.zk_lower.proofs.PrimitiveUnits.{keeps_updated}
use Rattle.zk_lower.proofs.Units.{AtMost, Keeps, keeps_bind, keeps_pure, keeps_misfit, keeps_or_fault, keeps_set_global}

left_within : {A : Type 0} (most : ℕ) (ran : Ran A) → AtMost most ran → (left ran).units ≤ most
left_within most (Gives a state) h = h
left_within most (Faults kind place world units) h = h
left_within most (Spent place world) h = omega arith

pub handlers_within : HandlersWithin
handlers_within program handler args world budget = left_within budget (handler_body program handler args world budget)
    ((does_keeps program (all_calls program) (calls_keep program depth_max) handler.body).by (record { world = world; locals = first_locals handler.locals args; units = budget }))

module _ (program : Program) where
  keeps_added : (place : Place) (list : List Expr) (given : Value) → Keeps (with_added program place list given)
  keeps_added place [] given = keeps_pure given
  keeps_added place (one ∷ others) given = keeps_bind (value_keeps program (all_calls program) (calls_keep program depth_max) place one) (λ more.
      keeps_bind (keeps_updated place Plus given more) (λ sum. keeps_added place others sum))

  pub keeps_initial : (number : ℕ) (global : Global) (initial : Option Expr) → Keeps (initial_value program number global initial)
  keeps_initial number global None = keeps_pure tt
  keeps_initial number global (Some initial) = keeps_bind (value_keeps program (all_calls program) (calls_keep program depth_max) global.place initial) (λ first.
      keeps_bind (keeps_added global.place global.added first) (λ whole. keeps_set_global number (Some whole)))

  keeps_interval_of : (place : Place) (given : Value) → Keeps (interval_of place given)
  keeps_interval_of place (plain.Interval span) = keeps_pure span
  keeps_interval_of place given = keeps_misfit place

  pub keeps_wait_for : (place : Place) (args : List Value) (function : Option ℕ) → Keeps (wait_for program place args function)
  keeps_wait_for place args None = keeps_pure _
  keeps_wait_for place args (Some function) = keeps_bind (keeps_function_body program (all_calls program) (calls_keep program depth_max) args place (slice_get program.functions function)) (λ given.
      keeps_bind (keeps_or_fault Unset place given) (λ one. keeps_interval_of place one))

pub initials_within : InitialsWithin
initials_within program number global world budget = left_within budget (initial_body program number global world budget)
    ((keeps_initial program number global global.initial).by (record { world = world; locals = []; units = budget }))

pub expiries_within : ExpiriesWithin
expiries_within program global args world budget = left_within budget (expiry_body program global args world budget)
    ((keeps_wait_for program global.place args global.expire_func).by (record { world = world; locals = []; units = budget }))
