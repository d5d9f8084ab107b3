-- How bodies end for which no other waits.
use Rattle.std.proofs.Common.{◌≡◌, ℕ, ◌+◌, List, [], ◌∷◌, Some, None, refl, ◌∙◌}
use Rattle.zk_tree.specs.declared.place.Place.{Place}
use Rattle.zk_tree.specs.Value.{Value}
use Rattle.zk_typed.specs.declared.script.action.Action.TheVariants as action
use Rattle.zk_typed.specs.declared.script.action.Left.TheVariants as side
use Rattle.zk_typed.specs.declared.script.primitive.Binary.TheVariants.{Plus}
use Rattle.zk_typed.specs.Dispatch.{left, with_added, initial_value, all_calls}
use Rattle.zk_typed.specs.Does.{Ran, Gives, Faults, Spent, and_then, set_global}
use Rattle.zk_typed.specs.Forms.{Expr, Stmt}
use Rattle.zk_typed.specs.Meaning.{result_of, value, does, calls, depth_max}
use Rattle.zk_typed.specs.Primitives.{updated}
use Rattle.zk_typed.specs.Program.{Program, Global}
use Rattle.zk_typed.specs.State.{State}
use Rattle.zk_lower.specs.Code.{Op, Code}
use Rattle.zk_lower.specs.Code as op
use Rattle.zk_lower.specs.Frames.{Held, pushed}
use Rattle.zk_lower.specs.Run.{run}
use Rattle.zk_lower.specs.Steps.{goes, push, room}
use Rattle.zk_lower.proofs.Calls.{body_runs, calls_run}
use Rattle.zk_lower.proofs.Expressions.{CallsRun, value_runs}
use Rattle.zk_lower.proofs.MeaningUnits.{calls_keep}
use Rattle.zk_lower.proofs.Runs.{Runs, runs_bind, runs_op, here, first_step, at_place}
use Rattle.zk_lower.proofs.Standing.{Stretch, OneAt, ThenAt, ExprAt, BodyAt, Stands}

-- no operands, no loops and no body that waits
abbrev pub nothing : Held
nothing = record { stack = []; loops = []; frames = [] }

-- the value doesn't count for what is left
pub left_same : {A B : Type 0} (ran : Ran A) (value : A → B) → left (and_then ran (λ a state. Gives (value a) state)) ≡ left ran
left_same (Gives a state) value = refl
left_same (Faults kind place world units) value = refl
left_same (Spent place world) value = refl

module _ (ops : List Op) where
  abbrev pub AddedAt : Place → List Expr → Stretch
  AddedAt place [] = λ at to. at ≡ to
  AddedAt place (one ∷ others) = ThenAt (ExprAt ops place one) (ThenAt (OneAt ops (op.Sum place)) (AddedAt place others))

  abbrev pub InitialAt : ℕ → Global → Expr → Stretch
  InitialAt number global initial = ThenAt (ExprAt ops global.place initial) (ThenAt (AddedAt global.place global.added)
      (ThenAt (OneAt ops (op.Do global.place (action.Assign (side.Global number)) 1)) (OneAt ops op.End)))

module _ (program : Program) (code : Code) (stands : Stands code program) (depth : ℕ) (r : room nothing ≡ depth) where
  pub body_ends : (one : Stmt) (at : ℕ) → BodyAt code.ops one at → (state : State) → run code (record { at = at; held = nothing; state = state }) ≡ and_then (does program (calls program depth) one state) (λ flow now. Gives (result_of flow) now)
  body_ends one at h state = (body_runs program code stands (calls program depth) (calls_keep program depth) depth (calls_run program code stands depth) one at nothing r h).by state

-- Initial values ---------------------------------------------------------------------------------------------------

module _ (program : Program) (code : Code) (stands : Stands code program) (runs : CallsRun program code (all_calls program) depth_max) (r : room nothing ≡ depth_max) where
  sum_runs : (place : Place) (given more : Value) (at to : ℕ) → OneAt code.ops (op.Sum place) at to → Runs (updated place Plus given more) (here code at (pushed more (pushed given nothing))) (λ one. here code to (pushed one nothing))
  sum_runs place given more at to h = runs_op code (op.Sum place) at (pushed more (pushed given nothing)) (updated place Plus given more) (push at nothing) _ h.here (λ state. refl) (λ one state. at_place code (pushed one nothing) state h.end)

  added_runs : (place : Place) (list : List Expr) (given : Value) (at to : ℕ) → AddedAt code.ops place list at to → Runs (with_added program place list given) (here code at (pushed given nothing)) (λ one. here code to (pushed one nothing))
  added_runs place [] given at to h = record { by = λ state. at_place code (pushed given nothing) state h }
  added_runs place (one ∷ others) given at to h =
      runs_bind (value_runs program code stands.types (all_calls program) depth_max runs place one at h.mid (pushed given nothing) r h.first) (λ more.
      runs_bind (sum_runs place given more h.mid h.second.mid h.second.first) (λ sum. added_runs place others sum h.second.mid to h.second.second))

  pub initial_runs : (number : ℕ) (global : Global) (initial : Expr) (at to : ℕ) → InitialAt code.ops number global initial at to → Runs (initial_value program number global (Some initial)) (here code at nothing) (λ done state. Gives None state)
  initial_runs number global initial at to h =
      runs_bind (value_runs program code stands.types (all_calls program) depth_max runs global.place initial at h.mid nothing r h.first) (λ first.
      runs_bind (added_runs global.place global.added first h.mid h.second.mid h.second.first) (λ whole.
      runs_op code (op.Do global.place (action.Assign (side.Global number)) 1) h.second.mid (pushed whole nothing) (set_global number (Some whole)) (λ done. goes (h.second.mid + 1) nothing) _ h.second.second.first.here (λ state. refl)
      (λ done state. at_place code nothing state h.second.second.first.end ∙ first_step code op.End h.second.second.mid nothing state h.second.second.second.here)))
