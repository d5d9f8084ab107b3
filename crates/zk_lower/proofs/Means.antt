-- The code of a program does what the program means.
use Rattle.std.proofs.Common.{◌≡◌, ℕ, zero, suc, ◌+◌, List, [], ◌∷◌, length, Option, Some, None, refl, ap, ◌∙◌, arith}
use Rattle.std.specs.Prelude.{slice_get}
use Rattle.std.specs.Option.{option_map}
use Rattle.zk_tree.specs.declared.place.Place.{Place}
use Rattle.zk_tree.specs.Value as plain
use Rattle.zk_tree.specs.Value.{Value}
use Rattle.zk_typed.specs.declared.ends.FaultKind.TheVariants.{Unset}
use Rattle.zk_typed.specs.Dispatch.{left, started, initial_value, initial_body, handler_body, expiry_body, wait_for, interval_of, all_calls}
use Rattle.zk_typed.specs.Does.{Ran, Gives, Faults, Spent, and_then, ◌>>=◌, pure, or_fault}
use Rattle.zk_typed.specs.Forms.{Expr}
use Rattle.zk_typed.specs.Meaning.{Flow, result_of, does, function_body, depth_max, first_locals}
use Rattle.zk_typed.specs.Program.{Program, Global, Function, Handler}
use Rattle.zk_typed.specs.State.{State, World}
use Rattle.zk_lower.specs.Code.{BodyCode}
use Rattle.zk_lower.specs.Lowering.{lowered, handler_ops, handler_found, initial_code, initials_code, entry_of, globals_found, globals_at}
use Rattle.zk_lower.specs.Meant.{begin, run_body, run_initial, without_names, run_found, run_expiry, HandlersMean, InitialsMean, ExpiriesMean}
use Rattle.zk_lower.specs.Run.{run}
use Rattle.zk_lower.proofs.Calls.{calls_run}
use Rattle.zk_lower.proofs.Ending.{left_same, body_ends, initial_runs}
use Rattle.zk_lower.proofs.Laid.{placed_at, code_stands, handlers_here, initials_here}
use Rattle.zk_lower.proofs.Lies.{HasAt, has_front, has_back, body_lies, initial_lies}
use Rattle.zk_lower.proofs.Standing.{BodyAt, FunctionAt}

module _ (program : Program) where
  handler_means : (one : Handler) (at : ℕ) → BodyAt (lowered program).ops one.body at → (args : List Value) (world : World) (budget : ℕ) → left (run (lowered program) (begin at (first_locals one.locals args) world budget)) ≡ left (handler_body program one args world budget)
  handler_means one at h args world budget =
      ap left (body_ends program (lowered program) (code_stands program) depth_max refl one.body at h (record { world = world; locals = first_locals one.locals args; units = budget })) ∙
      left_same (handler_body program one args world budget) result_of

pub handlers_mean : HandlersMean
handlers_mean program number args world budget = placed_at (lowered program).ops handler_ops handler_found
    (λ code one. option_map (λ handler. left (run_body (lowered program) handler.body args world budget)) code ≡ option_map (λ handler. left (handler_body program handler args world budget)) one)
    refl
    (λ at one h. ap Some (handler_means program one at (body_lies (lowered program).ops one.body at h) args world budget))
    program.handlers 0 (handlers_here program) number

-- Initial values ---------------------------------------------------------------------------------------------------

module _ (program : Program) (world : World) (budget : ℕ) where
  initial_means : (number : ℕ) (one : Global) (initial : Option Expr) (at : ℕ) → HasAt (lowered program).ops at (initial_code number one initial)
      → left (run_initial (lowered program) (entry_of at initial) world budget) ≡ left (started (initial_value program number one initial) [] world budget)
  initial_means number one None at h = refl
  initial_means number one (Some initial) at h =
      let code = lowered program in
      let there = initial_lies code.ops number one initial at (at + length (initial_code number one (Some initial))) refl h in
      let ran = initial_runs program code (code_stands program) (calls_run program code (code_stands program) depth_max) refl number one initial at (at + length (initial_code number one (Some initial))) there in
      ap left (ran.by (record { world = world; locals = []; units = budget })) ∙
      left_same (started (initial_value program number one (Some initial)) [] world budget) (λ done. None)

  initials_at : (list : List Global) (at number index nth : ℕ) → number + index ≡ nth → HasAt (lowered program).ops at (initials_code number list)
      → option_map (λ global. left (run_initial (lowered program) global.initial world budget)) (slice_get (globals_found at number list) index)
      ≡ option_map (λ global. left (initial_body program nth global world budget)) (slice_get list index)
  initials_at [] at number index nth e h = refl
  initials_at (one ∷ list) at number zero nth e h =
      let same : number ≡ nth = omega (arith, e) in
      ap Some (initial_means number one one.initial at (has_front (lowered program).ops at (initial_code number one one.initial) (initials_code (number + 1) list) h)) ∙
      ap (λ n. Some (left (initial_body program n one world budget))) same
  initials_at (one ∷ list) at number (suc index) nth e h =
      initials_at list (at + length (initial_code number one one.initial)) (number + 1) index nth (omega (arith, e)) (has_back (lowered program).ops at (initial_code number one one.initial) (initials_code (number + 1) list) h)

pub initials_mean : InitialsMean
initials_mean program number world budget = initials_at program world budget program.globals (globals_at program) 0 number number (omega arith) (initials_here program)

-- Expiry functions -------------------------------------------------------------------------------------------------

interval_same : (place : Place) (one : Value) (state : State) → without_names (interval_of place one state) ≡ without_names (interval_of place one (record state { locals = [] }))
interval_same place (plain.Interval span) state = refl
interval_same place one state = refl

given_same : (place : Place) (given : Option Value) (state : State) → without_names ((or_fault Unset place given >>= interval_of place) state) ≡ without_names ((or_fault Unset place given >>= interval_of place) (record state { locals = [] }))
given_same place None state = refl
given_same place (Some one) state = interval_same place one state

names_same : (place : Place) (ran : Ran Flow)
    → without_names (and_then (and_then ran (λ flow now. Gives (result_of flow) now)) (λ given. or_fault Unset place given >>= interval_of place))
    ≡ without_names (and_then (and_then (and_then ran (λ flow now. Gives flow (record now { locals = [] }))) (λ flow. pure (result_of flow))) (λ given. or_fault Unset place given >>= interval_of place))
names_same place (Gives flow state) = given_same place (result_of flow) state
names_same place (Faults kind at world units) = refl
names_same place (Spent at world) = refl

module _ (program : Program) (args : List Value) (world : World) (budget : ℕ) where
  found_means : (place : Place) (code : Option BodyCode) (one : Option Function) → FunctionAt (lowered program).ops code one
      → without_names (and_then (run_found (lowered program) place args world budget code) (λ given. or_fault Unset place given >>= interval_of place))
      ≡ without_names (and_then (started (function_body program (all_calls program) args place one) [] world budget) (λ given. or_fault Unset place given >>= interval_of place))
  found_means place None None h = refl
  found_means place None (Some one) h = absurd h
  found_means place (Some code) None h = absurd h
  found_means place (Some code) (Some one) h =
      let state : State = record { world = world; locals = first_locals one.locals args; units = budget } in
      ap (λ n. without_names (and_then (run (lowered program) (begin code.entry (first_locals n args) world budget)) (λ given. or_fault Unset place given >>= interval_of place))) h.0 ∙
      (ap (λ ran. without_names (and_then ran (λ given. or_fault Unset place given >>= interval_of place))) (body_ends program (lowered program) (code_stands program) depth_max refl one.body code.entry h.1 state) ∙
      names_same place (does program (all_calls program) one.body state))

  expiry_means : (place : Place) (function : Option ℕ) → without_names (run_expiry (lowered program) place args world budget function) ≡ without_names (started (wait_for program place args function) [] world budget)
  expiry_means place None = refl
  expiry_means place (Some function) = found_means place (slice_get (lowered program).functions function) (slice_get program.functions function) ((code_stands program).function function)

  expiries_at : (list : List Global) (at number index : ℕ)
      → option_map (λ global. without_names (run_expiry (lowered program) global.place args world budget global.expire_func)) (slice_get (globals_found at number list) index)
      ≡ option_map (λ global. without_names (expiry_body program global args world budget)) (slice_get list index)
  expiries_at [] at number index = refl
  expiries_at (one ∷ list) at number zero = ap Some (expiry_means one.place one.expire_func)
  expiries_at (one ∷ list) at number (suc index) = expiries_at list (at + length (initial_code number one one.initial)) (number + 1) index

pub expiries_mean : ExpiriesMean
expiries_mean program number args world budget = expiries_at program args world budget program.globals (globals_at program) 0 number
