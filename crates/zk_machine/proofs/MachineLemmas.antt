-- What a machine that stands for a program comes to.
use Rattle.std.proofs.Common.{◌≡◌, ℕ, zero, suc, ◌+◌, ◌<◌, List, [], ◌∷◌, ◌++◌, length, map, Option, Some, None, slice_get, refl, sym, ap, ◌∙◌, append_assoc, arith}
use Rattle.std.specs.Option.{option_map}
use Rattle.std.proofs.lemmas.Option.{none-some, same_Some}
use Rattle.zk_tree.specs.Value.{Value}
use Rattle.zk_typed.specs.declared.ends.BodyEnd.{BodyEnd}
use Rattle.zk_typed.specs.declared.ends.BodyEnd.TheVariants as ended
use Rattle.zk_base.specs.declared.time.Span.{Span}
use Rattle.zk_typed.specs.Dispatch.{Left, left, handler_body, initial_body, expiry_body, told, world_after}
use Rattle.zk_typed.specs.Running.{wait_of}
use Rattle.zk_machine.specs.declared.expiring.Expiring.{Expiring}
use Rattle.zk_machine.specs.Expiring.{span_of, span_ran}
use Rattle.zk_machine.specs.Leads.{ran_of}
use Rattle.zk_machine.specs.declared.ends.Ending as rust
use Rattle.zk_machine.specs.declared.ends.Ending.TheVariants as ending
use Rattle.zk_typed.specs.Does.{Ran, Gives, Faults, Spent}
use Rattle.zk_typed.specs.Log.{Row}
use Rattle.zk_typed.specs.Program.{Program, Handler, Global}
use Rattle.zk_typed.specs.State.{State, World}
use Rattle.zk_lower.specs.Code.{Code, types_in}
use Rattle.zk_lower.specs.Lowering.{lowered, globals_found, globals_at}
use Rattle.zk_lower.specs.Meant.{HandlersMean, InitialsMean, ExpiriesMean, handler_run, handler_left, initial_run, initial_left, expiry_run, expiry_left, without_names}
use Rattle.zk_lower.specs.Told.{Told, HandlersGoOn, InitialsGoOn, ExpiriesGoOn, behind, left_behind, ran_behind}

module _ (program : Program) (given : Told) (before : World) (budget : ℕ) where
  -- a handler's body, where this was given out before
  pub handler_ends : (code : Code) (number : ℕ) (args : List Value) (of : Handler) (end : Left) → HandlersMean → HandlersGoOn → code ≡ lowered program
      → slice_get program.handlers number ≡ Some of → handler_run code number args before budget ≡ Some end
      → left (handler_body program of args (behind given before) budget) ≡ left_behind given end
  handler_ends code number args of end means goes_on is there ran =
      let found : (world : World) → handler_left program number args world budget ≡ Some (left (handler_body program of args world budget)) =
      λ world. ap (option_map (λ handler. left (handler_body program handler args world budget))) there in
      same_Some _ _ (sym (found (behind given before))
      ∙ (goes_on given program number args before budget
      ∙ ap (option_map (left_behind given)) (sym (means program number args before budget) ∙ (ap (λ one. handler_run one number args before budget) (sym is) ∙ ran))))

  -- an initial value, where this was given out before
  pub initial_ends : (code : Code) (number : ℕ) (of : Global) (end : Left) → InitialsMean → InitialsGoOn → code ≡ lowered program
      → slice_get program.globals number ≡ Some of → initial_run code number before budget ≡ Some end
      → left (initial_body program number of (behind given before) budget) ≡ left_behind given end
  initial_ends code number of end means goes_on is there ran =
      let found : (world : World) → initial_left program number world budget ≡ Some (left (initial_body program number of world budget)) =
      λ world. ap (option_map (λ global. left (initial_body program number global world budget))) there in
      same_Some _ _ (sym (found (behind given before))
      ∙ (goes_on given program number before budget
      ∙ ap (option_map (left_behind given)) (sym (means program number before budget) ∙ (ap (λ one. initial_run one number before budget) (sym is) ∙ ran))))

  -- an expiry function, where this was given out before
  pub expiry_ends : (code : Code) (number : ℕ) (args : List Value) (of : Global) (end : Ran Span) → ExpiriesMean → ExpiriesGoOn → code ≡ lowered program
      → slice_get program.globals number ≡ Some of → expiry_run code number args before budget ≡ Some end
      → without_names (expiry_body program of args (behind given before) budget) ≡ ran_behind given end
  expiry_ends code number args of end means goes_on is there ran =
      let found : (world : World) → expiry_left program number args world budget ≡ Some (without_names (expiry_body program of args world budget)) =
      λ world. ap (option_map (λ global. without_names (expiry_body program global args world budget))) there in
      same_Some _ _ (sym (found (behind given before))
      ∙ (goes_on given program number args before budget
      ∙ ap (option_map (ran_behind given)) (sym (means program number args before budget) ∙ (ap (λ one. expiry_run one number args before budget) (sym is) ∙ ran))))

-- names and what was told decide nothing of what a body leaves
pub left_names : {A : Type 0} (ran : Ran A) → left (without_names ran) ≡ left ran
left_names (Gives a state) = refl
left_names (Faults kind place world units) = refl
left_names (Spent place world) = refl

pub left_told : {A : Type 0} (given : Told) (ran : Ran A) → left (ran_behind given ran) ≡ left_behind given (left ran)
left_told given (Gives a state) = refl
left_told given (Faults kind place world units) = refl
left_told given (Spent place world) = refl

pub wait_names : (ran : Ran Span) → wait_of (without_names ran) ≡ wait_of ran
wait_names (Gives a state) = refl
wait_names (Faults kind place world units) = refl
wait_names (Spent place world) = refl

pub wait_told : (given : Told) (ran : Ran Span) → wait_of (ran_behind given ran) ≡ wait_of ran
wait_told given (Gives a state) = refl
wait_told given (Faults kind place world units) = refl
wait_told given (Spent place world) = refl

pub left_span : (end : rust.Ending) (wait : Span) (state : State) → left (span_of end wait state) ≡ left (ran_of end state)
left_span (ending.Done value) wait state = refl
left_span (ending.Fault kind place) wait state = refl
left_span (ending.Spent place) wait state = refl

-- what an expiry function leaves and how long it waits, where this was given out before
module _ (program : Program) (given : Told) (before : World) (budget : ℕ) (code : Code) (number : ℕ) (args : List Value) (of : Global) (found : Option Expiring) (one : Expiring) (now : State)
    (means : ExpiriesMean) (goes_on : ExpiriesGoOn) (is : code ≡ lowered program) (there : slice_get program.globals number ≡ Some of)
    (ran : expiry_run code number args before budget ≡ option_map (λ one. without_names (span_ran one now)) found) (is_one : found ≡ Some one) where
  expiry_comes : without_names (expiry_body program of args (behind given before) budget) ≡ ran_behind given (without_names (span_ran one now))
  expiry_comes = expiry_ends program given before budget code number args of (without_names (span_ran one now)) means goes_on is there (ran ∙ ap (option_map (λ one. without_names (span_ran one now))) is_one)

  pub expiry_leaves : left (expiry_body program of args (behind given before) budget) ≡ left_behind given (left (ran_of one.ending now))
  expiry_leaves = sym (left_names (expiry_body program of args (behind given before) budget)) ∙ (ap left expiry_comes ∙ (left_told given (without_names (span_ran one now))
      ∙ ap (left_behind given) (left_names (span_ran one now) ∙ left_span one.ending one.wait now)))

  pub expiry_waits : wait_of (expiry_body program of args (behind given before) budget) ≡ wait_of (span_ran one now)
  expiry_waits = sym (wait_names (expiry_body program of args (behind given before) budget)) ∙ (ap wait_of expiry_comes ∙ (wait_told given (without_names (span_ran one now)) ∙ wait_names (span_ran one now)))

-- a report stands behind what was given out
rows_behind : (given : Told) (world : World) (row : Row) → behind given (record world { rows = world.rows ++ row ∷ [] }) ≡ record (behind given world) { rows = (given.rows ++ world.rows) ++ row ∷ [] }
rows_behind given world row = ap (λ (rows : List Row). record (behind given world) { rows = rows }) (sym (append_assoc given.rows world.rows (row ∷ [])))

pub told_behind : (program : Program) (given : Told) (end : BodyEnd) (world : World) → told program end (behind given world) ≡ behind given (told program end world)
told_behind program given ended.Done world = refl
told_behind program given (ended.Fault kind place) world = sym (rows_behind given world _)
told_behind program given (ended.Spent place) world = sym (rows_behind given world _)

-- the world after a body
pub world_behind : {A B : Type 0} (program : Program) (given : Told) (ran : Ran A) (other : Ran B) → left ran ≡ left_behind given (left other)
    → world_after program ran ≡ behind given (world_after program other)
world_behind program given ran other is = ap (λ (one : Left). told program one.end one.world) is ∙ told_behind program given (left other).end (left other).world

-- code has as many globals as its program
globals_all : (globals : List Global) (at number : ℕ) → length (globals_found at number globals) ≡ length globals
globals_all [] at number = refl
globals_all (one ∷ others) at number = ap suc (globals_all others _ (number + 1))

pub globals_in : (code : Code) (program : Program) → code ≡ lowered program → length code.globals ≡ length program.globals
globals_in code program is = ap (λ (one : Code). length one.globals) is ∙ globals_all program.globals (globals_at program) 0

-- of a program a report says its files alone
told_types : (program : Program) (end : BodyEnd) (world : World) → told (types_in (lowered program)) end world ≡ told program end world
told_types program ended.Done world = refl
told_types program (ended.Fault kind place) world = refl
told_types program (ended.Spent place) world = refl

pub world_types : {A : Type 0} (code : Code) (program : Program) (ran : Ran A) → code ≡ lowered program → world_after program ran ≡ world_after (types_in code) ran
world_types code program ran is = sym (told_types program (left ran).end (left ran).world) ∙ ap (λ (one : Code). told (types_in one) (left ran).end (left ran).world) (sym is)

-- what stands at a number that is below how many there are
pub stands_at : {A B C : Type 0} (make : A → B) (part : B → C) (xs : List A) (n : ℕ) → n < length xs → option_map part (slice_get (map make xs) n) ≡ None → ⊥
stands_at make part [] n within none = omega (arith, within)
stands_at make part (x ∷ xs) zero within none = none-some (part (make x)) (sym none)
stands_at make part (x ∷ xs) (suc n) within none = stands_at make part xs n (omega (arith, within)) none
