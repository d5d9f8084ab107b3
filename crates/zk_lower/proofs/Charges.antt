-- What leads into a body or to another turn takes a unit.
use Rattle.std.proofs.Common.{ℕ, zero, suc, ◌<◌, ◌≤◌, Bool, true, false, List, [], ◌∷◌, Option, Some, None, arith}
use Rattle.std.specs.Prelude.{is_some}
use Rattle.zk_base.specs.declared.numbers.HookNo.{HookNo}
use Rattle.zk_tree.specs.declared.place.Place.{Place}
use Rattle.zk_tree.specs.Table.{Entry, entry_at}
use Rattle.zk_tree.specs.Value as value
use Rattle.zk_tree.specs.Value.{Value}
use Rattle.zk_typed.specs.declared.script.stmt.Names.{Names}
use Rattle.zk_typed.specs.Does.{Does, Ran, Gives, Faults, Spent, and_then, ◌>>=◌, ◌>>◌, pure, tick, spend, read}
use Rattle.zk_typed.specs.Log.{Stream, Filter}
use Rattle.zk_typed.specs.Logs.{log_word, policy_of, still_there, unless_vetoed}
use Rattle.zk_typed.specs.Meaning.{Flow, Normal, Broke, Nexted, Returned}
use Rattle.zk_typed.specs.Predefined.{filter_record}
use Rattle.zk_typed.specs.State.{State, World}
use Rattle.zk_lower.specs.Code.{BodyCode, Code, types_in}
use Rattle.zk_lower.specs.Frames.{Pending}
use Rattle.zk_lower.specs.Steps.{Onward, Answer, Body, bodies, at_depth, asked, row_written, by_policy, by_filters, to_stream, after_hook, after_body, if_there, key_there, next_key, next_index, hook_in}
use Rattle.zk_lower.proofs.Units.{AtMost, Keeps, keeps_tick, keeps_pure, keeps_table, keeps_bind, keeps_then, keeps_item}
use Rattle.zk_lower.proofs.PrimitiveUnits.{keeps_described, keeps_write_row, keeps_queue_row, keeps_set_names}

-- fewer, or no more
abbrev pub Within : Bool → ℕ → ℕ → Type 0
Within true most n = n < most
Within false most n = n ≤ most

abbrev pub ChargedAt : {A : Type 0} → (A → Bool) → ℕ → Ran A → Type 0
ChargedAt costs most (Gives a state) = Within (costs a) most state.units
ChargedAt costs most (Faults kind place world units) = Unit {0}
ChargedAt costs most (Spent place world) = Unit {0}

-- where the value costs a unit, one is taken
pub record Charges {A : Type 0} (costs : A → Bool) (m : Does A) : Type 0 where
  pub by : (state : State) → ChargedAt costs state.units (m state)

within_more : (costs : Bool) (n m k : ℕ) → n ≤ m → Within costs n k → Within costs m k
within_more true n m k le h = omega (arith, le, h)
within_more false n m k le h = omega (arith, le, h)

charged_more : {A : Type 0} (costs : A → Bool) (n m : ℕ) → n ≤ m → (ran : Ran A) → ChargedAt costs n ran → ChargedAt costs m ran
charged_more costs n m le (Gives a state) h = within_more (costs a) n m state.units le h
charged_more costs n m le (Faults kind place world units) h = tt
charged_more costs n m le (Spent place world) h = tt

charged_then : {A B : Type 0} (costs : B → Bool) (most : ℕ) (ran : Ran A) (k : A → State → Ran B) → ((a : A) (state : State) → ChargedAt costs state.units (k a state)) → AtMost most ran → ChargedAt costs most (and_then ran k)
charged_then costs most (Gives a state) k h le = charged_more costs state.units most le (k a state) (h a state)
charged_then costs most (Faults kind place world units) k h le = tt
charged_then costs most (Spent place world) k h le = tt

pub charges_bind : {A B : Type 0} {costs : B → Bool} {m : Does A} {k : A → Does B} → Keeps m → ((a : A) → Charges costs (k a)) → Charges costs (m >>= k)
charges_bind {costs = costs} {m = m} {k = k} first next = record { by = λ state. charged_then costs state.units (m state) k (λ a t. (next a).by t) (first.by state) }

pub charges_then : {A B : Type 0} {costs : B → Bool} {m : Does A} {k : Does B} → Keeps m → Charges costs k → Charges costs (m >> k)
charges_then first next = charges_bind first (λ a. next)

pub charges_of : {A B : Type 0} {costs : B → Bool} (part : World → A) {k : A → Does B} → ((a : A) → Charges costs (k a)) → Charges costs (read part >>= k)
charges_of part next = record { by = λ state. (next (part state.world)).by state }

-- a unit, and then what takes none
spent_then : {A : Type 0} (costs : A → Bool) (place : Place) (state : State) (units : ℕ) (m : Does A) → Keeps m → ChargedAt costs units (and_then (spend place state units) (λ one. m))
spent_then costs place state zero m keeps = tt
spent_then costs place state (suc units) m keeps = fewer costs (record state { units = units }) (m (record state { units = units })) (keeps.by (record state { units = units }))
  where
    either : (cost : Bool) (n : ℕ) → n ≤ units → Within cost (suc units) n
    either true n le = omega (arith, le)
    either false n le = omega (arith, le)

    fewer : {A : Type 0} (costs : A → Bool) (state : State) (ran : Ran A) → AtMost units ran → ChargedAt costs (suc units) ran
    fewer costs state (Gives a t) le = either (costs a) t.units le
    fewer costs state (Faults kind place world units) le = tt
    fewer costs state (Spent place world) le = tt

pub charges_tick : {A : Type 0} {costs : A → Bool} {m : Does A} (place : Place) → Keeps m → Charges costs (tick place >> m)
charges_tick {costs = costs} {m = m} place keeps = record { by = λ state. spent_then costs place state state.units m keeps }

paid_tick : (place : Place) (state : State) (units : ℕ) → ChargedAt {A = Unit {0}} (λ one. true) units (spend place state units)
paid_tick place state zero = tt
paid_tick place state (suc units) = omega arith

-- a unit alone
pub charged_tick : (place : Place) (state : State) → ChargedAt (λ one. true) state.units (tick place state)
charged_tick place state = paid_tick place state state.units

-- Turns ------------------------------------------------------------------------------------------------------------

charges_none : {A : Type 0} → Charges is_some (pure {A = Option A} None)
charges_none = record { by = λ state. omega arith }

charges_key_there : (place : Place) (names : Names) (key : List Value) (keys : List (List Value)) {others : Does (Option (List (List Value)))} → Charges is_some others → (entry : Option Entry) → Charges is_some (key_there place names key keys others entry)
charges_key_there place names key keys rest None = rest
charges_key_there place names key keys rest (Some entry) = charges_tick place (keeps_then (keeps_set_names names key entry.value) (keeps_pure (Some keys)))

pub charges_next_key : (place : Place) (names : Names) (over : Value) (keys : List (List Value)) → Charges is_some (next_key place names over keys)
charges_next_key place names over [] = charges_none
charges_next_key place names over (key ∷ keys) =
    charges_bind (keeps_table place over) (λ now. charges_key_there place names key keys (charges_next_key place names over keys) (entry_at key now.entries))

pub charges_next_index : (place : Place) (names : Names) (over : Value) (index : ℕ) → Charges (λ one. true) (next_index place names over index)
charges_next_index place names over index = charges_tick place (keeps_bind (keeps_item place over (value.Count index)) (λ one. keeps_set_names names (value.Count index ∷ []) one))

-- Hooks and writes -------------------------------------------------------------------------------------------------

abbrev pub enters : Onward → Bool
enters (Answer ran) = false
enters (Body body args others pending) = true

pub charges_answer : (ran : Bool) → Charges enters (pure (Answer ran))
charges_answer ran = record { by = λ state. omega arith }

pub charges_bodies : (place : Place) (args : List Value) (list : List BodyCode) {none : Does Onward} → Charges enters none → (pending : Option Pending) → Charges enters (bodies place args list none pending)
charges_bodies place args [] rest pending = rest
charges_bodies place args (body ∷ others) rest pending = charges_tick place (keeps_pure _)

pub charges_at_depth : (left : ℕ) (place : Place) {m : Does Onward} → Charges enters m → Charges enters (at_depth left place m)
charges_at_depth zero place one = record { by = λ state. tt }
charges_at_depth (suc left) place one = one

module _ (code : Code) (left : ℕ) (place : Place) where
  charges_asked : (pending : Pending) {written : Does Onward} → Charges enters written → (policy : HookNo) → Charges enters (asked code left place pending written policy)
  charges_asked pending rest policy = charges_bind (keeps_described (types_in code) filter_record place pending.stream pending.filter) (λ told.
      charges_then (keeps_tick place) (charges_at_depth left place (charges_bodies place (pending.row ∷ value.Enum (log_word (types_in code) pending.stream.id) ∷ told ∷ []) (hook_in code policy) rest (Some pending))))

  keeps_row_written : (pending : Pending) → Keeps (row_written code pending)
  keeps_row_written pending = keeps_write_row (types_in code) pending.stream pending.filter pending.row

  charges_by_policy : (pending : Pending) {others : Does Onward} → Charges enters others → (policy : Option HookNo) → Charges enters (by_policy code left place pending others policy)
  charges_by_policy pending rest None = charges_then (keeps_row_written pending) rest
  charges_by_policy pending rest (Some policy) = charges_asked pending (charges_then (keeps_row_written pending) rest) policy

  charges_if_there : (there : Bool) {m others : Does Onward} → Charges enters m → Charges enters others → Charges enters (if_there there m others)
  charges_if_there true one rest = one
  charges_if_there false one rest = rest

  pub charges_by_filters : (stream : Stream) (row : Value) (filters : List Filter) → Charges enters (by_filters code left place stream row filters)
  charges_by_filters stream row [] = charges_answer true
  charges_by_filters stream row (one ∷ others) = charges_of (still_there stream.id one.name) (λ there. charges_if_there there
      (charges_by_policy (record { stream = stream; row = row; filter = one; others = others }) (charges_by_filters stream row others) (policy_of stream one))
      (charges_by_filters stream row others))

  pub charges_to_stream : (row : Value) (stream : Option Stream) → Charges enters (to_stream code left place row stream)
  charges_to_stream row None = charges_answer false
  charges_to_stream row (Some stream) = charges_then (keeps_queue_row stream.event row) (charges_by_filters stream row stream.filters)

  keeps_unless_vetoed : (pending : Pending) (ran : Bool) → Keeps (unless_vetoed (row_written code pending) ran)
  keeps_unless_vetoed pending true = keeps_row_written pending
  keeps_unless_vetoed pending false = keeps_pure tt

  pub charges_after_hook : (ran : Bool) (pending : Option Pending) → Charges enters (after_hook code left place ran pending)
  charges_after_hook ran None = charges_answer ran
  charges_after_hook ran (Some pending) = charges_then (keeps_unless_vetoed pending ran) (charges_by_filters pending.stream pending.row pending.others)

  pub charges_after_body : (args : List Value) (others : List BodyCode) (pending : Option Pending) (flow : Flow) → Charges enters (after_body code left place args others pending flow)
  charges_after_body args others pending Broke = charges_after_hook false pending
  charges_after_body args others pending Normal = charges_bodies place args others (charges_after_hook true pending) pending
  charges_after_body args others pending Nexted = charges_bodies place args others (charges_after_hook true pending) pending
  charges_after_body args others pending (Returned given) = charges_bodies place args others (charges_after_hook true pending) pending
