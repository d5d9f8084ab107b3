-- What an operation does. Where it leads back or into a body it takes a unit.
use Rattle.std.specs.Prelude.{ℕ, zero, suc, ◌+◌, ◌-◌, Bool, true, false, List, [], ◌∷◌, length, reverse, take, drop, Option, Some, None, slice_get}
use Rattle.zk_base.specs.declared.numbers.HookNo.{HookNo}
use Rattle.zk_base.specs.declared.numbers.LogId.{LogId}
use Rattle.zk_tree.specs.declared.place.Place.{Place}
use Rattle.zk_tree.specs.Table.{Entry, entry_at}
use Rattle.zk_tree.specs.Value as plain
use Rattle.zk_tree.specs.Value.{Value}
use Rattle.zk_typed.specs.declared.ends.FaultKind.TheVariants.{Unset, Depth}
use Rattle.zk_typed.specs.declared.script.primitive.Binary.TheVariants.{Plus}
use Rattle.zk_typed.specs.declared.script.stmt.Names.{Names}
use Rattle.zk_typed.specs.Columns.{record_fields}
use Rattle.zk_typed.specs.Does.{Does, Ran, Gives, Faults, Spent, ◌>>=◌, ◌>>◌, pure, fault, tick, local, global, read}
use Rattle.zk_typed.specs.Log.{Stream, Filter}
use Rattle.zk_typed.specs.Logs.{stream_of, still_there, policy_of, write_row, queue_row, log_word, described, unless_vetoed}
use Rattle.zk_typed.specs.Meaning.{Flow, Normal, Broke, Returned, result_of, first_locals, set_names, depth_max}
use Rattle.zk_typed.specs.Objects.{Given, table, keys_of, vector, item, new_record}
use Rattle.zk_typed.specs.Predefined.{filter_record}
use Rattle.zk_typed.specs.Primitives.{perform, act, updated}
use Rattle.zk_typed.specs.State.{State}
use Rattle.zk_lower.specs.Code.{Op, BodyCode, Code, types_in}
use Rattle.zk_lower.specs.Code as op
use Rattle.zk_lower.specs.Frames.{Loop, Keys, Indexes, Pending, Awaits, Result, Return, Bodies, Frame, Held, Machine, pushed, with_stack, with_loops}

-- what a step comes to: it goes on, or the code ends with the value of its body, where that has one
pub data Step : Type 0 where
  Goes : (machine : Machine) → Step
  Ends : (ran : Ran (Option Value)) → Step

-- a step by a computation: where it gives no value, the code ends
abbrev pub by : {A : Type 0} → Ran A → (A → State → Step) → Step
by (Gives a state) next = next a state
by (Faults kind place world units) next = Ends (Faults kind place world units)
by (Spent place world) next = Ends (Spent place world)

abbrev pub goes : ℕ → Held → State → Step
goes at held state = Goes (record { at = at; held = held; state = state })

-- the last operands, in the order in which they were pushed
abbrev pub operands : ℕ → Held → List Value
operands count held = reverse (take count held.stack)

abbrev pub without : ℕ → Held → Held
without count held = with_stack (drop count held.stack) held

abbrev pub unfit : Place → State → Step
unfit place state = Ends (Faults Unset place state.world state.units)

-- Values -----------------------------------------------------------------------------------------------------------

abbrev pub push : ℕ → Held → Value → State → Step
push at held value state = goes (at + 1) (pushed value held) state

-- fields by their numbers, with their values
abbrev pub given : List ℕ → List Value → List Given
given [] values = []
given (field ∷ fields) [] = []
given (field ∷ fields) (value ∷ values) = (field, value) ∷ given fields values

abbrev pub add : Place → ℕ → Held → State → Step
add place at held state = of held.stack
  where
    of : List Value → Step
    of [] = unfit place state
    of (more ∷ []) = unfit place state
    of (more ∷ before ∷ stack) = by (updated place Plus before more state) (push at (with_stack stack held))

-- Branches ---------------------------------------------------------------------------------------------------------

-- a truth value decides; no other stands here in a typed program
abbrev pub decided : Place → State → Value → Step → Step → Step
decided place state (plain.Bool true) met otherwise = met
decided place state (plain.Bool false) met otherwise = otherwise
decided place state value met otherwise = unfit place state

abbrev pub with_top : Place → Held → State → (Value → Held → Step) → Step
with_top place held state next = of held.stack
  where
    of : List Value → Step
    of [] = unfit place state
    of (value ∷ stack) = next value (with_stack stack held)

abbrev pub unless : Place → ℕ → ℕ → State → Value → Held → Step
unless place over at state value held = decided place state value (goes (at + 1) held state) (goes (at + 1 + over) held state)

abbrev pub turn : Place → ℕ → ℕ → State → Value → Held → Step
turn place back at state value held =
    decided place state value (by (tick place state) (λ one. goes (at - back) held)) (goes (at + 1) held state)

-- Loops ------------------------------------------------------------------------------------------------------------

abbrev pub begin_keys : Place → ℕ → State → Value → Held → Step
begin_keys place at state over held =
    by (table place over state) (λ start. goes (at + 1) (with_loops (Keys over (keys_of start) ∷ held.loops) held))

abbrev pub begin_indexes : Place → ℕ → State → Value → Held → Step
begin_indexes place at state over held =
    by (vector place over state) (λ start. goes (at + 1) (with_loops (Indexes over 0 (length start) ∷ held.loops) held))

-- the turn of the first key that is still there, before those that are left then
abbrev pub key_there : Place → Names → List Value → List (List Value) → Does (Option (List (List Value))) → Option Entry → Does (Option (List (List Value)))
key_there place names key keys others None = others
key_there place names key keys others (Some entry) = tick place >> (set_names names key entry.value >> pure (Some keys))

abbrev pub next_key : Place → Names → Value → List (List Value) → Does (Option (List (List Value)))
next_key place names over [] = pure None
next_key place names over (key ∷ keys) = do
  now ← table place over
  key_there place names key keys (next_key place names over keys) (entry_at key now.entries)

abbrev pub next_index : Place → Names → Value → ℕ → Does (Unit {0})
next_index place names over index = do
  tick place
  one ← item place over (plain.Count index)
  set_names names (plain.Count index ∷ []) one

-- another turn, or on behind the end of the loop
abbrev pub keys_turn : ℕ → ℕ → Value → List Loop → Held → Option (List (List Value)) → State → Step
keys_turn at back over loops held None = goes (at + 2) (with_loops loops held)
keys_turn at back over loops held (Some keys) = goes (at - back) (with_loops (Keys over keys ∷ loops) held)

abbrev pub keys_step : Place → Names → ℕ → ℕ → Held → State → List Loop → Step
keys_step place names back at held state (Keys over keys ∷ loops) = by (next_key place names over keys state) (keys_turn at back over loops held)
keys_step place names back at held state loops = unfit place state

abbrev pub indexes_step : Place → Names → ℕ → ℕ → Held → State → List Loop → Step
indexes_step place names back at held state (Indexes over index zero ∷ loops) = goes (at + 2) (with_loops loops held) state
indexes_step place names back at held state (Indexes over index (suc left) ∷ loops) =
    by (next_index place names over index state) (λ one. goes (at - back) (with_loops (Indexes over (index + 1) left ∷ loops) held))
indexes_step place names back at held state loops = unfit place state

-- Calls ------------------------------------------------------------------------------------------------------------

-- into a body, while another one waits
abbrev pub enter : BodyCode → List Value → Frame → Held → State → Step
enter body args frame held state = goes body.entry
    (record { stack = held.stack; loops = []; frames = frame ∷ held.frames })
    (record state { locals = first_locals body.locals args })

-- a call costs a unit, and only so many may stand within one another
abbrev pub within_depth : ℕ → Place → State → Step → Step
within_depth zero place state next = Ends (Faults Depth place state.world state.units)
within_depth (suc left) place state next = next

abbrev pub room : Held → ℕ
room held = depth_max - length held.frames

abbrev pub into : Place → Awaits → ℕ → List Value → Held → State → Option BodyCode → Step
into place awaits at args held state None = unfit place state
into place awaits at args held state (Some body) =
    enter body args (record { back = at + 1; locals = state.locals; loops = held.loops; awaits = awaits }) held state

abbrev pub call : Code → Place → Awaits → ℕ → ℕ → List Value → Held → State → Step
call code place awaits function at args held state =
    by (tick place state) (λ one now. within_depth (room held) place now (into place awaits at args held now (slice_get code.functions function)))

-- What is left of a hook or of a write: its value, or a body that runs first.
pub data Onward : Type 0 where
  Answer : (ran : Bool) → Onward
  Body : (body : BodyCode) (args : List Value) (others : List BodyCode) (pending : Option Pending) → Onward

abbrev pub bodies : Place → List Value → List BodyCode → Does Onward → Option Pending → Does Onward
bodies place args [] none pending = none
bodies place args (body ∷ others) none pending = tick place >> pure (Body body args others pending)

abbrev pub bodies_in : Option (List BodyCode) → List BodyCode
bodies_in None = []
bodies_in (Some bodies) = bodies

abbrev pub hook_in : Code → HookNo → List BodyCode
hook_in code hook = bodies_in (slice_get code.hooks hook.0)

abbrev pub at_depth : {A : Type 0} → ℕ → Place → Does A → Does A
at_depth zero place next = fault Depth place
at_depth (suc left) place next = next

-- the policy of a filter is asked with the row, the log's word and what it is told of the filter
abbrev pub asked : Code → ℕ → Place → Pending → Does Onward → HookNo → Does Onward
asked code left place pending written policy = do
  told ← described (types_in code) filter_record place pending.stream pending.filter
  tick place
  at_depth left place (bodies place
      (pending.row ∷ plain.Enum (log_word (types_in code) pending.stream.id) ∷ told ∷ [])
      (hook_in code policy) written (Some pending))

abbrev pub row_written : Code → Pending → Does (Unit {0})
row_written code pending = write_row (types_in code) pending.stream pending.filter pending.row

abbrev pub by_policy : Code → ℕ → Place → Pending → Does Onward → Option HookNo → Does Onward
by_policy code left place pending others None = row_written code pending >> others
by_policy code left place pending others (Some policy) = asked code left place pending (row_written code pending >> others) policy

abbrev pub if_there : {A : Type 0} → Bool → Does A → Does A → Does A
if_there true there others = there
if_there false there others = others

-- the filters from here on
abbrev pub by_filters : Code → ℕ → Place → Stream → Value → List Filter → Does Onward
by_filters code left place stream row [] = pure (Answer true)
by_filters code left place stream row (one ∷ others) = do
  there ← read (still_there stream.id one.name)
  if_there there
      (by_policy code left place (record { stream = stream; row = row; filter = one; others = others }) (by_filters code left place stream row others) (policy_of stream one))
      (by_filters code left place stream row others)

abbrev pub to_stream : Code → ℕ → Place → Value → Option Stream → Does Onward
to_stream code left place row None = pure (Answer false)
to_stream code left place row (Some stream) = queue_row stream.event row >> by_filters code left place stream row stream.filters

-- a write goes on after the policy of a filter
abbrev pub after_hook : Code → ℕ → Place → Bool → Option Pending → Does Onward
after_hook code left place ran None = pure (Answer ran)
after_hook code left place ran (Some pending) =
    unless_vetoed (row_written code pending) ran >> by_filters code left place pending.stream pending.row pending.others

-- the value is pushed, or the body is entered, while a body waits that goes on at a place
abbrev pub onward : ℕ → Place → Held → Onward → State → Step
onward back place held (Answer ran) state = goes back (pushed (plain.Bool ran) held) state
onward back place held (Body body args others pending) state =
    enter body args (record { back = back; locals = state.locals; loops = held.loops; awaits = Bodies place args others pending }) held state

abbrev pub hook : Code → Place → HookNo → ℕ → List Value → Held → State → Step
hook code place number at args held state =
    by ((tick place >> at_depth (room held) place (bodies place args (hook_in code number) (pure (Answer true)) None)) state) (onward (at + 1) place held)

abbrev pub write : Code → Place → LogId → ℕ → State → Value → Held → Step
write code place log at state row held =
    by ((tick place >> (read (λ world. stream_of log world.streams) >>= to_stream code (room held) place row)) state) (onward (at + 1) place held)

-- the end of a body of a hook: the next one, unless it was a `break`
abbrev pub after_body : Code → ℕ → Place → List Value → List BodyCode → Option Pending → Flow → Does Onward
after_body code left place args others pending Broke = after_hook code left place false pending
after_body code left place args others pending flow = bodies place args others (after_hook code left place true pending) pending

-- the value that is wanted, or a fault
abbrev pub resumed_with : Place → ℕ → Held → State → Option Value → Step
resumed_with place back held state None = unfit place state
resumed_with place back held state (Some value) = goes back (pushed value held) state

-- the body that waits goes on at a place
abbrev pub resume : Code → Flow → ℕ → Held → State → Awaits → Step
resume code flow back held state (Result place) = resumed_with place back held state (result_of flow)
resume code flow back held state Return = goes back held state
resume code flow back held state (Bodies place args others pending) =
    by (after_body code (room held) place args others pending flow state) (onward back place held)

-- the end of a body
abbrev pub come_out : Code → Flow → List Value → State → List Frame → Step
come_out code flow stack state [] = Ends (Gives (result_of flow) state)
come_out code flow stack state (frame ∷ frames) =
    resume code flow frame.back (record { stack = stack; loops = frame.loops; frames = frames }) (record state { locals = frame.locals }) frame.awaits

abbrev pub give : Code → Held → State → Step
give code held state = of held.stack
  where
    of : List Value → Step
    of [] = come_out code (Returned None) [] state held.frames
    of (value ∷ stack) = come_out code (Returned (Some value)) stack state held.frames

-- Operations -------------------------------------------------------------------------------------------------------

abbrev pub operate : Code → Op → ℕ → Held → State → Step
operate code (op.Push value) at held state = push at held value state
operate code (op.Local place number) at held state = by (local place number state) (push at held)
operate code (op.Global place number) at held state = by (global place number state) (push at held)
operate code (op.Apply place primitive count) at held state = by (perform place primitive (operands count held) state) (push at (without count held))
operate code (op.New place record_no fields) at held state =
    by (new_record place record_no (record_fields (types_in code) record_no) (given fields (operands (length fields) held)) state) (push at (without (length fields) held))
operate code (op.Sum place) at held state = add place at held state
operate code (op.Do place action count) at held state = by (act place action (operands count held) state) (λ one. goes (at + 1) (without count held))
operate code op.Drop at held state = goes (at + 1) (without 1 held) state
operate code (op.Tick place) at held state = by (tick place state) (λ one. goes (at + 1) held)
operate code (op.Jump over) at held state = goes (at + 1 + over) held state
operate code (op.Unless place over) at held state = with_top place held state (unless place over at state)
operate code (op.Turn place back) at held state = with_top place held state (turn place back at state)
operate code (op.BeginKeys place) at held state = with_top place held state (begin_keys place at state)
operate code (op.NextKey place names back) at held state = keys_step place names back at held state held.loops
operate code (op.BeginIndexes place) at held state = with_top place held state (begin_indexes place at state)
operate code (op.NextIndex place names back) at held state = indexes_step place names back at held state held.loops
operate code op.EndLoop at held state = goes (at + 1) (with_loops (drop 1 held.loops) held) state
operate code (op.Call place function count) at held state = call code place (Result place) function at (operands count held) (without count held) state
operate code (op.Perform place function count) at held state = call code place Return function at (operands count held) (without count held) state
operate code (op.Hook place number count) at held state = hook code place number at (operands count held) (without count held) state
operate code (op.Write place log) at held state = with_top place held state (write code place log at state)
operate code op.End at held state = come_out code Normal held.stack state held.frames
operate code op.Give at held state = give code held state
operate code op.Break at held state = come_out code Broke held.stack state held.frames

-- past its end the code is done
abbrev pub at_op : Code → ℕ → Held → State → Option Op → Step
at_op code at held state None = Ends (Gives None state)
at_op code at held state (Some op) = operate code op at held state

abbrev pub step : Code → Machine → Step
step code machine = at_op code machine.at machine.held machine.state (slice_get code.ops machine.at)
