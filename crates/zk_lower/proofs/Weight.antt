-- The weight falls at each step of any code, so that a run is its first step and then a run.
use Rattle.std.proofs.Common.{◌≡◌, ℕ, zero, suc, ◌+◌, ◌-◌, ◌*◌, ◌<◌, ◌≤◌, Bool, true, false, List, [], ◌∷◌, length, drop, Option, Some, None, refl, arith, suc-mul, mul-le-mul_right}
use Rattle.std.specs.Prelude.{slice_get, is_some}
use Rattle.std.proofs.lemmas.Option.{slice_get_within}
use Rattle.zk_base.specs.declared.numbers.HookNo.{HookNo}
use Rattle.zk_base.specs.declared.numbers.LogId.{LogId}
use Rattle.zk_tree.specs.declared.place.Place.{Place}
use Rattle.zk_tree.specs.Value as plain
use Rattle.zk_tree.specs.Value.{Value}
use Rattle.zk_typed.specs.declared.script.primitive.Binary.TheVariants.{Plus}
use Rattle.zk_typed.specs.declared.script.stmt.Names.{Names}
use Rattle.zk_typed.specs.Columns.{record_fields}
use Rattle.zk_typed.specs.Does.{Ran, Gives, Faults, Spent, tick}
use Rattle.zk_typed.specs.Logs.{stream_of}
use Rattle.zk_typed.specs.Meaning.{Flow, Normal, Broke, Returned, result_of, first_locals}
use Rattle.zk_typed.specs.Objects.{keys_of}
use Rattle.zk_typed.specs.State.{State}
use Rattle.zk_lower.specs.Code.{Op, BodyCode, Code, types_in}
use Rattle.zk_lower.specs.Code as op
use Rattle.zk_lower.specs.Frames.{Loop, Keys, Indexes, Awaits, Result, Return, Bodies, Frame, Held, Machine, pushed, with_stack, with_loops}
use Rattle.zk_lower.specs.Run.{Falls, after, steps, waiting, weight, run}
use Rattle.zk_lower.specs.Steps.{Step, Goes, Ends, by, goes, operands, without, given, add, decided, with_top, unless, turn, begin_keys, begin_indexes, keys_turn, keys_step, indexes_step, within_depth, room, into, call, Onward, Answer, Body, hook_in, onward, hook, write, resumed_with, resume, come_out, give, operate, at_op, step}
use Rattle.zk_lower.proofs.Charges.{Within, ChargedAt, charged_tick, charges_then, charges_of, charges_next_key, charges_next_index, charges_bodies, charges_at_depth, charges_answer, charges_to_stream, charges_after_body, enters}
use Rattle.zk_lower.proofs.PrimitiveUnits.{keeps_perform, keeps_act, keeps_updated}
use Rattle.zk_lower.proofs.Units.{AtMost, keeps_tick, keeps_local, keeps_global, keeps_new_record, keeps_table, keeps_vector}

lighter : (size u t x y : ℕ) → t ≤ u → x < y → t * (size + 1) + x < u * (size + 1) + y
lighter size u t x y le lt = let m : t * (size + 1) ≤ u * (size + 1) = mul-le-mul_right (size + 1) le in omega (arith, m, lt)

charged : (size u t x y : ℕ) → t < u → x < size + 1 + y → t * (size + 1) + x < u * (size + 1) + y
charged size u t x y le lt =
    let m : suc t * (size + 1) ≤ u * (size + 1) = mul-le-mul_right (size + 1) le in
    let e : suc t * (size + 1) ≡ t * (size + 1) + (size + 1) = suc-mul t (size + 1) in
    omega (arith, m, e, lt)

not-lt-zero : (n : ℕ) → n < 0 → ⊥
not-lt-zero n h = omega (arith, h)

abbrev pub machine : ℕ → Held → State → Machine
machine at held state = record { at = at; held = held; state = state }

module _ (code : Code) where
  onto : (m : Machine) (to : ℕ) (next : Held) (state : State) → state.units ≤ m.state.units → (length code.ops - to) + waiting (length code.ops) next.frames < (length code.ops - m.at) + waiting (length code.ops) m.held.frames → Falls code (weight code m) (goes to next state)
  onto m to next state le lt = lighter (length code.ops) m.state.units state.units _ _ le lt

  paid : (m : Machine) (to : ℕ) (next : Held) (state : State) → state.units < m.state.units → (length code.ops - to) + waiting (length code.ops) next.frames < length code.ops + 1 + ((length code.ops - m.at) + waiting (length code.ops) m.held.frames) → Falls code (weight code m) (goes to next state)
  paid m to next state le lt = charged (length code.ops) m.state.units state.units _ _ le lt

  falls_by : {A : Type 0} (n most : ℕ) (ran : Ran A) (next : A → State → Step) → AtMost most ran → ((a : A) (state : State) → state.units ≤ most → Falls code n (next a state)) → Falls code n (by ran next)
  falls_by n most (Gives a state) next le h = h a state le
  falls_by n most (Faults kind place world units) next le h = tt
  falls_by n most (Spent place world) next le h = tt

  falls_paid : {A : Type 0} (costs : A → Bool) (n most : ℕ) (ran : Ran A) (next : A → State → Step) → ChargedAt costs most ran → ((a : A) (state : State) → Within (costs a) most state.units → Falls code n (next a state)) → Falls code n (by ran next)
  falls_paid costs n most (Gives a state) next le h = h a state le
  falls_paid costs n most (Faults kind place world units) next le h = tt
  falls_paid costs n most (Spent place world) next le h = tt

  falls_top : (n : ℕ) (place : Place) (stack : List Value) (loops : List Loop) (frames : List Frame) (state : State) (next : Value → Held → Step) → ((value : Value) (rest : List Value) → Falls code n (next value (record { stack = rest; loops = loops; frames = frames }))) → Falls code n (with_top place (record { stack = stack; loops = loops; frames = frames }) state next)
  falls_top n place [] loops frames state next h = tt
  falls_top n place (value ∷ stack) loops frames state next h = h value stack

  falls_decided : (n : ℕ) (place : Place) (state : State) (value : Value) (met otherwise : Step) → Falls code n met → Falls code n otherwise → Falls code n (decided place state value met otherwise)
  falls_decided n place state (plain.Bool true) met otherwise a b = a
  falls_decided n place state (plain.Bool false) met otherwise a b = b
  falls_decided n place state value met otherwise a b = tt

  falls_turn : (place : Place) (back at : ℕ) (held : Held) (state : State) (value : Value) (stack : List Value) → at < length code.ops → Falls code (weight code (machine at held state)) (turn place back at state value (with_stack stack held))
  falls_turn place back at held state value stack lt = falls_decided _ place state value _ _
      (falls_paid (λ one. true) _ state.units (tick place state) (λ one. goes (at - back) (with_stack stack held)) (charged_tick place state)
      (λ one now paid_for. paid (machine at held state) (at - back) (with_stack stack held) now paid_for (omega arith)))
      (onto (machine at held state) (at + 1) (with_stack stack held) state (omega arith) (omega (arith, lt)))

  falls_keys : (place : Place) (names : Names) (back at : ℕ) (held : Held) (state : State) (loops : List Loop) → at < length code.ops → Falls code (weight code (machine at held state)) (keys_step place names back at held state loops)
  falls_keys place names back at held state (Keys over keys ∷ loops) lt =
      falls_paid is_some _ state.units _ (keys_turn at back over loops held) ((charges_next_key place names over keys).by state) turned
    where
      turned : (next : Option (List (List Value))) (now : State) → Within (is_some next) state.units now.units → Falls code (weight code (machine at held state)) (keys_turn at back over loops held next now)
      turned None now le = onto (machine at held state) (at + 2) (with_loops loops held) now le (omega (arith, lt))
      turned (Some keys) now le = paid (machine at held state) (at - back) (with_loops (Keys over keys ∷ loops) held) now le (omega arith)
  falls_keys place names back at held state (Indexes over index left ∷ loops) lt = tt
  falls_keys place names back at held state [] lt = tt

  falls_indexes : (place : Place) (names : Names) (back at : ℕ) (held : Held) (state : State) (loops : List Loop) → at < length code.ops → Falls code (weight code (machine at held state)) (indexes_step place names back at held state loops)
  falls_indexes place names back at held state (Indexes over index zero ∷ loops) lt = onto (machine at held state) (at + 2) (with_loops loops held) state (omega arith) (omega (arith, lt))
  falls_indexes place names back at held state (Indexes over index (suc left) ∷ loops) lt =
      falls_paid (λ one. true) _ state.units _ (λ one. goes (at - back) (with_loops (Indexes over (index + 1) left ∷ loops) held)) ((charges_next_index place names over index).by state)
      (λ one now le. paid (machine at held state) (at - back) (with_loops (Indexes over (index + 1) left ∷ loops) held) now le (omega arith))
  falls_indexes place names back at held state (Keys over keys ∷ loops) lt = tt
  falls_indexes place names back at held state [] lt = tt

  falls_depth : (n left : ℕ) (place : Place) (state : State) (next : Step) → Falls code n next → Falls code n (within_depth left place state next)
  falls_depth n zero place state next h = tt
  falls_depth n (suc left) place state next h = h

  falls_into : (place : Place) (awaits : Awaits) (at : ℕ) (args : List Value) (held : Held) (state now : State) (stack : List Value) (body : Option BodyCode) → now.units < state.units → Falls code (weight code (machine at held state)) (into place awaits at args (with_stack stack held) now body)
  falls_into place awaits at args held state now stack None le = tt
  falls_into place awaits at args held state now stack (Some body) le =
      paid (machine at held state) body.entry (record { stack = stack; loops = []; frames = record { back = at + 1; locals = now.locals; loops = held.loops; awaits = awaits } ∷ held.frames }) (record now { locals = first_locals body.locals args }) le (omega arith)

  falls_call : (place : Place) (awaits : Awaits) (function at : ℕ) (args : List Value) (held : Held) (state : State) (stack : List Value) → Falls code (weight code (machine at held state)) (call code place awaits function at args (with_stack stack held) state)
  falls_call place awaits function at args held state stack =
      falls_paid (λ one. true) _ state.units (tick place state) _ (charged_tick place state)
      (λ one now le. falls_depth _ (room (with_stack stack held)) place now _ (falls_into place awaits at args held state now stack (slice_get code.functions function) le))

  falls_onward : (at : ℕ) (held : Held) (state : State) (place : Place) (stack : List Value) (next : Onward) (now : State) → at < length code.ops → Within (enters next) state.units now.units → Falls code (weight code (machine at held state)) (onward (at + 1) place (with_stack stack held) next now)
  falls_onward at held state place stack (Answer ran) now lt le =
      onto (machine at held state) (at + 1) (pushed (plain.Bool ran) (with_stack stack held)) now le (omega (arith, lt))
  falls_onward at held state place stack (Body body args others pending) now lt le =
      paid (machine at held state) body.entry (record { stack = stack; loops = []; frames = record { back = at + 1; locals = now.locals; loops = held.loops; awaits = Bodies place args others pending } ∷ held.frames }) (record now { locals = first_locals body.locals args }) le (omega arith)

  falls_hook : (place : Place) (number : HookNo) (at : ℕ) (args : List Value) (held : Held) (state : State) (stack : List Value) → at < length code.ops → Falls code (weight code (machine at held state)) (hook code place number at args (with_stack stack held) state)
  falls_hook place number at args held state stack lt =
      falls_paid enters _ state.units _ (onward (at + 1) place (with_stack stack held))
      ((charges_then (keeps_tick place) (charges_at_depth (room (with_stack stack held)) place (charges_bodies place args (hook_in code number) (charges_answer true) None))).by state)
      (λ next now le. falls_onward at held state place stack next now lt le)

  falls_write : (place : Place) (log : LogId) (at : ℕ) (held : Held) (state : State) (row : Value) (stack : List Value) → at < length code.ops → Falls code (weight code (machine at held state)) (write code place log at state row (with_stack stack held))
  falls_write place log at held state row stack lt =
      falls_paid enters _ state.units _ (onward (at + 1) place (with_stack stack held))
      ((charges_then (keeps_tick place) (charges_of (λ world. stream_of log world.streams) (λ stream. charges_to_stream code (room (with_stack stack held)) place row stream))).by state)
      (λ next now le. falls_onward at held state place stack next now lt le)

  module _ (at : ℕ) (outer : List Value) (inner : List Loop) (state : State) (lt : at < length code.ops) where
    -- what a body that waits goes on with
    abbrev before : Frame → List Frame → ℕ
    before frame frames = weight code (machine at (record { stack = outer; loops = inner; frames = frame ∷ frames }) state)

    falls_result : (place : Place) (frame : Frame) (stack : List Value) (frames : List Frame) (value : Option Value) → Falls code (before frame frames) (resumed_with place frame.back (record { stack = stack; loops = frame.loops; frames = frames }) (record state { locals = frame.locals }) value)
    falls_result place frame stack frames None = tt
    falls_result place frame stack frames (Some value) =
        onto (machine at (record { stack = outer; loops = inner; frames = frame ∷ frames }) state) frame.back (record { stack = value ∷ stack; loops = frame.loops; frames = frames }) (record state { locals = frame.locals }) (omega arith) (omega (arith, lt))

    falls_back : (frame : Frame) (place : Place) (stack : List Value) (frames : List Frame) (next : Onward) (now : State) → Within (enters next) state.units now.units → Falls code (before frame frames) (onward frame.back place (record { stack = stack; loops = frame.loops; frames = frames }) next now)
    falls_back frame place stack frames (Answer ran) now le =
        onto (machine at (record { stack = outer; loops = inner; frames = frame ∷ frames }) state) frame.back (record { stack = plain.Bool ran ∷ stack; loops = frame.loops; frames = frames }) now le (omega (arith, lt))
    falls_back frame place stack frames (Body body args others pending) now le =
        paid (machine at (record { stack = outer; loops = inner; frames = frame ∷ frames }) state) body.entry (record { stack = stack; loops = []; frames = record { back = frame.back; locals = now.locals; loops = frame.loops; awaits = Bodies place args others pending } ∷ frames }) (record now { locals = first_locals body.locals args }) le (omega arith)

    falls_resume : (flow : Flow) (frame : Frame) (stack : List Value) (frames : List Frame) (awaits : Awaits) → Falls code (before frame frames) (resume code flow frame.back (record { stack = stack; loops = frame.loops; frames = frames }) (record state { locals = frame.locals }) awaits)
    falls_resume flow frame stack frames (Result place) = falls_result place frame stack frames (result_of flow)
    falls_resume flow frame stack frames Return =
        onto (machine at (record { stack = outer; loops = inner; frames = frame ∷ frames }) state) frame.back (record { stack = stack; loops = frame.loops; frames = frames }) (record state { locals = frame.locals }) (omega arith) (omega (arith, lt))
    falls_resume flow frame stack frames (Bodies place args others pending) =
        falls_paid enters _ state.units _ (onward frame.back place (record { stack = stack; loops = frame.loops; frames = frames }))
        ((charges_after_body code (room (record { stack = stack; loops = frame.loops; frames = frames })) place args others pending flow).by (record state { locals = frame.locals }))
        (λ next now le. falls_back frame place stack frames next now le)

    falls_out : (flow : Flow) (stack : List Value) (frames : List Frame) → Falls code (weight code (machine at (record { stack = outer; loops = inner; frames = frames }) state)) (come_out code flow stack state frames)
    falls_out flow stack [] = tt
    falls_out flow stack (frame ∷ frames) = falls_resume flow frame stack frames frame.awaits

  falls_give : (at : ℕ) (stack : List Value) (loops : List Loop) (frames : List Frame) (state : State) → at < length code.ops → Falls code (weight code (machine at (record { stack = stack; loops = loops; frames = frames }) state)) (give code (record { stack = stack; loops = loops; frames = frames }) state)
  falls_give at [] loops frames state lt = falls_out at [] loops state lt (Returned None) [] frames
  falls_give at (value ∷ stack) loops frames state lt = falls_out at (value ∷ stack) loops state lt (Returned (Some value)) stack frames

  falls_add : (place : Place) (at : ℕ) (stack : List Value) (loops : List Loop) (frames : List Frame) (state : State) → at < length code.ops → Falls code (weight code (machine at (record { stack = stack; loops = loops; frames = frames }) state)) (add place at (record { stack = stack; loops = loops; frames = frames }) state)
  falls_add place at [] loops frames state lt = tt
  falls_add place at (more ∷ []) loops frames state lt = tt
  falls_add place at (more ∷ former ∷ stack) loops frames state lt = falls_by _ state.units _ _ ((keeps_updated place Plus former more).by state)
      (λ value now le. onto (machine at (record { stack = more ∷ former ∷ stack; loops = loops; frames = frames }) state) (at + 1) (record { stack = value ∷ stack; loops = loops; frames = frames }) now le (omega (arith, lt)))

  falls_op : (one : Op) (at : ℕ) (held : Held) (state : State) → at < length code.ops → Falls code (weight code (machine at held state)) (operate code one at held state)
  falls_op (op.Push value) at held state lt = onto (machine at held state) (at + 1) (pushed value held) state (omega arith) (omega (arith, lt))
  falls_op (op.Local place number) at held state lt = falls_by _ state.units _ _ ((keeps_local place number).by state) (λ value now le. onto (machine at held state) (at + 1) (pushed value held) now le (omega (arith, lt)))
  falls_op (op.Global place number) at held state lt = falls_by _ state.units _ _ ((keeps_global place number).by state) (λ value now le. onto (machine at held state) (at + 1) (pushed value held) now le (omega (arith, lt)))
  falls_op (op.Apply place primitive count) at held state lt =
      falls_by _ state.units _ _ ((keeps_perform place primitive (operands count held)).by state) (λ value now le. onto (machine at held state) (at + 1) (pushed value (without count held)) now le (omega (arith, lt)))
  falls_op (op.New place record_no fields) at held state lt =
      falls_by _ state.units _ _ ((keeps_new_record place record_no (record_fields (types_in code) record_no) (given fields (operands (length fields) held))).by state) (λ value now le. onto (machine at held state) (at + 1) (pushed value (without (length fields) held)) now le (omega (arith, lt)))
  falls_op (op.Sum place) at held state lt = falls_add place at held.stack held.loops held.frames state lt
  falls_op (op.Do place action count) at held state lt = falls_by _ state.units _ _ ((keeps_act place action (operands count held)).by state) (λ one now le. onto (machine at held state) (at + 1) (without count held) now le (omega (arith, lt)))
  falls_op op.Drop at held state lt = onto (machine at held state) (at + 1) (without 1 held) state (omega arith) (omega (arith, lt))
  falls_op (op.Tick place) at held state lt = falls_by _ state.units _ _ ((keeps_tick place).by state) (λ one now le. onto (machine at held state) (at + 1) held now le (omega (arith, lt)))
  falls_op (op.Jump over) at held state lt = onto (machine at held state) (at + 1 + over) held state (omega arith) (omega (arith, lt))
  falls_op (op.Unless place over) at held state lt = falls_top (weight code (machine at held state)) place held.stack held.loops held.frames state (unless place over at state) (λ value rest. falls_decided (weight code (machine at held state)) place state value (goes (at + 1) (with_stack rest held) state) (goes (at + 1 + over) (with_stack rest held) state)
      (onto (machine at held state) (at + 1) (with_stack rest held) state (omega arith) (omega (arith, lt)))
      (onto (machine at held state) (at + 1 + over) (with_stack rest held) state (omega arith) (omega (arith, lt))))
  falls_op (op.Turn place back) at held state lt = falls_top (weight code (machine at held state)) place held.stack held.loops held.frames state (turn place back at state) (λ value rest. falls_turn place back at held state value rest lt)
  falls_op (op.BeginKeys place) at held state lt = falls_top (weight code (machine at held state)) place held.stack held.loops held.frames state (begin_keys place at state) (λ value rest.
      falls_by (weight code (machine at held state)) state.units _ (λ start. goes (at + 1) (record { stack = rest; loops = Keys value (keys_of start) ∷ held.loops; frames = held.frames })) ((keeps_table place value).by state) (λ start now le. onto (machine at held state) (at + 1) (record { stack = rest; loops = Keys value (keys_of start) ∷ held.loops; frames = held.frames }) now le (omega (arith, lt))))
  falls_op (op.NextKey place names back) at held state lt = falls_keys place names back at held state held.loops lt
  falls_op (op.BeginIndexes place) at held state lt = falls_top (weight code (machine at held state)) place held.stack held.loops held.frames state (begin_indexes place at state) (λ value rest.
      falls_by (weight code (machine at held state)) state.units _ (λ start. goes (at + 1) (record { stack = rest; loops = Indexes value 0 (length start) ∷ held.loops; frames = held.frames })) ((keeps_vector place value).by state) (λ start now le. onto (machine at held state) (at + 1) (record { stack = rest; loops = Indexes value 0 (length start) ∷ held.loops; frames = held.frames }) now le (omega (arith, lt))))
  falls_op (op.NextIndex place names back) at held state lt = falls_indexes place names back at held state held.loops lt
  falls_op op.EndLoop at held state lt = onto (machine at held state) (at + 1) (with_loops (drop 1 held.loops) held) state (omega arith) (omega (arith, lt))
  falls_op (op.Call place function count) at held state lt = falls_call place (Result place) function at (operands count held) held state (drop count held.stack)
  falls_op (op.Perform place function count) at held state lt = falls_call place Return function at (operands count held) held state (drop count held.stack)
  falls_op (op.Hook place number count) at held state lt = falls_hook place number at (operands count held) held state (drop count held.stack) lt
  falls_op (op.Write place log) at held state lt = falls_top (weight code (machine at held state)) place held.stack held.loops held.frames state (write code place log at state) (λ value rest. falls_write place log at held state value rest lt)
  falls_op op.End at held state lt = falls_out at held.stack held.loops state lt Normal held.stack held.frames
  falls_op op.Give at held state lt = falls_give at held.stack held.loops held.frames state lt
  falls_op op.Break at held state lt = falls_out at held.stack held.loops state lt Broke held.stack held.frames

  falls_at : (at : ℕ) (held : Held) (state : State) (one : Option Op) → slice_get code.ops at ≡ one → Falls code (weight code (machine at held state)) (at_op code at held state one)
  falls_at at held state None e = tt
  falls_at at held state (Some one) e = falls_op one at held state (slice_get_within code.ops at one e)

  pub falls : (m : Machine) → Falls code (weight code m) (step code m)
  falls m = falls_at m.at m.held m.state (slice_get code.ops m.at) refl

  -- with steps enough for the weight, more make no difference
  from_less : (n : ℕ) (s : Step) (a b : Machine → Ran (Option Value)) → ((next : Machine) → weight code next < n → a next ≡ b next) → Falls code n s → after s a ≡ after s b
  from_less n (Goes next) a b h lt = h next lt
  from_less n (Ends ran) a b h lt = refl

  enough : (n k : ℕ) (m : Machine) → weight code m < n → weight code m < k → steps code n m ≡ steps code k m
  enough zero k m a b = absurd (not-lt-zero (weight code m) a)
  enough (suc n) zero m a b = absurd (not-lt-zero (weight code m) b)
  enough (suc n) (suc k) m a b =
      from_less (weight code m) (step code m) (steps code n) (steps code k) (λ next lt. enough n k next (omega (arith, lt, a)) (omega (arith, lt, b))) (falls m)

  -- a run is its first step and then a run
  pub run_steps : (m : Machine) → run code m ≡ after (step code m) (run code)
  unfolding run
  run_steps m = from_less (weight code m) (step code m) (steps code (weight code m)) (run code) (λ next lt. enough (weight code m) (suc (weight code next)) next lt (omega arith)) (falls m)
