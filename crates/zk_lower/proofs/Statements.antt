-- The code of a statement does what the statement means, and comes out as it does.
use Rattle.std.proofs.Common.{◌≡◌, ℕ, zero, suc, ◌+◌, ◌-◌, ◌<◌, ◌≤◌, true, false, List, [], ◌∷◌, length, Option, Some, None, refl, sym, ap, ◌∙◌, arith}
use Rattle.zk_tree.specs.declared.place.Place.{Place}
use Rattle.zk_tree.specs.Table.{Entry, entry_at}
use Rattle.zk_tree.specs.Value as plain
use Rattle.zk_tree.specs.Value.{Value}
use Rattle.zk_typed.specs.declared.script.action.Action.{Action}
use Rattle.zk_typed.specs.declared.script.action.Action.TheVariants as action
use Rattle.zk_typed.specs.declared.script.action.Left.TheVariants as side
use Rattle.zk_typed.specs.declared.script.primitive.Primitive.TheVariants as primitive
use Rattle.zk_typed.specs.declared.script.stmt.Names.{Names}
use Rattle.zk_typed.specs.Does.{Does, Ran, Gives, Faults, Spent, and_then, ◌>>=◌, ◌>>◌, pure, tick, spend}
use Rattle.zk_typed.specs.Forms.{Expr, Exprs, Stmt, Stmts}
use Rattle.zk_typed.specs.Forms as form
use Rattle.zk_typed.specs.Meaning.{Calls, Flow, Normal, Broke, Nexted, Returned, result_of, choose, value, values, after_turn, turns, loop, set_names, key_turn, each_key, each_index, returned, does, all}
use Rattle.zk_typed.specs.Meaning as meaning
use Rattle.zk_typed.specs.Objects.{table, vector, item, keys_of}
use Rattle.zk_typed.specs.Primitives.{act}
use Rattle.zk_typed.specs.Program.{Program}
use Rattle.zk_typed.specs.State.{State}
use Rattle.zk_lower.specs.Code.{Op, Code, types_of, types_in}
use Rattle.zk_lower.specs.Code as op
use Rattle.zk_lower.specs.Frames.{Loop, Keys, Indexes, Awaits, Result, Return, Bodies, Frame, Held, pushed, with_loops}
use Rattle.zk_lower.specs.Lowering.{count}
use Rattle.zk_lower.specs.Steps.{by, goes, room, call, next_key, key_there, keys_turn, next_index, come_out, resumed_with, resume}
use Rattle.zk_lower.proofs.Expressions.{CallsRun, Joins, jumps, choice_runs, values_count, value_runs, values_run, apply_runs}
use Rattle.zk_lower.proofs.MeaningUnits.{CallsKeep, value_keeps, does_keeps}
use Rattle.zk_lower.proofs.Runs.{Start, Runs, then_then, then_same, after_by, runs_bind, runs_then, runs_from, runs_knowing, here, rest, first_step, runs_op, at_place, all_pushed, popped}
use Rattle.zk_lower.proofs.Standing.{At, Stretch, OneAt, TickAt, GivenAt, Ways, StmtAt, StmtsAt}
use Rattle.zk_lower.proofs.Units.{AtMost, Keeps}

-- Units ------------------------------------------------------------------------------------------------------------

at_most_same : {A B : Type 0} (most : ℕ) (ran : Ran A) (f g : A → State → Ran B) → AtMost most ran → ((a : A) (state : State) → state.units ≤ most → f a state ≡ g a state) → and_then ran f ≡ and_then ran g
at_most_same most (Gives a state) f g le h = h a state le
at_most_same most (Faults kind place world units) f g le h = refl
at_most_same most (Spent place world) f g le h = refl

spend_same : {B : Type 0} (place : Place) (state : State) (units : ℕ) (f g : Unit {0} → State → Ran B) → ((one : Unit {0}) (now : State) → now.units < units → f one now ≡ g one now) → and_then (spend place state units) f ≡ and_then (spend place state units) g
spend_same place state zero f g h = refl
spend_same place state (suc units) f g h = h tt (record state { units = units }) (omega arith)

not-lt-zero : (n : ℕ) → n < 0 → ⊥
not-lt-zero n h = omega (arith, h)

-- Ways out ---------------------------------------------------------------------------------------------------------

module _ (code : Code) where
  -- where the run goes on behind a statement that came out so
  abbrev pub ends : Ways → ℕ → Held → Flow → Start
  ends ways to held Normal = here code to held
  ends ways to held Broke = here code ways.«break» held
  ends ways to held Nexted = here code ways.next held
  ends ways to held (Returned given) = λ state. rest code (come_out code (Returned given) held.stack state held.frames)

  pub same_resume : (flow : Flow) (back : ℕ) (held : Held) (state : State) (awaits : Awaits) → result_of flow ≡ None → ((place : Place) (args : List Value) (others : _) (pending : _) → resume code flow back held state (Bodies place args others pending) ≡ resume code Normal back held state (Bodies place args others pending)) → resume code flow back held state awaits ≡ resume code Normal back held state awaits
  same_resume flow back held state (Result place) e h = ap (λ given. resumed_with place back held state given) e
  same_resume flow back held state Return e h = refl
  same_resume flow back held state (Bodies place args others pending) e h = h place args others pending

  -- a body that ends without a value, however that came
  pub next_out : (stack : List Value) (state : State) (frames : List Frame) → come_out code Nexted stack state frames ≡ come_out code Normal stack state frames
  next_out stack state [] = refl
  next_out stack state (frame ∷ frames) = same_resume Nexted frame.back _ _ frame.awaits refl (λ place args others pending. refl)

  pub none_out : (stack : List Value) (state : State) (frames : List Frame) → come_out code (Returned None) stack state frames ≡ come_out code Normal stack state frames
  none_out stack state [] = refl
  none_out stack state (frame ∷ frames) = same_resume (Returned None) frame.back _ _ frame.awaits refl (λ place args others pending. refl)

  joins_ends : (ways : Ways) (held : Held) (flow : Flow) → Joins code (λ to. ends ways to held flow)
  joins_ends ways held Normal = jumps code held
  joins_ends ways held Broke = λ from to over e lands state. refl
  joins_ends ways held Nexted = λ from to over e lands state. refl
  joins_ends ways held (Returned given) = λ from to over e lands state. refl

  tick_runs : {A : Type 0} (place : Place) (Rest : Stretch) (at to : ℕ) (held : Held) {m : Does A} {end : A → Start} (h : TickAt code.ops place Rest at to) → Runs m (here code h.mid held) end → Runs (tick place >> m) (here code at held) end
  tick_runs place Rest at to held h later =
      runs_then (runs_op code (op.Tick place) at held (tick place) (λ one. goes (at + 1) held) (λ one. here code h.mid held) h.first.here (λ state. refl) (λ one state. at_place code held state h.first.end)) (λ one. later)

  -- Loops ----------------------------------------------------------------------------------------------------------

  module _ (ways : Ways) (place : Place) (held : Held) {test : Does Value} {body : Does Flow} (test_keeps : Keeps test) (body_keeps : Keeps body) where
    module _ (to test_from turn_at body_from back : ℕ) (turn_here : At code.ops (op.Turn place back) turn_at) (leads_back : turn_at - back ≡ body_from) (end : turn_at + 1 ≡ to)
        (test_runs : Runs test (here code test_from held) (λ one. here code turn_at (pushed one held)))
        (body_runs : Runs body (here code body_from held) (ends (record { «break» = to; next = test_from }) test_from held)) where
      out_of_turn : (others : Does Flow) (flow : Flow) (state : State) → (here code test_from held state ≡ and_then (others state) (ends ways to held)) → ends (record { «break» = to; next = test_from }) test_from held flow state ≡ and_then (after_turn others flow state) (ends ways to held)
      out_of_turn others Normal state again = again
      out_of_turn others Broke state again = refl
      out_of_turn others Nexted state again = again
      out_of_turn others (Returned given) state again = refl

      one_turn : (others : Does Flow) (one : Value) (state : State) → ((now : State) → now.units < state.units → here code test_from held now ≡ and_then (others now) (ends ways to held)) → here code turn_at (pushed one held) state ≡ and_then (choose place one (tick place >> (body >>= after_turn others)) (pure Normal) state) (ends ways to held)
      one_turn others (plain.Bool true) state again =
          first_step code (op.Turn place back) turn_at (pushed (plain.Bool true) held) state turn_here ∙
          (after_by (tick place state) (λ one. goes (turn_at - back) held) _ ∙
          (spend_same place state state.units _ _ (λ one now lt. at_place code held now leads_back ∙
          (body_runs.by now ∙ (at_most_same now.units (body now) _ _ (body_keeps.by now) (λ flow later le. out_of_turn others flow later (again later (omega (arith, lt, le)))) ∙
          sym (then_then (body now) (after_turn others) (ends ways to held))))) ∙
          sym (then_then (tick place state) (λ one. body >>= after_turn others) (ends ways to held))))
      one_turn others (plain.Bool false) state again = first_step code (op.Turn place back) turn_at (pushed (plain.Bool false) held) state turn_here ∙ at_place code held state end
      one_turn others one state again = first_step code (op.Turn place back) turn_at (pushed one held) state turn_here

      turns_run : (most : ℕ) (state : State) → state.units < most → here code test_from held state ≡ and_then (turns most place test body state) (ends ways to held)
      turns_run zero state lt = absurd (not-lt-zero state.units lt)
      turns_run (suc most) state lt = test_runs.by state ∙
          (at_most_same state.units (test state) _ _ (test_keeps.by state) (λ one now le. one_turn (turns most place test body) one now (λ later less. turns_run most later (omega (arith, lt, le, less)))) ∙
          sym (then_then (test state) (λ one. choose place one (tick place >> (body >>= after_turn (turns most place test body))) (pure Normal)) (ends ways to held)))

      loop_runs : Runs (loop place test body) (here code test_from held) (ends ways to held)
      loop_runs = record { by = λ state. turns_run (suc state.units) state (omega arith) }

  -- what comes first of two computations
  runs_first : {A B : Type 0} (m : Does A) (k : A → Does B) (end : B → Start) → Runs m (λ state. and_then ((m >>= k) state) end) (λ a state. and_then (k a state) end)
  runs_first m k end = record { by = λ state. then_then (m state) k end }

  module _ (ways : Ways) (place : Place) (names : Names) (over : Value) (held : Held) (body : Does Flow) (to next_at end_at body_from back : ℕ)
      (leads_back : next_at - back ≡ body_from) (end : next_at + 2 ≡ to) (end_here : At code.ops op.EndLoop end_at) (leaves : end_at + 1 ≡ to)
      (body_runs : (loop : Loop) → Runs body (here code body_from (with_loops (loop ∷ held.loops) held)) (ends (record { «break» = end_at; next = next_at }) next_at (with_loops (loop ∷ held.loops) held))) where
    -- a turn of the loop came out, and the next one is to come
    turn_out : (loop : Loop) {others : Does Flow} → Runs others (here code next_at (with_loops (loop ∷ held.loops) held)) (ends ways to held) → (flow : Flow) → Runs (after_turn others flow) (ends (record { «break» = end_at; next = next_at }) next_at (with_loops (loop ∷ held.loops) held) flow) (ends ways to held)
    turn_out loop again Normal = again
    turn_out loop again Broke = record { by = λ state. first_step code op.EndLoop end_at (with_loops (loop ∷ held.loops) held) state end_here ∙ at_place code held state leaves }
    turn_out loop again Nexted = again
    turn_out loop again (Returned given) = record { by = λ state. refl }

    module _ (turn_here : At code.ops (op.NextKey place names back) next_at) where
      -- behind the operation that begins a turn
      abbrev begun : Option (List (List Value)) → Start
      begun None = here code to held
      begun (Some keys) = here code body_from (with_loops (Keys over keys ∷ held.loops) held)

      begun_there : (keys : List (List Value)) (next : Option (List (List Value))) (state : State) → rest code (keys_turn next_at back over held.loops (with_loops (Keys over keys ∷ held.loops) held) next state) ≡ begun next state
      begun_there keys None state = at_place code held state end
      begun_there keys (Some more) state = at_place code (with_loops (Keys over more ∷ held.loops) held) state leads_back

      key_turn_runs : (key : List Value) (keys : List (List Value)) (entry : Option Entry)
          → Runs (each_key place names over body keys) (λ state. and_then (next_key place names over keys state) begun) (ends ways to held)
          → Runs (each_key place names over body keys) (here code next_at (with_loops (Keys over keys ∷ held.loops) held)) (ends ways to held)
          → Runs (key_turn place names key body (each_key place names over body keys) entry) (λ state. and_then (key_there place names key keys (next_key place names over keys) entry state) begun) (ends ways to held)
      key_turn_runs key keys None skipped again = skipped
      key_turn_runs key keys (Some entry) skipped again =
          runs_then (runs_first (tick place) (λ one. set_names names key entry.value >> pure (Some keys)) begun) (λ one.
          runs_then (runs_first (set_names names key entry.value) (λ one. pure (Some keys)) begun) (λ one.
          runs_bind (body_runs (Keys over keys)) (λ flow. turn_out (Keys over keys) again flow)))

      keys_from : (keys : List (List Value)) → Runs (each_key place names over body keys) (λ state. and_then (next_key place names over keys state) begun) (ends ways to held) → Runs (each_key place names over body keys) (here code next_at (with_loops (Keys over keys ∷ held.loops) held)) (ends ways to held)
      keys_from keys = runs_from (λ state. first_step code (op.NextKey place names back) next_at (with_loops (Keys over keys ∷ held.loops) held) state turn_here ∙
          (after_by (next_key place names over keys state) (keys_turn next_at back over held.loops (with_loops (Keys over keys ∷ held.loops) held)) _ ∙
          then_same (next_key place names over keys state) _ _ (begun_there keys)))

      keys_begin : (keys : List (List Value)) → Runs (each_key place names over body keys) (λ state. and_then (next_key place names over keys state) begun) (ends ways to held)
      keys_begin [] = record { by = λ state. refl }
      keys_begin (key ∷ keys) = runs_bind
          (runs_first (table place over) (λ now. key_there place names key keys (next_key place names over keys) (entry_at key now.entries)) begun)
          (λ now. key_turn_runs key keys (entry_at key now.entries) (keys_begin keys) (keys_from keys (keys_begin keys)))

      keys_run : (keys : List (List Value)) → Runs (each_key place names over body keys) (here code next_at (with_loops (Keys over keys ∷ held.loops) held)) (ends ways to held)
      keys_run keys = keys_from keys (keys_begin keys)

    module _ (turn_here : At code.ops (op.NextIndex place names back) next_at) where
      indexes_run : (index count : ℕ) → Runs (each_index place names over body index count) (here code next_at (with_loops (Indexes over index count ∷ held.loops) held)) (ends ways to held)
      indexes_run index zero = record { by = λ state. first_step code (op.NextIndex place names back) next_at (with_loops (Indexes over index zero ∷ held.loops) held) state turn_here ∙ at_place code held state end }
      indexes_run index (suc count) = runs_from
          (λ state. first_step code (op.NextIndex place names back) next_at (with_loops (Indexes over index (suc count) ∷ held.loops) held) state turn_here ∙
          (after_by (next_index place names over index state) (λ one. goes (next_at - back) (with_loops (Indexes over (index + 1) count ∷ held.loops) held)) _ ∙
          then_same (next_index place names over index state) _ _ (λ one now. at_place code (with_loops (Indexes over (index + 1) count ∷ held.loops) held) now leads_back)))
          (let behind : Unit {0} → Start = λ one. here code body_from (with_loops (Indexes over (index + 1) count ∷ held.loops) held) in
          runs_then (runs_first (tick place) (λ one. item place over (plain.Count index) >>= (λ one. set_names names (plain.Count index ∷ []) one)) behind) (λ one.
          runs_bind (runs_first (item place over (plain.Count index)) (λ one. set_names names (plain.Count index ∷ []) one) behind) (λ one.
          runs_then {m = set_names names (plain.Count index ∷ []) one} {mid = behind} (record { by = λ state. refl }) (λ done.
          runs_bind (body_runs (Indexes over (index + 1) count)) (λ flow. turn_out (Indexes over (index + 1) count) (indexes_run (index + 1) count) flow)))))

-- Statements -------------------------------------------------------------------------------------------------------

module _ (program : Program) (code : Code) (types : types_in code ≡ types_of program.files program.records program.logs) (c : Calls) (keep : CallsKeep c) (left : ℕ) (runs : CallsRun program code c left) where
  given_runs : (ways : Ways) (place : Place) (one : Option Expr) (at to : ℕ) (held : Held) → room held ≡ left → GivenAt code.ops place one at to → Runs (returned program c place one) (here code at held) (ends code ways to held)
  given_runs ways place None at to held r h = record { by = λ state. first_step code op.End at held state h.here ∙ ap (λ step. rest code step) (sym (none_out code held.stack state held.frames)) }
  given_runs ways place (Some one) at to held r h = runs_bind (value_runs program code types c left runs place one at h.mid held r h.first) (λ given.
      record { by = λ state. first_step code op.Give h.mid (pushed given held) state h.second.here })

  pub act_runs : (place : Place) (one : Action) (n : ℕ) (args : List Value) (held : Held) (at to : ℕ) → length args ≡ n → OneAt code.ops (op.Do place one n) at to → Runs (act place one args) (here code at (all_pushed args held)) (λ done. here code to held)
  act_runs place one n args held at to e h = runs_op code (op.Do place one n) at (all_pushed args held) (act place one args) (λ done. goes (at + 1) held) _ h.here
      (λ state. popped (λ list under. by (act place one list state) (λ done. goes (at + 1) under)) n args held e)
      (λ done state. at_place code held state h.end)

  normal_runs : (ways : Ways) (to : ℕ) (held : Held) → Runs (pure Normal) (here code to held) (ends code ways to held)
  normal_runs ways to held = record { by = λ state. refl }

  out_of_first : (others : Stmts) (ways : Ways) (at to : ℕ) (held : Held) → Runs (all program c others) (here code at held) (ends code ways to held) → (flow : Flow) → Runs (meaning.after (all program c others) flow) (ends code ways at held flow) (ends code ways to held)
  out_of_first others ways at to held rest_runs Normal = rest_runs
  out_of_first others ways at to held rest_runs Broke = record { by = λ state. refl }
  out_of_first others ways at to held rest_runs Nexted = record { by = λ state. refl }
  out_of_first others ways at to held rest_runs (Returned given) = record { by = λ state. refl }

  mutual
    pub stmt_runs : (one : Stmt) (ways : Ways) (at to : ℕ) (held : Held) → room held ≡ left → StmtAt code.ops one ways at to → Runs (does program c one) (here code at held) (ends code ways to held)
    stmt_runs (form.Block stmts) ways at to held r h = stmts_run stmts ways at to held r h
    stmt_runs (form.Do place one operands) ways at to held r h = tick_runs code place _ at to held h
        (runs_then (runs_knowing (λ args. length args ≡ count operands) (values_count program c place operands) (values_run program code types c left runs place operands h.mid h.second.mid held r h.second.first)
        (λ args e. act_runs place one (count operands) args held h.second.mid to e h.second.second))
        (λ done. normal_runs ways to held))
    stmt_runs (form.Move place target number «from» read) ways at to held r h = tick_runs code place _ at to held h
        (runs_bind (value_runs program code types c left runs place «from» h.mid h.second.mid held r h.second.first) (λ source.
        runs_bind (apply_runs program code types c left runs place (primitive.Field read) 1 (source ∷ []) held h.second.mid h.second.second.mid refl h.second.second.first) (λ moved.
        runs_bind (value_runs program code types c left runs place target h.second.second.mid h.second.second.second.mid (pushed moved held) r h.second.second.second.first) (λ one.
        runs_then (act_runs place (action.Assign (side.Field number)) 2 (moved ∷ one ∷ []) held h.second.second.second.mid to refl h.second.second.second.second) (λ done. normal_runs ways to held)))))
    stmt_runs (form.Evaluate place one) ways at to held r h = tick_runs code place _ at to held h
        (runs_then (value_runs program code types c left runs place one h.mid h.second.mid held r h.second.first) (λ a.
        record { by = λ state. first_step code op.Drop h.second.mid (pushed a held) state h.second.second.here ∙ at_place code held state h.second.second.end }))
    stmt_runs (form.Perform place function operands) ways at to held r h = tick_runs code place _ at to held h
        (runs_knowing (λ args. length args ≡ count operands) (values_count program c place operands) (values_run program code types c left runs place operands h.mid h.second.mid held r h.second.first) (λ args e.
        runs_then (runs_from (λ state. first_step code (op.Perform place function (count operands)) h.second.mid (all_pushed args held) state h.second.second.here ∙
        popped (λ list under. rest code (call code place Return function h.second.mid list under state)) (count operands) args held e)
        (runs.perform function args place h.second.mid held r)) (λ given. record { by = λ state. at_place code held state h.second.second.end })))
    stmt_runs (form.If place test met otherwise) ways at to held r h = tick_runs code place _ at to held h
        (runs_bind (value_runs program code types c left runs place test h.mid h.second.mid held r h.second.first) (λ one.
        choice_runs code place one held _ _ (does program c met) (does program c otherwise) h.second.mid to (λ end. ends code ways end held) h.second.second
        (λ from end m. stmt_runs met ways from end held r m) (λ from end m. stmt_runs otherwise ways from end held r m) (λ flow. joins_ends code ways held flow)))
    stmt_runs (form.While place test body) ways at to held r h = tick_runs code place _ at to held h
        (runs_from (λ state. jumps code held h.mid h.second.test_from h.second.over h.second.jumps h.second.lands state)
        (loop_runs code ways place held (value_keeps program c keep place test) (does_keeps program c keep body) to h.second.test_from h.second.turn_at h.second.body_from h.second.back h.second.turns h.second.leads_back h.second.end
        (value_runs program code types c left runs place test h.second.test_from h.second.turn_at held r h.second.test)
        (stmt_runs body (record { «break» = to; next = h.second.test_from }) h.second.body_from h.second.test_from held r h.second.body)))
    stmt_runs (form.ForKeys place names over body) ways at to held r h = tick_runs code place _ at to held h
        (runs_bind (value_runs program code types c left runs place over h.mid h.second.mid held r h.second.first) (λ one.
        let f = h.second.second in
        runs_bind (runs_op code (op.BeginKeys place) h.second.mid (pushed one held) (table place one) (λ start. goes (h.second.mid + 1) (with_loops (Keys one (keys_of start) ∷ held.loops) held)) (λ start. here code f.next_at (with_loops (Keys one (keys_of start) ∷ held.loops) held))
        f.begins (λ state. refl)
        (λ start state. at_place code (with_loops (Keys one (keys_of start) ∷ held.loops) held) state f.goes_on ∙ jumps code (with_loops (Keys one (keys_of start) ∷ held.loops) held) f.jump_at f.next_at f.over f.jumps f.lands state))
        (λ start. keys_run code ways place names one held (does program c body) to f.next_at f.end_at f.body_from f.back f.leads_back f.end f.ends f.leaves
        (λ loop. stmt_runs body (record { «break» = f.end_at; next = f.next_at }) f.body_from f.next_at (with_loops (loop ∷ held.loops) held) r f.body) f.turns (keys_of start))))
    stmt_runs (form.ForIndexes place names over body) ways at to held r h = tick_runs code place _ at to held h
        (runs_bind (value_runs program code types c left runs place over h.mid h.second.mid held r h.second.first) (λ one.
        let f = h.second.second in
        runs_bind (runs_op code (op.BeginIndexes place) h.second.mid (pushed one held) (vector place one) (λ start. goes (h.second.mid + 1) (with_loops (Indexes one 0 (length start) ∷ held.loops) held)) (λ start. here code f.next_at (with_loops (Indexes one 0 (length start) ∷ held.loops) held))
        f.begins (λ state. refl)
        (λ start state. at_place code (with_loops (Indexes one 0 (length start) ∷ held.loops) held) state f.goes_on ∙ jumps code (with_loops (Indexes one 0 (length start) ∷ held.loops) held) f.jump_at f.next_at f.over f.jumps f.lands state))
        (λ start. indexes_run code ways place names one held (does program c body) to f.next_at f.end_at f.body_from f.back f.leads_back f.end f.ends f.leaves
        (λ loop. stmt_runs body (record { «break» = f.end_at; next = f.next_at }) f.body_from f.next_at (with_loops (loop ∷ held.loops) held) r f.body) f.turns 0 (length start))))
    stmt_runs (form.Return place one) ways at to held r h = tick_runs code place _ at to held h (given_runs ways place one h.mid to held r h.second)
    stmt_runs (form.Next place) ways at to held r h = tick_runs code place _ at to held h
        (record { by = λ state. jumps code held h.mid ways.next h.second.over h.second.here h.second.lands state })
    stmt_runs (form.Break place) ways at to held r h = tick_runs code place _ at to held h
        (record { by = λ state. jumps code held h.mid ways.«break» h.second.over h.second.here h.second.lands state })

    pub stmts_run : (list : Stmts) (ways : Ways) (at to : ℕ) (held : Held) → room held ≡ left → StmtsAt code.ops list ways at to → Runs (all program c list) (here code at held) (ends code ways to held)
    stmts_run form.NoStmt ways at to held r h = record { by = λ state. at_place code held state h }
    stmts_run (form.AndStmt first others) ways at to held r h = runs_bind (stmt_runs first ways at h.mid held r h.first) (out_of_first others ways h.mid to held (stmts_run others ways h.mid to held r h.second))
