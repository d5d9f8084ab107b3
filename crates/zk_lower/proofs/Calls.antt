-- Operations that call do what calls mean, however many more calls may stand within one another.
use Rattle.std.proofs.Common.{◌≡◌, ℕ, zero, suc, ◌+◌, Bool, true, false, List, [], ◌∷◌, Option, Some, None, refl, sym, ap, ◌∙◌, arith}
use Rattle.std.specs.Prelude.{slice_get}
use Rattle.zk_base.specs.declared.numbers.HookNo.{HookNo}
use Rattle.zk_base.specs.declared.numbers.LogId.{LogId}
use Rattle.zk_tree.specs.declared.place.Place.{Place}
use Rattle.zk_tree.specs.Value as plain
use Rattle.zk_tree.specs.Value.{Value}
use Rattle.zk_typed.specs.declared.ends.FaultKind.TheVariants.{Unset, Depth}
use Rattle.zk_typed.specs.Does.{Does, and_then, ◌>>=◌, ◌>>◌, pure, fault, or_fault, tick, read}
use Rattle.zk_typed.specs.Forms.{Stmt}
use Rattle.zk_typed.specs.Log.{Stream, Filter}
use Rattle.zk_typed.specs.Logs as logs
use Rattle.zk_typed.specs.Logs.{policy_of, still_there, stream_of, log_word, described, write_row, write_log, unless_vetoed, queue_row}
use Rattle.zk_typed.specs.Meaning.{Calls, Flow, Normal, Broke, Nexted, Returned, result_of, does, enter, first_locals, function_body, unless_broken, hook_bodies, bodies_of, calls}
use Rattle.zk_typed.specs.Predefined.{filter_record}
use Rattle.zk_typed.specs.Program.{Program, Function, HookBody}
use Rattle.zk_typed.specs.State.{State}
use Rattle.zk_lower.specs.Code.{Op, BodyCode, Code, types_of, types_in}
use Rattle.zk_lower.specs.Code as op
use Rattle.zk_lower.specs.Frames.{Loop, Pending, Awaits, Result, Return, Bodies, Frame, Held, pushed}
use Rattle.zk_lower.specs.Steps as steps
use Rattle.zk_lower.specs.Steps.{Step, Goes, Ends, by, goes, unfit, room, within_depth, into, call, Onward, Answer, Body, bodies, hook_in, at_depth, asked, row_written, by_policy, by_filters, to_stream, after_hook, onward, hook, write, after_body, resumed_with, resume, come_out}
use Rattle.zk_lower.proofs.Expressions.{CallsRun}
use Rattle.zk_lower.proofs.MeaningUnits.{CallsKeep, calls_keep}
use Rattle.zk_lower.proofs.Runs.{Start, Runs, runs_bind, runs_then, runs_from, runs_to, runs_by, runs_part, runs_enter, here, rest, first_step}
use Rattle.zk_lower.proofs.Standing.{BodyAt, FunctionAt, BodiesAt, Stands}
use Rattle.zk_lower.proofs.Statements.{ends, next_out, stmt_runs}

module _ (program : Program) (code : Code) (stands : Stands code program) where
  -- Bodies ---------------------------------------------------------------------------------------------------------

  -- where the run goes on behind a body that came out so
  abbrev pub comes_out : Held → Flow → Start
  comes_out held flow = λ state. rest code (come_out code flow held.stack state held.frames)

  module _ (c : Calls) (keep : CallsKeep c) (left : ℕ) (runs : CallsRun program code c left) where
    out_of_body : (one : Stmt) (at : ℕ) (held : Held) (h : BodyAt code.ops one at) (flow : Flow) (state : State) → ends code (record { «break» = h.break_at; next = h.end_at }) h.end_at held flow state ≡ comes_out held flow state
    out_of_body one at held h Normal state = first_step code op.End h.end_at held state h.ends
    out_of_body one at held h Broke state = first_step code op.Break h.break_at held state h.breaks
    out_of_body one at held h Nexted state = first_step code op.End h.end_at held state h.ends ∙ ap (λ step. rest code step) (sym (next_out code held.stack state held.frames))
    out_of_body one at held h (Returned given) state = refl

    pub body_runs : (one : Stmt) (at : ℕ) (held : Held) → room held ≡ left → BodyAt code.ops one at → Runs (does program c one) (here code at held) (comes_out held)
    body_runs one at held r h = runs_to (stmt_runs program code stands.types c keep left runs one (record { «break» = h.break_at; next = h.end_at }) at h.end_at held r h.stands) (out_of_body one at held h)

    depth_within : (held : Held) (frame : Frame) (stack : List Value) (loops : List Loop) → room held ≡ suc left → room (record { stack = stack; loops = loops; frames = frame ∷ held.frames }) ≡ left
    depth_within held frame stack loops r = omega (arith, r)

    module _ (back : ℕ) (awaits : Awaits) (held : Held) (r : room held ≡ suc left) where
      -- a body with names of its own, for which another one waits
      pub entered_runs : (body : BodyCode) (locals : ℕ) (one : Stmt) (args : List Value) → body.locals ≡ locals → BodyAt code.ops one body.entry
          → Runs (enter locals args (does program c one))
          (λ state. rest code (steps.enter body args (record { back = back; locals = state.locals; loops = held.loops; awaits = awaits }) held state))
          (λ flow state. rest code (resume code flow back held state awaits))
      entered_runs body locals one args same h = runs_enter locals args (does program c one) (λ state.
          let frame : Frame = record { back = back; locals = state.locals; loops = held.loops; awaits = awaits } in
          let inner : Held = record { stack = held.stack; loops = []; frames = frame ∷ held.frames } in
          ap (λ n. here code body.entry inner (record state { locals = first_locals n args })) same ∙
          (body_runs one body.entry inner (depth_within held frame held.stack [] r) h).by (record state { locals = first_locals locals args }))

    -- Functions ----------------------------------------------------------------------------------------------------

    into_runs : (awaits : Awaits) (end : Option Value → Start) (place : Place) (at : ℕ) (held : Held) → room held ≡ suc left → (args : List Value) (found : Option BodyCode) (one : Option Function) → FunctionAt code.ops found one
        → ((flow : Flow) (state : State) → rest code (resume code flow (at + 1) held state awaits) ≡ end (result_of flow) state)
        → Runs (function_body program c args place one) (λ state. rest code (into place awaits at args held state found)) end
    into_runs awaits end place at held r args None None h goes_on = record { by = λ state. refl }
    into_runs awaits end place at held r args None (Some one) h goes_on = absurd h
    into_runs awaits end place at held r args (Some body) None h goes_on = absurd h
    into_runs awaits end place at held r args (Some body) (Some one) h goes_on =
        runs_bind (entered_runs (at + 1) awaits held r body one.locals one.body args h.0 h.1) (λ flow. record { by = λ state. goes_on flow state })

    called_runs : (awaits : Awaits) (end : Option Value → Start) (function : ℕ) (args : List Value) (place : Place) (at : ℕ) (held : Held) → room held ≡ suc left
        → ((flow : Flow) (state : State) → rest code (resume code flow (at + 1) held state awaits) ≡ end (result_of flow) state)
        → Runs (tick place >> function_body program c args place (slice_get program.functions function)) (λ state. rest code (call code place awaits function at args held state)) end
    called_runs awaits end function args place at held r goes_on =
        runs_then (runs_by code (tick place) (λ one now. within_depth (room held) place now (into place awaits at args held now (slice_get code.functions function))) (λ one now. rest code (within_depth (room held) place now (into place awaits at args held now (slice_get code.functions function)))) (λ one now. refl)) (λ one.
        runs_from (λ now. ap (λ n. rest code (within_depth n place now (into place awaits at args held now (slice_get code.functions function)))) r)
        (into_runs awaits end place at held r args (slice_get code.functions function) (slice_get program.functions function) (stands.function function) goes_on))

    -- Hooks --------------------------------------------------------------------------------------------------------

    module _ (place : Place) (back : ℕ) (held : Held) (r : room held ≡ suc left) (args : List Value) (pending : Option Pending) where
      -- where the run goes on when the hook is done
      abbrev hook_done : Bool → Start
      hook_done ran = λ state. rest code (by (after_hook code (room held) place ran pending state) (onward back place held))

      out_of_hook_body : {others : Does Bool} (codes : List BodyCode) → Runs others (λ state. rest code (by (bodies place args codes (after_hook code (room held) place true pending) pending state) (onward back place held))) hook_done → (flow : Flow)
          → Runs (unless_broken others flow) (λ state. rest code (resume code flow back held state (Bodies place args codes pending))) hook_done
      out_of_hook_body codes next Broke = record { by = λ state. refl }
      out_of_hook_body codes next Normal = next
      out_of_hook_body codes next Nexted = next
      out_of_hook_body codes next (Returned given) = next

      pub hook_bodies_run : (list : List HookBody) (codes : List BodyCode) → BodiesAt code.ops codes list
          → Runs (hook_bodies program c args place list) (λ state. rest code (by (bodies place args codes (after_hook code (room held) place true pending) pending state) (onward back place held))) hook_done
      hook_bodies_run [] [] h = record { by = λ state. refl }
      hook_bodies_run [] (body ∷ codes) h = absurd h
      hook_bodies_run (one ∷ others) [] h = absurd h
      hook_bodies_run (one ∷ others) (body ∷ codes) h =
          runs_then (runs_part code (tick place) (λ done. pure (Body body args codes pending)) (onward back place held)) (λ done.
          runs_bind (entered_runs back (Bodies place args codes pending) held r body one.locals one.body args h.0 h.1)
          (out_of_hook_body codes (hook_bodies_run others codes h.2)))

  -- what a call of a hook does, be it in an expression or of a policy in a write
  pub record HooksRun (c : Calls) (left : ℕ) : Type 0 where
    pub by : (place : Place) (back : ℕ) (held : Held) → room held ≡ left → (args : List Value) (pending : Option Pending) (number : HookNo)
        → Runs (c.hook number args place)
        (λ state. rest code (by ((tick place >> at_depth (room held) place (bodies place args (hook_in code number) (after_hook code (room held) place true pending) pending)) state) (onward back place held)))
        (λ ran state. rest code (by (after_hook code (room held) place ran pending state) (onward back place held)))

  -- Writes ---------------------------------------------------------------------------------------------------------

  row_same : (pending : Pending) → row_written code pending ≡ write_row program pending.stream pending.filter pending.row
  row_same pending = ap (λ types. write_row types pending.stream pending.filter pending.row) stands.types

  word_same : (log : LogId) → log_word (types_in code) log ≡ log_word program log
  word_same log = ap (λ types. log_word types log) stands.types

  described_same : (place : Place) (stream : Stream) (one : Filter) → described (types_in code) filter_record place stream one ≡ described program filter_record place stream one
  described_same place stream one = ap (λ types. described types filter_record place stream one) stands.types

  module _ (c : Calls) (left : ℕ) (place : Place) (back : ℕ) (held : Held) (r : room held ≡ left) (hooks : HooksRun c left) where
    abbrev policies : logs.CallsHook
    policies = λ number args. c.hook number args place

    -- where the run goes on when the write is done
    abbrev written : Bool → Start
    written ran = here code back (pushed (plain.Bool ran) held)

    abbrev filters_from : Stream → Value → List Filter → Start
    filters_from stream row filters = λ state. rest code (by (by_filters code (room held) place stream row filters state) (onward back place held))

    module _ (stream : Stream) (row : Value) (one : Filter) (others : List Filter) (rest_run : Runs (logs.by_filters program filter_record place policies stream row others) (filters_from stream row others) (λ done. written true)) where
      abbrev pending : Pending
      pending = record { stream = stream; row = row; filter = one; others = others }

      vetoed_runs : (ran : Bool) → Runs (unless_vetoed (write_row program stream one row) ran) (λ state. rest code (by (after_hook code (room held) place ran (Some pending) state) (onward back place held))) (λ done. filters_from stream row others)
      vetoed_runs ran = runs_from (λ state. ap (λ write. rest code (by ((unless_vetoed write ran >> by_filters code (room held) place stream row others) state) (onward back place held))) (row_same pending))
          (runs_part code (unless_vetoed (write_row program stream one row) ran) (λ done. by_filters code (room held) place stream row others) (onward back place held))

      -- a policy, where that is the word of the log, with what it is told of the filter
      abbrev asked_with : HookNo → List ℕ → Value → Does Onward
      asked_with policy word told =
          tick place >> at_depth (room held) place (bodies place (row ∷ plain.Enum word ∷ told ∷ []) (hook_in code policy) (after_hook code (room held) place true (Some pending)) (Some pending))

      policy_runs : (policy : Option HookNo) → Runs (logs.by_policy program filter_record place policies stream one row policy >> logs.by_filters program filter_record place policies stream row others)
          (λ state. rest code (by (by_policy code (room held) place pending (by_filters code (room held) place stream row others) policy state) (onward back place held))) (λ done. written true)
      policy_runs None = runs_then (runs_from (λ state. ap (λ write. rest code (by ((write >> by_filters code (room held) place stream row others) state) (onward back place held))) (row_same pending))
          (runs_part code (write_row program stream one row) (λ done. by_filters code (room held) place stream row others) (onward back place held))) (λ done. rest_run)
      policy_runs (Some policy) = runs_then (runs_bind (runs_bind
          (runs_from (λ state. ap (λ made. rest code (by ((made >>= asked_with policy (log_word (types_in code) stream.id)) state) (onward back place held))) (described_same place stream one))
          (runs_part code (described program filter_record place stream one) (asked_with policy (log_word (types_in code) stream.id)) (onward back place held)))
          (λ told. runs_from (λ state. ap (λ word. rest code (by (asked_with policy word told state) (onward back place held))) (word_same stream.id))
          (hooks.by place back held r (row ∷ plain.Enum (log_word program stream.id) ∷ told ∷ []) (Some pending) policy)))
          vetoed_runs) (λ done. rest_run)

      there_runs : (there : Bool) → Runs (logs.if_there there (logs.by_policy program filter_record place policies stream one row (policy_of stream one)) >> logs.by_filters program filter_record place policies stream row others)
          (λ state. rest code (by (steps.if_there there (by_policy code (room held) place pending (by_filters code (room held) place stream row others) (policy_of stream one)) (by_filters code (room held) place stream row others) state) (onward back place held))) (λ done. written true)
      there_runs true = policy_runs (policy_of stream one)
      there_runs false = rest_run

    filters_run : (stream : Stream) (row : Value) (filters : List Filter) → Runs (logs.by_filters program filter_record place policies stream row filters) (filters_from stream row filters) (λ done. written true)
    filters_run stream row [] = record { by = λ state. refl }
    filters_run stream row (one ∷ others) = runs_bind {m = read (still_there stream.id one.name)} {mid = λ there state. rest code (by (steps.if_there there (by_policy code (room held) place (record { stream = stream; row = row; filter = one; others = others }) (by_filters code (room held) place stream row others) (policy_of stream one)) (by_filters code (room held) place stream row others) state) (onward back place held))}
        (record { by = λ state. refl }) (there_runs stream row one others (filters_run stream row others))

    stream_runs : (row : Value) (stream : Option Stream) → Runs (logs.to_stream program filter_record place policies row stream) (λ state. rest code (by (to_stream code (room held) place row stream state) (onward back place held))) (λ one. here code back (pushed one held))
    stream_runs row None = record { by = λ state. refl }
    stream_runs row (Some stream) = runs_then (runs_part code (queue_row stream.event row) (λ done. by_filters code (room held) place stream row stream.filters) (onward back place held)) (λ done.
        runs_then (filters_run stream row stream.filters) (λ done. record { by = λ state. refl }))

    pub write_runs : (log : LogId) (row : Value) → Runs (tick place >> write_log program filter_record place policies log row) (λ state. rest code (by ((tick place >> (read (λ world. stream_of log world.streams) >>= to_stream code (room held) place row)) state) (onward back place held))) (λ one. here code back (pushed one held))
    write_runs log row = runs_then (runs_part code (tick place) (λ done. read (λ world. stream_of log world.streams) >>= to_stream code (room held) place row) (onward back place held)) (λ done.
        runs_bind {m = read (λ world. stream_of log world.streams)} {mid = λ stream state. rest code (by (to_stream code (room held) place row stream state) (onward back place held))} (record { by = λ state. refl }) (stream_runs row))

  -- By depth -------------------------------------------------------------------------------------------------------

  -- no more call may stand here
  too_deep : {A : Type 0} (awaits : Awaits) (end : A → Start) (function : ℕ) (args : List Value) (place : Place) (at : ℕ) (held : Held) → room held ≡ zero
      → Runs (tick place >> fault Depth place) (λ state. rest code (call code place awaits function at args held state)) end
  too_deep awaits end function args place at held r =
      runs_then (runs_by code (tick place) (λ one now. within_depth (room held) place now (into place awaits at args held now (slice_get code.functions function))) (λ one now. rest code (within_depth (room held) place now (into place awaits at args held now (slice_get code.functions function)))) (λ one now. refl)) (λ one.
      record { by = λ now. ap (λ n. rest code (within_depth n place now (into place awaits at args held now (slice_get code.functions function)))) r })

  resumed_runs : (place : Place) (back : ℕ) (held : Held) (given : Option Value) → Runs (or_fault Unset place given) (λ state. rest code (resumed_with place back held state given)) (λ one. here code back (pushed one held))
  resumed_runs place back held None = record { by = λ state. refl }
  resumed_runs place back held (Some one) = record { by = λ state. refl }

  hooks_deep : HooksRun (calls program zero) zero
  hooks_deep = record {
    by = λ place back held r args pending number. runs_then
        (runs_part code (tick place) (λ done. at_depth (room held) place (bodies place args (hook_in code number) (after_hook code (room held) place true pending) pending)) (onward back place held)) (λ done.
        record { by = λ state. ap (λ n. rest code (by (at_depth n place (bodies place args (hook_in code number) (after_hook code (room held) place true pending) pending) state) (onward back place held))) r });
  }

  hooks_within : (depth : ℕ) → CallsRun program code (calls program depth) depth → HooksRun (calls program (suc depth)) (suc depth)
  hooks_within depth runs = record {
    by = λ place back held r args pending number. runs_then
        (runs_part code (tick place) (λ done. at_depth (room held) place (bodies place args (hook_in code number) (after_hook code (room held) place true pending) pending)) (onward back place held)) (λ done.
        runs_from (λ state. ap (λ n. rest code (by (at_depth n place (bodies place args (hook_in code number) (after_hook code (room held) place true pending) pending) state) (onward back place held))) r)
        (hook_bodies_run (calls program depth) (calls_keep program depth) depth runs place back held r args pending (bodies_of (slice_get program.hooks number.0)) (hook_in code number) (stands.hook number)));
  }

  pub calls_run : (depth : ℕ) → CallsRun program code (calls program depth) depth
  calls_run zero = record {
    result = λ function args place at held r. runs_bind {mid = λ given state. and_then (or_fault Unset place given state) (λ one. here code (at + 1) (pushed one held))} (too_deep (Result place) _ function args place at held r) (λ given. record { by = λ state. refl });
    perform = λ function args place at held r. too_deep Return (λ given. here code (at + 1) held) function args place at held r;
    hook = λ number args place at held r. hooks_deep.by place (at + 1) held r args None number;
    write = λ log row place at held r. write_runs (calls program zero) zero place (at + 1) held r hooks_deep log row;
  }
  calls_run (suc depth) = record {
    result = λ function args place at held r. runs_bind
        (called_runs (calls program depth) (calls_keep program depth) depth (calls_run depth) (Result place) (λ given state. rest code (resumed_with place (at + 1) held state given)) function args place at held r (λ flow state. refl))
        (resumed_runs place (at + 1) held);
    perform = λ function args place at held r.
        called_runs (calls program depth) (calls_keep program depth) depth (calls_run depth) Return (λ given. here code (at + 1) held) function args place at held r (λ flow state. refl);
    hook = λ number args place at held r. (hooks_within depth (calls_run depth)).by place (at + 1) held r args None number;
    write = λ log row place at held r. write_runs (calls program (suc depth)) (suc depth) place (at + 1) held r (hooks_within depth (calls_run depth)) log row;
  }
