-- No expression and no statement adds to the units that are left, or looks at what was told before.
use Rattle.std.proofs.Common.{ℕ, zero, suc, ◌+◌, Bool, true, false, List, [], ◌∷◌, Option, Some, None, refl, ap, ◌∙◌}
use Rattle.std.specs.Prelude.{slice_get, length}
use Rattle.zk_base.specs.declared.numbers.HookNo.{HookNo}
use Rattle.zk_base.specs.declared.numbers.LogId.{LogId}
use Rattle.zk_base.specs.declared.numbers.RecordNo.{RecordNo}
use Rattle.zk_tree.specs.declared.place.Place.{Place}
use Rattle.zk_tree.specs.Table.{Entry, entry_at}
use Rattle.zk_tree.specs.Value as plain
use Rattle.zk_tree.specs.Value.{Value}
use Rattle.zk_typed.specs.declared.ends.FaultKind.TheVariants.{Unset, Depth}
use Rattle.zk_typed.specs.declared.script.stmt.Names.{Names}
use Rattle.zk_typed.specs.Columns.{record_fields}
use Rattle.zk_typed.specs.Does.{Does, Ran, Gives, Faults, Spent, and_then, read}
use Rattle.zk_typed.specs.Forms.{Expr, Exprs, Givens, Stmt, Stmts}
use Rattle.zk_typed.specs.Forms as form
use Rattle.zk_typed.specs.Log.{Stream, Filter}
use Rattle.zk_typed.specs.Logs.{CallsHook, by_policy, by_filters, if_there, policy_of, log_word, still_there, stream_of, to_stream, unless_vetoed, write_log}
use Rattle.zk_typed.specs.Meaning.{Calls, Flow, Normal, Broke, Nexted, Returned, choose, value, values, givens, after, after_turn, turns, loop, key_turn, each_key, each_index, returned, does, all, enter, first_locals, function_body, result_of, unless_broken, hook_bodies, bodies_of, calls}
use Rattle.zk_typed.specs.Objects.{keys_of}
use Rattle.zk_typed.specs.Predefined.{filter_record}
use Rattle.zk_typed.specs.Program.{Program, Function, HookBody}
use Rattle.zk_lower.proofs.Units.{AtMost, Keeps, behind_then, keeps_bind, keeps_then, keeps_pure, keeps_fault, keeps_misfit, keeps_or_fault, keeps_tick, keeps_of, keeps_local, keeps_global, keeps_new_record, keeps_field, keeps_set_field, keeps_table, keeps_vector, keeps_item}
use Rattle.zk_lower.proofs.PrimitiveUnits.{stream_untold, keeps_perform, keeps_act, keeps_set_names, keeps_described, keeps_write_row, keeps_queue_row}

pub record CallsKeep (c : Calls) : Type 0 where
  pub call : (function : ℕ) (args : List Value) (place : Place) → Keeps (c.call function args place)
  pub hook : (hook : HookNo) (args : List Value) (place : Place) → Keeps (c.hook hook args place)

pub keeps_choose : {A : Type 0} {met otherwise : Does A} (place : Place) (one : Value) → Keeps met → Keeps otherwise → Keeps (choose place one met otherwise)
keeps_choose place (plain.Bool true) a b = a
keeps_choose place (plain.Bool false) a b = b
keeps_choose place one a b = keeps_misfit place

-- Writes -----------------------------------------------------------------------------------------------------------

module _ (program : Program) (of : RecordNo) (place : Place) (hook : CallsHook) (keeps : (number : HookNo) (args : List Value) → Keeps (hook number args)) where
  keeps_vetoed : {written : Does (Unit {0})} → Keeps written → (ran : Bool) → Keeps (unless_vetoed written ran)
  keeps_vetoed one true = one
  keeps_vetoed one false = keeps_pure tt

  keeps_by_policy : (stream : Stream) (one : Filter) (row : Value) (policy : Option HookNo) → Keeps (by_policy program of place hook stream one row policy)
  keeps_by_policy stream one row None = keeps_write_row program stream one row
  keeps_by_policy stream one row (Some policy) = keeps_bind
      (keeps_bind (keeps_described program of place stream one) (λ told. keeps policy (row ∷ plain.Enum (log_word program stream.id) ∷ told ∷ [])))
      (λ ran. keeps_vetoed (keeps_write_row program stream one row) ran)

  keeps_if_there : (there : Bool) {written : Does (Unit {0})} → Keeps written → Keeps (if_there there written)
  keeps_if_there true one = one
  keeps_if_there false one = keeps_pure tt

  keeps_by_filters : (stream : Stream) (row : Value) (filters : List Filter) → Keeps (by_filters program of place hook stream row filters)
  keeps_by_filters stream row [] = keeps_pure tt
  keeps_by_filters stream row (one ∷ others) = keeps_of (still_there stream.id one.name) (record { same = λ told world. refl }) (λ there.
      keeps_then (keeps_if_there there (keeps_by_policy stream one row (policy_of stream one))) (keeps_by_filters stream row others))

  keeps_to_stream : (row : Value) (stream : Option Stream) → Keeps (to_stream program of place hook row stream)
  keeps_to_stream row None = keeps_pure (plain.Bool false)
  keeps_to_stream row (Some stream) = keeps_then (keeps_queue_row stream.event row) (keeps_then (keeps_by_filters stream row stream.filters) (keeps_pure (plain.Bool true)))

  pub keeps_write_log : (log : LogId) (row : Value) → Keeps (write_log program of place hook log row)
  keeps_write_log log row = keeps_of (λ world. stream_of log world.streams) (stream_untold log) (λ stream. keeps_to_stream row stream)

-- Forms ------------------------------------------------------------------------------------------------------------

module _ (program : Program) (c : Calls) (keep : CallsKeep c) where
  mutual
    pub value_keeps : (place : Place) (one : Expr) → Keeps (value program c place one)
    value_keeps place (form.Constant one) = keeps_pure one
    value_keeps place (form.Local number) = keeps_local place number
    value_keeps place (form.Global number) = keeps_global place number
    value_keeps place (form.Apply primitive operands) = keeps_bind (values_keep place operands) (λ args. keeps_perform place primitive args)
    value_keeps place (form.New number given) = keeps_bind (givens_keep place given) (λ fields. keeps_new_record place number (record_fields program number) fields)
    value_keeps place (form.And left right) = keeps_bind (value_keeps place left) (λ one. keeps_choose place one (value_keeps place right) (keeps_pure (plain.Bool false)))
    value_keeps place (form.Or left right) = keeps_bind (value_keeps place left) (λ one. keeps_choose place one (keeps_pure (plain.Bool true)) (value_keeps place right))
    value_keeps place (form.Choice test met otherwise) = keeps_bind (value_keeps place test) (λ one. keeps_choose place one (value_keeps place met) (value_keeps place otherwise))
    value_keeps place (form.Call function operands) = keeps_bind (values_keep place operands) (λ args. keeps_bind (keep.call function args place) (λ given. keeps_or_fault Unset place given))
    value_keeps place (form.Hook hook operands) = keeps_bind (values_keep place operands) (λ args. keeps_bind (keep.hook hook args place) (λ ran. keeps_pure (plain.Bool ran)))
    value_keeps place (form.Write log row) = keeps_bind (value_keeps place row) (λ one. keeps_then (keeps_tick place)
        (keeps_write_log program filter_record place (λ hook args. c.hook hook args place) (λ hook args. keep.hook hook args place) log one))

    pub values_keep : (place : Place) (list : Exprs) → Keeps (values program c place list)
    values_keep place form.NoExpr = keeps_pure []
    values_keep place (form.AndExpr first others) = keeps_bind (value_keeps place first) (λ one. keeps_bind (values_keep place others) (λ more. keeps_pure (one ∷ more)))

    pub givens_keep : (place : Place) (list : Givens) → Keeps (givens program c place list)
    givens_keep place form.NoField = keeps_pure []
    givens_keep place (form.AndField number first others) = keeps_bind (value_keeps place first) (λ one. keeps_bind (givens_keep place others) (λ more. keeps_pure ((number, one) ∷ more)))
    givens_keep place (form.AndWire number «from» read others) = keeps_bind (value_keeps place «from») (λ one.
        keeps_bind (keeps_field place one read.field) (λ moved. keeps_bind (givens_keep place others) (λ more. keeps_pure ((number, moved) ∷ more))))

keeps_after : {others : Does Flow} → Keeps others → (flow : Flow) → Keeps (after others flow)
keeps_after rest Normal = rest
keeps_after rest Broke = keeps_pure Broke
keeps_after rest Nexted = keeps_pure Nexted
keeps_after rest (Returned given) = keeps_pure (Returned given)

pub keeps_after_turn : {others : Does Flow} → Keeps others → (flow : Flow) → Keeps (after_turn others flow)
keeps_after_turn rest Normal = rest
keeps_after_turn rest Broke = keeps_pure Normal
keeps_after_turn rest Nexted = rest
keeps_after_turn rest (Returned given) = keeps_pure (Returned given)

module _ {test : Does Value} {body : Does Flow} (test_keeps : Keeps test) (body_keeps : Keeps body) (place : Place) where
  keeps_turns : (most : ℕ) → Keeps (turns most place test body)
  keeps_turns zero = record { by = λ state. tt; moves = λ told state. refl }
  keeps_turns (suc most) = keeps_bind test_keeps (λ one. keeps_choose place one
      (keeps_then (keeps_tick place) (keeps_bind body_keeps (λ flow. keeps_after_turn (keeps_turns most) flow)))
      (keeps_pure Normal))

  keeps_loop : Keeps (loop place test body)
  keeps_loop = record { by = λ state. (keeps_turns (suc state.units)).by state; moves = λ told state. (keeps_turns (suc state.units)).moves told state }

module _ {body : Does Flow} (body_keeps : Keeps body) (place : Place) (names : Names) (over : Value) where
  keeps_key_turn : (key : List Value) {others : Does Flow} → Keeps others → (entry : Option Entry) → Keeps (key_turn place names key body others entry)
  keeps_key_turn key rest None = rest
  keeps_key_turn key rest (Some entry) = keeps_then (keeps_tick place) (keeps_then (keeps_set_names names key entry.value) (keeps_bind body_keeps (λ flow. keeps_after_turn rest flow)))

  keeps_each_key : (keys : List (List Value)) → Keeps (each_key place names over body keys)
  keeps_each_key [] = keeps_pure Normal
  keeps_each_key (key ∷ keys) = keeps_bind (keeps_table place over) (λ now. keeps_key_turn key (keeps_each_key keys) (entry_at key now.entries))

  keeps_each_index : (index left : ℕ) → Keeps (each_index place names over body index left)
  keeps_each_index index zero = keeps_pure Normal
  keeps_each_index index (suc left) = keeps_then (keeps_tick place) (keeps_bind (keeps_item place over (plain.Count index)) (λ one.
      keeps_then (keeps_set_names names (plain.Count index ∷ []) one) (keeps_bind body_keeps (λ flow. keeps_after_turn (keeps_each_index (index + 1) left) flow))))

module _ (program : Program) (c : Calls) (keep : CallsKeep c) where
  keeps_returned : (place : Place) (one : Option Expr) → Keeps (returned program c place one)
  keeps_returned place None = keeps_pure (Returned None)
  keeps_returned place (Some one) = keeps_bind (value_keeps program c keep place one) (λ given. keeps_pure (Returned (Some given)))

  mutual
    pub does_keeps : (one : Stmt) → Keeps (does program c one)
    does_keeps (form.Block stmts) = all_keep stmts
    does_keeps (form.Do place action operands) = keeps_then (keeps_tick place) (keeps_then (keeps_bind (values_keep program c keep place operands) (λ args. keeps_act place action args)) (keeps_pure Normal))
    does_keeps (form.Move place to number «from» read) = keeps_then (keeps_tick place) (keeps_bind (value_keeps program c keep place «from») (λ source.
        keeps_bind (keeps_field place source read.field) (λ moved. keeps_bind (value_keeps program c keep place to) (λ target.
        keeps_then (keeps_set_field place target number.field moved) (keeps_pure Normal)))))
    does_keeps (form.Evaluate place one) = keeps_then (keeps_tick place) (keeps_then (value_keeps program c keep place one) (keeps_pure Normal))
    does_keeps (form.Perform place function operands) = keeps_then (keeps_tick place) (keeps_bind (values_keep program c keep place operands) (λ args. keeps_then (keep.call function args place) (keeps_pure Normal)))
    does_keeps (form.If place test met otherwise) = keeps_then (keeps_tick place) (keeps_bind (value_keeps program c keep place test) (λ one. keeps_choose place one (does_keeps met) (does_keeps otherwise)))
    does_keeps (form.While place test body) = keeps_then (keeps_tick place) (keeps_loop (value_keeps program c keep place test) (does_keeps body) place)
    does_keeps (form.ForKeys place names over body) = keeps_then (keeps_tick place) (keeps_bind (value_keeps program c keep place over) (λ one.
        keeps_bind (keeps_table place one) (λ start. keeps_each_key (does_keeps body) place names one (keys_of start))))
    does_keeps (form.ForIndexes place names over body) = keeps_then (keeps_tick place) (keeps_bind (value_keeps program c keep place over) (λ one.
        keeps_bind (keeps_vector place one) (λ start. keeps_each_index (does_keeps body) place names one 0 (length start))))
    does_keeps (form.Return place one) = keeps_then (keeps_tick place) (keeps_returned place one)
    does_keeps (form.Next place) = keeps_then (keeps_tick place) (keeps_pure Nexted)
    does_keeps (form.Break place) = keeps_then (keeps_tick place) (keeps_pure Broke)

    pub all_keep : (list : Stmts) → Keeps (all program c list)
    all_keep form.NoStmt = keeps_pure Normal
    all_keep (form.AndStmt first others) = keeps_bind (does_keeps first) (λ flow. keeps_after (all_keep others) flow)

-- Calls ------------------------------------------------------------------------------------------------------------

entered : {A : Type 0} (most : ℕ) (ran : Ran A) (locals : List (Option Value)) → AtMost most ran → AtMost most (and_then ran (λ a left. Gives a (record left { locals = locals })))
entered most (Gives a state) locals le = le
entered most (Faults kind place world units) locals le = le
entered most (Spent place world) locals le = tt

keeps_enter : {A : Type 0} {body : Does A} (locals : ℕ) (args : List Value) → Keeps body → Keeps (enter locals args body)
keeps_enter {body = body} locals args keeps = record {
  by = λ state. entered state.units (body (record state { locals = first_locals locals args })) state.locals (keeps.by (record state { locals = first_locals locals args }));
  moves = λ told state. ap (λ ran. and_then ran (λ a left. Gives a (record left { locals = state.locals }))) (keeps.moves told (record state { locals = first_locals locals args })) ∙
      behind_then told (body (record state { locals = first_locals locals args })) (λ a left. Gives a (record left { locals = state.locals })) (λ a left. refl);
}

module _ (program : Program) (c : Calls) (keep : CallsKeep c) where
  pub keeps_function_body : (args : List Value) (place : Place) (function : Option Function) → Keeps (function_body program c args place function)
  keeps_function_body args place None = keeps_misfit place
  keeps_function_body args place (Some one) = keeps_bind (keeps_enter one.locals args (does_keeps program c keep one.body)) (λ flow. keeps_pure (result_of flow))

  keeps_unless_broken : {others : Does Bool} → Keeps others → (flow : Flow) → Keeps (unless_broken others flow)
  keeps_unless_broken rest Broke = keeps_pure false
  keeps_unless_broken rest Normal = rest
  keeps_unless_broken rest Nexted = rest
  keeps_unless_broken rest (Returned given) = rest

  keeps_hook_bodies : (args : List Value) (place : Place) (bodies : List HookBody) → Keeps (hook_bodies program c args place bodies)
  keeps_hook_bodies args place [] = keeps_pure true
  keeps_hook_bodies args place (one ∷ others) = keeps_then (keeps_tick place) (keeps_bind (keeps_enter one.locals args (does_keeps program c keep one.body)) (λ flow. keeps_unless_broken (keeps_hook_bodies args place others) flow))

-- however many calls may stand within one another
pub calls_keep : (program : Program) (depth : ℕ) → CallsKeep (calls program depth)
calls_keep program zero = record {
  call = λ function args place. keeps_then (keeps_tick place) (keeps_fault Depth place);
  hook = λ hook args place. keeps_then (keeps_tick place) (keeps_fault Depth place);
}
calls_keep program (suc depth) = record {
  call = λ function args place. keeps_then (keeps_tick place) (keeps_function_body program (calls program depth) (calls_keep program depth) args place (slice_get program.functions function));
  hook = λ hook args place. keeps_then (keeps_tick place) (keeps_hook_bodies program (calls program depth) (calls_keep program depth) args place (bodies_of (slice_get program.hooks hook.0)));
}
