-- Each expression, each statement and each call goes onward.
use Rattle.std.proofs.Common.{ℕ, zero, suc, ◌+◌, Bool, true, false, List, [], ◌∷◌, Option, Some, None, refl}
use Rattle.std.specs.Prelude.{ℤ, int_lt, slice_get, length}
use Rattle.std.specs.List.{AllByRecursion}
use Rattle.zk_base.specs.declared.numbers.HookNo.{HookNo}
use Rattle.zk_base.specs.declared.numbers.LogId.{LogId}
use Rattle.zk_base.specs.declared.numbers.RecordNo.{RecordNo}
use Rattle.zk_tree.specs.declared.place.Place.{Place}
use Rattle.zk_tree.specs.Table.{Entry, entry_at}
use Rattle.zk_tree.specs.Value as plain
use Rattle.zk_tree.specs.Value.{Value}
use Rattle.zk_typed.specs.declared.ends.FaultKind.TheVariants.{Unset, Depth}
use Rattle.zk_typed.specs.declared.script.stmt.Names.{Names}
use Rattle.zk_typed.specs.Columns.{record_fields}
use Rattle.zk_typed.specs.Does.{Does, Ran, Gives, Faults, Spent, and_then, read}
use Rattle.zk_typed.specs.Forms.{Expr, Exprs, Givens, Stmt, Stmts}
use Rattle.zk_typed.specs.Forms as form
use Rattle.zk_typed.specs.Log.{Stream, Filter}
use Rattle.zk_typed.specs.Logs.{CallsHook, by_policy, by_filters, if_there, policy_of, log_word, still_there, stream_of, to_stream, unless_vetoed, write_log}
use Rattle.zk_typed.specs.Meaning.{placed, in_order, Calls, Flow, Normal, Broke, Nexted, Returned, choose, value, values, givens, after, after_turn, turns, loop, key_turn, each_key, each_index, returned, does, all, enter, first_locals, function_body, result_of, unless_broken, hook_bodies, bodies_of, calls}
use Rattle.zk_typed.specs.Objects.{keys_of}
use Rattle.zk_typed.specs.Predefined.{filter_record}
use Rattle.zk_typed.specs.Program.{Program, Function, Hook, HookBody}
use Rattle.zk_typed.specs.State.{World}
use Rattle.zk_agenda.specs.Sparing.{Numbers, SparesExpr, SpareExprs, SpareGivens, SparesStmt, SpareStmts, Spares}
use Rattle.zk_agenda.proofs.Steps.{Goes, Leaves, same, reached, goes_bind, goes_then, goes_pure, goes_fault, goes_misfit, goes_or_fault, goes_tick, goes_of, goes_local, goes_global, goes_new_record, goes_field, goes_set_field, goes_table, goes_vector, goes_item}
use Rattle.zk_agenda.proofs.Primitives.{goes_perform, goes_act, goes_set_names, goes_described, goes_write_row, goes_queue_row}

-- what there may be spares these
abbrev SparesMaybe : Numbers → Option Expr → Type 0
SparesMaybe spared None = Unit {0}
SparesMaybe spared (Some one) = SparesExpr spared one

abbrev pub SparesFunction : Numbers → Option Function → Type 0
SparesFunction spared None = Unit {0}
SparesFunction spared (Some one) = SparesStmt spared one.body

abbrev SparesHook : Numbers → Option Hook → Type 0
SparesHook spared None = Unit {0}
SparesHook spared (Some one) = AllByRecursion (λ body. SparesStmt spared body.body) one.bodies

-- one of those of which each has a property
abbrev May : {A : Type 0} → (A → Type 0) → Option A → Type 0
May P None = Unit {0}
May P (Some one) = P one

may-get : {A : Type 0} (P : A → Type 0) (ones : List A) (number : ℕ) → AllByRecursion P ones → May P (slice_get ones number)
may-get P [] number all = tt
may-get P (one ∷ ones) zero all = all.0
may-get P (one ∷ ones) (suc number) all = may-get P ones number all.1

all-placed : {A : Type 0} (P : A → Type 0) (priority : A → ℤ) (one : A) (ones : List A) → P one → AllByRecursion P ones → AllByRecursion P (placed priority one ones)
all-placed P priority one [] h all = (h, tt)
all-placed P priority one (other ∷ ones) h all = by (int_lt (priority one) (priority other)) (all-placed P priority one ones h all.1)
  where
    by : (before : Bool) → AllByRecursion P (placed priority one ones) → AllByRecursion P (elim before [ true ↦ other ∷ placed priority one ones | false ↦ one ∷ other ∷ ones ])
    by true rest = (all.0, rest)
    by false rest = (h, all)

pub all-in-order : {A : Type 0} (P : A → Type 0) (priority : A → ℤ) (ones : List A) → AllByRecursion P ones → AllByRecursion P (in_order priority ones)
all-in-order P priority [] all = tt
all-in-order P priority (one ∷ ones) all = all-placed P priority one (in_order priority ones) all.0 (all-in-order P priority ones all.1)

pub function-spares : {fixed : Numbers} (program : Program) → Spares fixed program → (number : ℕ) → SparesFunction fixed (slice_get program.functions number)
function-spares {fixed} program spares number = by (slice_get program.functions number) (may-get (λ one. SparesStmt fixed one.body) program.functions number spares.functions)
  where
    by : (one : Option Function) → May (λ one. SparesStmt fixed one.body) one → SparesFunction fixed one
    by None h = tt
    by (Some one) h = h

bodies-spare : {fixed : Numbers} (program : Program) → Spares fixed program → (number : ℕ) → AllByRecursion (λ one. SparesStmt fixed one.body) (bodies_of (slice_get program.hooks number))
bodies-spare {fixed} program spares number = by (slice_get program.hooks number) (may-get (λ hook. AllByRecursion (λ one. SparesStmt fixed one.body) hook.bodies) program.hooks number spares.hooks)
  where
    by : (one : Option Hook) → May (λ hook. AllByRecursion (λ one. SparesStmt fixed one.body) hook.bodies) one → AllByRecursion (λ one. SparesStmt fixed one.body) (bodies_of one)
    by None h = tt
    by (Some hook) h = all-in-order (λ one. SparesStmt fixed one.body) (λ body. body.priority) hook.bodies h

pub record CallsGo (fixed : Numbers) (c : Calls) : Type 0 where
  pub call : (function : ℕ) (args : List Value) (place : Place) → Goes fixed (c.call function args place)
  pub hook : (hook : HookNo) (args : List Value) (place : Place) → Goes fixed (c.hook hook args place)

module _ {fixed : Numbers} where
  pub goes_choose : {A : Type 0} {met otherwise : Does A} (place : Place) (one : Value) → Goes fixed met → Goes fixed otherwise → Goes fixed (choose place one met otherwise)
  goes_choose place (plain.Bool true) a b = a
  goes_choose place (plain.Bool false) a b = b
  goes_choose place one a b = goes_misfit place

  -- Writes -----------------------------------------------------------------------------------------------------------

  module _ (program : Program) (of : RecordNo) (place : Place) (hook : CallsHook) (goes : (number : HookNo) (args : List Value) → Goes fixed (hook number args)) where
    goes_vetoed : {written : Does (Unit {0})} → Goes fixed written → (ran : Bool) → Goes fixed (unless_vetoed written ran)
    goes_vetoed one true = one
    goes_vetoed one false = goes_pure tt

    goes_by_policy : (stream : Stream) (one : Filter) (row : Value) (policy : Option HookNo) → Goes fixed (by_policy program of place hook stream one row policy)
    goes_by_policy stream one row None = goes_write_row program stream one row
    goes_by_policy stream one row (Some policy) = goes_bind
        (goes_bind (goes_described program of place stream one) (λ told. goes policy (row ∷ plain.Enum (log_word program stream.id) ∷ told ∷ [])))
        (λ ran. goes_vetoed (goes_write_row program stream one row) ran)

    goes_if_there : (there : Bool) {written : Does (Unit {0})} → Goes fixed written → Goes fixed (if_there there written)
    goes_if_there true one = one
    goes_if_there false one = goes_pure tt

    goes_by_filters : (stream : Stream) (row : Value) (filters : List Filter) → Goes fixed (by_filters program of place hook stream row filters)
    goes_by_filters stream row [] = goes_pure tt
    goes_by_filters stream row (one ∷ others) = goes_of (still_there stream.id one.name) (λ there.
        goes_then (goes_if_there there (goes_by_policy stream one row (policy_of stream one))) (goes_by_filters stream row others))

    goes_to_stream : (row : Value) (stream : Option Stream) → Goes fixed (to_stream program of place hook row stream)
    goes_to_stream row None = goes_pure (plain.Bool false)
    goes_to_stream row (Some stream) = goes_then (goes_queue_row stream.event row) (goes_then (goes_by_filters stream row stream.filters) (goes_pure (plain.Bool true)))

    pub goes_write_log : (log : LogId) (row : Value) → Goes fixed (write_log program of place hook log row)
    goes_write_log log row = goes_of (λ world. stream_of log world.streams) (λ stream. goes_to_stream row stream)

  -- Forms ------------------------------------------------------------------------------------------------------------

  module _ (program : Program) (c : Calls) (go : CallsGo fixed c) where
    mutual
      pub value_goes : (place : Place) (one : Expr) → SparesExpr fixed one → Goes fixed (value program c place one)
      value_goes place (form.Constant one) spares = goes_pure one
      value_goes place (form.Local number) spares = goes_local place number
      value_goes place (form.Global number) spares = goes_global place number
      value_goes place (form.Apply primitive operands) spares = goes_bind (values_go place operands spares.1) (λ args. goes_perform place primitive args spares.0)
      value_goes place (form.New number given) spares = goes_bind (givens_go place given spares) (λ fields. goes_new_record place number (record_fields program number) fields)
      value_goes place (form.And left right) spares = goes_bind (value_goes place left spares.0) (λ one. goes_choose place one (value_goes place right spares.1) (goes_pure (plain.Bool false)))
      value_goes place (form.Or left right) spares = goes_bind (value_goes place left spares.0) (λ one. goes_choose place one (goes_pure (plain.Bool true)) (value_goes place right spares.1))
      value_goes place (form.Choice test met otherwise) spares = goes_bind (value_goes place test spares.0) (λ one. goes_choose place one (value_goes place met spares.1) (value_goes place otherwise spares.2))
      value_goes place (form.Call function operands) spares = goes_bind (values_go place operands spares) (λ args. goes_bind (go.call function args place) (λ given. goes_or_fault Unset place given))
      value_goes place (form.Hook hook operands) spares = goes_bind (values_go place operands spares) (λ args. goes_bind (go.hook hook args place) (λ ran. goes_pure (plain.Bool ran)))
      value_goes place (form.Write log row) spares = goes_bind (value_goes place row spares) (λ one. goes_then (goes_tick place)
          (goes_write_log program filter_record place (λ hook args. c.hook hook args place) (λ hook args. go.hook hook args place) log one))

      pub values_go : (place : Place) (list : Exprs) → SpareExprs fixed list → Goes fixed (values program c place list)
      values_go place form.NoExpr spares = goes_pure []
      values_go place (form.AndExpr first others) spares = goes_bind (value_goes place first spares.0) (λ one. goes_bind (values_go place others spares.1) (λ more. goes_pure (one ∷ more)))

      pub givens_go : (place : Place) (list : Givens) → SpareGivens fixed list → Goes fixed (givens program c place list)
      givens_go place form.NoField spares = goes_pure []
      givens_go place (form.AndField number first others) spares = goes_bind (value_goes place first spares.0) (λ one. goes_bind (givens_go place others spares.1) (λ more. goes_pure ((number, one) ∷ more)))
      givens_go place (form.AndWire number «from» read others) spares = goes_bind (value_goes place «from» spares.0) (λ one.
          goes_bind (goes_field place one read.field) (λ moved. goes_bind (givens_go place others spares.1) (λ more. goes_pure ((number, moved) ∷ more))))

  goes_after : {others : Does Flow} → Goes fixed others → (flow : Flow) → Goes fixed (after others flow)
  goes_after rest Normal = rest
  goes_after rest Broke = goes_pure Broke
  goes_after rest Nexted = goes_pure Nexted
  goes_after rest (Returned given) = goes_pure (Returned given)

  pub goes_after_turn : {others : Does Flow} → Goes fixed others → (flow : Flow) → Goes fixed (after_turn others flow)
  goes_after_turn rest Normal = rest
  goes_after_turn rest Broke = goes_pure Normal
  goes_after_turn rest Nexted = rest
  goes_after_turn rest (Returned given) = goes_pure (Returned given)

  module _ {test : Does Value} {body : Does Flow} (test_goes : Goes fixed test) (body_goes : Goes fixed body) (place : Place) where
    goes_turns : (most : ℕ) → Goes fixed (turns most place test body)
    goes_turns zero = record { by = λ state. same _ _ refl refl refl refl refl refl }
    goes_turns (suc most) = goes_bind test_goes (λ one. goes_choose place one
        (goes_then (goes_tick place) (goes_bind body_goes (λ flow. goes_after_turn (goes_turns most) flow)))
        (goes_pure Normal))

    goes_loop : Goes fixed (loop place test body)
    goes_loop = record { by = λ state. (goes_turns (suc state.units)).by state }

  module _ {body : Does Flow} (body_goes : Goes fixed body) (place : Place) (names : Names) (over : Value) where
    goes_key_turn : (key : List Value) {others : Does Flow} → Goes fixed others → (entry : Option Entry) → Goes fixed (key_turn place names key body others entry)
    goes_key_turn key rest None = rest
    goes_key_turn key rest (Some entry) = goes_then (goes_tick place) (goes_then (goes_set_names names key entry.value) (goes_bind body_goes (λ flow. goes_after_turn rest flow)))

    goes_each_key : (keys : List (List Value)) → Goes fixed (each_key place names over body keys)
    goes_each_key [] = goes_pure Normal
    goes_each_key (key ∷ keys) = goes_bind (goes_table place over) (λ now. goes_key_turn key (goes_each_key keys) (entry_at key now.entries))

    goes_each_index : (index left : ℕ) → Goes fixed (each_index place names over body index left)
    goes_each_index index zero = goes_pure Normal
    goes_each_index index (suc left) = goes_then (goes_tick place) (goes_bind (goes_item place over (plain.Count index)) (λ one.
        goes_then (goes_set_names names (plain.Count index ∷ []) one) (goes_bind body_goes (λ flow. goes_after_turn (goes_each_index (index + 1) left) flow))))

  module _ (program : Program) (c : Calls) (go : CallsGo fixed c) where
    goes_returned : (place : Place) (one : Option Expr) → SparesMaybe fixed one → Goes fixed (returned program c place one)
    goes_returned place None spares = goes_pure (Returned None)
    goes_returned place (Some one) spares = goes_bind (value_goes program c go place one spares) (λ given. goes_pure (Returned (Some given)))

    mutual
      pub does_goes : (one : Stmt) → SparesStmt fixed one → Goes fixed (does program c one)
      does_goes (form.Block stmts) spares = all_go stmts spares
      does_goes (form.Do place action operands) spares = goes_then (goes_tick place) (goes_then (goes_bind (values_go program c go place operands spares.1) (λ args. goes_act place action args spares.0)) (goes_pure Normal))
      does_goes (form.Move place to number «from» read) spares = goes_then (goes_tick place) (goes_bind (value_goes program c go place «from» spares.1) (λ source.
          goes_bind (goes_field place source read.field) (λ moved. goes_bind (value_goes program c go place to spares.0) (λ target.
          goes_then (goes_set_field place target number.field moved) (goes_pure Normal)))))
      does_goes (form.Evaluate place one) spares = goes_then (goes_tick place) (goes_then (value_goes program c go place one spares) (goes_pure Normal))
      does_goes (form.Perform place function operands) spares = goes_then (goes_tick place) (goes_bind (values_go program c go place operands spares) (λ args. goes_then (go.call function args place) (goes_pure Normal)))
      does_goes (form.If place test met otherwise) spares = goes_then (goes_tick place) (goes_bind (value_goes program c go place test spares.0) (λ one. goes_choose place one (does_goes met spares.1) (does_goes otherwise spares.2)))
      does_goes (form.While place test body) spares = goes_then (goes_tick place) (goes_loop (value_goes program c go place test spares.0) (does_goes body spares.1) place)
      does_goes (form.ForKeys place names over body) spares = goes_then (goes_tick place) (goes_bind (value_goes program c go place over spares.0) (λ one.
          goes_bind (goes_table place one) (λ start. goes_each_key (does_goes body spares.1) place names one (keys_of start))))
      does_goes (form.ForIndexes place names over body) spares = goes_then (goes_tick place) (goes_bind (value_goes program c go place over spares.0) (λ one.
          goes_bind (goes_vector place one) (λ start. goes_each_index (does_goes body spares.1) place names one 0 (length start))))
      does_goes (form.Return place None) spares = goes_then (goes_tick place) (goes_returned place None tt)
      does_goes (form.Return place (Some one)) spares = goes_then (goes_tick place) (goes_returned place (Some one) spares)
      does_goes (form.Next place) spares = goes_then (goes_tick place) (goes_pure Nexted)
      does_goes (form.Break place) spares = goes_then (goes_tick place) (goes_pure Broke)

      pub all_go : (list : Stmts) → SpareStmts fixed list → Goes fixed (all program c list)
      all_go form.NoStmt spares = goes_pure Normal
      all_go (form.AndStmt first others) spares = goes_bind (does_goes first spares.0) (λ flow. goes_after (all_go others spares.1) flow)

  -- Calls ------------------------------------------------------------------------------------------------------------

  entered : {A : Type 0} (before : World) (ran : Ran A) (locals : List (Option Value)) → Leaves fixed before (reached ran)
      → Leaves fixed before (reached (and_then ran (λ a left. Gives a (record left { locals = locals }))))
  entered before (Gives a state) locals first = first
  entered before (Faults kind place world units) locals first = first
  entered before (Spent place world) locals first = first

  goes_enter : {A : Type 0} {body : Does A} (locals : ℕ) (args : List Value) → Goes fixed body → Goes fixed (enter locals args body)
  goes_enter {body = body} locals args goes = record {
    by = λ state. entered state.world (body (record state { locals = first_locals locals args })) state.locals (goes.by (record state { locals = first_locals locals args }));
  }

  module _ (program : Program) (c : Calls) (go : CallsGo fixed c) where
    pub goes_function_body : (args : List Value) (place : Place) (function : Option Function) → SparesFunction fixed function → Goes fixed (function_body program c args place function)
    goes_function_body args place None spares = goes_misfit place
    goes_function_body args place (Some one) spares = goes_bind (goes_enter one.locals args (does_goes program c go one.body spares)) (λ flow. goes_pure (result_of flow))

    goes_unless_broken : {others : Does Bool} → Goes fixed others → (flow : Flow) → Goes fixed (unless_broken others flow)
    goes_unless_broken rest Broke = goes_pure false
    goes_unless_broken rest Normal = rest
    goes_unless_broken rest Nexted = rest
    goes_unless_broken rest (Returned given) = rest

    goes_hook_bodies : (args : List Value) (place : Place) (bodies : List HookBody) → AllByRecursion (λ one. SparesStmt fixed one.body) bodies → Goes fixed (hook_bodies program c args place bodies)
    goes_hook_bodies args place [] spares = goes_pure true
    goes_hook_bodies args place (one ∷ others) spares = goes_then (goes_tick place) (goes_bind (goes_enter one.locals args (does_goes program c go one.body spares.0)) (λ flow. goes_unless_broken (goes_hook_bodies args place others spares.1) flow))

  -- however many calls may stand within one another
  pub calls_go : (program : Program) → Spares fixed program → (depth : ℕ) → CallsGo fixed (calls program depth)
  calls_go program spares zero = record {
    call = λ function args place. goes_then (goes_tick place) (goes_fault Depth place);
    hook = λ hook args place. goes_then (goes_tick place) (goes_fault Depth place);
  }
  calls_go program spares (suc depth) = record {
    call = λ function args place. goes_then (goes_tick place) (goes_function_body program (calls program depth) (calls_go program spares depth) args place (slice_get program.functions function) (function-spares program spares function));
    hook = λ hook args place. goes_then (goes_tick place) (goes_hook_bodies program (calls program depth) (calls_go program spares depth) args place (bodies_of (slice_get program.hooks hook.0)) (bodies-spare program spares hook.0));
  }
