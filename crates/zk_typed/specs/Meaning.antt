-- What scripts mean (Zeek manual, Script Reference). Operands are computed from left to right. A unit is taken for each
-- statement that is begun, blocks excepted, for each turn of a loop, for each call and for each body of a hook. The place of
-- a fault is that of the innermost statement under way, so it is handed down.
use Rattle.std.specs.Prelude.{ℕ, zero, suc, ◌+◌, ◌-◌, ℤ, int_lt, Bool, true, false, List, [], ◌∷◌, ◌++◌, length, map, replicate, Option, Some, None, slice_get}
use Rattle.zk_base.specs.declared.numbers.HookNo.{HookNo}
use Rattle.zk_tree.specs.declared.place.Place.{Place}
use Rattle.zk_tree.specs.Table.{Entry, entry_at}
use Rattle.zk_tree.specs.Value as plain
use Rattle.zk_tree.specs.Value.{Value}
use Rattle.zk_typed.specs.declared.ends.FaultKind.TheVariants.{Unset, Depth}
use Rattle.zk_typed.specs.declared.script.stmt.Names.{Names}
use Rattle.zk_typed.specs.Columns.{record_fields}
use Rattle.zk_typed.specs.Does.{Does, Gives, Spent, and_then, ◌>>=◌, ◌>>◌, pure, done, fault, or_fault, misfit, tick, local, set_local, global}
use Rattle.zk_typed.specs.Forms.{Expr, Exprs, Givens, Stmt, Stmts}
use Rattle.zk_typed.specs.Forms as form
use Rattle.zk_typed.specs.Logs.{write_log}
use Rattle.zk_typed.specs.Objects.{Given, table, keys_of, vector, item, field, set_field, new_record}
use Rattle.zk_typed.specs.Predefined.{filter_record}
use Rattle.zk_typed.specs.Primitives.{perform, act}
use Rattle.zk_typed.specs.Program.{Program, Function, Hook, HookBody}

-- what calls the functions and hooks of a program, at a place, with the values of their arguments
pub record Calls : Type 0 where
  -- a function gives a value, or none
  pub call : ℕ → List Value → Place → Does (Option Value)
  -- a hook gives whether all of its bodies ran
  pub hook : HookNo → List Value → Place → Does Bool

-- Expressions ------------------------------------------------------------------------------------------------------

-- a computation by a truth value
abbrev pub choose : {A : Type 0} → Place → Value → Does A → Does A → Does A
choose place (plain.Bool true) met otherwise = met
choose place (plain.Bool false) met otherwise = otherwise
choose place value met otherwise = misfit place

abbrev mutual
  pub value : Program → Calls → Place → Expr → Does Value
  value program calls place (form.Constant one) = pure one
  value program calls place (form.Local number) = local place number
  value program calls place (form.Global number) = global place number
  value program calls place (form.Apply primitive operands) = values program calls place operands >>= perform place primitive
  value program calls place (form.New record_no given) = givens program calls place given >>= new_record place record_no (record_fields program record_no)
  value program calls place (form.And left right) = do
    first ← value program calls place left
    choose place first (value program calls place right) (pure (plain.Bool false))
  value program calls place (form.Or left right) = do
    first ← value program calls place left
    choose place first (pure (plain.Bool true)) (value program calls place right)
  value program calls place (form.Choice test met otherwise) = do
    first ← value program calls place test
    choose place first (value program calls place met) (value program calls place otherwise)
  value program calls place (form.Call function operands) = do
    args ← values program calls place operands
    given ← calls.call function args place
    or_fault Unset place given
  value program calls place (form.Hook hook operands) = do
    args ← values program calls place operands
    ran ← calls.hook hook args place
    pure (plain.Bool ran)
  value program calls place (form.Write log row) = do
    one ← value program calls place row
    tick place
    write_log program filter_record place (λ hook args. calls.hook hook args place) log one

  -- from left to right
  pub values : Program → Calls → Place → Exprs → Does (List Value)
  values program calls place form.NoExpr = pure []
  values program calls place (form.AndExpr first others) = do
    one ← value program calls place first
    more ← values program calls place others
    pure (one ∷ more)

  -- the values of fields by their numbers
  pub givens : Program → Calls → Place → Givens → Does (List Given)
  givens program calls place form.NoField = pure []
  givens program calls place (form.AndField number first others) = do
    one ← value program calls place first
    more ← givens program calls place others
    pure ((number, one) ∷ more)
  givens program calls place (form.AndWire number «from» read others) = do
    one ← value program calls place «from»
    moved ← field place one read.field
    more ← givens program calls place others
    pure ((number, moved) ∷ more)

-- Statements -------------------------------------------------------------------------------------------------------

-- how a statement comes out
pub data Flow : Type 0 where
  Normal : Flow
  Broke : Flow
  Nexted : Flow
  Returned : (value : Option Value) → Flow

abbrev pub normally : Does (Unit {0}) → Does Flow
normally first = first >> pure Normal

-- the statements after one that came out so
abbrev pub after : Does Flow → Flow → Does Flow
after others Normal = others
after others Broke = pure Broke
after others Nexted = pure Nexted
after others (Returned given) = pure (Returned given)

-- the turns after one that came out so
abbrev pub after_turn : Does Flow → Flow → Does Flow
after_turn others Normal = others
after_turn others Broke = pure Normal
after_turn others Nexted = others
after_turn others (Returned given) = pure (Returned given)

-- turns of a `while`, of which each costs a unit, so that no more come than there are units
abbrev pub turns : ℕ → Place → Does Value → Does Flow → Does Flow
turns zero place test body = λ state. Spent place state.world
turns (suc most) place test body = do
  one ← test
  choose place one (tick place >> (body >>= after_turn (turns most place test body))) (pure Normal)

abbrev pub loop : Place → Does Value → Does Flow → Does Flow
loop place test body = λ state. turns (suc state.units) place test body state

-- the locals of a `for` at a turn
abbrev pub set_keys : List ℕ → List Value → Does (Unit {0})
set_keys [] key = done
set_keys (name ∷ names) [] = done
set_keys (name ∷ names) (value ∷ key) = set_local name (Some value) >> set_keys names key

abbrev pub set_names : Names → List Value → Value → Does (Unit {0})
set_names names key one = set_keys names.keys key >> set_value names.value
  where
    set_value : Option ℕ → Does (Unit {0})
    set_value None = done
    set_value (Some number) = set_local number (Some one)

-- a turn, where the key's entry is there
abbrev pub key_turn : Place → Names → List Value → Does Flow → Does Flow → Option Entry → Does Flow
key_turn place names key body others None = others
key_turn place names key body others (Some entry) = tick place >> (set_names names key entry.value >> (body >>= after_turn others))

-- over the keys that were there at the start, but those that are gone at their turn
abbrev pub each_key : Place → Names → Value → Does Flow → List (List Value) → Does Flow
each_key place names over body [] = pure Normal
each_key place names over body (key ∷ keys) = do
  now ← table place over
  key_turn place names key body (each_key place names over body keys) (entry_at key now.entries)

-- over as many indexes as there were at the start
abbrev pub each_index : Place → Names → Value → Does Flow → ℕ → ℕ → Does Flow
each_index place names over body index zero = pure Normal
each_index place names over body index (suc left) = do
  tick place
  one ← item place over (plain.Count index)
  set_names names (plain.Count index ∷ []) one
  body >>= after_turn (each_index place names over body (index + 1) left)

abbrev pub returned : Program → Calls → Place → Option Expr → Does Flow
returned program calls place None = pure (Returned None)
returned program calls place (Some one) = value program calls place one >>= (λ given. pure (Returned (Some given)))

abbrev mutual
  pub does : Program → Calls → Stmt → Does Flow
  does program calls (form.Block stmts) = all program calls stmts
  does program calls (form.Do place action operands) = tick place >> normally (values program calls place operands >>= act place action)
  does program calls (form.Move place to number «from» read) = tick place >> (do
    source ← value program calls place «from»
    moved ← field place source read.field
    target ← value program calls place to
    normally (set_field place target number.field moved))
  does program calls (form.Evaluate place one) = tick place >> (value program calls place one >> pure Normal)
  does program calls (form.Perform place function operands) = tick place >> (do
    args ← values program calls place operands
    calls.call function args place
    pure Normal)
  does program calls (form.If place test met otherwise) = tick place >> (do
    one ← value program calls place test
    choose place one (does program calls met) (does program calls otherwise))
  does program calls (form.While place test body) = tick place >> loop place (value program calls place test) (does program calls body)
  does program calls (form.ForKeys place names over body) = tick place >> (do
    one ← value program calls place over
    start ← table place one
    each_key place names one (does program calls body) (keys_of start))
  does program calls (form.ForIndexes place names over body) = tick place >> (do
    one ← value program calls place over
    start ← vector place one
    each_index place names one (does program calls body) 0 (length start))
  does program calls (form.Return place one) = tick place >> returned program calls place one
  does program calls (form.Next place) = tick place >> pure Nexted
  does program calls (form.Break place) = tick place >> pure Broke

  -- one after another, up to the first that does not come out normally
  pub all : Program → Calls → Stmts → Does Flow
  all program calls form.NoStmt = pure Normal
  all program calls (form.AndStmt first others) = does program calls first >>= after (all program calls others)

-- Calls ------------------------------------------------------------------------------------------------------------

-- the parameters with these values, and the locals without one
abbrev pub first_locals : ℕ → List Value → List (Option Value)
first_locals locals args = map Some args ++ replicate (locals - length args) None

-- a body with names of its own, after which those of its caller are there again
abbrev pub enter : {A : Type 0} → ℕ → List Value → Does A → Does A
enter locals args body = λ state.
    and_then (body (record state { locals = first_locals locals args })) (λ a left. Gives a (record left { locals = state.locals }))

-- the value with which a function ends
abbrev pub result_of : Flow → Option Value
result_of (Returned given) = given
result_of flow = None

abbrev pub function_body : Program → Calls → List Value → Place → Option Function → Does (Option Value)
function_body program calls args place None = misfit place
function_body program calls args place (Some one) = enter one.locals args (does program calls one.body) >>= (λ flow. pure (result_of flow))

-- before those of its own or a lower priority
abbrev pub placed : {A : Type 0} → (A → ℤ) → A → List A → List A
placed priority one [] = one ∷ []
placed priority one (other ∷ others) = elim (int_lt (priority one) (priority other)) [
  | true ↦ other ∷ placed priority one others
  | false ↦ one ∷ other ∷ others
]

-- by falling priority, and in load order where that is the same
abbrev pub in_order : {A : Type 0} → (A → ℤ) → List A → List A
in_order priority [] = []
in_order priority (one ∷ others) = placed priority one (in_order priority others)

abbrev pub unless_broken : Does Bool → Flow → Does Bool
unless_broken others Broke = pure false
unless_broken others Normal = others
unless_broken others Nexted = others
unless_broken others (Returned given) = others

-- the bodies of a hook: `break` ends them, and `return` ends one
abbrev pub hook_bodies : Program → Calls → List Value → Place → List HookBody → Does Bool
hook_bodies program calls args place [] = pure true
hook_bodies program calls args place (one ∷ others) = do
  tick place
  flow ← enter one.locals args (does program calls one.body)
  unless_broken (hook_bodies program calls args place others) flow

abbrev pub bodies_of : Option Hook → List HookBody
bodies_of None = []
bodies_of (Some hook) = in_order (λ body. body.priority) hook.bodies

-- so many calls may stand within one another
abbrev pub depth_max : ℕ
depth_max = 200

-- what calls, where so many more calls may stand within it
abbrev pub calls : Program → ℕ → Calls
calls program zero = record {
  call = λ function args place. tick place >> fault Depth place;
  hook = λ hook args place. tick place >> fault Depth place;
}
calls program (suc depth) = record {
  call = λ function args place. tick place >> function_body program (calls program depth) args place (slice_get program.functions function);
  hook = λ hook args place. tick place >> hook_bodies program (calls program depth) args place (bodies_of (slice_get program.hooks hook.0));
}
