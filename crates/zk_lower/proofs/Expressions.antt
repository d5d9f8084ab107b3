-- The code of an expression gives its value, and so do those of operands and of fields.
use Rattle.std.proofs.Common.{◌≡◌, ℕ, suc, ◌+◌, true, false, List, [], ◌∷◌, length, map, refl, sym, ap, ◌∙◌}
use Rattle.zk_base.specs.declared.numbers.HookNo.{HookNo}
use Rattle.zk_base.specs.declared.numbers.LogId.{LogId}
use Rattle.zk_base.specs.declared.numbers.RecordNo.{RecordNo}
use Rattle.zk_tree.specs.declared.place.Place.{Place}
use Rattle.zk_tree.specs.Value as plain
use Rattle.zk_tree.specs.Value.{Value}
use Rattle.zk_typed.specs.declared.ends.FaultKind.TheVariants.{Unset}
use Rattle.zk_typed.specs.declared.script.primitive.Primitive.{Primitive}
use Rattle.zk_typed.specs.declared.script.primitive.Primitive.TheVariants as primitive
use Rattle.zk_typed.specs.Columns.{record_fields}
use Rattle.zk_typed.specs.Does.{Does, ◌>>=◌, ◌>>◌, pure, or_fault, tick, local, global}
use Rattle.zk_typed.specs.Forms.{Expr, Exprs, Givens}
use Rattle.zk_typed.specs.Forms as form
use Rattle.zk_typed.specs.Logs.{write_log}
use Rattle.zk_typed.specs.Meaning.{Calls, choose, value, values, givens}
use Rattle.zk_typed.specs.Objects.{Given, field, new_record}
use Rattle.zk_typed.specs.Predefined.{filter_record}
use Rattle.zk_typed.specs.Primitives.{perform}
use Rattle.zk_typed.specs.Program.{Program}
use Rattle.zk_typed.specs.State.{State}
use Rattle.zk_lower.specs.Code.{Op, Code, types_of, types_in}
use Rattle.zk_lower.specs.Code as op
use Rattle.zk_lower.specs.Frames.{Result, Return, Held, pushed}
use Rattle.zk_lower.specs.Lowering.{count, field_numbers}
use Rattle.zk_lower.specs.Steps.{by, push, given, room, call, hook, write}
use Rattle.zk_lower.proofs.Runs.{Start, Runs, runs_bind, runs_pure, runs_from, runs_to, runs_knowing, Always, always_bind, always_after, always_pure, here, rest, first_step, runs_op, at_place, all_pushed, popped}
use Rattle.zk_lower.proofs.Standing.{At, Stretch, OneAt, ChoiceAt, ExprAt, ExprsAt, GivensAt}

-- How many there are -----------------------------------------------------------------------------------------------

module _ (program : Program) (c : Calls) where
  pub values_count : (place : Place) (list : Exprs) → Always (λ args. length args ≡ count list) (values program c place list)
  values_count place form.NoExpr = always_pure _ [] refl
  values_count place (form.AndExpr first others) = always_after (λ args. length args ≡ suc (count others)) (value program c place first) (λ one.
      always_bind (λ more. length more ≡ count others) (λ args. length args ≡ suc (count others)) (values_count place others) (λ more e. always_pure (λ args. length args ≡ suc (count others)) (one ∷ more) (ap suc e)))

  abbrev pub numbers_of : List Given → List ℕ
  numbers_of list = map (λ one. one.0) list

  abbrev pub values_of : List Given → List Value
  values_of list = map (λ one. one.1) list

  -- a field before others
  before_fields : (place : Place) (number : ℕ) (one : Value) (others : Givens) → Always (λ fields. numbers_of fields ≡ field_numbers others) (givens program c place others) → Always (λ fields. numbers_of fields ≡ number ∷ field_numbers others) (givens program c place others >>= (λ more. pure ((number, one) ∷ more)))
  before_fields place number one others known = always_bind (λ more. numbers_of more ≡ field_numbers others) (λ fields. numbers_of fields ≡ number ∷ field_numbers others) known
      (λ more e. always_pure (λ fields. numbers_of fields ≡ number ∷ field_numbers others) ((number, one) ∷ more) (ap (λ list. number ∷ list) e))

  pub givens_fields : (place : Place) (list : Givens) → Always (λ fields. numbers_of fields ≡ field_numbers list) (givens program c place list)
  givens_fields place form.NoField = always_pure _ [] refl
  givens_fields place (form.AndField number first others) =
      always_after (λ fields. numbers_of fields ≡ number ∷ field_numbers others) (value program c place first) (λ one. before_fields place number one others (givens_fields place others))
  givens_fields place (form.AndWire number «from» read others) =
      always_after (λ fields. numbers_of fields ≡ number ∷ field_numbers others) (value program c place «from») (λ one.
      always_after (λ fields. numbers_of fields ≡ number ∷ field_numbers others) (field place one read.field) (λ moved. before_fields place number moved others (givens_fields place others)))

  -- fields are their numbers with their values
  given_again : (list : List Given) → given (numbers_of list) (values_of list) ≡ list
  given_again [] = refl
  given_again (one ∷ others) = ap (λ more. one ∷ more) (given_again others)

  as_many : (list : List Given) → length (values_of list) ≡ length (numbers_of list)
  as_many [] = refl
  as_many (one ∷ others) = ap suc (as_many others)

  pub given_fields : (fields : List ℕ) (list : List Given) → numbers_of list ≡ fields → given fields (values_of list) ≡ list
  given_fields fields list e = ap (λ numbers. given numbers (values_of list)) (sym e) ∙ given_again list

  pub given_count : (fields : List ℕ) (list : List Given) → numbers_of list ≡ fields → length (values_of list) ≡ length fields
  given_count fields list e = as_many list ∙ ap length e

-- Choices ----------------------------------------------------------------------------------------------------------

module _ (code : Code) where
  -- a jump from one place to another
  abbrev pub Joins : (ℕ → Start) → Type 0
  Joins end = (from to over : ℕ) → At code.ops (op.Jump over) from → from + 1 + over ≡ to → (state : State) → end from state ≡ end to state

  pub jumps : (held : Held) (from to over : ℕ) → At code.ops (op.Jump over) from → from + 1 + over ≡ to → (state : State) → here code from held state ≡ here code to held state
  jumps held from to over e lands state = first_step code (op.Jump over) from held state e ∙ at_place code held state lands

  pub choice_runs : {A : Type 0} (place : Place) (one : Value) (held : Held) (Met Otherwise : Stretch) (met otherwise : Does A) (at to : ℕ) (end : ℕ → A → Start)
      → ChoiceAt code.ops place Met Otherwise at to
      → ((from to : ℕ) → Met from to → Runs met (here code from held) (end to))
      → ((from to : ℕ) → Otherwise from to → Runs otherwise (here code from held) (end to))
      → ((a : A) → Joins (λ to. end to a))
      → Runs (choose place one met otherwise) (here code at (pushed one held)) (end to)
  choice_runs place (plain.Bool true) held Met Otherwise met otherwise at to end h a b joins =
      runs_to
      (runs_from (λ state. first_step code (op.Unless place h.over) at (pushed (plain.Bool true) held) state h.decides ∙ at_place code held state h.goes_on) (a h.met_from h.met_to h.met))
      (λ one state. joins one h.met_to to h.skip h.jumps h.joins state)
  choice_runs place (plain.Bool false) held Met Otherwise met otherwise at to end h a b joins =
      runs_from (λ state. first_step code (op.Unless place h.over) at (pushed (plain.Bool false) held) state h.decides ∙ at_place code held state h.goes_over) (b h.else_from to h.otherwise)
  choice_runs place one held Met Otherwise met otherwise at to end h a b joins = record { by = λ state. first_step code (op.Unless place h.over) at (pushed one held) state h.decides }

-- Expressions ------------------------------------------------------------------------------------------------------

-- what the operations that call do, where so many more calls may stand within one another
pub record CallsRun (program : Program) (code : Code) (c : Calls) (left : ℕ) : Type 0 where
  pub result : (function : ℕ) (args : List Value) (place : Place) (at : ℕ) (held : Held) → room held ≡ left
      → Runs (c.call function args place >>= or_fault Unset place) (λ state. rest code (call code place (Result place) function at args held state)) (λ one. here code (at + 1) (pushed one held))
  pub perform : (function : ℕ) (args : List Value) (place : Place) (at : ℕ) (held : Held) → room held ≡ left
      → Runs (c.call function args place) (λ state. rest code (call code place Return function at args held state)) (λ given. here code (at + 1) held)
  pub hook : (number : HookNo) (args : List Value) (place : Place) (at : ℕ) (held : Held) → room held ≡ left
      → Runs (c.hook number args place) (λ state. rest code (hook code place number at args held state)) (λ ran. here code (at + 1) (pushed (plain.Bool ran) held))
  pub write : (log : LogId) (row : Value) (place : Place) (at : ℕ) (held : Held) → room held ≡ left
      → Runs (tick place >> write_log program filter_record place (λ hook args. c.hook hook args place) log row) (λ state. rest code (write code place log at state row held)) (λ one. here code (at + 1) (pushed one held))

module _ (program : Program) (code : Code) (types : types_in code ≡ types_of program.files program.records program.logs) (c : Calls) (left : ℕ) (runs : CallsRun program code c left) where
  push_runs : (one : Value) (held : Held) (at to : ℕ) → OneAt code.ops (op.Push one) at to → Runs (pure one) (here code at held) (λ a. here code to (pushed a held))
  push_runs one held at to h = runs_op code (op.Push one) at held (pure one) (push at held) _ h.here (λ state. refl) (λ a state. at_place code (pushed a held) state h.end)

  -- operands, and what is done with them
  pub apply_runs : (place : Place) (one : Primitive) (n : ℕ) (args : List Value) (held : Held) (at to : ℕ) → length args ≡ n → OneAt code.ops (op.Apply place one n) at to → Runs (perform place one args) (here code at (all_pushed args held)) (λ a. here code to (pushed a held))
  apply_runs place one n args held at to e h = runs_op code (op.Apply place one n) at (all_pushed args held) (perform place one args) (push at held) _ h.here
      (λ state. popped (λ list under. by (perform place one list state) (push at under)) n args held e)
      (λ a state. at_place code (pushed a held) state h.end)

  new_runs : (place : Place) (number : RecordNo) (fields : List ℕ) (list : List Given) (held : Held) (at to : ℕ) → numbers_of program c list ≡ fields → OneAt code.ops (op.New place number fields) at to → Runs (new_record place number (record_fields program number) list) (here code at (all_pushed (values_of program c list) held)) (λ a. here code to (pushed a held))
  new_runs place number fields list held at to e h = runs_op code (op.New place number fields) at (all_pushed (values_of program c list) held) (new_record place number (record_fields program number) list) (push at held) _ h.here
      (λ state.
      popped (λ args under. by (new_record place number (record_fields (types_in code) number) (given fields args) state) (push at under)) (length fields) (values_of program c list) held (given_count program c fields list e) ∙
      (ap (λ them. by (new_record place number (record_fields (types_in code) number) them state) (push at held)) (given_fields program c fields list e) ∙
      ap (λ all. by (new_record place number (record_fields all number) list state) (push at held)) types))
      (λ a state. at_place code (pushed a held) state h.end)

  mutual
    pub value_runs : (place : Place) (one : Expr) (at to : ℕ) (held : Held) → room held ≡ left → ExprAt code.ops place one at to → Runs (value program c place one) (here code at held) (λ a. here code to (pushed a held))
    value_runs place (form.Constant one) at to held r h = push_runs one held at to h
    value_runs place (form.Local number) at to held r h = runs_op code (op.Local place number) at held (local place number) (push at held) _ h.here (λ state. refl) (λ a state. at_place code (pushed a held) state h.end)
    value_runs place (form.Global number) at to held r h = runs_op code (op.Global place number) at held (global place number) (push at held) _ h.here (λ state. refl) (λ a state. at_place code (pushed a held) state h.end)
    value_runs place (form.Apply one operands) at to held r h = runs_knowing (λ args. length args ≡ count operands) (values_count program c place operands) (values_run place operands at h.mid held r h.first) (λ args e.
        apply_runs place one (count operands) args held h.mid to e h.second)
    value_runs place (form.New number given) at to held r h = runs_knowing (λ list. numbers_of program c list ≡ field_numbers given) (givens_fields program c place given) (givens_run place given at h.mid held r h.first) (λ list e.
        new_runs place number (field_numbers given) list held h.mid to e h.second)
    value_runs place (form.And left right) at to held r h = runs_bind (value_runs place left at h.mid held r h.first) (λ one.
        choice_runs code place one held _ _ (value program c place right) (pure (plain.Bool false)) h.mid to (λ end a. here code end (pushed a held)) h.second
        (λ from end m. value_runs place right from end held r m) (λ from end m. push_runs (plain.Bool false) held from end m) (λ a. jumps code (pushed a held)))
    value_runs place (form.Or left right) at to held r h = runs_bind (value_runs place left at h.mid held r h.first) (λ one.
        choice_runs code place one held _ _ (pure (plain.Bool true)) (value program c place right) h.mid to (λ end a. here code end (pushed a held)) h.second
        (λ from end m. push_runs (plain.Bool true) held from end m) (λ from end m. value_runs place right from end held r m) (λ a. jumps code (pushed a held)))
    value_runs place (form.Choice test met otherwise) at to held r h = runs_bind (value_runs place test at h.mid held r h.first) (λ one.
        choice_runs code place one held _ _ (value program c place met) (value program c place otherwise) h.mid to (λ end a. here code end (pushed a held)) h.second
        (λ from end m. value_runs place met from end held r m) (λ from end m. value_runs place otherwise from end held r m) (λ a. jumps code (pushed a held)))
    value_runs place (form.Call function operands) at to held r h = runs_knowing (λ args. length args ≡ count operands) (values_count program c place operands) (values_run place operands at h.mid held r h.first) (λ args e.
        runs_to (runs_from (λ state. first_step code (op.Call place function (count operands)) h.mid (all_pushed args held) state h.second.here ∙
        popped (λ list under. rest code (call code place (Result place) function h.mid list under state)) (count operands) args held e)
        (runs.result function args place h.mid held r)) (λ a state. at_place code (pushed a held) state h.second.end))
    value_runs place (form.Hook number operands) at to held r h = runs_knowing (λ args. length args ≡ count operands) (values_count program c place operands) (values_run place operands at h.mid held r h.first) (λ args e.
        runs_bind (runs_from (λ state. first_step code (op.Hook place number (count operands)) h.mid (all_pushed args held) state h.second.here ∙
        popped (λ list under. rest code (hook code place number h.mid list under state)) (count operands) args held e)
        (runs.hook number args place h.mid held r)) (λ ran. record { by = λ state. at_place code (pushed (plain.Bool ran) held) state h.second.end }))
    value_runs place (form.Write log row) at to held r h = runs_bind (value_runs place row at h.mid held r h.first) (λ one.
        runs_to (runs_from (λ state. first_step code (op.Write place log) h.mid (pushed one held) state h.second.here) (runs.write log one place h.mid held r))
        (λ a state. at_place code (pushed a held) state h.second.end))

    pub values_run : (place : Place) (list : Exprs) (at to : ℕ) (held : Held) → room held ≡ left → ExprsAt code.ops place list at to → Runs (values program c place list) (here code at held) (λ args. here code to (all_pushed args held))
    values_run place form.NoExpr at to held r h = record { by = λ state. at_place code held state h }
    values_run place (form.AndExpr first others) at to held r h = runs_bind (value_runs place first at h.mid held r h.first) (λ one.
        runs_bind (values_run place others h.mid to (pushed one held) r h.second) (λ more. runs_pure (one ∷ more) (λ args. here code to (all_pushed args held))))

    pub givens_run : (place : Place) (list : Givens) (at to : ℕ) (held : Held) → room held ≡ left → GivensAt code.ops place list at to → Runs (givens program c place list) (here code at held) (λ fields. here code to (all_pushed (values_of program c fields) held))
    givens_run place form.NoField at to held r h = record { by = λ state. at_place code held state h }
    givens_run place (form.AndField number first others) at to held r h = runs_bind (value_runs place first at h.mid held r h.first) (λ one.
        runs_bind (givens_run place others h.mid to (pushed one held) r h.second) (λ more. runs_pure ((number, one) ∷ more) (λ fields. here code to (all_pushed (values_of program c fields) held))))
    givens_run place (form.AndWire number «from» read others) at to held r h = runs_bind (value_runs place «from» at h.mid held r h.first) (λ one.
        runs_bind (apply_runs place (primitive.Field read) 1 (one ∷ []) held h.mid h.second.mid refl h.second.first) (λ moved.
        runs_bind (givens_run place others h.second.mid to (pushed moved held) r h.second.second) (λ more. runs_pure ((number, moved) ∷ more) (λ fields. here code to (all_pushed (values_of program c fields) held)))))
