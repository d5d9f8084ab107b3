-- A call of a name that means no function of the log framework is no call of it.
use Rattle.std.proofs.Common.{◌≡◌, ℕ, ◌+◌, zero, suc, Bool, true, false, List, [], ◌∷◌, Option, Some, None, is_some, Ok, Err, refl, ap, sym, ◌∙◌}
use Rattle.zk_tree.specs.declared.expr.Expr.{Expr, out-Expr}
use Rattle.zk_tree.specs.declared.expr.Expr.TheOpen.{Part-F}
use Rattle.zk_tree.specs.declared.expr.Expr.TheOpen as written
use Rattle.zk_tree.specs.declared.expr.Expr.TheVariants as expr
use Rattle.zk_tree.specs.declared.expr.Expr.TheVariants.{outs-Post}
use Rattle.zk_tree.specs.declared.expr.Item.{Item}
use Rattle.zk_tree.specs.declared.expr.Link.{Link}
use Rattle.zk_tree.specs.declared.expr.Part.{Part, out-Part}
use Rattle.zk_tree.specs.declared.name.Name.{Name}
use Rattle.zk_tree.specs.declared.place.Place.{Place}
use Rattle.zk_typed.specs.declared.rule.Rule.{Rule}
use Rattle.zk_typed.specs.declared.rule.Rule.TheVariants as rule
use Rattle.zk_typed.specs.declared.script.log_call.LogCall.{LogCall}
use Rattle.zk_typed.specs.declared.script.primitive.BuiltIn.{BuiltIn}
use Rattle.zk_typed.specs.declared.script.primitive.BuiltIn.TheVariants as built_in
use Rattle.zk_typed.specs.declared.script.primitive.Primitive.TheVariants as primitive
use Rattle.zk_typed.specs.declared.script.types.SimpleType.{SimpleType}
use Rattle.zk_typed.specs.declared.script.types.SimpleType.TheVariants as simple
use Rattle.zk_typed.specs.Checked.{Checked, both, each, require, broken_anyway, ◌>>=◌, ◌>>◌}
use Rattle.zk_typed.specs.Forms as form
use Rattle.zk_typed.specs.Declarations.{env_at}
use Rattle.zk_typed.specs.Errors.{log_call}
use Rattle.zk_typed.specs.Expressions.{expr_to, expr_typed}
use Rattle.zk_typed.specs.LoadOrder.{Home}
use Rattle.zk_typed.specs.LogCalls.{Call}
use Rattle.zk_typed.specs.Making.{Called, Gives, Performs, argument, arguments, built_in_call, built_in_typed, by_row, call_of, call_typed, called_name, copy_typed, element, field_of, fmt_typed, format_text, function_typed, given_field, given_once, givens, gives, keys_fit, lone_argument, made_by, made_of, part_typed, parts_typed, printed, record_typed, value_of, verbs_take, with_result, all_given}
use Rattle.zk_typed.specs.Names.{Declared, Meant, KnownType, WrittenType, Word, Variable, Event, Hook, Function, BuiltInFunction, Log, look_up, module_in}
use Rattle.zk_typed.specs.Operations.{built_in_type}
use Rattle.zk_typed.specs.Predefined as type
use Rattle.zk_typed.specs.Predefined.{record_no}
use Rattle.zk_typed.specs.Resolving.{Scripts, fields_of, params_of, result_of, type_named}
use Rattle.zk_typed.specs.Within.{depth_max}
use Rattle.zk_typed.specs.Types.{ValueType, Simple, Record, Table, Set, Vector}
use Rattle.zk_typed.specs.Typing.{Check, Env, Nothing, Typed, apply, at, expr_place, exprs, fit, found, is_function, number_among, on_item, typed}
use Rattle.zk_base.specs.declared.numbers.RecordNo.{RecordNo}
use Rattle.std.proofs.lemmas.Bool.{both_ways}
use Rattle.zk_check_declarations.specs.Uses.{calls_typed, if_there, is_log, log_form, means_log}
use Rattle.zk_check_declarations.proofs.UseLaws.{call_typed as typed_call}

abbrev calls_called : Checked Called → List LogCall
calls_called (Ok (Gives one)) = if_there (log_form one.expr)
calls_called (Ok (Performs function args)) = []
calls_called (Err rules) = []

-- the calls of the log framework that what is typed may be: none
abbrev pub Plain : Checked Typed → Type 0
Plain given = calls_typed given ≡ []

abbrev PlainCall : Checked Called → Type 0
PlainCall given = calls_called given ≡ []

then_plain : {A : Type 0} (part : Checked A) (made : A → Checked Typed) → ((one : A) → Plain (made one)) → Plain (part >>= made)
then_plain (Ok one) made plain = plain one
then_plain (Err rules) made plain = refl

then_call : {A : Type 0} (part : Checked A) (made : A → Checked Called) → ((one : A) → PlainCall (made one)) → PlainCall (part >>= made)
then_call (Ok one) made plain = plain one
then_call (Err rules) made plain = refl

gives_plain : (part : Checked Typed) → Plain part → PlainCall (part >>= gives)
gives_plain (Ok one) plain = plain
gives_plain (Err rules) plain = refl

anyway_plain : {A : Type 0} (part : Checked A) (broken : Rule) (place : Place) → Plain (broken_anyway part broken place)
anyway_plain (Ok one) broken place = refl
anyway_plain (Err rules) broken place = refl

value_plain : (place : Place) (call : Checked Called) → PlainCall call → Plain (call >>= value_of place)
value_plain place (Ok (Gives one)) plain = plain
value_plain place (Ok (Performs function args)) plain = refl
value_plain place (Err rules) plain = refl

-- Parts behind an expression -----------------------------------------------------------------------------------------

item_plain : (env : Env) (place : Place) (item : ValueType) (one : form.Expr) (written : List Expr) (keys : List Typed) (found : Checked (List Typed)) →
    keys_fit env place (simple.Count ∷ []) written keys ≡ found → Plain (element env place (typed (Vector item) one) written keys)
item_plain env place item one written keys (Ok []) e = rw e refl
item_plain env place item one written keys (Ok (index ∷ [])) e = rw e refl
item_plain env place item one written keys (Ok (index ∷ other ∷ others)) e = rw e refl
item_plain env place item one written keys (Err rules) e = rw e refl

element_plain : (env : Env) (place : Place) (type : ValueType) (one : form.Expr) (written : List Expr) (keys : List Typed) → Plain (element env place (typed type one) written keys)
element_plain env place (Table types value) one written keys =
    then_plain (keys_fit env place types written keys) (λ fitting. Ok (typed value (apply primitive.Element (typed (Table types value) one ∷ fitting)))) (λ fitting. refl)
element_plain env place (Vector item) one written keys = item_plain env place item one written keys (keys_fit env place (simple.Count ∷ []) written keys) refl
element_plain env place (Simple other) one written keys = refl
element_plain env place (Record number) one written keys = refl
element_plain env place (Set types) one written keys = refl

module _ (check : Check) (env : Env) where
  part_by : (place : Place) (before : Checked Typed) (part : Part) (form : Part-F Expr Item Part Link) → out-Part part ≡ form → Plain (part_typed check env place before part)
  part_by place before part (written.Part::Field name) e =
      rw e (then_plain before (λ one. field_of env place name one >>= (λ field. Ok (typed field.1 (apply (primitive.Field field.0) (one ∷ [])))))
      (λ one. then_plain (field_of env place name one) (λ field. Ok (typed field.1 (apply (primitive.Field field.0) (one ∷ [])))) (λ field. refl)))
  part_by place before part (written.HasField name) e =
      rw e (then_plain before (λ one. field_of env place name one >>= (λ field. Ok (typed type.bool (apply (primitive.HasField field.0) (one ∷ [])))))
      (λ one. then_plain (field_of env place name one) (λ field. Ok (typed type.bool (apply (primitive.HasField field.0) (one ∷ [])))) (λ field. refl)))
  part_by place before part (written.Index keys) e =
      rw e (then_plain (both before (each (check Nothing) keys)) (λ parts. element env place parts.0 keys parts.1) (λ parts. element_plain env place parts.0.type parts.0.expr keys parts.1))
  part_by place before part (written.Call items) e =
      rw e (anyway_plain (both before (each (argument check env Nothing) items)) rule.WrongType place)

  parts_plain : (place : Place) (before : Checked Typed) (parts : List Part) → Plain before → Plain (parts_typed check env place before parts)
  parts_plain place before [] plain = plain
  parts_plain place before (part ∷ parts) plain = parts_plain place (part_typed check env place before part) parts (part_by place before part (out-Part part) refl)

  -- Calls ------------------------------------------------------------------------------------------------------------

  row_plain : (place : Place) (function : BuiltIn) (items : List Item) (row : Option (List ValueType × ValueType)) → PlainCall (by_row check env place function items row)
  row_plain place function items None = refl
  row_plain place function items (Some row) = then_call (arguments check env place (Ok row.0) items) (λ args. gives (typed row.1 (built_in_call function args))) (λ args. refl)

  fmt_plain : (place : Place) (items : List Item) → PlainCall (fmt_typed check env place items)
  fmt_plain place [] = refl
  fmt_plain place (text ∷ others) =
      then_call (both (on_item check env (format_text check env) text) (each (on_item check env (printed check env)) others))
      (λ parts. require (verbs_take parts.0.1 parts.1) rule.Format place >> gives (typed type.string (built_in_call built_in.Fmt (parts.0.0 ∷ parts.1))))
      (λ parts. then_call (require (verbs_take parts.0.1 parts.1) rule.Format place) (λ done. gives (typed type.string (built_in_call built_in.Fmt (parts.0.0 ∷ parts.1)))) (λ done. refl))

  copy_plain : (place : Place) (items : List Item) → PlainCall (copy_typed check env place items)
  copy_plain place [] = refl
  copy_plain place (first ∷ others) =
      then_call (lone_argument check env place first others) (λ one. gives (typed one.type (built_in_call built_in.Copy (one ∷ [])))) (λ one. refl)

  built_in_plain : (place : Place) (function : BuiltIn) (items : List Item) → PlainCall (built_in_typed check env place function items)
  built_in_plain place built_in.Fmt items = fmt_plain place items
  built_in_plain place built_in.Cat items = then_call (each (on_item check env (printed check env)) items) (λ args. gives (typed type.string (built_in_call built_in.Cat args))) (λ args. refl)
  built_in_plain place built_in.Copy items = copy_plain place items
  built_in_plain place function items = row_plain place function items (built_in_type function)

  result_plain : (number : ℕ) (args : List Typed) (given : Option ValueType) → PlainCall (with_result number args given)
  result_plain number args None = refl
  result_plain number args (Some type) = refl

  record_plain : (place : Place) (number : RecordNo) (items : List Item) → Plain (record_typed check env place number items)
  record_plain place number items =
      let fields = fields_of env.scripts number.0 in
      then_plain (each (given_field check env fields) items)
      (λ given. given_once env [] items given >> (require (all_given 0 fields given) rule.Field place >> Ok (typed (Record number) (form.New number (givens env given)))))
      (λ given. then_plain (given_once env [] items given) (λ done. require (all_given 0 fields given) rule.Field place >> Ok (typed (Record number) (form.New number (givens env given))))
      (λ done. then_plain (require (all_given 0 fields given) rule.Field place) (λ held. Ok (typed (Record number) (form.New number (givens env given)))) (λ held. refl)))

  made_plain : (place : Place) (items : List Item) (type : ValueType) → PlainCall (made_of check env place items type)
  made_plain place items (Record number) = gives_plain (record_typed check env place number items) (record_plain place number items)
  made_plain place items (Simple other) = refl
  made_plain place items (Table keys value) = refl
  made_plain place items (Set keys) = refl
  made_plain place items (Vector item) = refl

  named_plain : (place : Place) (items : List Item) (type : Checked ValueType) → PlainCall (made_by check env place items type)
  named_plain place items (Ok type) = made_plain place items type
  named_plain place items (Err rules) = refl

  -- a name that means no function of the log framework
  pub call_plain : (name : Name) (items : List Item) (whole : List ℕ) (exported : Bool) (meant : Meant) → is_log meant ≡ false →
      PlainCall (call_typed check env name items (Some (record { name = whole; exported = exported; meant = meant })))
  call_plain name items whole exported (Function signature) differs =
      let number = number_among is_function env.scripts (record { name = whole; exported = exported; meant = Function signature }) in
      then_call (arguments check env (at env name.place) (params_of env.scripts signature) items) (λ args. result_of env.scripts signature >>= with_result number args)
      (λ args. then_call (result_of env.scripts signature) (with_result number args) (result_plain number args))
  call_plain name items whole exported (BuiltInFunction function) differs = built_in_plain (at env name.place) function items
  call_plain name items whole exported (Log function) differs = absurd (both_ways true differs refl)
  call_plain name items whole exported (KnownType type) differs = made_plain (at env name.place) items type
  call_plain name items whole exported (WrittenType home tree) differs =
      named_plain (at env name.place) items (type_named env.scripts env.home name)
  call_plain name items whole exported (Word number) differs = refl
  call_plain name items whole exported (Variable home lasting tree init attrs) differs = refl
  call_plain name items whole exported (Event signature) differs = refl
  call_plain name items whole exported (Hook signature) differs = refl

  pub meaning_plain : (name : Name) (items : List Item) (meaning : Option Declared) → means_log meaning ≡ false → PlainCall (call_typed check env name items meaning)
  meaning_plain name items None differs = refl
  meaning_plain name items (Some one) differs = call_plain name items one.name one.exported one.meant differs

-- Whole expressions --------------------------------------------------------------------------------------------------

fitted : (place : Place) (given : Checked Typed) → Plain given → Plain (given >>= fit place Nothing)
fitted place (Ok one) plain = plain
fitted place (Err rules) plain = refl

call_to : (depth : ℕ) (env : Env) (whole first : Expr) (parts : List Part) (call : Name × List Item × List Part) → out-Expr whole ≡ written.Post first parts → called_name first parts ≡ Some call →
    ((check : Check) → PlainCall (call_of check env call.0 call.1)) → Plain (expr_to (suc depth) env Nothing whole)
call_to depth env whole first parts call e f plain =
    let check = expr_to depth env in
    let place = expr_place env first in
    rw (e, f) (fitted (expr_place env whole) (parts_typed check env place (call_of check env call.0 call.1 >>= value_of place) call.2)
    (parts_plain check env place (call_of check env call.0 call.1 >>= value_of place) call.2 (value_plain place (call_of check env call.0 call.1) (plain check))))

-- at any depth
call_within : (depth : ℕ) (env : Env) (whole first : Expr) (parts : List Part) (call : Name × List Item × List Part) → out-Expr whole ≡ written.Post first parts → called_name first parts ≡ Some call →
    ((check : Check) → PlainCall (call_of check env call.0 call.1)) → Plain (expr_to depth env Nothing whole)
call_within zero env whole first parts call e f plain = refl
call_within (suc depth) env whole first parts call e f plain = call_to depth env whole first parts call e f plain

-- no local hides a name where there is none
found_by : (scripts : Scripts) (home : Home) (name : Name) (marked : Bool) → is_some (module_in name.text) ≡ marked → found (env_at scripts home) name ≡ look_up scripts.names home.module_name name.text
found_by scripts home name true e = rw e refl
found_by scripts home name false e = rw e refl

-- a call of a name that means something else
pub other_call : (scripts : Scripts) (call : Call) (first : Expr) (parts : List Part) (named : Name × List Item × List Part) (meaning : Option Declared) →
    out-Expr call.whole ≡ written.Post first parts → called_name first parts ≡ Some named → look_up scripts.names call.home.module_name named.0.text ≡ meaning → means_log meaning ≡ false →
    log_call scripts call ≡ []
other_call scripts call first parts named meaning e f g differs =
    let env = env_at scripts call.home in
    sym (typed_call scripts call (expr_typed env Nothing call.whole) refl) ∙
    call_within depth_max env call.whole first parts named e f (λ check. meaning_plain check env named.0 named.1 (found env named.0) (ap means_log (found_by scripts call.home named.0 (is_some (module_in named.0.text)) refl ∙ g) ∙ differs))

pub post_out : (whole first : Expr) (parts : List Part) → whole ≡ expr.Post first parts → out-Expr whole ≡ written.Post first parts
post_out whole first parts e = ap out-Expr e ∙ opened first parts
  where
    opened : (first : Expr) (parts : List Part) → out-Expr (expr.Post first parts) ≡ written.Post first parts
    opened first parts = rw outs-Post refl
