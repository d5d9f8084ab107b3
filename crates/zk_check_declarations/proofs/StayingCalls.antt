-- What is told of calls and of the parts behind an expression stays told where more is known of the types of globals.
use Rattle.std.proofs.Common.{◌≡◌, ℕ, ◌==◌, List, [], ◌∷◌, length, Option, Some, None, Ok, Err, inr, refl}
use Rattle.zk_tree.specs.declared.expr.Expr.{Expr}
use Rattle.zk_tree.specs.declared.expr.Expr.TheOpen.{Part-F}
use Rattle.zk_tree.specs.declared.expr.Expr.TheOpen as written
use Rattle.zk_tree.specs.declared.expr.Item.{Item}
use Rattle.zk_tree.specs.declared.expr.Link.{Link}
use Rattle.zk_tree.specs.declared.expr.Part.{Part, out-Part}
use Rattle.zk_tree.specs.declared.name.Name.{Name}
use Rattle.zk_tree.specs.declared.place.Place.{Place}
use Rattle.zk_typed.specs.declared.rule.Rule.{Rule}
use Rattle.zk_typed.specs.declared.rule.Rule.TheVariants as rule
use Rattle.zk_typed.specs.declared.script.primitive.BuiltIn.{BuiltIn}
use Rattle.zk_typed.specs.declared.script.primitive.BuiltIn.TheVariants as built_in
use Rattle.zk_typed.specs.Checked.{Checked, ◌>>=◌, both, each, with_rule, require}
use Rattle.zk_typed.specs.LogCalls.{log_typed}
use Rattle.zk_typed.specs.Making.{Called, argument, arguments, item_values, record_typed, gives, printed, format_text, fmt_typed, lone_argument, copy_typed, by_row, built_in_typed, made_of, made_by, call_typed, call_of, value_of, hook_typed, part_typed, parts_typed, post_typed, wrong_name}
use Rattle.zk_typed.specs.Names.{Declared, Meant, KnownType, WrittenType, Hook, Function, BuiltInFunction, Log}
use Rattle.zk_typed.specs.Operations.{built_in_type}
use Rattle.zk_typed.specs.Predefined as type
use Rattle.zk_typed.specs.Resolving.{params_of, type_named}
use Rattle.zk_typed.specs.Types.{ValueType, Record}
use Rattle.zk_typed.specs.Typing.{Typed, Env, at, Wanted, Nothing, Wants, Unclear, Check, on_item, found}
use Rattle.zk_check_declarations.specs.Staying.{Stays}
use Rattle.zk_check_declarations.proofs.Staying.{later, stays_bind, stays_both, stays_along, stays_anyway, stays_with, stays_each, stays_named, item_stays, argument_stays, arguments_stay, values_stay, given_stay}
use Rattle.zk_check_declarations.proofs.StayingForms.{record_stays}
use Rattle.zk_check_declarations.proofs.StayingLogs.{log_stays}

module _ (env : Env) (known : ℕ → Checked ValueType) (more : (number : ℕ) → Stays (env.global_type number) (known number))
    (check after : Check) (well : (wanted : Wanted) (one : Expr) → Stays (check wanted one) (after wanted one)) where
  abbrev grown : Env
  grown = later env known

  -- Built-in functions -----------------------------------------------------------------------------------------------

  printed_stays : (one : Expr) → Stays (printed check env one) (printed after grown one)
  printed_stays one = stays_bind (check Nothing one) (after Nothing one) _ _ (well Nothing one) (λ made. inr refl)

  all_printed_stay : (items : List Item) → Stays (each (on_item check env (printed check env)) items) (each (on_item after grown (printed after grown)) items)
  all_printed_stay items = stays_each (on_item check env (printed check env)) (on_item after grown (printed after grown)) (item_stays env known check after well (printed check env) (printed after grown) printed_stays) items

  text_stays : (one : Expr) → Stays (format_text check env one) (format_text after grown one)
  text_stays one = stays_bind (check (Wants type.string) one) (after (Wants type.string) one) _ _ (well (Wants type.string) one) (λ text. inr refl)

  fmt_stays : (place : Place) (items : List Item) → Stays (fmt_typed check env place items) (fmt_typed after grown place items)
  fmt_stays place [] = inr refl
  fmt_stays place (text ∷ others) =
      stays_bind (both (on_item check env (format_text check env) text) (each (on_item check env (printed check env)) others)) (both (on_item after grown (format_text after grown) text) (each (on_item after grown (printed after grown)) others)) _ _
      (stays_both (on_item check env (format_text check env) text) (on_item after grown (format_text after grown) text) (each (on_item check env (printed check env)) others) (each (on_item after grown (printed after grown)) others)
      (item_stays env known check after well (format_text check env) (format_text after grown) text_stays text) (all_printed_stay others)) (λ parts. inr refl)

  lone_stays : (place : Place) (first : Item) (others : List Item) → Stays (lone_argument check env place first others) (lone_argument after grown place first others)
  lone_stays place first others =
      stays_along (with_rule (argument check env Nothing first) (require (length others == 0) rule.Arguments place)) (with_rule (argument after grown Nothing first) (require (length others == 0) rule.Arguments place))
      (each (argument check env Unclear) others) (each (argument after grown Unclear) others)
      (stays_with (argument check env Nothing first) (argument after grown Nothing first) (require (length others == 0) rule.Arguments place) (argument_stays env known check after well Nothing first)) (arguments_stay env known check after well Unclear others)

  copy_stays : (place : Place) (items : List Item) → Stays (copy_typed check env place items) (copy_typed after grown place items)
  copy_stays place [] = inr refl
  copy_stays place (first ∷ others) = stays_bind (lone_argument check env place first others) (lone_argument after grown place first others) _ _ (lone_stays place first others) (λ one. inr refl)

  row_stays : (place : Place) (function : BuiltIn) (items : List Item) (row : Option (List ValueType × ValueType)) → Stays (by_row check env place function items row) (by_row after grown place function items row)
  row_stays place function items None = inr refl
  row_stays place function items (Some row) = stays_bind (arguments check env place (Ok row.0) items) (arguments after grown place (Ok row.0) items) _ _ (given_stay env known check after well place (Ok row.0) items) (λ args. inr refl)

  built_in_stays : (place : Place) (function : BuiltIn) (items : List Item) → Stays (built_in_typed check env place function items) (built_in_typed after grown place function items)
  built_in_stays place built_in.Fmt items = fmt_stays place items
  built_in_stays place built_in.Cat items = stays_bind (each (on_item check env (printed check env)) items) (each (on_item after grown (printed after grown)) items) _ _ (all_printed_stay items) (λ args. inr refl)
  built_in_stays place built_in.Copy items = copy_stays place items
  built_in_stays place function items = row_stays place function items (built_in_type function)

  -- Calls of what is declared ----------------------------------------------------------------------------------------

  made_stays : (place : Place) (items : List Item) (type : ValueType) → Stays (made_of check env place items type) (made_of after grown place items type)
  made_stays place items (Record number) = stays_bind (record_typed check env place number items) (record_typed after grown place number items) gives gives (record_stays env known more check after well place number items) (λ one. inr refl)
  made_stays place items other = stays_named Called rule.WrongType place (item_values check Unclear items) (item_values after Unclear items) (values_stay env known check after well Unclear items)

  made_by_stays : (place : Place) (items : List Item) (told : Checked ValueType) → Stays (made_by check env place items told) (made_by after grown place items told)
  made_by_stays place items (Ok type) = made_stays place items type
  made_by_stays place items (Err rules) = stays_along {A = Called} (Err rules) (Err rules) (item_values check Unclear items) (item_values after Unclear items) (inr refl) (values_stay env known check after well Unclear items)

  wrong_stays : (B : Type 0) (why : Rule) (place : Place) (items : List Item) → Stays {A = B} (wrong_name why place (each (argument check env Unclear) items)) (wrong_name why place (each (argument after grown Unclear) items))
  wrong_stays B why place items = stays_named B why place (each (argument check env Unclear) items) (each (argument after grown Unclear) items) (arguments_stay env known check after well Unclear items)

  call_stays : (name : Name) (items : List Item) (one : Option Declared) → Stays (call_typed check env name items one) (call_typed after grown name items one)
  call_stays name items None = wrong_stays Called rule.Unknown (at env name.place) items
  call_stays name items (Some one) = by one.meant refl
    where
      by : (meant : Meant) → one.meant ≡ meant → Stays (call_typed check env name items (Some one)) (call_typed after grown name items (Some one))
      by (Function signature) is = rw is (stays_bind (arguments check env (at env name.place) (params_of env.scripts signature) items) (arguments after grown (at env name.place) (params_of env.scripts signature) items) _ _
          (given_stay env known check after well (at env name.place) (params_of env.scripts signature) items) (λ args. inr refl))
      by (BuiltInFunction function) is = rw is (built_in_stays (at env name.place) function items)
      by (Log function) is = rw is (stays_bind (log_typed check env (at env name.place) function items) (log_typed after grown (at env name.place) function items) gives gives (log_stays env known check after well (at env name.place) function items) (λ one. inr refl))
      by (KnownType type) is = rw is (made_stays (at env name.place) items type)
      by (WrittenType home tree) is = rw is (made_by_stays (at env name.place) items (type_named env.scripts env.home name))
      by other is = rw is (wrong_stays Called rule.WrongType (at env name.place) items)

  pub hook_stays : (place : Place) (name : Name) (items : List Item) (one : Option Declared) → Stays (hook_typed check env place name items one) (hook_typed after grown place name items one)
  hook_stays place name items None = wrong_stays Typed rule.Unknown (at env name.place) items
  hook_stays place name items (Some one) = by one.meant refl
    where
      by : (meant : Meant) → one.meant ≡ meant → Stays (hook_typed check env place name items (Some one)) (hook_typed after grown place name items (Some one))
      by (Hook signature) is = rw is (stays_bind (arguments check env place (params_of env.scripts signature) items) (arguments after grown place (params_of env.scripts signature) items) _ _
          (given_stay env known check after well place (params_of env.scripts signature) items) (λ args. inr refl))
      by other is = rw is (wrong_stays Typed rule.WrongType (at env name.place) items)

  -- Parts ------------------------------------------------------------------------------------------------------------

  part_stays : (place : Place) (before now : Checked Typed) (part : Part) → Stays before now → Stays (part_typed check env place before part) (part_typed after grown place now part)
  part_stays place before now part h = by (out-Part part) refl
    where
      by : (f : Part-F Expr Item Part Link) → out-Part part ≡ f → Stays (part_typed check env place before part) (part_typed after grown place now part)
      by (written.Part::Field name) is = rw is (stays_bind before now _ _ h (λ one. inr refl))
      by (written.HasField name) is = rw is (stays_bind before now _ _ h (λ one. inr refl))
      by (written.Index keys) is = rw is (stays_bind (both before (each (check Nothing) keys)) (both now (each (after Nothing) keys)) _ _
          (stays_both before now (each (check Nothing) keys) (each (after Nothing) keys) h (stays_each (check Nothing) (after Nothing) (well Nothing) keys)) (λ parts. inr refl))
      by (written.Call items) is = rw is (stays_anyway Typed (both before (each (argument check env Nothing) items)) (both now (each (argument after grown Nothing) items)) rule.WrongType place
          (stays_both before now (each (argument check env Nothing) items) (each (argument after grown Nothing) items) h (arguments_stay env known check after well Nothing items)))

  parts_stay : (place : Place) (parts : List Part) (before now : Checked Typed) → Stays before now → Stays (parts_typed check env place before parts) (parts_typed after grown place now parts)
  parts_stay place [] before now h = h
  parts_stay place (part ∷ parts) before now h = parts_stay place parts (part_typed check env place before part) (part_typed after grown place now part) (part_stays place before now part h)

  pub post_stays : (place : Place) (first : Expr) (parts : List Part) (called : Option (Name × List Item × List Part)) → Stays (post_typed check env place first parts called) (post_typed after grown place first parts called)
  post_stays place first parts None = parts_stay place parts (check Nothing first) (after Nothing first) (well Nothing first)
  post_stays place first parts (Some call) =
      parts_stay place call.2 (call_of check env call.0 call.1 >>= value_of place) (call_of after grown call.0 call.1 >>= value_of place)
      (stays_bind (call_of check env call.0 call.1) (call_of after grown call.0 call.1) (value_of place) (value_of place) (call_stays call.0 call.1 (found env call.0)) (λ one. inr refl))
