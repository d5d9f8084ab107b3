-- Calls that the rules make have types: of functions, of hooks, of built-in functions and of the log framework.
use Rattle.std.proofs.Common.{◌≡◌, ℕ, ◌==◌, length, Bool, true, false, List, [], ◌∷◌, Option, Some, None, Ok, refl, sym, ap, subst, ◌∙◌, Err}
use Rattle.std.specs.Prelude.{if◌then◌else◌}
use Rattle.std.specs.List.{AllByRecursion}
use Rattle.zk_base.specs.declared.numbers.RecordNo.{RecordNo}
use Rattle.zk_tree.specs.declared.expr.Expr.{Expr, out-Expr}
use Rattle.zk_tree.specs.declared.expr.Expr.TheOpen.{Expr-F, Part-F, Item-F}
use Rattle.zk_tree.specs.declared.expr.Expr.TheOpen as written
use Rattle.zk_tree.specs.declared.expr.Item.{Item}
use Rattle.zk_tree.specs.declared.expr.Link.{Link}
use Rattle.zk_tree.specs.declared.expr.Part.{Part, out-Part}
use Rattle.zk_tree.specs.declared.name.Name.{Name}
use Rattle.zk_tree.specs.declared.place.Place.{Place}
use Rattle.zk_typed.specs.declared.rule.Rule.TheVariants as rule
use Rattle.zk_typed.specs.declared.script.log_call.LogCall.TheVariants as log
use Rattle.zk_typed.specs.declared.script.primitive.BuiltIn.{BuiltIn}
use Rattle.zk_typed.specs.declared.script.primitive.BuiltIn.TheVariants as built_in
use Rattle.zk_typed.specs.declared.script.primitive.Primitive.TheVariants as primitive
use Rattle.zk_typed.specs.Checked.{Checked, broken, elsewhere, ◌>>=◌, both, each, or_broken, broken_anyway, with_rule, require}
use Rattle.zk_typed.specs.Forms as form
use Rattle.zk_typed.specs.LogCalls.{is_log_word, if_word, word_of, log_type, stream_type, log_form, log_no, path_literal, path_or_module, of_known, places_of, keeps, logged, leaves, create_typed, filter_typed, with_settings, bracketed, row_wanted, log_with, log_of, log_word, log_typed, stream_settings, filter_settings, log_arguments, log_behind, astray, all_wordless}
use Rattle.zk_typed.specs.Making.{Called, Gives, Performs, gives, built_in_call, text_literal, printed, format_text, fmt_typed, cat_typed, copy_typed, by_row, built_in_typed, with_result, function_typed, lone_argument, made_of, call_typed, hook_typed, value_of, part_typed, parts_typed, call_of, post_typed, argument, arguments, element, field_of, verbs_take, item_values, made_by}
use Rattle.zk_typed.specs.Names.{Declared, Meant, KnownType, WrittenType, Variable, Hook, Function, BuiltInFunction, Log, LogFunction, CreateStream, AddFilter, RemoveFilter, RemoveDefaultFilter, Write, Signature, look_up}
use Rattle.zk_typed.specs.Operations.{built_in_type}
use Rattle.zk_typed.specs.Predefined as type
use Rattle.zk_typed.specs.Program.{Program}
use Rattle.zk_typed.specs.Resolving.{type_named, params_of, result_of}
use Rattle.zk_typed.specs.Types.{ValueType, Record}
use Rattle.zk_typed.specs.Typing.{Typed, typed, Env, at, expr_place, Nothing, Wants, Unclear, Check, printable, found, is_local, number_among, is_function, on_item}
use Rattle.zk_sound.specs.Worlds.{Names, row_type}
use Rattle.zk_sound.specs.Having.{IsSimple, BuiltInTakes}
use Rattle.zk_sound.specs.Agreeing.{FunctionAgrees, EnvAgrees}
use Rattle.zk_sound.proofs.Checks.{Sound, sound_bind, sound_after, never_ok, sound_require, sound_along, sound_held, sound_both, sound_each, sound_any, sound_is, sound_more}
use Rattle.zk_sound.proofs.Formed.{types_of, IsForm, Formed, ChecksWell, have_forms, applied, at_type, printable_sound, item_sound, items_sound}
use Rattle.zk_sound.proofs.Constructed.{AreForms, arguments_sound, given_arguments, FieldAt, field_sound, element_sound, record_sound}

-- a text that stands in a script is a string
abbrev pub TextsWell : Check → Type 0
TextsWell check = (one : Expr) (text : List ℕ) → text_literal one ≡ Some text → Sound (λ made. made.type ≡ type.string) (check Nothing one)

-- a call that gives a value, or of a function that gives none
abbrev pub CalledForm : Program → Names → Called → Type 0
CalledForm program names (Gives one) = IsForm program names one
CalledForm program names (Performs function args) = AllByRecursion (IsForm program names) args × FunctionAgrees program function (types_of args) None

abbrev pub IsVariable : Meant → Type 0
IsVariable (Variable home lasting tree init attrs) = Unit {0}
IsVariable other = ⊥

abbrev FoundVariable : Option Declared → Type 0
FoundVariable None = ⊥
FoundVariable (Some one) = IsVariable one.meant

-- what a name means that is found and is no variable
pub found_is : (env : Env) (name : Name) (one : Declared) → found env name ≡ Some one → (IsVariable one.meant → ⊥) → look_up env.scripts.names env.home.module_name name.text ≡ Some one
found_is env name one is never = by (is_local env name) refl
  where
    by : (local : Bool) → is_local env name ≡ local → look_up env.scripts.names env.home.module_name name.text ≡ Some one
    by true e = let told = rw e at is in absurd (never (subst FoundVariable told tt))
    by false e = rw e at is

module _ (program : Program) (names : Names) (check : Check) (well : ChecksWell program names check) (texts : TextsWell check) (env : Env) (agree : EnvAgrees program names env) where
  any_form : (one : Expr) → Sound (IsForm program names) (check Nothing one)
  any_form one = sound_more (Formed program names Nothing) (IsForm program names) (check Nothing one) (λ made h. h.0) (well Nothing one)

  -- Built-in functions -----------------------------------------------------------------------------------------------

  abbrev Printed : Typed → Type 0
  Printed one = IsForm program names one × IsSimple one.type

  pub printed_sound : (one : Expr) → Sound Printed (printed check env one)
  printed_sound one = sound_bind (IsForm program names) Printed (check Nothing one) (printable env one) (any_form one) (λ made h. printable_sound program names env one made h)

  pub simples : (ones : List Typed) → AllByRecursion Printed ones → AllByRecursion (IsForm program names) ones × AllByRecursion IsSimple (types_of ones)
  simples [] all = (tt, tt)
  simples (one ∷ ones) (first, others) = let rest = simples ones others in ((first.0, rest.0), (first.1, rest.1))

  abbrev Text : Typed × List ℕ → Type 0
  Text pair = IsForm program names pair.0 × (pair.0.type ≡ type.string)

  format_sound : (one : Expr) → Sound Text (format_text check env one)
  format_sound one = sound_bind (Formed program names (Wants type.string)) Text (check (Wants type.string) one) _ (well (Wants type.string) one) (λ made h.
      sound_bind (λ verbs. Unit {0}) Text _ (λ verbs. Ok (made, verbs)) (sound_any _) (λ verbs any. h))

  fmt_sound : (place : Place) (items : List Item) → Sound (CalledForm program names) (fmt_typed check env place items)
  fmt_sound place [] = tt
  fmt_sound place (text ∷ others) = sound_bind (λ pair. Text pair.0 × AllByRecursion Printed pair.1) (CalledForm program names) (both (on_item check env (format_text check env) text) (each (on_item check env (printed check env)) others)) _
      (sound_both Text (AllByRecursion Printed) (on_item check env (format_text check env) text) (each (on_item check env (printed check env)) others) (item_sound program names check env Text (format_text check env) format_sound text)
      (items_sound program names check env Printed (printed check env) printed_sound others))
      (λ parts h. let rest = simples parts.1 h.1 in
      sound_require (CalledForm program names) (verbs_take parts.0.1 parts.1) rule.Format place (gives (typed type.string (built_in_call built_in.Fmt (parts.0.0 ∷ parts.1)))) (λ fit.
      applied program names (primitive.BuiltIn built_in.Fmt) (parts.0.0 ∷ parts.1) type.string (h.0.0, rest.0) (types_of parts.1, ap (λ x. x ∷ types_of parts.1) h.0.1, rest.1, refl)))

  cat_sound : (items : List Item) → Sound (CalledForm program names) (cat_typed check env items)
  cat_sound items = sound_bind (AllByRecursion Printed) (CalledForm program names) (each (on_item check env (printed check env)) items) _ (items_sound program names check env Printed (printed check env) printed_sound items)
      (λ args h. let rest = simples args h in applied program names (primitive.BuiltIn built_in.Cat) args type.string rest.0 (rest.1, refl))

  copy_sound : (place : Place) (items : List Item) → Sound (CalledForm program names) (copy_typed check env place items)
  copy_sound place [] = tt
  copy_sound place (first ∷ others) =
      sound_bind (IsForm program names) (CalledForm program names) (lone_argument check env place first others) _
      (sound_along (IsForm program names) (with_rule (argument check env Nothing first) (require (length others == 0) rule.Arguments place)) (each (argument check env Unclear) others)
      (sound_held (IsForm program names) (argument check env Nothing first) (length others == 0) rule.Arguments place
      (sound_more (IsForm program names) (λ one. (length others == 0) ≡ true → IsForm program names one) (argument check env Nothing first) (λ one h alone. h)
      (item_sound program names check env (IsForm program names) (check Nothing) any_form first))))
      (λ one h. applied program names (primitive.BuiltIn built_in.Copy) (one ∷ []) one.type (h, tt) refl)

  row_sound : (place : Place) (function : BuiltIn) (items : List Item) (row : Option (List ValueType × ValueType)) → ((types : List ValueType) (given : List ValueType × ValueType) → row ≡ Some given → types ≡ given.0 → BuiltInTakes function types given.1)
      → Sound (CalledForm program names) (by_row check env place function items row)
  row_sound place function items None takes = tt
  row_sound place function items (Some row) takes = sound_bind (AreForms program names row.0) (CalledForm program names) (arguments check env place (Ok row.0) items) (λ args. gives (typed row.1 (built_in_call function args)))
      (arguments_sound program names check well env place row.0 items) (λ args h. applied program names (primitive.BuiltIn function) args row.1 h.0 (takes (types_of args) row refl h.1))

  takes_row : (row : Option (List ValueType × ValueType)) (types : List ValueType) (given : List ValueType × ValueType) → row ≡ Some given → types ≡ given.0 → row ≡ Some (types, given.1)
  takes_row row types given is same = is ∙ ap (λ (xs : List ValueType). let pair : List ValueType × ValueType = (xs, given.1) in Some pair) (sym same)

  built_in_sound : (place : Place) (function : BuiltIn) (items : List Item) → Sound (CalledForm program names) (built_in_typed check env place function items)
  built_in_sound place built_in.Fmt items = fmt_sound place items
  built_in_sound place built_in.Cat items = cat_sound items
  built_in_sound place built_in.Copy items = copy_sound place items
  built_in_sound place built_in.ToLower items = row_sound place built_in.ToLower items (built_in_type built_in.ToLower) (takes_row (built_in_type built_in.ToLower))
  built_in_sound place built_in.ToUpper items = row_sound place built_in.ToUpper items (built_in_type built_in.ToUpper) (takes_row (built_in_type built_in.ToUpper))
  built_in_sound place built_in.SubBytes items = row_sound place built_in.SubBytes items (built_in_type built_in.SubBytes) (takes_row (built_in_type built_in.SubBytes))
  built_in_sound place built_in.Strstr items = row_sound place built_in.Strstr items (built_in_type built_in.Strstr) (takes_row (built_in_type built_in.Strstr))
  built_in_sound place built_in.ToCount items = row_sound place built_in.ToCount items (built_in_type built_in.ToCount) (takes_row (built_in_type built_in.ToCount))
  built_in_sound place built_in.StartsWith items = row_sound place built_in.StartsWith items (built_in_type built_in.StartsWith) (takes_row (built_in_type built_in.StartsWith))
  built_in_sound place built_in.JoinStringVec items = row_sound place built_in.JoinStringVec items (built_in_type built_in.JoinStringVec) (takes_row (built_in_type built_in.JoinStringVec))
  built_in_sound place built_in.AddrToCounts items = row_sound place built_in.AddrToCounts items (built_in_type built_in.AddrToCounts) (takes_row (built_in_type built_in.AddrToCounts))
  built_in_sound place built_in.NetworkTime items = row_sound place built_in.NetworkTime items (built_in_type built_in.NetworkTime) (takes_row (built_in_type built_in.NetworkTime))

  -- Functions and hooks ----------------------------------------------------------------------------------------------

  result_form : (number : ℕ) (args : List Typed) (types : List ValueType) (given : Option ValueType) → AreForms program names types args → FunctionAgrees program number types given → Sound (CalledForm program names) (with_result number args given)
  result_form number args types None forms agrees = (forms.0, rw (← forms.1) at agrees)
  result_form number args types (Some of) forms agrees = λ logs. (agrees.function, types_of args, agrees.there, agrees.may_give of refl, have_forms program names args forms.0 logs, rw (← forms.1) at agrees.takes)

  function_sound : (name : Name) (place : Place) (one : Declared) (signature : Signature) (items : List Item) → found env name ≡ Some one → one.meant ≡ Function signature → Sound (CalledForm program names) (function_typed check env place one signature items)
  function_sound name place one signature items is meant = sound_bind (λ args. (types : List ValueType) × (params_of env.scripts signature ≡ Ok types) × AreForms program names types args) (CalledForm program names)
      (arguments check env place (params_of env.scripts signature) items) _ (given_arguments program names check well env place (params_of env.scripts signature) items) (λ args h. let (types, known, forms) = h in
      sound_bind (λ given. result_of env.scripts signature ≡ Ok given) (CalledForm program names) (result_of env.scripts signature) (with_result (number_among is_function env.scripts one) args) (sound_is (result_of env.scripts signature)) (λ given gave.
      result_form (number_among is_function env.scripts one) args types given forms
      (agree.scripts.names.functions env.home.module_name name.text one signature types given (found_is env name one is (λ variable. rw meant at variable)) meant known gave)))

  pub hook_sound : (place : Place) (name : Name) (items : List Item) → Sound (Formed program names Nothing) (hook_typed check env place name items (found env name))
  hook_sound place name items = by (found env name) refl
    where
      of_meant : (meant : Meant) (one : Declared) → found env name ≡ Some (record one { meant = meant }) → Sound (Formed program names Nothing) (hook_typed check env place name items (Some (record one { meant = meant })))
      of_meant (Hook signature) one is = sound_bind (λ args. (types : List ValueType) × (params_of env.scripts signature ≡ Ok types) × AreForms program names types args) (Formed program names Nothing)
          (arguments check env place (params_of env.scripts signature) items) _ (given_arguments program names check well env place (params_of env.scripts signature) items) (λ args h. let (types, known, forms) = h in (
            (λ logs. (
              types,
              refl,
              agree.scripts.names.hooks env.home.module_name name.text (record one { meant = Hook signature }) signature types (found_is env name (record one { meant = Hook signature }) is (λ variable. variable)) refl known,
              rw forms.1 at (have_forms program names args forms.0 logs),
            )),
            tt,
          ))
      of_meant meant one is = sound_after (Formed program names Nothing) (both (broken {A = Unit {0}} rule.WrongType (at env name.place)) (each (argument check env Unclear) items)) elsewhere tt

      by : (one : Option Declared) → found env name ≡ one → Sound (Formed program names Nothing) (hook_typed check env place name items one)
      by None is = sound_after (Formed program names Nothing) (both (broken {A = Unit {0}} rule.Unknown (at env name.place)) (each (argument check env Unclear) items)) elsewhere tt
      by (Some one) is = of_meant one.meant one is

  -- The log framework ------------------------------------------------------------------------------------------------

  abbrev Known : Declared × Option RecordNo → Type 0
  Known word = row_type program (log_no env word.0) ≡ word.1

  word_found : (one : Expr) (word : Declared) → word_of (found env) one ≡ Some word → (name : Name) × (found env name ≡ Some word) × (is_log_word word ≡ true)
  word_found one word is = by (out-Expr one) refl
    where
      if_found : (given : Option Declared) (name : Name) → found env name ≡ given → if_word given ≡ Some word → (name : Name) × (found env name ≡ Some word) × (is_log_word word ≡ true)
      if_found None name e k = absurd cc
      if_found (Some one) name e k = kept (is_log_word one) refl k
        where
          kept : (passes : Bool) → is_log_word one ≡ passes → (if passes then Some one else None) ≡ Some word → (name : Name) × (found env name ≡ Some word) × (is_log_word word ≡ true)
          kept true p k = let same : one ≡ word = cc in (name, e ∙ ap Some same, rw same at p)
          kept false p k = absurd cc

      by : (f : Expr-F Expr Item Part Link) → out-Expr one ≡ f → (name : Name) × (found env name ≡ Some word) × (is_log_word word ≡ true)
      by (written.Name name) e = if_found (found env name) name refl (rw e at is)
      by f e = let told : None ≡ Some word = rw e at is in absurd cc

  word_sound : (one : Expr) → Sound Known (log_word check env one)
  word_sound one = by (word_of (found env) one) refl
    where
      wrong : Sound Known (broken_anyway (check Nothing one) rule.WrongType (expr_place env one))
      wrong = never_ok Known (check Nothing one) rule.WrongType (expr_place env one)

      typed_by : (word : Declared) (known : Option (Option RecordNo)) → word_of (found env) one ≡ Some word → log_type env.scripts word.name ≡ known → Sound Known (log_word check env one)
      typed_by word None is e = rw (is, e) wrong
      typed_by word (Some known) is e = let (name, there, log) = word_found one word is in
          rw (is, e) (agree.scripts.names.logs env.home.module_name name.text word (found_is env name word there (λ variable. no_word word.meant word log variable)) log ∙ stream e)
        where
          stream : log_type env.scripts word.name ≡ Some known → stream_type env.scripts word.name ≡ known
          stream e = rw e refl

          no_word : (meant : Meant) (word : Declared) → is_log_word (record word { meant = meant }) ≡ true → IsVariable meant → ⊥
          no_word (Variable home lasting tree init attrs) word log variable = cc
          no_word meant word log variable = variable

      by : (word : Option Declared) → word_of (found env) one ≡ word → Sound Known (log_word check env one)
      by None is = rw is wrong
      by (Some word) is = typed_by word (log_type env.scripts word.name) is refl

  known_sound : (known : Option RecordNo) (of_type : RecordNo → Typed) → ((number : RecordNo) → IsForm program names (of_type number)) → Sound (IsForm program names) (of_known known of_type)
  known_sound None of_type h = tt
  known_sound (Some number) of_type h = h number

  create_sound : (place : Place) (word : Declared) (brackets : Place) (items : List Item) → Sound (IsForm program names) (create_typed check env place word brackets items)
  create_sound place word brackets items =
      let settings = stream_settings check env brackets items in
      sound_bind (λ parts. Unit {0}) (IsForm program names) settings _ (sound_any settings) (λ parts any. sound_bind (λ number. Unit {0}) (IsForm program names) (or_broken parts.1.0.0 rule.Field brackets) _ (sound_any (or_broken parts.1.0.0 rule.Field brackets)) (λ number any.
      sound_bind (λ path. Unit {0}) (IsForm program names) (path_or_module place word parts.1.1.0) _ (sound_any (path_or_module place word parts.1.1.0)) (λ path any logs. ([], tt, (refl, refl, logs.0)))))

  filter_sound : (word : Declared) (known : Option RecordNo) (brackets : Place) (items : List Item) → Sound (IsForm program names) (filter_typed check env word known brackets items)
  filter_sound word known brackets items =
      let settings = filter_settings check env known brackets items in
      sound_bind (λ parts. Unit {0}) (IsForm program names) settings _ (sound_any settings) (λ parts any. sound_bind (λ name. Unit {0}) (IsForm program names) (or_broken parts.0.1.0 rule.Field brackets) _ (sound_any (or_broken parts.0.1.0 rule.Field brackets)) (λ name any.
      known_sound known (λ number. log_form (log.AddFilter (log_no env word) name parts.0.1.1 parts.1.1 (places_of (keeps parts.1.0.0 parts.1.0.1) 0 (logged (leaves env.scripts number))))) (λ number logs. ([], tt, (refl, refl, logs.0)))))

  settings_sound : (typing : Place → List Item → Checked Typed) → ((place : Place) (items : List Item) → Sound (IsForm program names) (typing place items)) → (one : Expr) → Sound (IsForm program names) (with_settings check env typing one)
  settings_sound typing h one = by (bracketed one) refl
    where
      by : (found : Option (ℕ × List Item)) → bracketed one ≡ found → Sound (IsForm program names) (with_settings check env typing one)
      by None is = rw is (never_ok (IsForm program names) (check Nothing one) rule.WrongType (expr_place env one))
      by (Some items) is = rw is (h (at env items.0) items.1)

  -- a row of the record type of its log
  row_form : (word : Declared) (known : Option RecordNo) (row : Typed) → row_type program (log_no env word) ≡ known → Formed program names (row_wanted known) row → IsForm program names (typed type.bool (form.Write (log_no env word) row.expr))
  row_form word None row is h logs = absurd (rw is at logs.0)
  row_form word (Some number) row is h logs = (number, refl, is, at_type program names row (Record number) h.0 h.1 logs.1)

  with_sound : (place : Place) (function : LogFunction) (word : Declared) (known : Option RecordNo) → row_type program (log_no env word) ≡ known → (one : Expr) → Sound (IsForm program names) (log_with check env place function word known one)
  with_sound place CreateStream word known is one = settings_sound (create_typed check env place word) (create_sound place word) one
  with_sound place AddFilter word known is one = settings_sound (filter_typed check env word known) (filter_sound word known) one
  with_sound place RemoveFilter word known is one = sound_bind (λ name. Unit {0}) (IsForm program names) (path_literal check env one) _ (sound_any (path_literal check env one)) (λ name any logs. ([], tt, (refl, refl, logs.0)))
  with_sound place RemoveDefaultFilter word known is one = tt
  with_sound place Write word known is one = sound_bind (Formed program names (row_wanted known)) (IsForm program names) (check (row_wanted known) one) (λ row. Ok (typed type.bool (form.Write (log_no env word) row.expr))) (well (row_wanted known) one) (λ row h. row_form word known row is h)

  arguments_of : (place : Place) (function : LogFunction) (word : Declared) (known : Option RecordNo) → row_type program (log_no env word) ≡ known → (one : Item) (others : List Item) → Sound (IsForm program names) (log_arguments check env place function word known one others)
  arguments_of place function word known is one [] = item_sound program names check env (IsForm program names) (log_with check env place function word known) (with_sound place function word known is) one
  arguments_of place function word known is one (other ∷ others) = let wrong = broken_anyway {B = Typed} (on_item check env (log_with check env place function word known) one) rule.Arguments place in
      sound_along (IsForm program names) wrong (astray check env (other ∷ others)) (never_ok (IsForm program names) (on_item check env (log_with check env place function word known) one) rule.Arguments place)

  log_of_sound : (place : Place) (function : LogFunction) (word : Declared) (known : Option RecordNo) → row_type program (log_no env word) ≡ known → (items : List Item) → Sound (IsForm program names) (log_of check env place function word known items)
  log_of_sound place RemoveDefaultFilter word known is [] = λ logs. ([], tt, (refl, refl, logs.0))
  log_of_sound place RemoveDefaultFilter word known is (one ∷ others) = sound_along (IsForm program names) (broken rule.Arguments place) (astray check env (one ∷ others)) tt
  log_of_sound place CreateStream word known is [] = tt
  log_of_sound place CreateStream word known is (one ∷ others) = arguments_of place CreateStream word known is one others
  log_of_sound place AddFilter word known is [] = tt
  log_of_sound place AddFilter word known is (one ∷ others) = arguments_of place AddFilter word known is one others
  log_of_sound place RemoveFilter word known is [] = tt
  log_of_sound place RemoveFilter word known is (one ∷ others) = arguments_of place RemoveFilter word known is one others
  log_of_sound place Write word known is [] = tt
  log_of_sound place Write word known is (one ∷ others) = arguments_of place Write word known is one others

  behind_sound : (place : Place) (function : LogFunction) (others : List Item) (word : Checked (Declared × Option RecordNo)) → Sound Known word → Sound (IsForm program names) (log_behind check env place function others word)
  behind_sound place function others (Ok word) is = log_of_sound place function word.0 word.1 is others
  behind_sound place function others (Err rules) is = sound_along (IsForm program names) (Err rules) (all_wordless check env function others) tt

  log_sound : (place : Place) (function : LogFunction) (items : List Item) → Sound (IsForm program names) (log_typed check env place function items)
  log_sound place function [] = tt
  log_sound place function (first ∷ others) = behind_sound place function others (on_item check env (log_word check env) first) (item_sound program names check env Known (log_word check env) word_sound first)

  -- Calls ------------------------------------------------------------------------------------------------------------

  made_sound : (place : Place) (items : List Item) (of : ValueType) → Sound (CalledForm program names) (made_of check env place items of)
  made_sound place items (Record number) = sound_bind (Formed program names (Wants (Record number))) (CalledForm program names) _ gives (record_sound program names check well env agree place number items) (λ one h. h.0)
  made_sound place items of = sound_after (CalledForm program names) (both (broken {A = Unit {0}} rule.WrongType place) (item_values check Unclear items)) elsewhere tt

  made_by_sound : (place : Place) (items : List Item) (of : Checked ValueType) → Sound (CalledForm program names) (made_by check env place items of)
  made_by_sound place items (Ok of) = made_sound place items of
  made_by_sound place items (Err rules) = sound_along (CalledForm program names) (Err rules) (item_values check Unclear items) tt

  pub call_sound : (name : Name) (items : List Item) → Sound (CalledForm program names) (call_of check env name items)
  call_sound name items = by (found env name) refl
    where
      place : Place
      place = at env name.place

      of_meant : (meant : Meant) (one : Declared) → found env name ≡ Some (record one { meant = meant }) → Sound (CalledForm program names) (call_typed check env name items (Some (record one { meant = meant })))
      of_meant (Function signature) one is = function_sound name place (record one { meant = Function signature }) signature items is refl
      of_meant (BuiltInFunction function) one is = built_in_sound place function items
      of_meant (Log function) one is = sound_bind (IsForm program names) (CalledForm program names) (log_typed check env place function items) gives (log_sound place function items) (λ made h. h)
      of_meant (KnownType of) one is = made_sound place items of
      of_meant (WrittenType home tree) one is = made_by_sound place items (type_named env.scripts env.home name)
      of_meant meant one is = sound_after (CalledForm program names) (both (broken {A = Unit {0}} rule.WrongType (at env name.place)) (each (argument check env Unclear) items)) elsewhere tt

      by : (one : Option Declared) → found env name ≡ one → Sound (CalledForm program names) (call_typed check env name items one)
      by None is = sound_after (CalledForm program names) (both (broken {A = Unit {0}} rule.Unknown (at env name.place)) (each (argument check env Unclear) items)) elsewhere tt
      by (Some one) is = of_meant one.meant one is

  -- Parts behind an expression ---------------------------------------------------------------------------------------

  part_sound : (place : Place) (before : Checked Typed) (part : Part) → Sound (IsForm program names) before → Sound (IsForm program names) (part_typed check env place before part)
  part_sound place before part h = by (out-Part part) refl
    where
      by : (f : Part-F Expr Item Part Link) → out-Part part ≡ f → Sound (IsForm program names) (part_typed check env place before part)
      by (written.Part::Field name) is = rw is (sound_bind (IsForm program names) (IsForm program names) before _ h (λ one form. sound_bind (FieldAt program names env agree one) (IsForm program names) (field_of env place name one) _ (field_sound program names env agree place name one)
          (λ field at. applied program names (primitive.Field field.0) (one ∷ []) field.1 (form, tt) (ap (λ x. x ∷ []) at.0, at.1))))
      by (written.HasField name) is = rw is (sound_bind (IsForm program names) (IsForm program names) before _ h (λ one form. sound_bind (FieldAt program names env agree one) (IsForm program names) (field_of env place name one) _ (field_sound program names env agree place name one)
          (λ field at. applied program names (primitive.HasField field.0) (one ∷ []) type.bool (form, tt) (ap (λ x. x ∷ []) at.0, refl))))
      by (written.Index keys) is = rw is (sound_bind (λ pair. IsForm program names pair.0 × AllByRecursion (IsForm program names) pair.1) (IsForm program names) (both before (each (check Nothing) keys)) (λ parts. element env place parts.0 keys parts.1)
          (sound_both (IsForm program names) (AllByRecursion (IsForm program names)) before (each (check Nothing) keys) h (sound_each (IsForm program names) (check Nothing) any_form keys))
          (λ parts forms. element_sound program names env place parts.0 keys parts.1 forms.0 forms.1))
      by (written.Call items) is = rw is (never_ok (IsForm program names) (both before (each (argument check env Nothing) items)) rule.WrongType place)

  pub parts_sound : (place : Place) (parts : List Part) (before : Checked Typed) → Sound (IsForm program names) before → Sound (IsForm program names) (parts_typed check env place before parts)
  parts_sound place [] before h = h
  parts_sound place (part ∷ parts) before h = parts_sound place parts (part_typed check env place before part) (part_sound place before part h)

  value_sound : (place : Place) (one : Called) → CalledForm program names one → Sound (IsForm program names) (value_of place one)
  value_sound place (Gives one) h = h
  value_sound place (Performs function args) h = tt

  pub post_sound : (place : Place) (first : Expr) (parts : List Part) (call : Option (Name × List Item × List Part)) → Sound (IsForm program names) (post_typed check env place first parts call)
  post_sound place first parts None = parts_sound place parts (check Nothing first) (any_form first)
  post_sound place first parts (Some call) = parts_sound place call.2 (call_of check env call.0 call.1 >>= value_of place)
      (sound_bind (CalledForm program names) (IsForm program names) (call_of check env call.0 call.1) (value_of place) (call_sound call.0 call.1) (λ one h. value_sound place one h))
