-- Calls, names and whole expressions that the rules give typed forms spare the globals that no rule lets be assigned.
use Rattle.std.proofs.Common.{◌≡◌, ℕ, zero, suc, ◌==◌, length, Bool, true, false, ◌||◌, List, [], ◌∷◌, Option, Some, None, Ok, refl, Err}
use Rattle.zk_agenda.specs.Sparing.{Numbers, SparesSide, SparesExpr, SpareExprs}
use Rattle.zk_base.specs.declared.numbers.RecordNo.{RecordNo}
use Rattle.zk_tree.specs.declared.decl.Lasting.{Lasting}
use Rattle.zk_tree.specs.declared.expr.Expr.{Expr, out-Expr}
use Rattle.zk_tree.specs.declared.expr.Expr.TheOpen.{Expr-F, Part-F}
use Rattle.zk_tree.specs.declared.expr.Expr.TheOpen as written
use Rattle.zk_tree.specs.declared.expr.Item.{Item}
use Rattle.zk_tree.specs.declared.expr.Link.{Link}
use Rattle.zk_tree.specs.declared.expr.Part.{Part, out-Part}
use Rattle.zk_tree.specs.declared.name.Name.{Name}
use Rattle.zk_tree.specs.declared.operator.Comparing.{Comparing}
use Rattle.zk_tree.specs.declared.operator.Prefix.{Prefix}
use Rattle.zk_tree.specs.declared.operator.Prefix.TheVariants as prefix
use Rattle.zk_tree.specs.declared.place.Place.{Place}
use Rattle.zk_tree.specs.declared.stmt.Init.{Init}
use Rattle.zk_tree.specs.declared.types.Attr.{Attr}
use Rattle.zk_tree.specs.declared.types.Type.{«Type»}
use Rattle.zk_tree.specs.Value as plain
use Rattle.zk_typed.specs.declared.rule.Rule.TheVariants as rule
use Rattle.zk_typed.specs.declared.script.log_call.LogCall.TheVariants as log
use Rattle.zk_typed.specs.declared.script.primitive.BuiltIn.{BuiltIn}
use Rattle.zk_typed.specs.declared.script.primitive.BuiltIn.TheVariants as built_in
use Rattle.zk_typed.specs.declared.script.primitive.Direction.{Direction}
use Rattle.zk_typed.specs.declared.script.primitive.Direction.TheVariants.{Up, Down}
use Rattle.zk_typed.specs.declared.script.primitive.Primitive.TheVariants as primitive
use Rattle.zk_typed.specs.declared.script.primitive.Relation.{Relation}
use Rattle.zk_typed.specs.declared.script.primitive.Unary.TheVariants as unary
use Rattle.zk_typed.specs.declared.script.types.SimpleType.TheVariants as simple
use Rattle.zk_typed.specs.Checked.{Checked, broken, elsewhere, ◌>>=◌, ◌>>◌, both, each, or_broken, broken_anyway, with_rule, require}
use Rattle.zk_typed.specs.Expressions.{Side, side, declared_side, name_side, element_side, ends_in_element, left_side, assignable, stepped, unary_typed, compared, arms, choice, wanted_first, size_typed, assigned_parts, expr_to, expr_typed, has_expiry}
use Rattle.zk_typed.specs.Expressions as expressions
use Rattle.zk_typed.specs.Forms as form
use Rattle.zk_typed.specs.LogCalls.{log_form, log_no, path_literal, path_or_module, of_known, places_of, keeps, logged, leaves, create_typed, filter_typed, bracketed, with_settings, row_wanted, log_with, log_of, log_word, log_typed, stream_settings, filter_settings, log_arguments, log_behind, astray, all_wordless}
use Rattle.zk_typed.specs.Making.{Called, Gives, Performs, gives, built_in_call, printed, format_text, fmt_typed, cat_typed, copy_typed, by_row, built_in_typed, with_result, function_typed, lone_argument, made_of, call_typed, hook_typed, value_of, part_typed, parts_typed, called_name, call_of, post_typed, argument, arguments, element, field_of, verbs_take, members_in, record_typed, item_values, made_by}
use Rattle.zk_typed.specs.Names.{Declared, Meant, KnownType, WrittenType, Word, Variable, Hook, Function, BuiltInFunction, Log, LogFunction, CreateStream, AddFilter, RemoveFilter, RemoveDefaultFilter, Write, Signature, look_up}
use Rattle.zk_typed.specs.Operations.{same_type, built_in_type, relation_of}
use Rattle.zk_typed.specs.Predefined as type
use Rattle.zk_typed.specs.Resolving.{Scripts, type_named, params_of, result_of}
use Rattle.zk_typed.specs.Types.{ValueType, Simple, Record, Table, Set, Vector}
use Rattle.zk_typed.specs.Typing.{Typed, typed, Env, at, apply, expr_place, Wanted, Nothing, Wants, Unclear, Check, fit, constant, interval_of, literal_typed, declared_value, name_value, name_typed, local_meant, found, number_among, is_function, is_variable, on_item, beside, left_of_in, printable}
use Rattle.zk_typed.specs.Within.{depth_max}
use Rattle.zk_sound.proofs.Checks.{Sound, sound_bind, sound_after, never_ok, sound_require, sound_along, sound_held, sound_both, sound_each, sound_any, sound_more}
use Rattle.zk_sound.proofs.Constructed.{members_in_well}
use Rattle.zk_sound.proofs.SparedForms.{Spare, AllSpare, SparesWell, exprs_spare, fit_spare, printable_spare, literal_spares, beside_spare, related_spares, chained_spares, membership_spares, item_spares, left_spare, argument_spares, arguments_spare, element_spares, record_spares, brackets_spare, container_spares}

-- what is declared without an expiry is none of these globals
pub record Frees (spared : Numbers) (scripts : Scripts) : Type 0 where
  pub by : (module_name name : List ℕ) (one : Declared) (home : _) (lasting : Lasting) (tree : Option «Type») (init : Option Init) (attrs : List Attr) → look_up scripts.names module_name name ≡ Some one → one.meant ≡ Variable home lasting tree init attrs
      → has_expiry attrs ≡ false → spared (number_among is_variable scripts one) → ⊥

module _ (spared : Numbers) where
  -- a call whose parts spare these
  abbrev pub CalledSpares : Called → Type 0
  CalledSpares (Gives one) = Spare spared one
  CalledSpares (Performs function args) = AllSpare spared args

  module _ (check : Check) (well : SparesWell spared check) (env : Env) where
    -- Built-in functions ---------------------------------------------------------------------------------------------

    pub printed_spares : (one : Expr) → Sound (Spare spared) (printed check env one)
    printed_spares one = sound_bind (Spare spared) (Spare spared) (check Nothing one) (printable env one) (well Nothing one) (λ made h. printable_spare spared env one made h)

    abbrev Text : Typed × List ℕ → Type 0
    Text pair = Spare spared pair.0

    format_spares : (one : Expr) → Sound Text (format_text check env one)
    format_spares one = sound_bind (Spare spared) Text (check (Wants type.string) one) _ (well (Wants type.string) one) (λ made h. sound_bind (λ verbs. Unit {0}) Text _ (λ verbs. Ok (made, verbs)) (sound_any _) (λ verbs any. h))

    fmt_spares : (place : Place) (items : List Item) → Sound CalledSpares (fmt_typed check env place items)
    fmt_spares place [] = tt
    fmt_spares place (text ∷ others) = sound_bind (λ pair. Text pair.0 × AllSpare spared pair.1) CalledSpares (both (on_item check env (format_text check env) text) (each (on_item check env (printed check env)) others)) _
        (sound_both Text (AllSpare spared) (on_item check env (format_text check env) text) (each (on_item check env (printed check env)) others) (item_spares spared check env Text (format_text check env) format_spares text)
        (sound_each (Spare spared) (on_item check env (printed check env)) (item_spares spared check env (Spare spared) (printed check env) printed_spares) others))
        (λ parts h. sound_require CalledSpares (verbs_take parts.0.1 parts.1) rule.Format place (gives (typed type.string (built_in_call built_in.Fmt (parts.0.0 ∷ parts.1)))) (λ fit. (tt, exprs_spare spared (parts.0.0 ∷ parts.1) h)))

    cat_spares : (items : List Item) → Sound CalledSpares (cat_typed check env items)
    cat_spares items = sound_bind (AllSpare spared) CalledSpares (each (on_item check env (printed check env)) items) _
        (sound_each (Spare spared) (on_item check env (printed check env)) (item_spares spared check env (Spare spared) (printed check env) printed_spares) items) (λ args h. (tt, exprs_spare spared args h))

    copy_spares : (place : Place) (items : List Item) → Sound CalledSpares (copy_typed check env place items)
    copy_spares place [] = tt
    copy_spares place (first ∷ others) =
        sound_bind (Spare spared) CalledSpares (lone_argument check env place first others) _
        (sound_along (Spare spared) (with_rule (argument check env Nothing first) (require (length others == 0) rule.Arguments place)) (each (argument check env Unclear) others)
        (sound_held (Spare spared) (argument check env Nothing first) (length others == 0) rule.Arguments place
        (sound_more (Spare spared) (λ one. (length others == 0) ≡ true → Spare spared one) (argument check env Nothing first) (λ one h alone. h) (argument_spares spared check well env Nothing first))))
        (λ one h. (tt, (h, tt)))

    row_spares : (place : Place) (function : BuiltIn) (items : List Item) (row : Option (List ValueType × ValueType)) → Sound CalledSpares (by_row check env place function items row)
    row_spares place function items None = tt
    row_spares place function items (Some row) = sound_bind (AllSpare spared) CalledSpares (arguments check env place (Ok row.0) items) (λ args. gives (typed row.1 (built_in_call function args)))
        (arguments_spare spared check well env place (Ok row.0) items) (λ args h. (tt, exprs_spare spared args h))

    built_in_spares : (place : Place) (function : BuiltIn) (items : List Item) → Sound CalledSpares (built_in_typed check env place function items)
    built_in_spares place built_in.Fmt items = fmt_spares place items
    built_in_spares place built_in.Cat items = cat_spares items
    built_in_spares place built_in.Copy items = copy_spares place items
    built_in_spares place built_in.ToLower items = row_spares place built_in.ToLower items (built_in_type built_in.ToLower)
    built_in_spares place built_in.ToUpper items = row_spares place built_in.ToUpper items (built_in_type built_in.ToUpper)
    built_in_spares place built_in.SubBytes items = row_spares place built_in.SubBytes items (built_in_type built_in.SubBytes)
    built_in_spares place built_in.Strstr items = row_spares place built_in.Strstr items (built_in_type built_in.Strstr)
    built_in_spares place built_in.ToCount items = row_spares place built_in.ToCount items (built_in_type built_in.ToCount)
    built_in_spares place built_in.StartsWith items = row_spares place built_in.StartsWith items (built_in_type built_in.StartsWith)
    built_in_spares place built_in.JoinStringVec items = row_spares place built_in.JoinStringVec items (built_in_type built_in.JoinStringVec)
    built_in_spares place built_in.AddrToCounts items = row_spares place built_in.AddrToCounts items (built_in_type built_in.AddrToCounts)
    built_in_spares place built_in.NetworkTime items = row_spares place built_in.NetworkTime items (built_in_type built_in.NetworkTime)

    -- Functions and hooks --------------------------------------------------------------------------------------------

    result_spares : (number : ℕ) (args : List Typed) (given : Option ValueType) → AllSpare spared args → Sound CalledSpares (with_result number args given)
    result_spares number args None h = h
    result_spares number args (Some of) h = exprs_spare spared args h

    function_spares : (place : Place) (one : Declared) (signature : Signature) (items : List Item) → Sound CalledSpares (function_typed check env place one signature items)
    function_spares place one signature items = sound_bind (AllSpare spared) CalledSpares (arguments check env place (params_of env.scripts signature) items) _ (arguments_spare spared check well env place (params_of env.scripts signature) items) (λ args h.
        sound_bind (λ given. Unit {0}) CalledSpares (result_of env.scripts signature) (with_result (number_among is_function env.scripts one) args) (sound_any (result_of env.scripts signature)) (λ given any. result_spares _ args given h))

    pub hook_spares : (place : Place) (name : Name) (items : List Item) (one : Option Declared) → Sound (Spare spared) (hook_typed check env place name items one)
    hook_spares place name items None = sound_after (Spare spared) (both (broken {A = Unit {0}} rule.Unknown (at env name.place)) (each (argument check env Unclear) items)) elsewhere tt
    hook_spares place name items (Some one) = of_meant one.meant one
      where
        of_meant : (meant : Meant) (one : Declared) → Sound (Spare spared) (hook_typed check env place name items (Some (record one { meant = meant })))
        of_meant (Hook signature) one = sound_bind (AllSpare spared) (Spare spared) (arguments check env place (params_of env.scripts signature) items) _ (arguments_spare spared check well env place (params_of env.scripts signature) items) (λ args h. exprs_spare spared args h)
        of_meant meant one = sound_after (Spare spared) (both (broken {A = Unit {0}} rule.WrongType (at env name.place)) (each (argument check env Unclear) items)) elsewhere tt

    -- The log framework ----------------------------------------------------------------------------------------------

    create_spares : (place : Place) (word : Declared) (brackets : Place) (items : List Item) → Sound (Spare spared) (create_typed check env place word brackets items)
    create_spares place word brackets items =
        let settings = stream_settings check env brackets items in
        sound_bind (λ parts. Unit {0}) (Spare spared) settings _ (sound_any settings) (λ parts any. sound_bind (λ number. Unit {0}) (Spare spared) (or_broken parts.1.0.0 rule.Field brackets) _ (sound_any (or_broken parts.1.0.0 rule.Field brackets)) (λ number any.
        sound_bind (λ path. Unit {0}) (Spare spared) (path_or_module place word parts.1.1.0) _ (sound_any (path_or_module place word parts.1.1.0)) (λ path any. (tt, tt))))

    known_spares : (known : Option RecordNo) (of_type : RecordNo → Typed) → ((number : RecordNo) → Spare spared (of_type number)) → Sound (Spare spared) (of_known known of_type)
    known_spares None of_type h = tt
    known_spares (Some number) of_type h = h number

    filter_spares : (word : Declared) (known : Option RecordNo) (brackets : Place) (items : List Item) → Sound (Spare spared) (filter_typed check env word known brackets items)
    filter_spares word known brackets items =
        let settings = filter_settings check env known brackets items in
        sound_bind (λ parts. Unit {0}) (Spare spared) settings _ (sound_any settings) (λ parts any. sound_bind (λ name. Unit {0}) (Spare spared) (or_broken parts.0.1.0 rule.Field brackets) _ (sound_any (or_broken parts.0.1.0 rule.Field brackets)) (λ name any.
        known_spares known (λ number. log_form (log.AddFilter (log_no env word) name parts.0.1.1 parts.1.1 (places_of (keeps parts.1.0.0 parts.1.0.1) 0 (logged (leaves env.scripts number))))) (λ number. (tt, tt))))

    settings_spare : (typing : Place → List Item → Checked Typed) → ((place : Place) (items : List Item) → Sound (Spare spared) (typing place items)) → (one : Expr) → Sound (Spare spared) (with_settings check env typing one)
    settings_spare typing h one = by (bracketed one) refl
      where
        by : (found : Option (ℕ × List Item)) → bracketed one ≡ found → Sound (Spare spared) (with_settings check env typing one)
        by None is = rw is (never_ok (Spare spared) (check Nothing one) rule.WrongType (expr_place env one))
        by (Some items) is = rw is (h (at env items.0) items.1)

    with_spares : (place : Place) (function : LogFunction) (word : Declared) (known : Option RecordNo) (one : Expr) → Sound (Spare spared) (log_with check env place function word known one)
    with_spares place CreateStream word known one = settings_spare (create_typed check env place word) (create_spares place word) one
    with_spares place AddFilter word known one = settings_spare (filter_typed check env word known) (filter_spares word known) one
    with_spares place RemoveFilter word known one = sound_bind (λ name. Unit {0}) (Spare spared) (path_literal check env one) _ (sound_any (path_literal check env one)) (λ name any. (tt, tt))
    with_spares place RemoveDefaultFilter word known one = tt
    with_spares place Write word known one = sound_bind (Spare spared) (Spare spared) (check (row_wanted known) one) (λ row. Ok (typed type.bool (form.Write (log_no env word) row.expr))) (well (row_wanted known) one) (λ row h. h)

    arguments_of : (place : Place) (function : LogFunction) (word : Declared) (known : Option RecordNo) (one : Item) (others : List Item) → Sound (Spare spared) (log_arguments check env place function word known one others)
    arguments_of place function word known one [] = item_spares spared check env (Spare spared) (log_with check env place function word known) (with_spares place function word known) one
    arguments_of place function word known one (other ∷ others) = let wrong = broken_anyway {B = Typed} (on_item check env (log_with check env place function word known) one) rule.Arguments place in
        sound_along (Spare spared) wrong (astray check env (other ∷ others)) (never_ok (Spare spared) (on_item check env (log_with check env place function word known) one) rule.Arguments place)

    log_of_spares : (place : Place) (function : LogFunction) (word : Declared) (known : Option RecordNo) (items : List Item) → Sound (Spare spared) (log_of check env place function word known items)
    log_of_spares place RemoveDefaultFilter word known [] = (tt, tt)
    log_of_spares place RemoveDefaultFilter word known (one ∷ others) = sound_along (Spare spared) (broken rule.Arguments place) (astray check env (one ∷ others)) tt
    log_of_spares place CreateStream word known [] = tt
    log_of_spares place CreateStream word known (one ∷ others) = arguments_of place CreateStream word known one others
    log_of_spares place AddFilter word known [] = tt
    log_of_spares place AddFilter word known (one ∷ others) = arguments_of place AddFilter word known one others
    log_of_spares place RemoveFilter word known [] = tt
    log_of_spares place RemoveFilter word known (one ∷ others) = arguments_of place RemoveFilter word known one others
    log_of_spares place Write word known [] = tt
    log_of_spares place Write word known (one ∷ others) = arguments_of place Write word known one others

    behind_spares : (place : Place) (function : LogFunction) (others : List Item) (word : Checked (Declared × Option RecordNo)) → Sound (Spare spared) (log_behind check env place function others word)
    behind_spares place function others (Ok word) = log_of_spares place function word.0 word.1 others
    behind_spares place function others (Err rules) = sound_along (Spare spared) (Err rules) (all_wordless check env function others) tt

    log_spares : (place : Place) (function : LogFunction) (items : List Item) → Sound (Spare spared) (log_typed check env place function items)
    log_spares place function [] = tt
    log_spares place function (first ∷ others) = behind_spares place function others (on_item check env (log_word check env) first)

    -- Calls ----------------------------------------------------------------------------------------------------------

    made_spares : (place : Place) (items : List Item) (of : ValueType) → Sound CalledSpares (made_of check env place items of)
    made_spares place items (Record number) = sound_bind (Spare spared) CalledSpares (record_typed check env place number items) gives (record_spares spared check well env place number items) (λ one h. h)
    made_spares place items of = sound_after CalledSpares (both (broken {A = Unit {0}} rule.WrongType place) (item_values check Unclear items)) elsewhere tt

    made_by_spares : (place : Place) (items : List Item) (of : Checked ValueType) → Sound CalledSpares (made_by check env place items of)
    made_by_spares place items (Ok of) = made_spares place items of
    made_by_spares place items (Err rules) = sound_along CalledSpares (Err rules) (item_values check Unclear items) tt

    typed_spares : (name : Name) (items : List Item) (one : Option Declared) → Sound CalledSpares (call_typed check env name items one)
    typed_spares name items None = sound_after CalledSpares (both (broken {A = Unit {0}} rule.Unknown (at env name.place)) (each (argument check env Unclear) items)) elsewhere tt
    typed_spares name items (Some one) = of_meant one.meant one
      where
        place : Place
        place = at env name.place

        of_meant : (meant : Meant) (one : Declared) → Sound CalledSpares (call_typed check env name items (Some (record one { meant = meant })))
        of_meant (Function signature) one = function_spares place (record one { meant = Function signature }) signature items
        of_meant (BuiltInFunction function) one = built_in_spares place function items
        of_meant (Log function) one = sound_bind (Spare spared) CalledSpares (log_typed check env place function items) gives (log_spares place function items) (λ made h. h)
        of_meant (KnownType of) one = made_spares place items of
        of_meant (WrittenType home tree) one = made_by_spares place items (type_named env.scripts env.home name)
        of_meant meant one = sound_after CalledSpares (both (broken {A = Unit {0}} rule.WrongType (at env name.place)) (each (argument check env Unclear) items)) elsewhere tt

    pub call_spares : (name : Name) (items : List Item) → Sound CalledSpares (call_of check env name items)
    call_spares name items = typed_spares name items (found env name)

    -- Parts behind an expression -------------------------------------------------------------------------------------

    part_spares : (place : Place) (before : Checked Typed) (part : Part) → Sound (Spare spared) before → Sound (Spare spared) (part_typed check env place before part)
    part_spares place before part h = by (out-Part part) refl
      where
        by : (f : Part-F Expr Item Part Link) → out-Part part ≡ f → Sound (Spare spared) (part_typed check env place before part)
        by (written.Part::Field name) is = rw is (sound_bind (Spare spared) (Spare spared) before _ h (λ one k. sound_bind (λ field. Unit {0}) (Spare spared) (field_of env place name one) _ (sound_any (field_of env place name one)) (λ field any. (tt, (k, tt)))))
        by (written.HasField name) is = rw is (sound_bind (Spare spared) (Spare spared) before _ h (λ one k. sound_bind (λ field. Unit {0}) (Spare spared) (field_of env place name one) _ (sound_any (field_of env place name one)) (λ field any. (tt, (k, tt)))))
        by (written.Index keys) is = rw is (sound_bind (λ pair. Spare spared pair.0 × AllSpare spared pair.1) (Spare spared) (both before (each (check Nothing) keys)) (λ parts. element env place parts.0 keys parts.1)
            (sound_both (Spare spared) (AllSpare spared) before (each (check Nothing) keys) h (sound_each (Spare spared) (check Nothing) (well Nothing) keys))
            (λ parts forms. element_spares spared env place parts.0 keys parts.1 forms.0 forms.1))
        by (written.Call items) is = rw is (never_ok (Spare spared) (both before (each (argument check env Nothing) items)) rule.WrongType place)

    parts_spare : (place : Place) (parts : List Part) (before : Checked Typed) → Sound (Spare spared) before → Sound (Spare spared) (parts_typed check env place before parts)
    parts_spare place [] before h = h
    parts_spare place (part ∷ parts) before h = parts_spare place parts (part_typed check env place before part) (part_spares place before part h)

    value_spares : (place : Place) (one : Called) → CalledSpares one → Sound (Spare spared) (value_of place one)
    value_spares place (Gives one) h = h
    value_spares place (Performs function args) h = tt

    pub post_spares : (place : Place) (first : Expr) (parts : List Part) (call : Option (Name × List Item × List Part)) → Sound (Spare spared) (post_typed check env place first parts call)
    post_spares place first parts None = parts_spare place parts (check Nothing first) (well Nothing first)
    post_spares place first parts (Some call) = parts_spare place call.2 (call_of check env call.0 call.1 >>= value_of place)
        (sound_bind CalledSpares (Spare spared) (call_of check env call.0 call.1) (value_of place) (call_spares call.0 call.1) (λ one h. value_spares place one h))

    -- Names ----------------------------------------------------------------------------------------------------------

    declared_spares : (place : Place) (one : Option Declared) → Sound (Spare spared) (declared_value env place one)
    declared_spares place None = tt
    declared_spares place (Some one) = of_meant one.meant one
      where
        of_meant : (meant : Meant) (one : Declared) → Sound (Spare spared) (declared_value env place (Some (record one { meant = meant })))
        of_meant (Word enum) one = tt
        of_meant (Variable home lasting tree init attrs) one = sound_bind (λ of. Unit {0}) (Spare spared) (env.global_type _) _ (sound_any (env.global_type _)) (λ of any. tt)
        of_meant meant one = tt

    pub name_spares : (name : Name) → Sound (Spare spared) (name_typed env name)
    name_spares name = by (local_meant name.text env.locals)
      where
        by : (local : Option (ℕ × Checked ValueType)) → Sound (Spare spared) (name_value env name local)
        by (Some local) = sound_bind (λ of. Unit {0}) (Spare spared) local.1 _ (sound_any local.1) (λ of any. tt)
        by None = declared_spares (at env name.place) (found env name)

    -- Left sides -----------------------------------------------------------------------------------------------------

    module _ (frees : Frees spared env.scripts) where
      -- a side whose operands spare these, and which is none of these where it can be assigned
      abbrev pub SideSpares : Side → Type 0
      SideSpares one = SpareExprs spared one.operands × (one.expires ≡ false → SparesSide spared one.left)

      side_declared : (name : Name) → local_meant name.text env.locals ≡ None → (one : Option Declared) → look_up env.scripts.names env.home.module_name name.text ≡ one → Sound SideSpares (declared_side env (at env name.place) one)
      side_declared name local None is = tt
      side_declared name local (Some one) is = of_meant one.meant one is
        where
          of_meant : (meant : Meant) (one : Declared) → look_up env.scripts.names env.home.module_name name.text ≡ Some (record one { meant = meant }) → Sound SideSpares (declared_side env (at env name.place) (Some (record one { meant = meant })))
          of_meant (Variable home lasting tree init attrs) one is = sound_bind (λ of. Unit {0}) SideSpares (env.global_type _) _ (sound_any (env.global_type _)) (λ of any.
              (tt, λ free. frees.by env.home.module_name name.text (record one { meant = Variable home lasting tree init attrs }) home lasting tree init attrs is refl free))
          of_meant meant one is = tt

      side_named : (name : Name) → Sound SideSpares (name_side env name (local_meant name.text env.locals))
      side_named name = by (local_meant name.text env.locals) refl
        where
          by : (local : Option (ℕ × Checked ValueType)) → local_meant name.text env.locals ≡ local → Sound SideSpares (name_side env name local)
          by (Some local) is = sound_bind (λ of. Unit {0}) SideSpares local.1 _ (sound_any local.1) (λ of any. (tt, λ free. tt))
          by None is = rw is (side_declared name is (look_up env.scripts.names env.home.module_name name.text) refl)

      element_side_spares : (place : Place) (one : Typed) → Spare spared one → Sound SideSpares (element_side place one)
      element_side_spares place one h = by one.type one.expr h
        where
          by : (of : ValueType) (expr : form.Expr) → SparesExpr spared expr → Sound SideSpares (element_side place (typed of expr))
          by of (form.Apply (primitive.Field field) operands) h = (h.1, λ free. tt)
          by of (form.Apply primitive.Element operands) h = (h.1, λ free. tt)
          by of (form.Apply primitive.Item operands) h = (h.1, λ free. tt)
          by of expr h = tt

      pub left_side_spares : (one : Expr) → Sound SideSpares (left_side check env one)
      left_side_spares one = by (out-Expr one) refl
        where
          post : (first : Expr) (parts : List Part) (ends : Bool) → out-Expr one ≡ written.Post first parts → ends_in_element parts ≡ ends → Sound SideSpares (left_side check env one)
          post first parts true is e = rw (is, e) (sound_bind (Spare spared) SideSpares (check Nothing one) (element_side (expr_place env one)) (well Nothing one) (λ made h. element_side_spares (expr_place env one) made h))
          post first parts false is e = rw (is, e) (never_ok SideSpares (check Nothing one) rule.WrongType (expr_place env one))

          by : (f : Expr-F Expr Item Part Link) → out-Expr one ≡ f → Sound SideSpares (left_side check env one)
          by (written.Name name) is = rw is (side_named name)
          by (written.Post first parts) is = post first parts (ends_in_element parts) is refl
          by f is = rw is (never_ok SideSpares (check Nothing one) rule.WrongType (expr_place env one))

      -- what is assigned can be
      pub assignable_spares : {B : Type 0} (Q : B → Type 0) (place : Place) (one : Side) (next : Checked B) → (one.expires ≡ false → Sound Q next) → Sound Q (assignable place one >> next)
      assignable_spares Q place one next h = by one.fixed one.expires h
        where
          by : (fixed expires : Bool) → (expires ≡ false → Sound Q next) → Sound Q (assignable place (record one { fixed = fixed; expires = expires }) >> next)
          by false false h = h refl
          by false true h = tt
          by true expires h = tt

      stepped_spares : (place : Place) (by : Direction) (operand : Expr) → Sound (Spare spared) (stepped check env place by operand)
      stepped_spares place by operand = sound_bind SideSpares (Spare spared) (left_side check env operand) _ (left_side_spares operand) (λ one h.
          sound_require (Spare spared) (same_type one.type type.count || same_type one.type type.int) rule.WrongType (expr_place env operand) _ (λ steps.
          assignable_spares (Spare spared) place one (Ok (typed one.type (form.Apply (primitive.Step one.left by) one.operands))) (λ free. (h.1 free, h.0))))

      negated_spares : (place : Place) (one : Typed) → Spare spared one → Sound (Spare spared) (expressions.negated place one)
      negated_spares place one h = by one.type one.expr h
        where
          by : (of : ValueType) (expr : form.Expr) → SparesExpr spared expr → Sound (Spare spared) (expressions.negated place (typed of expr))
          by (Simple simple.Count) expr h = (tt, (h, tt))
          by (Simple simple.Int) expr h = (tt, (h, tt))
          by (Simple simple.Interval) expr h = (tt, (h, tt))
          by of expr h = tt

      pub unary_spares : (place : Place) (operator : Prefix) (operand : Expr) → Sound (Spare spared) (unary_typed check env place operator operand)
      unary_spares place prefix.Not operand = sound_bind (Spare spared) (Spare spared) (check (Wants type.bool) operand) (λ one. Ok (typed type.bool (apply (primitive.Unary unary.Not) (one ∷ [])))) (well (Wants type.bool) operand) (λ one h. (tt, (h, tt)))
      unary_spares place prefix.Negate operand = sound_bind (Spare spared) (Spare spared) (check Nothing operand) (expressions.negated (expr_place env operand)) (well Nothing operand) (λ one h. negated_spares (expr_place env operand) one h)
      unary_spares place prefix.Increment operand = stepped_spares place Up operand
      unary_spares place prefix.Decrement operand = stepped_spares place Down operand

    -- Comparisons and choices ----------------------------------------------------------------------------------------

    compared_spares : (operator : Comparing) (a b : Expr) → Sound (Spare spared) (compared check env operator a b)
    compared_spares operator a b = by (relation_of operator) refl
      where
        by : (relation : Option Relation) → relation_of operator ≡ relation → Sound (Spare spared) (compared check env operator a b)
        by (Some relation) is = rw is (sound_bind (λ pair. Spare spared pair.0 × Spare spared pair.1) (Spare spared) (both (check Nothing a) (check Nothing b)) _
            (sound_both (Spare spared) (Spare spared) (check Nothing a) (check Nothing b) (well Nothing a) (well Nothing b))
            (λ pair h. related_spares spared relation (expr_place env a) (expr_place env b) (beside pair.0 pair.1) (beside_spare spared pair.0 pair.1 h.0 h.1)))
        by None is = rw is (sound_bind (λ pair. AllSpare spared pair.0 × Spare spared pair.1) (Spare spared) (both (left_of_in check env a) (check Nothing b)) _
            (sound_both (AllSpare spared) (Spare spared) (left_of_in check env a) (check Nothing b) (left_spare spared check well env a) (well Nothing b))
            (λ pair h. membership_spares spared _ (expr_place env a) (expr_place env b) pair.0 pair.1 h.0 h.1))

    abbrev Arms : Typed × Typed → Type 0
    Arms pair = Spare spared pair.0 × Spare spared pair.1

    arms_spare : (wanted : Wanted) (a b : Expr) → Sound Arms (arms check env wanted a b)
    arms_spare (Wants wanted) a b = sound_both (Spare spared) (Spare spared) (check (Wants wanted) a) (check (Wants wanted) b) (well (Wants wanted) a) (well (Wants wanted) b)
    arms_spare Unclear a b = sound_both (Spare spared) (Spare spared) (check Unclear a) (check Unclear b) (well Unclear a) (well Unclear b)
    arms_spare Nothing a b = sound_bind Arms Arms (both (check Nothing a) (check Nothing b)) _ (sound_both (Spare spared) (Spare spared) (check Nothing a) (check Nothing b) (well Nothing a) (well Nothing b))
        (λ pair h. sound_require Arms (same_type pair.0.type pair.1.type) rule.WrongType (expr_place env b) (Ok pair) (λ same. h))

    choice_spares : (wanted : Wanted) (test a b : Expr) → Sound (Spare spared) (choice check env wanted test a b)
    choice_spares wanted test a b = sound_bind (λ parts. Spare spared parts.0 × Arms parts.1) (Spare spared) (both (check (Wants type.bool) test) (arms check env wanted a b)) _
        (sound_both (Spare spared) Arms (check (Wants type.bool) test) (arms check env wanted a b) (well (Wants type.bool) test) (arms_spare wanted a b)) (λ parts h. (h.0, h.1.0, h.1.1))

    sizes : (place : Place) (of : ValueType) (expr : form.Expr) → SparesExpr spared expr → Sound (Spare spared) (size_typed place (typed of expr))
    sizes place (Simple simple.String) expr h = (tt, (h, tt))
    sizes place (Simple simple.Int) expr h = (tt, (h, tt))
    sizes place (Table keys item) expr h = (tt, (h, tt))
    sizes place (Set keys) expr h = (tt, (h, tt))
    sizes place (Vector item) expr h = (tt, (h, tt))
    sizes place of expr h = tt

-- Expressions --------------------------------------------------------------------------------------------------------

module _ (spared : Numbers) (env : Env) (frees : Frees spared env.scripts) where
  fitting : (place : Place) (wanted : Wanted) (given : Checked Typed) → Sound (Spare spared) given → Sound (Spare spared) (given >>= fit place wanted)
  fitting place wanted given h = sound_bind (Spare spared) (Spare spared) given (fit place wanted) h (λ one k. fit_spare spared place wanted one k)

  form_spares : (depth : ℕ) (wanted : Wanted) (one : Expr) → SparesWell spared (expr_to depth env) → (f : Expr-F Expr Item Part Link) → out-Expr one ≡ f → Sound (Spare spared) (expr_to (suc depth) env wanted one)
  form_spares depth wanted one well (written.Assign a operator b) is = rw is (never_ok (Spare spared) (assigned_parts (expr_to depth env) env operator a b) rule.WrongType (expr_place env one))
  form_spares depth wanted one well (written.Choice test a b) is = rw is (choice_spares spared (expr_to depth env) well env wanted test a b)
  form_spares depth wanted one well (written.Chain level first links) is = rw is (fitting (expr_place env one) wanted _
      (chained_spares spared (expr_to depth env) well env level (expr_place env first) links (expr_to depth env (wanted_first level) first) (well (wanted_first level) first)))
  form_spares depth wanted one well (written.Compare a operator b) is = rw is (fitting (expr_place env one) wanted _ (compared_spares spared (expr_to depth env) well env operator a b))
  form_spares depth wanted one well (written.Unary place operator operand) is = rw is (fitting (expr_place env one) wanted _ (unary_spares spared (expr_to depth env) well env frees (at env place) operator operand))
  form_spares depth wanted one well (written.Post first parts) is = rw is (fitting (expr_place env one) wanted _ (post_spares spared (expr_to depth env) well env (expr_place env first) first parts (called_name first parts)))
  form_spares depth wanted one well (written.Number place number) is = rw is (fitting (expr_place env one) wanted (Ok (constant type.count (plain.Count number))) tt)
  form_spares depth wanted one well (written.Interval place number unit plural) is = rw is (fitting (expr_place env one) wanted (Ok (constant type.interval (interval_of number unit))) tt)
  form_spares depth wanted one well (written.Literal place given) is = rw is (fitting (expr_place env one) wanted (Ok (literal_typed given)) (literal_spares spared given))
  form_spares depth wanted one well (written.Truth place truth) is = rw is (fitting (expr_place env one) wanted (Ok (constant type.bool (plain.Bool truth))) tt)
  form_spares depth wanted one well (written.Name name) is = rw is (fitting (expr_place env one) wanted (name_typed env name) (name_spares spared (expr_to depth env) well env name))
  form_spares depth wanted one well (written.Parenthesis place inner) is = rw is (well wanted inner)
  form_spares depth wanted one well (written.Size place inner) is = rw is (fitting (expr_place env one) wanted _ (sound_bind (Spare spared) (Spare spared) (expr_to depth env Nothing inner) (size_typed (expr_place env inner)) (well Nothing inner)
      (λ made h. sizes spared (expr_to depth env) well env (expr_place env inner) made.type made.expr h)))
  form_spares depth wanted one well (written.List place items) is = rw is (brackets_spare spared (expr_to depth env) well env (at env place) items wanted)
  form_spares depth wanted one well (written.Make place container items) is = rw is (container_spares spared (expr_to depth env) well env (at env place) container (members_in (expr_to depth env) env items) (members_in_well (expr_to depth env) env items) wanted)
  form_spares depth wanted one well (written.Hook place name items) is = rw is (fitting (expr_place env one) wanted _ (hook_spares spared (expr_to depth env) well env (at env place) name items (found env name)))

  expr_to_spares : (depth : ℕ) → SparesWell spared (expr_to depth env)
  expr_to_spares zero wanted one = tt
  expr_to_spares (suc depth) wanted one = form_spares depth wanted one (expr_to_spares depth) (out-Expr one) refl

  pub expr_spares : SparesWell spared (expr_typed env)
  expr_spares = expr_to_spares depth_max
