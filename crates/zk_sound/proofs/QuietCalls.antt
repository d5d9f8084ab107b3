-- Where no rule of an expression is told, each call in it that gives a log a stream says its record type: calls and what is left of
-- the forms.
use Rattle.std.proofs.Common.{◌≡◌, ◌≤◌, ℕ, ◌==◌, Bool, true, false, not, List, [], ◌∷◌, length, codes, Option, Some, None, Ok, Err, refl, subst}
use Rattle.std.specs.Prelude.{◌||◌, is_some}
use Rattle.std.specs.List.{AllByRecursion}
use Rattle.std.specs.Option.{option_map}
use Rattle.std.specs.Str.{bytes_eq}
use Rattle.std.proofs.lemmas.Slice.Eq.{bytes_eq-Decides}
use Rattle.zk_base.specs.declared.numbers.EventNo.{EventNo}
use Rattle.zk_base.specs.declared.numbers.HookNo.{HookNo}
use Rattle.zk_base.specs.declared.numbers.RecordNo.{RecordNo}
use Rattle.zk_tree.specs.declared.expr.Expr.{Expr, out-Expr}
use Rattle.zk_tree.specs.declared.expr.Expr.TheOpen.{Expr-F, Item-F}
use Rattle.zk_tree.specs.declared.expr.Expr.TheOpen as written
use Rattle.zk_tree.specs.declared.expr.Item.{Item, out-Item}
use Rattle.zk_tree.specs.declared.expr.Link.{Link}
use Rattle.zk_tree.specs.declared.expr.Part.{Part}
use Rattle.zk_tree.specs.declared.name.Name.{Name}
use Rattle.zk_tree.specs.declared.place.Place.{Place}
use Rattle.zk_typed.specs.declared.rule.Rule.{Rule}
use Rattle.zk_typed.specs.declared.rule.Rule.TheVariants as rule
use Rattle.zk_typed.specs.declared.script.primitive.BuiltIn.{BuiltIn}
use Rattle.zk_typed.specs.declared.script.primitive.BuiltIn.TheVariants as built_in
use Rattle.zk_typed.specs.Checked.{Checked, broken, broken_anyway, with_rule, ◌>>◌, both, each, require}
use Rattle.zk_typed.specs.LogCalls.{Call, item_expr, word_of, settings, setting, optional, columns_type, if_known, created_in, log_type, path_literal, log_path, named_signature, event_kind, hook_kind, event_setting, policy_setting, string_set, names_setting, among, setting_name, setting_rules, only_settings, not_local, stream_settings, create_typed, filter_settings, filter_typed, with_settings, row_wanted, log_with, astray, log_arguments, log_of, log_word, wordless, all_wordless, log_behind, log_typed}
use Rattle.zk_typed.specs.Making.{Called, argument, arguments, printed, format_text, lone_argument, by_row, built_in_typed, gives, made_of, made_by, item_values, call_typed, call_of, hook_typed, record_typed}
use Rattle.zk_typed.specs.Names.{Declared, Meant, KnownType, WrittenType, Hook, Function, BuiltInFunction, Log, LogFunction, CreateStream, AddFilter, RemoveFilter, RemoveDefaultFilter, Write, Signature, look_up}
use Rattle.zk_typed.specs.Operations.{built_in_type}
use Rattle.zk_typed.specs.Predefined as type
use Rattle.zk_typed.specs.Resolving.{Scripts, params_of, type_named}
use Rattle.zk_typed.specs.Types.{ValueType, Record}
use Rattle.zk_typed.specs.Typing.{Typed, Env, at, Nothing, Wants, Unclear, Check, on_item, expr_place, found, is_local}
use Rattle.zk_sound.specs.Agreeing.{IsKnown}
use Rattle.zk_sound.proofs.Growth.{all_append}
use Rattle.zk_sound.proofs.Quiet.{Quiet, CallRight, Right, FindsRight, calls, in_items, never_quiet, never_named, quiet_with, quiet_along, name_right, items_right, item_right, argument_right, each_right, values_right, arguments_right, record_right, bracket_right}
use Rattle.zk_sound.proofs.Told.{Tells, untold_both, untold_bind}

-- What is never so ----------------------------------------------------------------------------------------------------

-- Where the facts at hand unfold far, a contradiction is told by one of these: `cc` would unfold them all.
never_told : {A : Type 0} (one : A) (more : List A) → one ∷ more ≡ [] → ⊥
never_told one more e = cc

never_true : false ≡ true → ⊥
never_true e = cc

-- Settings by their names ----------------------------------------------------------------------------------------------

required : (allowed given : Bool) (place : Place) → Quiet (require allowed rule.Field place >> require (not given) rule.Twice place) → (allowed ≡ true) × (given ≡ false)
required true false place e = (refl, refl)
required true true place e = absurd cc
required false given place e = absurd cc

none_of : (first others : Bool) → (first || others) ≡ false → (first ≡ false) × (others ≡ false)
none_of false others e = (refl, e)
none_of true others e = absurd cc

-- what holds of each of some names holds of one that is among them
one_of : (P : List ℕ → Type 0) (name : List ℕ) (names : List (List ℕ)) → among name names ≡ true → AllByRecursion P names → P name
one_of P name [] e all = absurd cc
one_of P name (first ∷ names) e all = by (bytes_eq first name) refl (λ among_more. one_of P name names among_more all.1)
  where
    by : (same : Bool) → bytes_eq first name ≡ same → (among name names ≡ true → P name) → P name
    by true is rest = subst P ((bytes_eq-Decides first name).0 is) all.0
    by false is rest = rest (rw is at e)

-- what a call of `create_stream` says by what stands behind its word
abbrev said : Scripts → Rattle.zk_typed.specs.LoadOrder.Home → List Item → Option RecordNo
said scripts home others = of_others others
  where
    of_settings : Option (List Item) → Option RecordNo
    of_settings None = None
    of_settings (Some items) = if_known (columns_type scripts home items)

    of_others : List Item → Option RecordNo
    of_others (one ∷ []) = of_settings (settings (item_expr one))
    of_others others = None

module _ (env : Env) (tells : (name : Name) → Tells (type_named env.scripts env.home name)) (check : Check) (most : ℕ) (well : FindsRight env most check) where
  -- Built-in functions -------------------------------------------------------------------------------------------------

  pub printed_right : (depth : ℕ) → depth ≤ most → (one : Expr) → Quiet (printed check env one) → Right env (calls env depth one)
  printed_right depth within one e = well depth within Nothing one (untold_bind (check Nothing one) _ e)

  format_right : (depth : ℕ) → depth ≤ most → (one : Expr) → Quiet (format_text check env one) → Right env (calls env depth one)
  format_right depth within one e = well depth within (Wants type.string) one (untold_bind (check (Wants type.string) one) _ e)

  all_printed : (depth : ℕ) → depth ≤ most → (items : List Item) → Quiet (each (on_item check env (printed check env)) items) → Right env (in_items (calls env depth) items)
  all_printed depth within items e = items_right env (on_item check env (printed check env)) (calls env depth) (item_right env check most well (printed check env) depth (printed_right depth within)) items e

  built_in_right : (depth : ℕ) → depth ≤ most → (place : Place) (function : BuiltIn) (items : List Item) → Quiet (built_in_typed check env place function items) → Right env (in_items (calls env depth) items)
  built_in_right depth within place built_in.Fmt [] e = tt
  built_in_right depth within place built_in.Fmt (text ∷ others) e =
      let first = on_item check env (format_text check env) text in
      let more = each (on_item check env (printed check env)) others in
      let parts = untold_both first more (untold_bind (both first more) _ e) in
      all_append (CallRight env.scripts) (calls env depth (item_expr text)) (in_items (calls env depth) others) (item_right env check most well (format_text check env) depth (format_right depth within) text parts.0) (all_printed depth within others parts.1)
  built_in_right depth within place built_in.Cat items e = all_printed depth within items (untold_bind (each (on_item check env (printed check env)) items) _ e)
  built_in_right depth within place built_in.Copy [] e = tt
  built_in_right depth within place built_in.Copy (first ∷ others) e =
      let one = argument check env Nothing first in
      let more = each (argument check env Unclear) others in
      let parts = quiet_along (with_rule one (require (length others == 0) rule.Arguments place)) more (untold_bind (lone_argument check env place first others) _ e) in
      all_append (CallRight env.scripts) (calls env depth (item_expr first)) (in_items (calls env depth) others)
      (argument_right env check most well depth within Nothing first (quiet_with one (length others == 0) rule.Arguments place parts.0).0) (each_right env check most well depth within Unclear others parts.1)
  built_in_right depth within place function items e = by (built_in_type function) e
    where
      by : (row : Option (List ValueType × ValueType)) → Quiet (by_row check env place function items row) → Right env (in_items (calls env depth) items)
      by None e = absurd cc
      by (Some row) e = arguments_right env check most well depth within place (Ok row.0) items (untold_bind (arguments check env place (Ok row.0) items) _ e)

  -- Settings of logs ---------------------------------------------------------------------------------------------------

  path_right : (depth : ℕ) → depth ≤ most → (one : Expr) → Quiet (path_literal check env one) → Right env (calls env depth one)
  path_right depth within one e = well depth within (Wants type.string) one (untold_bind (check (Wants type.string) one) _ e)

  log_path_right : (depth : ℕ) → depth ≤ most → (one : Expr) → Quiet (log_path check env one) → Right env (calls env depth one)
  log_path_right depth within one e = path_right depth within one (untold_bind (path_literal check env one) _ e)

  names_right : (depth : ℕ) → depth ≤ most → (one : Expr) → Quiet (names_setting check env one) → Right env (calls env depth one)
  names_right depth within one e = well depth within (Wants string_set) one (untold_bind (check (Wants string_set) one) _ e)

  signed_right : (depth : ℕ) (kind : Meant → Option Signature) (wanted : Option (List ValueType)) (one : Expr) → Quiet (named_signature env kind wanted one) → Right env (calls env depth one)
  signed_right depth kind wanted one e = by (out-Expr one) refl
    where
      by : (f : Expr-F Expr Item Part Link) → out-Expr one ≡ f → Right env (calls env depth one)
      by (written.Name name) is = name_right env depth one name is
      by f is = absurd (never_told _ _ (rw is at e))

  event_right : (depth : ℕ) (known : Option RecordNo) (one : Expr) → Quiet (event_setting env known one) → Right env (calls env depth one)
  event_right depth known one e =
      signed_right depth event_kind (option_map (λ one. Record one ∷ []) known) one (untold_bind (named_signature env event_kind (option_map (λ one. Record one ∷ []) known) one) _ e)

  policy_right : (depth : ℕ) (known : Option RecordNo) (one : Expr) → Quiet (policy_setting env known one) → Right env (calls env depth one)
  policy_right depth known one e =
      signed_right depth hook_kind (option_map (λ one. Record one ∷ type.log_id ∷ Record type.filter_record ∷ []) known) one
      (untold_bind (named_signature env hook_kind (option_map (λ one. Record one ∷ type.log_id ∷ Record type.filter_record ∷ []) known) one) _ e)

  -- the columns of a stream, as far as they are said
  abbrev columns_in : List Item → Checked (Option RecordNo)
  columns_in items = optional (not_local env) (setting (codes "columns") items) >> columns_type env.scripts env.home items

  columns_right : (depth : ℕ) (items : List Item) (one : Expr) → setting (codes "columns") items ≡ Some one → Quiet (columns_in items) → Right env (calls env depth one)
  columns_right depth items one there e = by (out-Expr one) refl
    where
      by : (f : Expr-F Expr Item Part Link) → out-Expr one ≡ f → Right env (calls env depth one)
      by (written.Name name) is = name_right env depth one name is
      by f is = absurd (never_told _ _ (rw (there, is) at e))

  -- a setting whose value is judged
  judged_right : {A : Type 0} (judge : Expr → Checked A) (depth : ℕ) → ((one : Expr) → Quiet (judge one) → Right env (calls env depth one)) → (items : List Item) (name : List ℕ) (one : Expr) → setting name items ≡ Some one → Quiet (optional judge (setting name items)) → Right env (calls env depth one)
  judged_right judge depth h items name one there e = h one (untold_bind (judge one) (λ given. Ok (Some given)) (rw there at e))

  -- settings that may stand, none twice, are right where the value of each is
  settings_right : (depth : ℕ) (allowed before : List (List ℕ)) (items : List Item) → Quiet (only_settings check env allowed before items)
      → ((name : List ℕ) (one : Expr) → among name allowed ≡ true → among name before ≡ false → setting name items ≡ Some one → Right env (calls env depth one)) → Right env (in_items (calls env depth) items)
  settings_right depth allowed before [] e h = tt
  settings_right depth allowed before (item ∷ items) e h =
      let rules = setting_rules check env allowed before (out-Item item) in
      let more = only_settings check env allowed (setting_name (out-Item item) before) items in
      let parts = untold_both rules more (untold_bind (both rules more) _ e) in
      by (out-Item item) refl parts.0 parts.1 (λ given told_more each. settings_right depth allowed given items told_more each)
    where
      by : (f : Item-F Expr Item Part Link) → out-Item item ≡ f → Quiet (setting_rules check env allowed before f) → Quiet (only_settings check env allowed (setting_name f before) items)
          → ((given : List (List ℕ)) → Quiet (only_settings check env allowed given items) → ((name : List ℕ) (one : Expr) → among name allowed ≡ true → among name given ≡ false → setting name items ≡ Some one → Right env (calls env depth one)) → Right env (in_items (calls env depth) items))
          → Right env (in_items (calls env depth) (item ∷ items))
      by (written.Value value) is rules more rest = absurd (never_quiet _ (check Nothing value) rule.WrongType (expr_place env value) rules)
      by (written.Item::Field place name value) is rules more rest =
          let can = required (among name.text allowed) (among name.text before) (at env place) rules in
          let same : bytes_eq name.text name.text ≡ true = (bytes_eq-Decides name.text name.text).1 refl in
          let own : Right env (calls env depth value) = h name.text value can.0 can.1 (rw (is, same) refl) in
          all_append (CallRight env.scripts) (calls env depth (item_expr item)) (in_items (calls env depth) items) (rw is own)
          (rest (name.text ∷ before) more (λ other one allowed_too fresh there.
          let apart = none_of (bytes_eq name.text other) (among other before) fresh in h other one allowed_too apart.1 (rw (is, apart.0) there)))

  -- the settings of a stream
  stream_right : (depth : ℕ) → depth ≤ most → (place : Place) (items : List Item) → Quiet (stream_settings check env place items) → Right env (in_items (calls env depth) items)
  stream_right depth within place items e =
      let known = if_known (columns_in items) in
      let only = only_settings check env (codes "columns" ∷ codes "ev" ∷ codes "path" ∷ codes "policy" ∷ []) [] items in
      let ev = optional (event_setting env known) (setting (codes "ev") items) in
      let path = optional (log_path check env) (setting (codes "path") items) in
      let policy = optional (policy_setting env known) (setting (codes "policy") items) in
      let told = quiet_with (both only (both (both (columns_in items) ev) (both path policy))) (is_some (setting (codes "columns") items)) rule.Field place e in
      let all = untold_both only (both (both (columns_in items) ev) (both path policy)) told.0 in
      let parts = untold_both (both (columns_in items) ev) (both path policy) all.1 in
      let first = untold_both (columns_in items) ev parts.0 in
      let second = untold_both path policy parts.1 in
      settings_right depth (codes "columns" ∷ codes "ev" ∷ codes "path" ∷ codes "policy" ∷ []) [] items all.0 (λ name one allowed fresh.
      one_of (λ name. setting name items ≡ Some one → Right env (calls env depth one)) name (codes "columns" ∷ codes "ev" ∷ codes "path" ∷ codes "policy" ∷ []) allowed (
        (λ there. columns_right depth items one there first.0),
        (
          (λ there. judged_right (event_setting env known) depth (event_right depth known) items (codes "ev") one there first.1),
          (
            (λ there. judged_right (log_path check env) depth (log_path_right depth within) items (codes "path") one there second.0),
            (
              (λ there. judged_right (policy_setting env known) depth (policy_right depth known) items (codes "policy") one there second.1),
              tt,
            ),
          ),
        ),
      ))

  -- the settings of a filter
  filter_right : (depth : ℕ) → depth ≤ most → (known : Option RecordNo) (place : Place) (items : List Item) → Quiet (filter_settings check env known place items) → Right env (in_items (calls env depth) items)
  filter_right depth within known place items e =
      let allowed_names = codes "name" ∷ codes "path" ∷ codes "include" ∷ codes "exclude" ∷ codes "policy" ∷ [] in
      let only = only_settings check env allowed_names [] items in
      let name = optional (path_literal check env) (setting (codes "name") items) in
      let path = optional (log_path check env) (setting (codes "path") items) in
      let include = optional (names_setting check env) (setting (codes "include") items) in
      let exclude = optional (names_setting check env) (setting (codes "exclude") items) in
      let policy = optional (policy_setting env known) (setting (codes "policy") items) in
      let told = quiet_with (both (both only (both name path)) (both (both include exclude) policy)) (is_some (setting (codes "name") items)) rule.Field place e in
      let all = untold_both (both only (both name path)) (both (both include exclude) policy) told.0 in
      let first = untold_both only (both name path) all.0 in
      let paths = untold_both name path first.1 in
      let second = untold_both (both include exclude) policy all.1 in
      let kept = untold_both include exclude second.0 in
      settings_right depth allowed_names [] items first.0 (λ given one allowed fresh.
      one_of (λ given. setting given items ≡ Some one → Right env (calls env depth one)) given allowed_names allowed (
        (λ there. judged_right (path_literal check env) depth (path_right depth within) items (codes "name") one there paths.0),
        (
          (λ there. judged_right (log_path check env) depth (log_path_right depth within) items (codes "path") one there paths.1),
          (
            (λ there. judged_right (names_setting check env) depth (names_right depth within) items (codes "include") one there kept.0),
            (
              (λ there. judged_right (names_setting check env) depth (names_right depth within) items (codes "exclude") one there kept.1),
              (
                (λ there. judged_right (policy_setting env known) depth (policy_right depth known) items (codes "policy") one there second.1),
                tt,
              ),
            ),
          ),
        ),
      ))

  with_settings_right : {A : Type 0} (typing : Place → List Item → Checked A) → ((less : ℕ) → less ≤ most → (place : Place) (items : List Item) → Quiet (typing place items) → Right env (in_items (calls env less) items))
      → (depth : ℕ) → depth ≤ most → (one : Expr) → Quiet (with_settings check env typing one) → Right env (calls env depth one)
  with_settings_right typing h depth within one e = by (out-Expr one) refl
    where
      by : (f : Expr-F Expr Item Part Link) → out-Expr one ≡ f → Right env (calls env depth one)
      by (written.List place items) is = bracket_right env check most well depth within one place items is (λ less under. h less under (at env place) items (rw is at e))
      by f is = absurd (never_quiet _ (check Nothing one) rule.WrongType (expr_place env one) (rw is at e))

  -- Calls of the log framework -----------------------------------------------------------------------------------------

  word_right : (depth : ℕ) (one : Expr) → Quiet (log_word check env one) → Right env (calls env depth one)
  word_right depth one e = by (out-Expr one) refl
    where
      by : (f : Expr-F Expr Item Part Link) → out-Expr one ≡ f → Right env (calls env depth one)
      by (written.Name name) is = name_right env depth one name is
      by f is = absurd (never_quiet _ (check Nothing one) rule.WrongType (expr_place env one) (rw is at e))

  with_right : (depth : ℕ) → depth ≤ most → (place : Place) (function : LogFunction) (word : Declared) (known : Option RecordNo) (one : Expr) → Quiet (log_with check env place function word known one) → Right env (calls env depth one)
  with_right depth within place CreateStream word known one e = with_settings_right (create_typed check env place word) (λ less under place items e. stream_right less under place items (untold_bind (stream_settings check env place items) _ e)) depth within one e
  with_right depth within place AddFilter word known one e = with_settings_right (filter_typed check env word known) (λ less under place items e. filter_right less under known place items (untold_bind (filter_settings check env known place items) _ e)) depth within one e
  with_right depth within place RemoveFilter word known one e = path_right depth within one (untold_bind (path_literal check env one) _ e)
  with_right depth within place RemoveDefaultFilter word known one e = absurd cc
  with_right depth within place Write word known one e = well depth within (row_wanted known) one (untold_bind (check (row_wanted known) one) _ e)

  behind_right : (depth : ℕ) → depth ≤ most → (place : Place) (function : LogFunction) (word : Declared) (known : Option RecordNo) (one : Item) (others : List Item) → Quiet (log_arguments check env place function word known one others) → Right env (in_items (calls env depth) (one ∷ others))
  behind_right depth within place function word known one [] e =
      all_append (CallRight env.scripts) (calls env depth (item_expr one)) [] (item_right env check most well (log_with check env place function word known) depth (with_right depth within place function word known) one e) tt
  behind_right depth within place function word known one (other ∷ others) e =
      let wrong = broken_anyway {B = Typed} (on_item check env (log_with check env place function word known) one) rule.Arguments place in
      absurd (never_quiet _ (on_item check env (log_with check env place function word known) one) rule.Arguments place (quiet_along wrong (astray check env (other ∷ others)) e).0)

  others_right : (depth : ℕ) → depth ≤ most → (place : Place) (function : LogFunction) (word : Declared) (known : Option RecordNo) (others : List Item) → Quiet (log_of check env place function word known others) → Right env (in_items (calls env depth) others)
  others_right depth within place function word known [] e = tt
  others_right depth within place RemoveDefaultFilter word known (one ∷ others) e = absurd (let never = (quiet_along {A = Typed} (broken rule.Arguments place) (astray check env (one ∷ others)) e).0 in cc)
  others_right depth within place CreateStream word known (one ∷ others) e = behind_right depth within place CreateStream word known one others e
  others_right depth within place AddFilter word known (one ∷ others) e = behind_right depth within place AddFilter word known one others e
  others_right depth within place RemoveFilter word known (one ∷ others) e = behind_right depth within place RemoveFilter word known one others e
  others_right depth within place Write word known (one ∷ others) e = behind_right depth within place Write word known one others e

  wordless_right : (depth : ℕ) → depth ≤ most → (function : LogFunction) (one : Expr) → Quiet (wordless check env function one) → Right env (calls env depth one)
  wordless_right depth within CreateStream one e = with_settings_right (λ brackets items. stream_settings check env brackets items >> Ok (tt {0})) (λ less under place items e. stream_right less under place items (untold_bind (stream_settings check env place items) _ e)) depth within one e
  wordless_right depth within AddFilter one e = with_settings_right (λ brackets items. filter_settings check env None brackets items >> Ok (tt {0})) (λ less under place items e. filter_right less under None place items (untold_bind (filter_settings check env None place items) _ e)) depth within one e
  wordless_right depth within RemoveFilter one e = path_right depth within one (untold_bind (path_literal check env one) _ e)
  wordless_right depth within RemoveDefaultFilter one e = well depth within Unclear one (untold_bind (check Unclear one) _ e)
  wordless_right depth within Write one e = well depth within Unclear one (untold_bind (check Unclear one) _ e)

  all_wordless_right : (depth : ℕ) → depth ≤ most → (function : LogFunction) (others : List Item) → Quiet (all_wordless check env function others) → Right env (in_items (calls env depth) others)
  all_wordless_right depth within function [] e = tt
  all_wordless_right depth within function (one ∷ others) e =
      let parts = quiet_along (on_item check env (wordless check env function) one) (astray check env others) e in
      all_append (CallRight env.scripts) (calls env depth (item_expr one)) (in_items (calls env depth) others) (item_right env check most well (wordless check env function) depth (wordless_right depth within function) one parts.0) (each_right env check most well depth within Unclear others parts.1)

  log_right : (depth : ℕ) → depth ≤ most → (place : Place) (function : LogFunction) (items : List Item) → Quiet (log_typed check env place function items) → Right env (in_items (calls env depth) items)
  log_right depth within place function [] e = tt
  log_right depth within place function (first ∷ others) e = by (on_item check env (log_word check env) first) refl e
    where
      both_right : Quiet (on_item check env (log_word check env) first) → Right env (in_items (calls env depth) others) → Right env (in_items (calls env depth) (first ∷ others))
      both_right e rest = all_append (CallRight env.scripts) (calls env depth (item_expr first)) (in_items (calls env depth) others) (item_right env check most well (log_word check env) depth (word_right depth) first e) rest

      by : (word : Checked (Declared × Option RecordNo)) → on_item check env (log_word check env) first ≡ word → Quiet (log_behind check env place function others word) → Right env (in_items (calls env depth) (first ∷ others))
      by (Ok word) is e = both_right (rw is refl) (others_right depth within place function word.0 word.1 others e)
      by (Err rules) is e = let parts = quiet_along {A = Typed} (Err rules) (all_wordless check env function others) e in both_right (rw is parts.0) (all_wordless_right depth within function others parts.1)

  -- Calls --------------------------------------------------------------------------------------------------------------

  made_right : (depth : ℕ) → depth ≤ most → (place : Place) (items : List Item) (of : ValueType) → Quiet (made_of check env place items of) → Right env (in_items (calls env depth) items)
  made_right depth within place items (Record number) e = record_right env check most well depth within place number items (untold_bind (record_typed check env place number items) _ e)
  made_right depth within place items of e = absurd (never_named Called rule.WrongType place (item_values check Unclear items) e)

  made_by_right : (depth : ℕ) → depth ≤ most → (place : Place) (items : List Item) (of : Checked ValueType) → Quiet (made_by check env place items of) → Right env (in_items (calls env depth) items)
  made_by_right depth within place items (Ok of) e = made_right depth within place items of e
  made_by_right depth within place items (Err rules) e = values_right env check most well depth within Unclear items (quiet_along {A = Called} (Err rules) (item_values check Unclear items) e).1

  pub call_right : (depth : ℕ) → depth ≤ most → (name : Name) (items : List Item) → Quiet (call_of check env name items) → Right env (in_items (calls env depth) items)
  call_right depth within name items e = by (found env name) e
    where
      place : Place
      place = at env name.place

      behind : Checked (List Typed)
      behind = each (argument check env Unclear) items

      of_meant : (meant : Meant) (one : Declared) → Quiet (call_typed check env name items (Some (record one { meant = meant }))) → Right env (in_items (calls env depth) items)
      of_meant (Function signature) one e = arguments_right env check most well depth within place (params_of env.scripts signature) items (untold_bind (arguments check env place (params_of env.scripts signature) items) _ e)
      of_meant (BuiltInFunction function) one e = built_in_right depth within place function items e
      of_meant (Log function) one e = log_right depth within place function items (untold_bind (log_typed check env place function items) _ e)
      of_meant (KnownType of) one e = made_right depth within place items of e
      of_meant (WrittenType home tree) one e = made_by_right depth within place items (type_named env.scripts env.home name) e
      of_meant meant one e = absurd (never_named Called rule.WrongType place behind e)

      by : (one : Option Declared) → Quiet (call_typed check env name items one) → Right env (in_items (calls env depth) items)
      by None e = absurd (never_named Called rule.Unknown place behind e)
      by (Some one) e = of_meant one.meant one e

  pub hook_right : (depth : ℕ) → depth ≤ most → (place : Place) (name : Name) (items : List Item) → Quiet (hook_typed check env place name items (found env name)) → Right env (in_items (calls env depth) items)
  hook_right depth within place name items e = by (found env name) e
    where
      behind : Checked (List Typed)
      behind = each (argument check env Unclear) items

      of_meant : (meant : Meant) (one : Declared) → Quiet (hook_typed check env place name items (Some (record one { meant = meant }))) → Right env (in_items (calls env depth) items)
      of_meant (Hook signature) one e = arguments_right env check most well depth within place (params_of env.scripts signature) items (untold_bind (arguments check env place (params_of env.scripts signature) items) _ e)
      of_meant meant one e = absurd (never_named Typed rule.WrongType (at env name.place) behind e)

      by : (one : Option Declared) → Quiet (hook_typed check env place name items one) → Right env (in_items (calls env depth) items)
      by None e = absurd (never_named Typed rule.Unknown (at env name.place) behind e)
      by (Some one) e = of_meant one.meant one e

  -- Calls of `create_stream` -------------------------------------------------------------------------------------------

  -- `$columns` names a record type that is known
  columns_known : (place : Place) (items : List Item) → Quiet (stream_settings check env place items) → IsKnown (if_known (columns_type env.scripts env.home items))
  columns_known place items e = by (setting (codes "columns") items) refl
    where
      known : Option RecordNo
      known = if_known (columns_in items)

      rest : Checked (Option (List ℕ) × Option HookNo)
      rest = both (optional (log_path check env) (setting (codes "path") items)) (optional (policy_setting env known) (setting (codes "policy") items))

      ev : Checked (Option EventNo)
      ev = optional (event_setting env known) (setting (codes "ev") items)

      only : Checked (Unit {0})
      only = only_settings check env (codes "columns" ∷ codes "ev" ∷ codes "path" ∷ codes "policy" ∷ []) [] items

      told : Quiet (both only (both (both (columns_in items) ev) rest)) × (is_some (setting (codes "columns") items) ≡ true)
      told = quiet_with (both only (both (both (columns_in items) ev) rest)) (is_some (setting (codes "columns") items)) rule.Field place e

      quiet : Quiet (columns_in items)
      quiet = (untold_both (columns_in items) ev (untold_both (both (columns_in items) ev) rest (untold_both only (both (both (columns_in items) ev) rest) told.0).1).0).0

      named : (one : Expr) (name : Name) → setting (codes "columns") items ≡ Some one → out-Expr one ≡ written.Name name → (local : Bool) → is_local env name ≡ local → IsKnown (if_known (columns_type env.scripts env.home items))
      named one name there is true k = absurd (never_told _ _ (rw (there, is, k) at quiet))
      named one name there is false k = of_named (type_named env.scripts env.home name) refl (tells name)
        where
          of_named : (of : Checked ValueType) → type_named env.scripts env.home name ≡ of → Tells (type_named env.scripts env.home name) → IsKnown (if_known (columns_type env.scripts env.home items))
          of_named (Ok (Record number)) t h = rw (there, is, t) tt
          of_named (Ok of) t h = absurd (never_told _ _ (rw (there, is, k, t) at quiet))
          of_named (Err []) t h = absurd (rw t at h)
          of_named (Err (one ∷ rules)) t h = absurd (never_told _ _ (rw (there, is, k, t) at quiet))

      by : (found : Option Expr) → setting (codes "columns") items ≡ found → IsKnown (if_known (columns_type env.scripts env.home items))
      by None there = absurd (never_true (rw there at told.1))
      by (Some one) there = of_form (out-Expr one) refl
        where
          of_form : (f : Expr-F Expr Item Part Link) → out-Expr one ≡ f → IsKnown (if_known (columns_type env.scripts env.home items))
          of_form (written.Name name) is = named one name there is (is_local env name) refl
          of_form f is = absurd (never_told _ _ (rw (there, is) at quiet))

  -- what stands behind the word says the record type
  said_known : (place : Place) (word : Declared) (known : Option RecordNo) (others : List Item) → Quiet (log_of check env place CreateStream word known others) → IsKnown (said env.scripts env.home others)
  said_known place word known [] e = absurd cc
  said_known place word known (one ∷ other ∷ others) e =
      let wrong = broken_anyway {B = Typed} (on_item check env (log_with check env place CreateStream word known) one) rule.Arguments place in
      absurd (never_quiet _ (on_item check env (log_with check env place CreateStream word known) one) rule.Arguments place (quiet_along wrong (astray check env (other ∷ others)) e).0)
  said_known place word known (one ∷ []) e = by (out-Item one) refl
    where
      of_value : (value : Expr) → out-Item one ≡ written.Value value → (f : Expr-F Expr Item Part Link) → out-Expr value ≡ f → Quiet (with_settings check env (create_typed check env place word) value) → IsKnown (said env.scripts env.home (one ∷ []))
      of_value value is (written.List brackets items) of e = rw (is, of) (columns_known (at env brackets) items (untold_bind (stream_settings check env (at env brackets) items) _ (rw of at e)))
      of_value value is f of e = absurd (never_quiet _ (check Nothing value) rule.WrongType (expr_place env value) (rw of at e))

      by : (f : Item-F Expr Item Part Link) → out-Item one ≡ f → IsKnown (said env.scripts env.home (one ∷ []))
      by (written.Value value) is = of_value value is (out-Expr value) refl (rw is at e)
      by (written.Item::Field place_in name value) is = absurd (never_quiet _ (check Nothing value) rule.WrongType (at env place_in) (rw is at e))

  -- a word that is broken is told
  word_tells : (first : Item) → Tells (on_item check env (log_word check env) first)
  word_tells first = by (out-Item first) refl
    where
      always : {A : Type 0} (B : Type 0) (m : Checked A) (why : Rule) (place : Place) → Tells {A = B} (broken_anyway m why place)
      always B (Ok a) why place = tt
      always B (Err []) why place = tt
      always B (Err (one ∷ rules)) why place = tt

      of_type : (one : Expr) (word : Declared) (known : Option (Option RecordNo)) → word_of (found env) one ≡ Some word → log_type env.scripts word.name ≡ known → Tells (log_word check env one)
      of_type one word None is k = rw (is, k) (always (Declared × Option RecordNo) (check Nothing one) rule.WrongType (expr_place env one))
      of_type one word (Some known) is k = rw (is, k) tt

      of_word : (one : Expr) (word : Option Declared) → word_of (found env) one ≡ word → Tells (log_word check env one)
      of_word one None is = rw is (always (Declared × Option RecordNo) (check Nothing one) rule.WrongType (expr_place env one))
      of_word one (Some word) is = of_type one word (log_type env.scripts word.name) is refl

      by : (f : Item-F Expr Item Part Link) → out-Item first ≡ f → Tells (on_item check env (log_word check env) first)
      by (written.Value value) is = rw is (of_word value (word_of (found env) value) refl)
      by (written.Item::Field place name value) is = rw is (always (Declared × Option RecordNo) (check Nothing value) rule.WrongType (at env place))

  log_said : (place : Place) (first : Item) (others : List Item) → Quiet (log_typed check env place CreateStream (first ∷ others)) → IsKnown (said env.scripts env.home others)
  log_said place first others e = by (on_item check env (log_word check env) first) refl (word_tells first) e
    where
      by : (word : Checked (Declared × Option RecordNo)) → on_item check env (log_word check env) first ≡ word → Tells (on_item check env (log_word check env) first) → Quiet (log_behind check env place CreateStream others word) → IsKnown (said env.scripts env.home others)
      by (Ok word) is h e = said_known place word.0 word.1 others e
      by (Err []) is h e = absurd (rw is at h)
      by (Err (one ∷ rules)) is h e = absurd (let never = (quiet_along {A = Typed} (Err (one ∷ rules)) (all_wordless check env CreateStream others) e).0 in cc)

  -- a call that gives a log a stream, where nothing of it is told
  pub create_right : (whole : Expr) (name : Name) (items : List Item) → Quiet (call_of check env name items) → CallRight env.scripts (record { home = env.home; whole = whole; name = name; items = items })
  create_right whole name items e is_one word = by (look_up env.scripts.names env.home.module_name name.text) refl
    where
      call : Call
      call = record { home = env.home; whole = whole; name = name; items = items }

      says : (items : List Item) → Quiet (log_typed check env (at env name.place) CreateStream items) → AllByRecursion IsKnown (created_in env.scripts word (record { home = env.home; whole = whole; name = name; items = items }))
      says [] e = tt
      says (first ∷ others) e = of_word (word_of (λ name. look_up env.scripts.names env.home.module_name name.text) (item_expr first)) refl
        where
          same : (declared : Declared) → word_of (λ name. look_up env.scripts.names env.home.module_name name.text) (item_expr first) ≡ Some declared → (that : Bool) → bytes_eq declared.name word ≡ that
              → AllByRecursion IsKnown (created_in env.scripts word (record { home = env.home; whole = whole; name = name; items = first ∷ others }))
          same declared is true k = rw (is, k) (log_said (at env name.place) first others e, tt)
          same declared is false k = rw (is, k) tt

          of_word : (found : Option Declared) → word_of (λ name. look_up env.scripts.names env.home.module_name name.text) (item_expr first) ≡ found → AllByRecursion IsKnown (created_in env.scripts word (record { home = env.home; whole = whole; name = name; items = first ∷ others }))
          of_word None is = rw is tt
          of_word (Some declared) is = same declared is (bytes_eq declared.name word) refl

      judged : (one : Declared) → look_up env.scripts.names env.home.module_name name.text ≡ Some one → one.meant ≡ Log CreateStream → (local : Bool) → is_local env name ≡ local → Quiet (log_typed check env (at env name.place) CreateStream items)
      judged one there means true k = absurd (never_named Called rule.WrongType (at env name.place) (each (argument check env Unclear) items) (rw k at e))
      judged one there means false k = let told = rw (k, there, means) at e in untold_bind (log_typed check env (at env name.place) CreateStream items) gives told

      meant : (one : Declared) (of : Meant) → look_up env.scripts.names env.home.module_name name.text ≡ Some one → one.meant ≡ of → AllByRecursion IsKnown (created_in env.scripts word call)
      meant one (Log CreateStream) there means = says items (judged one there means (is_local env name) refl)
      meant one of there means = absurd (never_true (rw (there, means) at is_one))

      by : (found : Option Declared) → look_up env.scripts.names env.home.module_name name.text ≡ found → AllByRecursion IsKnown (created_in env.scripts word call)
      by None there = absurd (never_true (rw there at is_one))
      by (Some one) there = meant one one.meant there refl
