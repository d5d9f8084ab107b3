-- What is told of calls of the log framework stays told where more is known of the types of globals.
use Rattle.std.proofs.Common.{◌≡◌, ℕ, List, [], ◌∷◌, Option, Some, None, Ok, Err, inl, inr, refl, subst}
use Rattle.std.specs.Prelude.{codes}
use Rattle.zk_base.specs.declared.numbers.RecordNo.{RecordNo}
use Rattle.zk_tree.specs.declared.expr.Expr.{Expr, out-Expr}
use Rattle.zk_tree.specs.declared.expr.Expr.TheOpen.{Expr-F, Item-F}
use Rattle.zk_tree.specs.declared.expr.Expr.TheOpen as written
use Rattle.zk_tree.specs.declared.expr.Item.{Item, out-Item}
use Rattle.zk_tree.specs.declared.expr.Link.{Link}
use Rattle.zk_tree.specs.declared.expr.Part.{Part}
use Rattle.zk_tree.specs.declared.place.Place.{Place}
use Rattle.zk_typed.specs.declared.rule.Rule.TheVariants as rule
use Rattle.zk_typed.specs.Checked.{Checked, broken, broken_anyway, along, ◌>>◌, both, rules_of}
use Rattle.zk_typed.specs.LogCalls.{optional, setting, columns_type, if_known, path_literal, log_path, names_setting, string_set, event_setting, policy_setting, setting_name, setting_rules, only_settings, not_local, needed, stream_settings, create_typed, filter_settings, filter_typed, with_settings, row_wanted, log_with, astray, log_arguments, log_of, log_word, wordless, all_wordless, log_behind, log_typed, word_of, log_type}
use Rattle.zk_typed.specs.Names.{Declared, LogFunction, CreateStream, AddFilter, RemoveFilter, RemoveDefaultFilter, Write}
use Rattle.zk_typed.specs.Predefined as type
use Rattle.zk_typed.specs.Types.{ValueType}
use Rattle.zk_typed.specs.Typing.{Typed, Env, at, expr_place, Wanted, Nothing, Wants, Unclear, Check, on_item, found}
use Rattle.zk_check_declarations.specs.Staying.{Stays}
use Rattle.zk_check_declarations.proofs.Staying.{later, marked_front, stays_bind, stays_both, stays_along, stays_anyway, stays_with, item_stays, arguments_stay}

optional_stays : {A : Type 0} (judge more : Expr → Checked A) → ((one : Expr) → Stays (judge one) (more one)) → (one : Option Expr) → Stays (optional judge one) (optional more one)
optional_stays judge more h None = inr refl
optional_stays judge more h (Some one) = stays_bind (judge one) (more one) (λ given. Ok (Some given)) (λ given. Ok (Some given)) (h one) (λ given. inr refl)

module _ (env : Env) (known : ℕ → Checked ValueType) (check after : Check) (well : (wanted : Wanted) (one : Expr) → Stays (check wanted one) (after wanted one)) where
  abbrev grown : Env
  grown = later env known

  -- Settings ---------------------------------------------------------------------------------------------------------

  literal_stays : (one : Expr) → Stays (path_literal check env one) (path_literal after grown one)
  literal_stays one = stays_bind (check (Wants type.string) one) (after (Wants type.string) one) _ _ (well (Wants type.string) one) (λ text. inr refl)

  path_stays : (one : Expr) → Stays (log_path check env one) (log_path after grown one)
  path_stays one = stays_bind (path_literal check env one) (path_literal after grown one) _ _ (literal_stays one) (λ bytes. inr refl)

  names_stay : (one : Expr) → Stays (names_setting check env one) (names_setting after grown one)
  names_stay one = stays_bind (check (Wants string_set) one) (after (Wants string_set) one) _ _ (well (Wants string_set) one) (λ set. inr refl)

  rules_stay : (allowed before : List (List ℕ)) (item : Item-F Expr Item Part Link) → Stays (setting_rules check env allowed before item) (setting_rules after grown allowed before item)
  rules_stay allowed before (written.Item::Field place name value) = inr refl
  rules_stay allowed before (written.Value value) = stays_anyway (Unit {0}) (check Nothing value) (after Nothing value) rule.WrongType (expr_place env value) (well Nothing value)

  only_stays : (allowed before : List (List ℕ)) (items : List Item) → Stays (only_settings check env allowed before items) (only_settings after grown allowed before items)
  only_stays allowed before [] = inr refl
  only_stays allowed before (item ∷ items) =
      stays_bind (both (setting_rules check env allowed before (out-Item item)) (only_settings check env allowed (setting_name (out-Item item) before) items))
      (both (setting_rules after grown allowed before (out-Item item)) (only_settings after grown allowed (setting_name (out-Item item) before) items)) _ _
      (stays_both (setting_rules check env allowed before (out-Item item)) (setting_rules after grown allowed before (out-Item item)) (only_settings check env allowed (setting_name (out-Item item) before) items)
      (only_settings after grown allowed (setting_name (out-Item item) before) items) (rules_stay allowed before (out-Item item)) (only_stays allowed (setting_name (out-Item item) before) items)) (λ parts. inr refl)

  stream_stays : (brackets : Place) (items : List Item) → Stays (stream_settings check env brackets items) (stream_settings after grown brackets items)
  stream_stays brackets items =
      let columns = optional (not_local env) (setting (codes "columns") items) >> columns_type env.scripts env.home items in
      let names = codes "columns" ∷ codes "ev" ∷ codes "path" ∷ codes "policy" ∷ [] in
      let first = both columns (optional (event_setting env (if_known columns)) (setting (codes "ev") items)) in
      let policy = optional (policy_setting env (if_known columns)) (setting (codes "policy") items) in
      let path = optional (log_path check env) (setting (codes "path") items) in
      let next = optional (log_path after grown) (setting (codes "path") items) in
      stays_with (both (only_settings check env names [] items) (both first (both path policy))) (both (only_settings after grown names [] items) (both first (both next policy))) (needed (codes "columns") brackets items)
      (stays_both (only_settings check env names [] items) (only_settings after grown names [] items) (both first (both path policy)) (both first (both next policy)) (only_stays names [] items)
      (stays_both first first (both path policy) (both next policy) (inr refl) (stays_both path next policy policy (optional_stays (log_path check env) (log_path after grown) path_stays (setting (codes "path") items)) (inr refl))))

  filter_stays : (kept : Option RecordNo) (brackets : Place) (items : List Item) → Stays (filter_settings check env kept brackets items) (filter_settings after grown kept brackets items)
  filter_stays kept brackets items =
      let names = codes "name" ∷ codes "path" ∷ codes "include" ∷ codes "exclude" ∷ codes "policy" ∷ [] in
      let policy = optional (policy_setting env kept) (setting (codes "policy") items) in
      let name = optional (path_literal check env) (setting (codes "name") items) in
      let named = optional (path_literal after grown) (setting (codes "name") items) in
      let path = optional (log_path check env) (setting (codes "path") items) in
      let pathed = optional (log_path after grown) (setting (codes "path") items) in
      let some = optional (names_setting check env) (setting (codes "include") items) in
      let included = optional (names_setting after grown) (setting (codes "include") items) in
      let others = optional (names_setting check env) (setting (codes "exclude") items) in
      let excluded = optional (names_setting after grown) (setting (codes "exclude") items) in
      let only = only_settings check env names [] items in
      let onlies = only_settings after grown names [] items in
      stays_with (both (both only (both name path)) (both (both some others) policy)) (both (both onlies (both named pathed)) (both (both included excluded) policy)) (needed (codes "name") brackets items)
      (stays_both (both only (both name path)) (both onlies (both named pathed)) (both (both some others) policy) (both (both included excluded) policy)
      (stays_both only onlies (both name path) (both named pathed) (only_stays names [] items)
      (stays_both name named path pathed (optional_stays (path_literal check env) (path_literal after grown) literal_stays (setting (codes "name") items)) (optional_stays (log_path check env) (log_path after grown) path_stays (setting (codes "path") items))))
      (stays_both (both some others) (both included excluded) policy policy
      (stays_both some included others excluded (optional_stays (names_setting check env) (names_setting after grown) names_stay (setting (codes "include") items)) (optional_stays (names_setting check env) (names_setting after grown) names_stay (setting (codes "exclude") items))) (inr refl)))

  settings_stay : {A : Type 0} (typing more : Place → List Item → Checked A) → ((place : Place) (items : List Item) → Stays (typing place items) (more place items)) → (one : Expr) → Stays (with_settings check env typing one) (with_settings after grown more one)
  settings_stay {A} typing more h one = by (out-Expr one) refl
    where
      by : (f : Expr-F Expr Item Part Link) → out-Expr one ≡ f → Stays (with_settings check env typing one) (with_settings after grown more one)
      by (written.List place items) is = rw is (h (at env place) items)
      by other is = rw is (stays_anyway A (check Nothing one) (after Nothing one) rule.WrongType (expr_place env one) (well Nothing one))

  -- Calls ------------------------------------------------------------------------------------------------------------

  with_stays : (place : Place) (function : LogFunction) (word : Declared) (kept : Option RecordNo) (one : Expr) → Stays (log_with check env place function word kept one) (log_with after grown place function word kept one)
  with_stays place CreateStream word kept one = settings_stay (create_typed check env place word) (create_typed after grown place word)
      (λ brackets items. stays_bind (stream_settings check env brackets items) (stream_settings after grown brackets items) _ _ (stream_stays brackets items) (λ parts. inr refl)) one
  with_stays place AddFilter word kept one = settings_stay (filter_typed check env word kept) (filter_typed after grown word kept)
      (λ brackets items. stays_bind (filter_settings check env kept brackets items) (filter_settings after grown kept brackets items) _ _ (filter_stays kept brackets items) (λ parts. inr refl)) one
  with_stays place RemoveFilter word kept one = stays_bind (path_literal check env one) (path_literal after grown one) _ _ (literal_stays one) (λ name. inr refl)
  with_stays place RemoveDefaultFilter word kept one = inr refl
  with_stays place Write word kept one = stays_bind (check (row_wanted kept) one) (after (row_wanted kept) one) _ _ (well (row_wanted kept) one) (λ row. inr refl)

  log_item_stays : (place : Place) (function : LogFunction) (word : Declared) (kept : Option RecordNo) (item : Item) → Stays (on_item check env (log_with check env place function word kept) item) (on_item after grown (log_with after grown place function word kept) item)
  log_item_stays place function word kept item = item_stays env known check after well (log_with check env place function word kept) (log_with after grown place function word kept) (with_stays place function word kept) item

  log_arguments_stay : (place : Place) (function : LogFunction) (word : Declared) (kept : Option RecordNo) (item : Item) (others : List Item) → Stays (log_arguments check env place function word kept item others) (log_arguments after grown place function word kept item others)
  log_arguments_stay place function word kept item [] = log_item_stays place function word kept item
  log_arguments_stay place function word kept item (first ∷ others) =
      stays_along (broken_anyway (on_item check env (log_with check env place function word kept) item) rule.Arguments place) (broken_anyway (on_item after grown (log_with after grown place function word kept) item) rule.Arguments place)
      (astray check env (first ∷ others)) (astray after grown (first ∷ others))
      (stays_anyway Typed (on_item check env (log_with check env place function word kept) item) (on_item after grown (log_with after grown place function word kept) item) rule.Arguments place (log_item_stays place function word kept item))
      (arguments_stay env known check after well Unclear (first ∷ others))

  of_stays : (place : Place) (function : LogFunction) (word : Declared) (kept : Option RecordNo) (items : List Item) → Stays (log_of check env place function word kept items) (log_of after grown place function word kept items)
  of_stays place RemoveDefaultFilter word kept [] = inr refl
  of_stays place RemoveDefaultFilter word kept (first ∷ others) =
      stays_along {A = Typed} (broken rule.Arguments place) (broken rule.Arguments place) (astray check env (first ∷ others)) (astray after grown (first ∷ others)) (inr refl) (arguments_stay env known check after well Unclear (first ∷ others))
  of_stays place CreateStream word kept [] = inr refl
  of_stays place CreateStream word kept (first ∷ others) = log_arguments_stay place CreateStream word kept first others
  of_stays place AddFilter word kept [] = inr refl
  of_stays place AddFilter word kept (first ∷ others) = log_arguments_stay place AddFilter word kept first others
  of_stays place RemoveFilter word kept [] = inr refl
  of_stays place RemoveFilter word kept (first ∷ others) = log_arguments_stay place RemoveFilter word kept first others
  of_stays place Write word kept [] = inr refl
  of_stays place Write word kept (first ∷ others) = log_arguments_stay place Write word kept first others

  word_stays : (one : Expr) → Stays (log_word check env one) (log_word after grown one)
  word_stays one = by (word_of (found env) one) refl
    where
      wrong : Stays {A = Declared × Option RecordNo} (broken_anyway (check Nothing one) rule.WrongType (expr_place env one)) (broken_anyway (after Nothing one) rule.WrongType (expr_place env one))
      wrong = stays_anyway (Declared × Option RecordNo) (check Nothing one) (after Nothing one) rule.WrongType (expr_place env one) (well Nothing one)

      typed : (word : Declared) (kept : Option (Option RecordNo)) → word_of (found env) one ≡ Some word → log_type env.scripts word.name ≡ kept → Stays (log_word check env one) (log_word after grown one)
      typed word None is of = rw is (rw of wrong)
      typed word (Some kept) is of = rw is (rw of (inr refl))

      by : (word : Option Declared) → word_of (found env) one ≡ word → Stays (log_word check env one) (log_word after grown one)
      by None is = rw is wrong
      by (Some word) is = typed word (log_type env.scripts word.name) is refl

  wordless_stays : (function : LogFunction) (one : Expr) → Stays (wordless check env function one) (wordless after grown function one)
  wordless_stays CreateStream one = settings_stay (λ brackets items. stream_settings check env brackets items >> Ok tt) (λ brackets items. stream_settings after grown brackets items >> Ok tt)
      (λ brackets items. stays_bind (stream_settings check env brackets items) (stream_settings after grown brackets items) _ _ (stream_stays brackets items) (λ parts. inr refl)) one
  wordless_stays AddFilter one = settings_stay (λ brackets items. filter_settings check env None brackets items >> Ok tt) (λ brackets items. filter_settings after grown None brackets items >> Ok tt)
      (λ brackets items. stays_bind (filter_settings check env None brackets items) (filter_settings after grown None brackets items) _ _ (filter_stays None brackets items) (λ parts. inr refl)) one
  wordless_stays RemoveFilter one = stays_bind (path_literal check env one) (path_literal after grown one) _ _ (literal_stays one) (λ name. inr refl)
  wordless_stays RemoveDefaultFilter one = stays_bind (check Unclear one) (after Unclear one) _ _ (well Unclear one) (λ value. inr refl)
  wordless_stays Write one = stays_bind (check Unclear one) (after Unclear one) _ _ (well Unclear one) (λ value. inr refl)

  all_wordless_stay : (function : LogFunction) (items : List Item) → Stays (all_wordless check env function items) (all_wordless after grown function items)
  all_wordless_stay function [] = inr refl
  all_wordless_stay function (item ∷ others) =
      stays_along (on_item check env (wordless check env function) item) (on_item after grown (wordless after grown function) item) (astray check env others) (astray after grown others)
      (item_stays env known check after well (wordless check env function) (wordless after grown function) (wordless_stays function) item) (arguments_stay env known check after well Unclear others)

  behind_stays : (place : Place) (function : LogFunction) (others : List Item) (word now : Checked (Declared × Option RecordNo)) → Stays word now → Stays (log_behind check env place function others word) (log_behind after grown place function others now)
  behind_stays place function others (Ok word) now (inl e) = absurd cc
  behind_stays place function others (Ok word) now (inr e) = subst (λ x. Stays (log_of check env place function word.0 word.1 others) (log_behind after grown place function others x)) e (of_stays place function word.0 word.1 others)
  behind_stays place function others (Err rules) now (inl e) = inl (marked_front rules (rules_of (all_wordless check env function others)) e)
  behind_stays place function others (Err rules) now (inr e) =
      subst (λ x. Stays {A = Typed} (along (Err rules) (all_wordless check env function others)) (log_behind after grown place function others x)) e
      (stays_along {A = Typed} (Err rules) (Err rules) (all_wordless check env function others) (all_wordless after grown function others) (inr refl) (all_wordless_stay function others))

  pub log_stays : (place : Place) (function : LogFunction) (items : List Item) → Stays (log_typed check env place function items) (log_typed after grown place function items)
  log_stays place function [] = inr refl
  log_stays place function (first ∷ others) =
      behind_stays place function others (on_item check env (log_word check env) first) (on_item after grown (log_word after grown) first)
      (item_stays env known check after well (log_word check env) (log_word after grown) word_stays first)
