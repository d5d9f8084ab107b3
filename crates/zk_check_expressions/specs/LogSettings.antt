-- The settings of calls of the log framework (Zeek manual, Logging Framework), and what their Rust types stand for.
use Rattle.std.specs.Prelude.{◌≡◌, ℕ, Bool, true, codes, List, [], ◌∷◌, map, Option, Some, None, Ok}
use Rattle.std.specs.Borrow.{Bor}
use Rattle.std.specs.Option.{option_map}
use Rattle.std.specs.declared.alloc.Global.{Global}
use Rattle.std.specs.declared.vec.Vec.{Vec}
use Rattle.zk_base.specs.declared.numbers.HookNo.{HookNo}
use Rattle.zk_base.specs.declared.numbers.RecordNo.{RecordNo}
use Rattle.zk_scope.specs.Lent.{declared_of}
use Rattle.zk_tree.specs.declared.decl.BodyKind.{BodyKind}
use Rattle.zk_tree.specs.declared.expr.Expr.{Expr, out-Expr}
use Rattle.zk_tree.specs.declared.expr.Expr.TheOpen.{Expr-F, Item-F}
use Rattle.zk_tree.specs.declared.expr.Expr.TheOpen as written
use Rattle.zk_tree.specs.declared.expr.Item.{Item, out-Item}
use Rattle.zk_tree.specs.declared.expr.Link.{Link}
use Rattle.zk_tree.specs.declared.expr.Part.{Part}
use Rattle.zk_tree.specs.declared.operator.Container.{Container}
use Rattle.zk_tree.specs.declared.operator.Container.TheVariants as container
use Rattle.zk_tree.specs.declared.place.Place.{Place}
use Rattle.zk_typed.specs.declared.rule.Rule.TheVariants as rule
use Rattle.zk_typed.specs.declared.script.log_call.LogCall.TheVariants as log
use Rattle.zk_typed.specs.declared.script.types.ValueType.{ValueType as RustType}
use Rattle.zk_typed.specs.Checked.{Checked, broken, both, each, or_broken, require, ◌>>=◌, ◌>>◌}
use Rattle.zk_typed.specs.Errors.{kind_of}
use Rattle.zk_typed.specs.Forms as form
use Rattle.zk_typed.specs.LogCalls.{StreamTold, among, columns_type, event_setting, if_known, is_path, keeps, leaves, log_form, log_no, log_path, log_type, logged, names_setting, not_local, of_known, optional, path_literal, path_or_module, places_of, policy_setting, same_types, setting, text_of, word_of}
use Rattle.zk_typed.specs.Names.{Declared, Signature}
use Rattle.zk_typed.specs.Resolving.{params_of}
use Rattle.zk_typed.specs.Predefined as type
use Rattle.zk_typed.specs.Types.{ValueType, Record}
use Rattle.zk_typed.specs.Typing.{Check, Env, Typed, typed, found}
use Rattle.zk_typed.specs.View.{type_of}
use Rattle.zk_check_expressions.specs.declared.log_words.LogWord.{LogWord}

abbrev pub text_lent : Option (Bor (List ℕ)) → Option (List ℕ)
text_lent text = option_map (λ one. one.now) text

abbrev pub texts_lent : List (Bor (List ℕ)) → List (List ℕ)
texts_lent texts = map (λ one. one.now) texts

abbrev pub all_texts : Vec (Bor (List ℕ)) Global → List (List ℕ)
all_texts texts = texts_lent texts.items

-- Names ------------------------------------------------------------------------------------------------------------

abbrev pub types_lent : Bor (List RustType) → List ValueType
types_lent types = map type_of types.now

-- parameters are those that are wanted, where these are known
abbrev pub params_fit : Place → Option (List ValueType) → List ValueType → Checked (Unit {0})
params_fit place None params = Ok tt
params_fit place (Some types) params = require (same_types params types) rule.WrongType place

-- a name of events or of hooks with the parameters that are wanted, where these are known
abbrev pub signed_declared : Env → BodyKind → Option (List ValueType) → Place → Declared → Checked Declared
signed_declared env kind wanted place declared = of_signature (kind_of kind declared.meant)
  where
    of_signature : Option Signature → Checked Declared
    of_signature None = broken rule.WrongType place
    of_signature (Some signature) = params_of env.scripts signature >>= (λ params. params_fit place wanted params >> Ok declared)

-- an event of a log takes its record
abbrev pub event_params : RecordNo → List ValueType
event_params number = Record number ∷ []

-- a policy takes the record of the log, the log and the filter
abbrev pub policy_params : RecordNo → List ValueType
policy_params number = Record number ∷ type.log_id ∷ Record type.filter_record ∷ []

-- Columns ----------------------------------------------------------------------------------------------------------

-- a name in quotes among others
abbrev pub item_text : Item → Option (List ℕ)
item_text item = of_item (out-Item item)
  where
    of_item : Item-F Expr Item Part Link → Option (List ℕ)
    of_item (written.Value value) = text_of value
    of_item (written.Item::Field place name value) = None

-- a name in quotes, told at a place where it is none
abbrev pub literal_item : Place → Item → Checked (List ℕ)
literal_item place item = or_broken (item_text item) rule.Format place

-- the names of `set("a", "b")`, where they are strings in quotes
abbrev pub names_text : Place → Expr → Checked (List (List ℕ))
names_text place one = of_form (out-Expr one)
  where
    of_container : Container → List Item → Checked (List (List ℕ))
    of_container container.Set items = each (literal_item place) items
    of_container other items = broken rule.Format place

    of_form : Expr-F Expr Item Part Link → Checked (List (List ℕ))
    of_form (written.Make at made items) = of_container made items
    of_form other = broken rule.Format place

-- Settings ---------------------------------------------------------------------------------------------------------

-- a path or the name of a filter in quotes
abbrev pub path_text : Place → Expr → Checked (List ℕ)
path_text place one = or_broken (text_of one) rule.Format place >>= (λ bytes. require (is_path bytes) rule.Format place >> Ok bytes)

-- a setting that may be there
abbrev pub maybe : {A : Type 0} → (Expr → Checked A) → List ℕ → List Item → Checked (Option A)
maybe check name items = optional check (setting name items)

-- the record type that `$columns` names, which no local hides
abbrev pub columns_told : Env → List Item → Checked (Option RecordNo)
columns_told env items = maybe (not_local env) (codes "columns") items >> columns_type env.scripts env.home items

-- names that are the same among those that are allowed
abbrev pub AreAlike : List (List ℕ) → List (List ℕ) → List (List ℕ) → Type 0
AreAlike allowed some others = (name : List ℕ) → among name allowed ≡ true → among name some ≡ among name others

-- the settings of streams and of filters
abbrev pub stream_names : List (List ℕ)
stream_names = codes "columns" ∷ codes "ev" ∷ codes "path" ∷ codes "policy" ∷ []

abbrev pub filter_names : List (List ℕ)
filter_names = codes "name" ∷ codes "path" ∷ codes "include" ∷ codes "exclude" ∷ codes "policy" ∷ []

abbrev pub stream_told : Check → Env → List Item → Checked StreamTold
stream_told check env items =
    both (both (columns_told env items) (maybe (event_setting env (if_known (columns_told env items))) (codes "ev") items))
    (both (maybe (log_path check env) (codes "path") items) (maybe (policy_setting env (if_known (columns_told env items))) (codes "policy") items))

-- a stream by its settings
abbrev pub stream_made : Env → Place → Declared → Place → StreamTold → Checked Typed
stream_made env place word brackets told =
    or_broken told.0.0 rule.Field brackets >>= (λ number.
    path_or_module place word told.1.0 >>= (λ path.
    Ok (log_form (log.Create (log_no env word) told.0.1 path told.1.1 (places_of (λ leaf. leaf.log) 0 (leaves env.scripts number))))))

-- the name and the path of a filter
abbrev pub PathsTold : Type 0
PathsTold = Option (List ℕ) × Option (List ℕ)

abbrev pub paths_told : Check → Env → List Item → Checked PathsTold
paths_told check env items = both (maybe (path_literal check env) (codes "name") items) (maybe (log_path check env) (codes "path") items)

-- the columns and the policy of a filter
abbrev pub ColumnsTold : Type 0
ColumnsTold = (Option (List (List ℕ)) × Option (List (List ℕ))) × Option HookNo

abbrev pub kept_told : Check → Env → Option RecordNo → List Item → Checked ColumnsTold
kept_told check env known items =
    both (both (maybe (names_setting check env) (codes "include") items) (maybe (names_setting check env) (codes "exclude") items))
    (maybe (policy_setting env known) (codes "policy") items)

abbrev pub kept_view : (Option (Vec (Bor (List ℕ)) Global) × Option (Vec (Bor (List ℕ)) Global)) × Option HookNo → ColumnsTold
kept_view kept = ((option_map all_texts kept.0.0, option_map all_texts kept.0.1), kept.1)

abbrev pub filter_view : (Unit {0} × PathsTold) × ((Option (Vec (Bor (List ℕ)) Global) × Option (Vec (Bor (List ℕ)) Global)) × Option HookNo) → (Unit {0} × PathsTold) × ColumnsTold
filter_view parts = (parts.0, kept_view parts.1)

-- a filter of a log of this record type
abbrev pub filter_of : Env → Declared → RecordNo → List ℕ → Option (List ℕ) → ColumnsTold → Typed
filter_of env word number name path kept =
    log_form (log.AddFilter (log_no env word) name path kept.1 (places_of (keeps kept.0.0 kept.0.1) 0 (logged (leaves env.scripts number))))

-- a filter by its settings
abbrev pub filter_made : Env → Declared → Option RecordNo → Place → PathsTold → ColumnsTold → Checked Typed
filter_made env word known brackets paths kept =
    or_broken paths.0 rule.Field brackets >>= (λ name.
    of_known known (λ number. filter_of env word number name paths.1 kept))

-- the removal of a filter
abbrev pub removed : Env → Declared → List ℕ → Typed
removed env word name = log_form (log.RemoveFilter (log_no env word) name)

abbrev pub removed_named : Env → Declared → List ℕ → Checked Typed
removed_named env word name = Ok (removed env word name)

-- Calls ------------------------------------------------------------------------------------------------------------

abbrev pub log_word_of : LogWord → Declared × Option RecordNo
log_word_of word = (declared_of word.declared.now, word.columns)

-- a word with the record type of its log, where the log has one
abbrev pub with_type : Declared → Option (Option RecordNo) → Option (Declared × Option RecordNo)
with_type word None = None
with_type word (Some type) = Some (word, type)

-- the word of a log that has a stream, with its record type
abbrev pub typed_word : Env → Option Declared → Option (Declared × Option RecordNo)
typed_word env None = None
typed_word env (Some word) = with_type word (log_type env.scripts word.name)

abbrev pub logged_word : Env → Expr → Option (Declared × Option RecordNo)
logged_word env one = typed_word env (word_of (found env) one)

abbrev pub written_row : Env → Declared → Typed → Typed
written_row env word row = typed type.bool (form.Write (log_no env word) row.expr)
