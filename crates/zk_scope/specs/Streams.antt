-- The streams of logs that scripts create (Zeek manual, Logging Framework).
use Rattle.std.specs.Prelude.{◌≡◌, ℕ, List, [], ◌∷◌, map, filter, flat_map, Option, Some, None, bytes_eq, if◌then◌else◌}
use Rattle.std.specs.Borrow.{Bor}
use Rattle.std.specs.HashMap.{get}
use Rattle.std.specs.Option.{option_map}
use Rattle.zk_base.specs.declared.numbers.RecordNo.{RecordNo}
use Rattle.zk_tree.specs.declared.decl.Decl.{out-Decl}
use Rattle.zk_tree.specs.declared.expr.Expr.{Expr}
use Rattle.zk_tree.specs.declared.expr.Item.{Item}
use Rattle.zk_typed.specs.LoadOrder.{Home, Stated}
use Rattle.zk_typed.specs.LogCalls.{Call, item_expr, settings, columns_type, if_known, word_of, creates, decl_calls, agreed, one_type}
use Rattle.zk_typed.specs.Names.{Declared, look_up}
use Rattle.zk_typed.specs.Resolving.{Scripts}
use Rattle.zk_scope.specs.declared.created.Created.{Created}
use Rattle.zk_scope.specs.declared.log_types.LogTypes.{LogTypes}

abbrev pub option_items : Option (Bor (List Item)) → Option (List Item)
option_items items = option_map (λ items. items.now) items

-- the word of `Log::ID` that an expression names where it stands
abbrev pub word_in : Scripts → Home → Expr → Option Declared
word_in scripts home one = word_of (λ name. look_up scripts.names home.module_name name.text) one

-- the record type that the settings of a call name, where it is known
abbrev pub settings_type : Scripts → Home → Option (List Item) → Option RecordNo
settings_type scripts home None = None
settings_type scripts home (Some items) = if_known (columns_type scripts home items)

-- the record type that the arguments behind a call's word name
abbrev pub others_type : Scripts → Home → List Item → Option RecordNo
others_type scripts home (one ∷ []) = settings_type scripts home (settings (item_expr one))
others_type scripts home others = None

-- the word of a call, and the record type of its stream
abbrev pub word_created : Scripts → Home → List Item → Option Declared → List (List ℕ × Option RecordNo)
word_created scripts home others None = []
word_created scripts home others (Some declared) = (declared.name, others_type scripts home others) ∷ []

abbrev pub items_created : Scripts → Home → List Item → List (List ℕ × Option RecordNo)
items_created scripts home [] = []
items_created scripts home (first ∷ others) = word_created scripts home others (word_in scripts home (item_expr first))

-- what a call of `create_stream` says of a log
abbrev pub created_by : Scripts → Call → List (List ℕ × Option RecordNo)
created_by scripts call = items_created scripts call.home call.items

-- what a call says of a log, where it is one of `create_stream`
abbrev pub call_created : Scripts → Call → List (List ℕ × Option RecordNo)
call_created scripts call = if creates scripts call then created_by scripts call else []

-- what the calls of `create_stream` in a declaration say of logs
abbrev pub stated_created : Scripts → Stated → List (List ℕ × Option RecordNo)
stated_created scripts one = flat_map (call_created scripts) (decl_calls one.home (out-Decl one.decl))

abbrev pub created_of : Created → List ℕ × Option RecordNo
created_of one = (one.word.items, one.columns)

abbrev pub created_lent : List Created → List (List ℕ × Option RecordNo)
created_lent created = map created_of created

-- what is said of one log
abbrev pub of_log : List ℕ → List (List ℕ × Option RecordNo) → List (Option RecordNo)
of_log word all = map (λ one. one.1) (filter (λ one. bytes_eq one.0 word) all)

-- the type of a log by a stream and what those behind it say
abbrev pub joined : Option RecordNo → Option (Option RecordNo) → Option (Option RecordNo)
joined first None = None
joined first (Some other) = agreed first other

-- what some streams of a log say of its type, where there are any
abbrev pub so_far : List (Option RecordNo) → Option (Option (Option RecordNo))
so_far [] = None
so_far (first ∷ more) = Some (one_type (first ∷ more))

-- what a stream and those behind it say
abbrev pub with_stream : Option RecordNo → Option (Option (Option RecordNo)) → Option (Option RecordNo)
with_stream first None = Some first
with_stream first (Some told) = joined first told

-- what was said of each log is kept by its name
abbrev pub AreTypes : LogTypes → List (List ℕ × Option RecordNo) → Type 0
AreTypes types created = (word : List ℕ) → get bytes_eq types.by_word word ≡ so_far (of_log word created)
