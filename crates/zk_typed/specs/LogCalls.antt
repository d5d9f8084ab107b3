-- The typing of calls of the log framework (Zeek manual, Logging Framework): what they say of streams and filters stands in the text,
-- so a log has one record type, which its `create_stream` names.
use Rattle.std.specs.Prelude.{ℕ, zero, suc, ◌+◌, ◌==◌, nat_le, Bool, true, false, not, ◌&&◌, ◌||◌, List, [], ◌∷◌, ◌++◌, length, map, filter, flat_map, codes, Option, Some, None, Ok, Err, is_some, if◌then◌else◌, bytes_eq}
use Rattle.std.specs.Char.{to_ascii_lowercase}
use Rattle.std.specs.List.{list_any, list_all}
use Rattle.std.specs.Option.{option_map}
use Rattle.zk_base.specs.declared.numbers.EventNo.{EventNo}
use Rattle.zk_base.specs.declared.numbers.HookNo.{HookNo}
use Rattle.zk_base.specs.declared.numbers.LogId.{LogId}
use Rattle.zk_base.specs.declared.numbers.RecordNo.{RecordNo}
use Rattle.zk_tree.specs.declared.decl.Decl.{Decl, out-Decl}
use Rattle.zk_tree.specs.declared.decl.Decl.TheOpen.{Decl-F}
use Rattle.zk_tree.specs.declared.decl.Decl.TheOpen as decl
use Rattle.zk_tree.specs.declared.expr.Expr.{Expr, out-Expr}
use Rattle.zk_tree.specs.declared.expr.Expr.TheOpen.{Expr-F, Part-F, Item-F}
use Rattle.zk_tree.specs.declared.expr.Expr.TheOpen as written
use Rattle.zk_tree.specs.declared.expr.Item.{Item, out-Item}
use Rattle.zk_tree.specs.declared.expr.Link.{Link, out-Link}
use Rattle.zk_tree.specs.declared.expr.Literal.{Literal}
use Rattle.zk_tree.specs.declared.expr.Literal.TheVariants as literal
use Rattle.zk_tree.specs.declared.expr.Part.{Part, out-Part}
use Rattle.zk_tree.specs.declared.name.Name.{Name}
use Rattle.zk_tree.specs.declared.operator.Container.{Container}
use Rattle.zk_tree.specs.declared.operator.Container.TheVariants as container
use Rattle.zk_tree.specs.declared.place.Place.{Place}
use Rattle.zk_tree.specs.declared.stmt.Block.{Block, out-Block}
use Rattle.zk_tree.specs.declared.stmt.Init.{Init}
use Rattle.zk_tree.specs.declared.stmt.Init.TheVariants as init
use Rattle.zk_tree.specs.declared.stmt.Stmt.{Stmt, out-Stmt}
use Rattle.zk_tree.specs.declared.stmt.Stmt.TheOpen.{Stmt-F}
use Rattle.zk_tree.specs.declared.stmt.Stmt.TheOpen as stmt
use Rattle.zk_tree.specs.Places as places
use Rattle.zk_typed.specs.declared.rule.Rule.TheVariants as rule
use Rattle.zk_typed.specs.declared.script.log_call.LogCall.{LogCall}
use Rattle.zk_typed.specs.declared.script.log_call.LogCall.TheVariants as log
use Rattle.zk_typed.specs.declared.script.primitive.Primitive.TheVariants as primitive
use Rattle.zk_typed.specs.declared.script.types.SimpleType.TheVariants as simple
use Rattle.zk_typed.specs.Checked.{Checked, broken, along, broken_anyway, with_rule, elsewhere, ◌>>=◌, ◌>>◌, both, each, require, or_broken}
use Rattle.zk_typed.specs.Columns.{type_name}
use Rattle.zk_typed.specs.Forms as form
use Rattle.zk_typed.specs.LoadOrder.{Home}
use Rattle.zk_typed.specs.Names.{Declared, Meant, Word, Event, Hook, Log, LogFunction, CreateStream, AddFilter, RemoveFilter, RemoveDefaultFilter, Write, Signature, look_up, module_of}
use Rattle.zk_typed.specs.Operations.{same_type}
use Rattle.zk_typed.specs.Predefined as type
use Rattle.zk_typed.specs.Resolving.{Scripts, FieldInfo, place_in, type_named, params_of, fields_of}
use Rattle.zk_typed.specs.Types.{ValueType, Record, Set}
use Rattle.zk_typed.specs.Within.{depth_max}
use Rattle.zk_typed.specs.Typing.{Typed, typed, Env, at, expr_place, Nothing, Wants, Unclear, Wanted, Check, number_among, is_event, is_hook, is_local, found, on_item}

-- Calls in the texts -------------------------------------------------------------------------------------------------

-- a call of a name, where it stands, and the whole expression
pub record Call : Type 0 where
  pub home : Home
  pub whole : Expr
  pub name : Name
  pub items : List Item

abbrev pub item_expr : Item → Expr
item_expr item = of_item (out-Item item)
  where
    of_item : Item-F Expr Item Part Link → Expr
    of_item (written.Value value) = value
    of_item (written.Item::Field place name value) = value

abbrev pub named_call : Home → Expr → Expr → List Part → List Call
named_call home whole first [] = []
named_call home whole first (part ∷ parts) = of_both (out-Expr first) (out-Part part)
  where
    of_both : Expr-F Expr Item Part Link → Part-F Expr Item Part Link → List Call
    of_both (written.Name name) (written.Call items) = record { home = home; whole = whole; name = name; items = items } ∷ []
    of_both one other = []

abbrev pub expr_calls_to : ℕ → Home → Expr → List Call
expr_calls_to zero home one = []
expr_calls_to (suc depth) home one = of_form (expr_calls_to depth home) (out-Expr one)
  where
    in_items : (Expr → List Call) → List Item → List Call
    in_items more items = flat_map (λ item. more (item_expr item)) items

    in_part : (Expr → List Call) → Part-F Expr Item Part Link → List Call
    in_part more (written.Index keys) = flat_map more keys
    in_part more (written.Call items) = in_items more items
    in_part more other = []

    of_form : (Expr → List Call) → Expr-F Expr Item Part Link → List Call
    of_form more (written.Assign a operator b) = more a ++ more b
    of_form more (written.Choice test a b) = more test ++ more a ++ more b
    of_form more (written.Chain level first links) = more first ++ flat_map (λ link. more (out-Link link).operand) links
    of_form more (written.Compare a operator b) = more a ++ more b
    of_form more (written.Unary place operator operand) = more operand
    of_form more (written.Post first parts) = named_call home one first parts ++ more first ++ flat_map (λ part. in_part more (out-Part part)) parts
    of_form more (written.Parenthesis place inner) = more inner
    of_form more (written.Size place inner) = more inner
    of_form more (written.List place items) = in_items more items
    of_form more (written.Make place container items) = in_items more items
    of_form more (written.Hook place name items) = in_items more items
    of_form more other = []

abbrev pub expr_calls : Home → Expr → List Call
expr_calls = expr_calls_to depth_max

abbrev pub maybe_calls : Home → Option Expr → List Call
maybe_calls home None = []
maybe_calls home (Some one) = expr_calls home one

abbrev pub init_calls : Home → Option Init → List Call
init_calls home None = []
init_calls home (Some (init.Value one)) = expr_calls home one
init_calls home (Some (init.Braces place values comma)) = flat_map (expr_calls home) values

abbrev pub stmt_calls_to : ℕ → Home → Stmt → List Call
stmt_calls_to zero home one = []
stmt_calls_to (suc depth) home one = of_form (stmt_calls_to depth home) (out-Stmt one)
  where
    in_items : List Item → List Call
    in_items items = flat_map (λ item. expr_calls home (item_expr item)) items

    of_form : (Stmt → List Call) → Stmt-F Stmt Block → List Call
    of_form more (stmt.Block block) = flat_map more (out-Block block).stmts
    of_form more (stmt.If place test a) = expr_calls home test ++ more a
    of_form more (stmt.IfElse place test a b) = expr_calls home test ++ more a ++ more b
    of_form more (stmt.While place test a) = expr_calls home test ++ more a
    of_form more (stmt.For place keys value over a) = expr_calls home over ++ more a
    of_form more (stmt.Local place name tree init) = init_calls home init
    of_form more (stmt.Print place values) = flat_map (expr_calls home) values
    of_form more (stmt.Event place name items) = in_items items
    of_form more (stmt.Schedule place delay name items) = expr_calls home delay ++ in_items items
    of_form more (stmt.Add place one) = expr_calls home one
    of_form more (stmt.Delete place one) = expr_calls home one
    of_form more (stmt.Return place value) = maybe_calls home value
    of_form more (stmt.Expr one) = expr_calls home one
    of_form more other = []

abbrev pub block_calls : Home → Block → List Call
block_calls home block = flat_map (stmt_calls_to depth_max home) (out-Block block).stmts

abbrev pub decl_calls : Home → Decl-F Decl → List Call
decl_calls home (decl.Variable place lasting name tree init attrs) = init_calls home init
decl_calls home (decl.Redef place name operator init) = init_calls home (Some init)
decl_calls home (decl.Body place kind name params attrs block) = block_calls home block
decl_calls home (decl.Function place name params «result» block) = block_calls home block
decl_calls home other = []

abbrev pub all_calls : Scripts → List Call
all_calls scripts = flat_map (λ one. decl_calls one.home (out-Decl one.decl)) scripts.stated

-- Streams ------------------------------------------------------------------------------------------------------------

abbrev pub creates : Scripts → Call → Bool
creates scripts call = of_declared (look_up scripts.names call.home.module_name call.name.text)
  where
    of_meant : Meant → Bool
    of_meant (Log CreateStream) = true
    of_meant other = false

    of_declared : Option Declared → Bool
    of_declared None = false
    of_declared (Some one) = of_meant one.meant

abbrev pub is_log_word : Declared → Bool
is_log_word one = of_meant one.meant
  where
    of_meant : Meant → Bool
    of_meant (Word number) = number == 1
    of_meant other = false

abbrev pub if_word : Option Declared → Option Declared
if_word None = None
if_word (Some one) = if is_log_word one then Some one else None

-- the word of an argument that is one of `Log::ID`, by what its name means
abbrev pub word_of : (Name → Option Declared) → Expr → Option Declared
word_of meaning one = of_form (out-Expr one)
  where
    of_form : Expr-F Expr Item Part Link → Option Declared
    of_form (written.Name name) = if_word (meaning name)
    of_form other = None

-- the items of a bracketed argument
abbrev pub settings : Expr → Option (List Item)
settings one = of_form (out-Expr one)
  where
    of_form : Expr-F Expr Item Part Link → Option (List Item)
    of_form (written.List place items) = Some items
    of_form other = None

abbrev pub setting : List ℕ → List Item → Option Expr
setting name [] = None
setting name (item ∷ items) = of_item (out-Item item) (setting name items)
  where
    of_item : Item-F Expr Item Part Link → Option Expr → Option Expr
    of_item (written.Item::Field place other value) more = if bytes_eq other.text name then Some value else more
    of_item (written.Value value) more = more

-- the type that a name names
abbrev pub named_record : Scripts → Home → Expr → Checked RecordNo
named_record scripts home one = of_form (out-Expr one)
  where
    place : Place
    place = place_in home (places.expr_place one)

    of_type : ValueType → Checked RecordNo
    of_type (Record number) = Ok number
    of_type other = broken rule.WrongType place

    of_form : Expr-F Expr Item Part Link → Checked RecordNo
    of_form (written.Name name) = type_named scripts home name >>= of_type
    of_form other = broken rule.WrongType place

abbrev pub optional : {A : Type 0} → (Expr → Checked A) → Option Expr → Checked (Option A)
optional check None = Ok None
optional check (Some one) = check one >>= (λ given. Ok (Some given))

-- the record type that `$columns` names
abbrev pub columns_type : Scripts → Home → List Item → Checked (Option RecordNo)
columns_type scripts home items = optional (named_record scripts home) (setting (codes "columns") items)

abbrev pub if_known : Checked (Option RecordNo) → Option RecordNo
if_known (Ok one) = one
if_known (Err rules) = None

-- the record type that a call of `create_stream` gives to a word, where it is known
abbrev pub created_in : Scripts → List ℕ → Call → List (Option RecordNo)
created_in scripts word call = of_items call.items
  where
    of_settings : Option (List Item) → Option RecordNo
    of_settings None = None
    of_settings (Some items) = if_known (columns_type scripts call.home items)

    of_others : List Item → Option RecordNo
    of_others (one ∷ []) = of_settings (settings (item_expr one))
    of_others others = None

    of_word : Option Declared → List Item → List (Option RecordNo)
    of_word None others = []
    of_word (Some declared) others = if bytes_eq declared.name word then of_others others ∷ [] else []

    of_items : List Item → List (Option RecordNo)
    of_items [] = []
    of_items (first ∷ others) = of_word (word_of (λ name. look_up scripts.names call.home.module_name name.text) (item_expr first)) others

-- what two streams of one log say
abbrev pub agreed : Option RecordNo → Option RecordNo → Option (Option RecordNo)
agreed None other = Some other
agreed one None = Some one
agreed (Some one) (Some other) = if one.0 == other.0 then Some (Some one) else None

-- A log has one record type. It has none where it has no stream or two of different types, and it isn't known where its
-- streams are broken.
abbrev pub one_type : List (Option RecordNo) → Option (Option RecordNo)
one_type [] = None
one_type (first ∷ others) = of_others others (one_type others)
  where
    of_others : List (Option RecordNo) → Option (Option RecordNo) → Option (Option RecordNo)
    of_others [] more = Some first
    of_others others None = None
    of_others others (Some other) = agreed first other

abbrev pub log_type : Scripts → List ℕ → Option (Option RecordNo)
log_type scripts word = one_type (flat_map (created_in scripts word) (filter (creates scripts) (all_calls scripts)))

abbrev pub stream_type : Scripts → List ℕ → Option RecordNo
stream_type scripts word = of_type (log_type scripts word)
  where
    of_type : Option (Option RecordNo) → Option RecordNo
    of_type None = None
    of_type (Some type) = type

-- Columns ------------------------------------------------------------------------------------------------------------

-- a field that is no record, as a column: its name with those of the fields that hold it, its type's name, and its marks
pub record LeafInfo : Type 0 where
  pub name : List ℕ
  pub kind : List ℕ
  pub wire : Bool
  pub log : Bool

abbrev pub within : FieldInfo → LeafInfo → LeafInfo
within field leaf = record leaf { name = field.name ++ codes "." ++ leaf.name; log = field.log && leaf.log }

abbrev pub field_leaves : (RecordNo → List LeafInfo) → FieldInfo → List LeafInfo
field_leaves leaves field = of_type field.field_type
  where
    of_type : Checked ValueType → List LeafInfo
    of_type (Ok (Record number)) = map (within field) (leaves number)
    of_type (Ok other) = record { name = field.name; kind = type_name other; wire = field.wire; log = field.log } ∷ []
    of_type (Err rules) = []

abbrev pub leaves_to : ℕ → Scripts → RecordNo → List LeafInfo
leaves_to zero scripts number = []
leaves_to (suc depth) scripts number = flat_map (field_leaves (leaves_to depth scripts)) (fields_of scripts number.0)

abbrev pub leaves : Scripts → RecordNo → List LeafInfo
leaves = leaves_to 200

-- the places of the elements that pass
abbrev pub places_of : {A : Type 0} → (A → Bool) → ℕ → List A → List ℕ
places_of passes place [] = []
places_of passes place (one ∷ others) =
    if passes one then place ∷ places_of passes (place + 1) others else places_of passes (place + 1) others

abbrev pub logged : List LeafInfo → List LeafInfo
logged all = filter (λ leaf. leaf.log) all

-- Settings -----------------------------------------------------------------------------------------------------------

abbrev pub text_of : Expr → Option (List ℕ)
text_of one = of_form (out-Expr one)
  where
    of_literal : Literal → Option (List ℕ)
    of_literal (literal.String bytes) = Some bytes
    of_literal other = None

    of_form : Expr-F Expr Item Part Link → Option (List ℕ)
    of_form (written.Literal place one) = of_literal one
    of_form other = None

abbrev pub is_path_byte : ℕ → Bool
is_path_byte byte = (nat_le 97 byte && nat_le byte 122) || (nat_le 48 byte && nat_le byte 57) || byte == 95 || byte == 45

-- a path or the name of a filter has 1 to 64 bytes of `a-z 0-9 _ -`
abbrev pub is_path : List ℕ → Bool
is_path bytes = nat_le 1 (length bytes) && nat_le (length bytes) 64 && list_all is_path_byte bytes

abbrev pub path_literal : Check → Env → Expr → Checked (List ℕ)
path_literal check env one = check (Wants type.string) one >> (or_broken (text_of one) rule.Format (expr_place env one) >>= (λ bytes.
    require (is_path bytes) rule.Format (expr_place env one) >> Ok bytes))

-- the rows that tell faults have the path `reporter` for themselves
abbrev pub log_path : Check → Env → Expr → Checked (List ℕ)
log_path check env one = path_literal check env one >>= (λ bytes. require (not (bytes_eq bytes (codes "reporter"))) rule.Twice (expr_place env one) >> Ok bytes)

-- without `$path`, that of the word's module in lower case
abbrev pub path_or_module : Place → Declared → Option (List ℕ) → Checked (List ℕ)
path_or_module place word (Some path) = Ok path
path_or_module place word None = of_module (map to_ascii_lowercase (module_of word.name))
  where
    of_module : List ℕ → Checked (List ℕ)
    of_module bytes = require (is_path bytes) rule.Format place >> (require (not (bytes_eq bytes (codes "reporter"))) rule.Twice place >> Ok bytes)

abbrev pub same_types : List ValueType → List ValueType → Bool
same_types [] [] = true
same_types (a ∷ xs) (b ∷ ys) = same_type a b && same_types xs ys
same_types xs ys = false

-- a name of a kind with parameters of these types, where they are known
abbrev pub named_signature : Env → (Meant → Option Signature) → Option (List ValueType) → Expr → Checked Declared
named_signature env kind wanted one = of_form (out-Expr one)
  where
    place : Place
    place = expr_place env one

    of_params : Option (List ValueType) → List ValueType → Checked (Unit {0})
    of_params None params = Ok tt
    of_params (Some types) params = require (same_types params types) rule.WrongType place

    of_kind : Declared → Option Signature → Checked Declared
    of_kind declared None = broken rule.WrongType place
    of_kind declared (Some signature) = params_of env.scripts signature >>= (λ params. of_params wanted params >> Ok declared)

    of_declared : Option Declared → Checked Declared
    of_declared None = broken rule.Unknown place
    of_declared (Some declared) = of_kind declared (kind declared.meant)

    of_form : Expr-F Expr Item Part Link → Checked Declared
    of_form (written.Name name) = of_declared (found env name)
    of_form other = broken rule.WrongType place

abbrev pub event_kind : Meant → Option Signature
event_kind (Event signature) = Some signature
event_kind other = None

abbrev pub hook_kind : Meant → Option Signature
hook_kind (Hook signature) = Some signature
hook_kind other = None

-- `$ev` takes the record
abbrev pub event_setting : Env → Option RecordNo → Expr → Checked EventNo
event_setting env number one =
    named_signature env event_kind (option_map (λ one. Record one ∷ []) number) one >>= (λ declared. Ok (record { 0 = number_among is_event env.scripts declared }))

-- `$policy` takes the record, the word and the filter
abbrev pub policy_setting : Env → Option RecordNo → Expr → Checked HookNo
policy_setting env number one =
    named_signature env hook_kind (option_map (λ one. Record one ∷ type.log_id ∷ Record type.filter_record ∷ []) number) one >>= (λ declared. Ok (record { 0 = number_among is_hook env.scripts declared }))

abbrev pub string_set : ValueType
string_set = Set (simple.String ∷ [])

-- the names of `set("a", "b")`
abbrev pub names_setting : Check → Env → Expr → Checked (List (List ℕ))
names_setting check env one = check (Wants string_set) one >> of_form (out-Expr one)
  where
    literal_in : Item-F Expr Item Part Link → Option (List ℕ)
    literal_in (written.Value value) = text_of value
    literal_in (written.Item::Field place name value) = None

    literal_item : Item → Checked (List ℕ)
    literal_item item = or_broken (literal_in (out-Item item)) rule.Format (expr_place env one)

    of_container : Container → List Item → Checked (List (List ℕ))
    of_container container.Set items = each literal_item items
    of_container other items = broken rule.Format (expr_place env one)

    of_form : Expr-F Expr Item Part Link → Checked (List (List ℕ))
    of_form (written.Make place made items) = of_container made items
    of_form other = broken rule.Format (expr_place env one)

abbrev pub among : List ℕ → List (List ℕ) → Bool
among name names = list_any (λ other. bytes_eq other name) names

abbrev pub setting_name : Item-F Expr Item Part Link → List (List ℕ) → List (List ℕ)
setting_name (written.Item::Field place name value) before = name.text ∷ before
setting_name (written.Value value) before = before

abbrev pub setting_rules : Check → Env → List (List ℕ) → List (List ℕ) → Item-F Expr Item Part Link → Checked (Unit {0})
setting_rules check env allowed before (written.Item::Field place name value) =
    require (among name.text allowed) rule.Field (at env place) >> require (not (among name.text before)) rule.Twice (at env place)
setting_rules check env allowed before (written.Value value) = broken_anyway (check Nothing value) rule.WrongType (expr_place env value)

-- no other settings than these, and none twice
abbrev pub only_settings : Check → Env → List (List ℕ) → List (List ℕ) → List Item → Checked (Unit {0})
only_settings check env allowed before [] = Ok tt
only_settings check env allowed before (item ∷ items) =
    both (setting_rules check env allowed before (out-Item item)) (only_settings check env allowed (setting_name (out-Item item) before) items) >> Ok tt

-- Calls --------------------------------------------------------------------------------------------------------------

abbrev pub log_form : LogCall → Typed
log_form call = typed type.bool (form.Apply (primitive.Log call) form.NoExpr)

abbrev pub log_no : Env → Declared → LogId
log_no env word = record { 0 = number_among is_log_word env.scripts word }

-- a name that no local hides
abbrev pub not_local : Env → Expr → Checked (Unit {0})
not_local env one = of_form (out-Expr one)
  where
    of_form : Expr-F Expr Item Part Link → Checked (Unit {0})
    of_form (written.Name name) = require (not (is_local env name)) rule.WrongType (expr_place env one)
    of_form other = Ok tt

-- a setting that has to be there; that it is missing is told of the brackets
abbrev pub needed : List ℕ → Place → List Item → Checked (Unit {0})
needed name brackets items = require (is_some (setting name items)) rule.Field brackets

-- what the settings of a stream are: its record type, event, path and policy
abbrev pub StreamTold : Type 0
StreamTold = (Option RecordNo × Option EventNo) × (Option (List ℕ) × Option HookNo)

-- all settings are judged, and none rests on the word of the log
abbrev pub stream_settings : Check → Env → Place → List Item → Checked (Unit {0} × StreamTold)
stream_settings check env brackets items =
    let columns = optional (not_local env) (setting (codes "columns") items) >> columns_type env.scripts env.home items in
    with_rule (both (only_settings check env (codes "columns" ∷ codes "ev" ∷ codes "path" ∷ codes "policy" ∷ []) [] items)
    (both (both columns (optional (event_setting env (if_known columns)) (setting (codes "ev") items)))
    (both (optional (log_path check env) (setting (codes "path") items)) (optional (policy_setting env (if_known columns)) (setting (codes "policy") items)))))
    (needed (codes "columns") brackets items)

-- what is wrong with the module's path is told of the call
abbrev pub create_typed : Check → Env → Place → Declared → Place → List Item → Checked Typed
create_typed check env place word brackets items = stream_settings check env brackets items >>= (λ parts.
    or_broken parts.1.0.0 rule.Field brackets >>= (λ number.
    path_or_module place word parts.1.1.0 >>= (λ path.
    Ok (log_form (log.Create (log_no env word) parts.1.0.1 path parts.1.1.1 (places_of (λ leaf. leaf.log) 0 (leaves env.scripts number)))))))

-- the columns that a filter keeps: those that are included, all where none is named, but those that are excluded
abbrev pub keeps : Option (List (List ℕ)) → Option (List (List ℕ)) → LeafInfo → Bool
keeps included excluded leaf = is_in included true && not (is_in excluded false)
  where
    is_in : Option (List (List ℕ)) → Bool → Bool
    is_in None otherwise = otherwise
    is_in (Some names) otherwise = among leaf.name names

-- what the type of a log says, where it is known
abbrev pub of_known : {A : Type 0} → Option RecordNo → (RecordNo → A) → Checked A
of_known None of_type = elsewhere
of_known (Some number) of_type = Ok (of_type number)

-- what the settings of a filter are: its name and path, the columns that it includes and excludes, and its policy
abbrev pub FilterTold : Type 0
FilterTold = (Unit {0} × (Option (List ℕ) × Option (List ℕ))) × ((Option (List (List ℕ)) × Option (List (List ℕ))) × Option HookNo)

-- the settings of a filter of a log whose record type may be known
abbrev pub filter_settings : Check → Env → Option RecordNo → Place → List Item → Checked FilterTold
filter_settings check env known brackets items =
    with_rule (both (both (only_settings check env (codes "name" ∷ codes "path" ∷ codes "include" ∷ codes "exclude" ∷ codes "policy" ∷ []) [] items)
    (both (optional (path_literal check env) (setting (codes "name") items)) (optional (log_path check env) (setting (codes "path") items))))
    (both (both (optional (names_setting check env) (setting (codes "include") items)) (optional (names_setting check env) (setting (codes "exclude") items)))
    (optional (policy_setting env known) (setting (codes "policy") items))))
    (needed (codes "name") brackets items)

abbrev pub filter_typed : Check → Env → Declared → Option RecordNo → Place → List Item → Checked Typed
filter_typed check env word known brackets items = filter_settings check env known brackets items >>= (λ parts.
    or_broken parts.0.1.0 rule.Field brackets >>= (λ name.
    of_known known (λ number. log_form (log.AddFilter (log_no env word) name parts.0.1.1 parts.1.1
    (places_of (keeps parts.1.0.0 parts.1.0.1) 0 (logged (leaves env.scripts number)))))))

abbrev pub bracketed : Expr → Option (ℕ × List Item)
bracketed one = of_form (out-Expr one)
  where
    of_form : Expr-F Expr Item Part Link → Option (ℕ × List Item)
    of_form (written.List place items) = Some (place, items)
    of_form other = None

abbrev pub with_settings : {A : Type 0} → Check → Env → (Place → List Item → Checked A) → Expr → Checked A
with_settings {A} check env typing one = of_brackets (bracketed one)
  where
    of_brackets : Option (ℕ × List Item) → Checked A
    of_brackets None = broken_anyway (check Nothing one) rule.WrongType (expr_place env one)
    of_brackets (Some items) = typing (at env items.0) items.1

abbrev pub row_wanted : Option RecordNo → Wanted
row_wanted None = Unclear
row_wanted (Some number) = Wants (Record number)

-- what a call of the log framework does with a word that has a stream and its other argument
abbrev pub log_with : Check → Env → Place → LogFunction → Declared → Option RecordNo → Expr → Checked Typed
log_with check env place CreateStream word known one = with_settings check env (create_typed check env place word) one
log_with check env place AddFilter word known one = with_settings check env (filter_typed check env word known) one
log_with check env place RemoveFilter word known one = path_literal check env one >>= (λ name. Ok (log_form (log.RemoveFilter (log_no env word) name)))
log_with check env place RemoveDefaultFilter word known one = broken rule.Arguments place
log_with check env place Write word known one = check (row_wanted known) one >>= (λ row. Ok (typed type.bool (form.Write (log_no env word) row.expr)))

-- arguments that have no place are judged by themselves
abbrev pub astray : Check → Env → List Item → Checked (List Typed)
astray check env items = each (on_item check env (check Unclear)) items

-- a function of a log with its argument, and others that have no place
abbrev pub log_arguments : Check → Env → Place → LogFunction → Declared → Option RecordNo → Item → List Item → Checked Typed
log_arguments check env place function word known one [] = on_item check env (log_with check env place function word known) one
log_arguments check env place function word known one others =
    along (broken_anyway (on_item check env (log_with check env place function word known) one) rule.Arguments place) (astray check env others)

abbrev pub log_of : Check → Env → Place → LogFunction → Declared → Option RecordNo → List Item → Checked Typed
log_of check env place RemoveDefaultFilter word known [] = Ok (log_form (log.RemoveFilter (log_no env word) (codes "default")))
log_of check env place RemoveDefaultFilter word known args = along (broken rule.Arguments place) (astray check env args)
log_of check env place function word known [] = broken rule.Arguments place
log_of check env place function word known (one ∷ others) = log_arguments check env place function word known one others

-- the word of a log that has a stream, with its record type
abbrev pub log_word : Check → Env → Expr → Checked (Declared × Option RecordNo)
log_word check env one = of_word (word_of (found env) one)
  where
    wrong : Checked (Declared × Option RecordNo)
    wrong = broken_anyway (check Nothing one) rule.WrongType (expr_place env one)

    of_type : Declared → Option (Option RecordNo) → Checked (Declared × Option RecordNo)
    of_type word None = wrong
    of_type word (Some type) = Ok (word, type)

    of_word : Option Declared → Checked (Declared × Option RecordNo)
    of_word None = wrong
    of_word (Some word) = of_type word (log_type env.scripts word.name)

-- an argument behind a word that is broken, as far as it doesn't rest on the word
abbrev pub wordless : Check → Env → LogFunction → Expr → Checked (Unit {0})
wordless check env CreateStream one = with_settings check env (λ brackets items. stream_settings check env brackets items >> Ok tt) one
wordless check env AddFilter one = with_settings check env (λ brackets items. filter_settings check env None brackets items >> Ok tt) one
wordless check env RemoveFilter one = path_literal check env one >> Ok tt
wordless check env RemoveDefaultFilter one = check Unclear one >> Ok tt
wordless check env Write one = check Unclear one >> Ok tt

abbrev pub all_wordless : Check → Env → LogFunction → List Item → Checked (Unit {0})
all_wordless check env function [] = Ok tt
all_wordless check env function (one ∷ others) = along (on_item check env (wordless check env function) one) (astray check env others)

-- the call of a function with its word and the arguments behind it
abbrev pub log_behind : Check → Env → Place → LogFunction → List Item → Checked (Declared × Option RecordNo) → Checked Typed
log_behind check env place function others (Ok word) = log_of check env place function word.0 word.1 others
log_behind check env place function others (Err rules) = along (Err rules) (all_wordless check env function others)

abbrev pub log_typed : Check → Env → Place → LogFunction → List Item → Checked Typed
log_typed check env place function [] = broken rule.Arguments place
log_typed check env place function (first ∷ others) = log_behind check env place function others (on_item check env (log_word check env) first)
