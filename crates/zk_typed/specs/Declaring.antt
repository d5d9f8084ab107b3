-- What the declarations of scripts declare, in load order (Zeek manual, Declarations). A function's body declares its name in
-- its module where that doesn't; a body of a handler or a hook declares its name where no declaration of it is visible.
use Rattle.std.specs.Prelude.{ℕ, ◌==◌, Bool, true, false, not, ◌||◌, List, [], ◌∷◌, ◌++◌, map, filter, flat_map, codes, Option, Some, None, Ok, is_some, if◌then◌else◌}
use Rattle.std.specs.List.{list_any}
use Rattle.std.specs.Str.{bytes_eq}
use Rattle.zk_tree.specs.declared.decl.BodyKind.{BodyKind}
use Rattle.zk_tree.specs.declared.decl.BodyKind.TheVariants as body
use Rattle.zk_tree.specs.declared.decl.Decl.{Decl, out-Decl}
use Rattle.zk_tree.specs.declared.decl.Decl.TheOpen.{Decl-F}
use Rattle.zk_tree.specs.declared.decl.Decl.TheOpen as decl
use Rattle.zk_tree.specs.declared.decl.Lasting.{Lasting}
use Rattle.zk_tree.specs.declared.name.Name.{Name}
use Rattle.zk_tree.specs.declared.stmt.Init.{Init}
use Rattle.zk_tree.specs.declared.types.Attr.{Attr}
use Rattle.zk_tree.specs.declared.types.Field.{Field}
use Rattle.zk_tree.specs.declared.types.Param.{Param}
use Rattle.zk_tree.specs.declared.types.Type.{«Type», out-Type}
use Rattle.zk_tree.specs.declared.types.Type.TheOpen.{Type-F}
use Rattle.zk_tree.specs.declared.types.Type.TheOpen as written
use Rattle.zk_typed.specs.declared.script.primitive.BuiltIn.TheVariants as built_in
use Rattle.zk_typed.specs.declared.script.types.SimpleType.TheVariants as simple
use Rattle.zk_typed.specs.Checked.{Checked}
use Rattle.zk_typed.specs.LoadOrder.{File, Home, Stated, load_order}
use Rattle.zk_typed.specs.Names.{Declared, Meant, KnownType, WrittenType, Word, Variable, Event, Hook, Function, BuiltInFunction, Log, Signature, Known, Written, CreateStream, AddFilter, RemoveFilter, RemoveDefaultFilter, Write, Node, RecordNode, EnumNode, declare, whole_name, module_in, look_up, enum_number, all_nodes, decl_nodes}
use Rattle.zk_typed.specs.Predefined as predefined
use Rattle.zk_typed.specs.Program.{Event as EventType}
use Rattle.zk_typed.specs.Resolving.{Scripts, type_named}
use Rattle.zk_typed.specs.Types.{ValueType, Simple}

-- Predefined names -------------------------------------------------------------------------------------------------

abbrev pub everywhere : List ℕ → Meant → Declared
everywhere name meant = record { name = name; exported = true; meant = meant }

-- the built-in functions by their names
abbrev pub built_ins : List Declared
built_ins =
    everywhere (codes "fmt") (BuiltInFunction built_in.Fmt) ∷
    everywhere (codes "cat") (BuiltInFunction built_in.Cat) ∷
    everywhere (codes "to_lower") (BuiltInFunction built_in.ToLower) ∷
    everywhere (codes "to_upper") (BuiltInFunction built_in.ToUpper) ∷
    everywhere (codes "sub_bytes") (BuiltInFunction built_in.SubBytes) ∷
    everywhere (codes "strstr") (BuiltInFunction built_in.Strstr) ∷
    everywhere (codes "to_count") (BuiltInFunction built_in.ToCount) ∷
    everywhere (codes "starts_with") (BuiltInFunction built_in.StartsWith) ∷
    everywhere (codes "join_string_vec") (BuiltInFunction built_in.JoinStringVec) ∷
    everywhere (codes "addr_to_counts") (BuiltInFunction built_in.AddrToCounts) ∷
    everywhere (codes "network_time") (BuiltInFunction built_in.NetworkTime) ∷
    everywhere (codes "copy") (BuiltInFunction built_in.Copy) ∷
    everywhere (codes "Log::create_stream") (Log CreateStream) ∷
    everywhere (codes "Log::add_filter") (Log AddFilter) ∷
    everywhere (codes "Log::remove_filter") (Log RemoveFilter) ∷
    everywhere (codes "Log::remove_default_filter") (Log RemoveDefaultFilter) ∷
    everywhere (codes "Log::write") (Log Write) ∷
    []

abbrev pub predefined_event : EventType → Declared
predefined_event one = everywhere one.name (Event (Known one.params))

abbrev pub predefined_names : List Declared
predefined_names =
    map (λ one. everywhere one.0 (KnownType one.1)) predefined.type_names ++
    map (λ one. everywhere one.0 (Word one.1)) predefined.words ++
    map predefined_event predefined.events ++
    built_ins

-- Declarations -----------------------------------------------------------------------------------------------------

-- a name of a type of events, hooks or functions is one of these; any other is a global or a constant
abbrev pub variable_meaning : Home → Lasting → Option «Type» → Option Init → List Attr → Meant
variable_meaning home lasting None init attrs = Variable home lasting None init attrs
variable_meaning home lasting (Some tree) init attrs = of_form (out-Type tree)
  where
    of_form : Type-F «Type» Field Param → Meant
    of_form (written.Event place params) = Event (Written home params None)
    of_form (written.Hook place params) = Hook (Written home params None)
    of_form (written.Procedure place params) = Function (Written home params None)
    of_form (written.Function place params «result») = Function (Written home params (Some «result»))
    of_form other = Variable home lasting (Some tree) init attrs

-- the name that a declaration declares outright
abbrev pub outright : Home → Decl-F Decl → List Declared
outright home (decl.Variable place lasting name tree init attrs) = declare home name (variable_meaning home lasting tree init attrs) ∷ []
outright home (decl.Type place name tree) = declare home name (WrittenType home tree) ∷ []
outright home other = []

-- the words of the enums in its text
abbrev pub node_words : List Node → Node → List Declared
node_words nodes (RecordNode home place fields) = []
node_words nodes (EnumNode home place words) = map (λ word. declare home word (Word (enum_number nodes home.file place))) words

abbrev pub words_of : Checked ValueType → Home → List Name → List Declared
words_of (Ok (Simple (simple.Enum number))) home words = map (λ word. declare home word (Word number)) words
words_of other home words = []

-- the words that `redef enum` adds, by what the name of the enum means
abbrev pub added_words : Scripts → Home → Decl-F Decl → List Declared
added_words scripts home (decl.RedefEnum place name words comma) = words_of (type_named scripts home name) home words
added_words scripts home other = []

abbrev pub outright_of : Stated → List Declared
outright_of one = outright one.home (out-Decl one.decl)

-- with the words, whose enums are found among the names that are declared outright
abbrev pub with_words : Scripts → Stated → List Declared
with_words scripts one =
    outright_of one ++ flat_map (node_words scripts.nodes) (decl_nodes one.home (out-Decl one.decl)) ++ added_words scripts one.home (out-Decl one.decl)

-- Bodies -----------------------------------------------------------------------------------------------------------

abbrev pub unless : Bool → Declared → List Declared
unless true one = []
unless false one = one ∷ []

-- a name that is in the module already
abbrev pub in_module : List Declared → Home → Name → Bool
in_module names home name = list_any (λ one. bytes_eq one.name (whole_name home.module_name name.text)) names

abbrev pub body_meaning : BodyKind → Signature → Meant
body_meaning body.Event signature = Event signature
body_meaning body.Hook signature = Hook signature

-- a name with another module before its `::`
abbrev pub is_foreign : Home → Name → Bool
is_foreign home name = of_module (module_in name.text)
  where
    of_module : Option (List ℕ) → Bool
    of_module None = false
    of_module (Some module_name) = not (bytes_eq module_name home.module_name)

-- what a body declares beside the names that there are; the name of another module is none of its own
abbrev pub by_body : List Declared → Home → Decl-F Decl → List Declared
by_body names home (decl.Body place kind name params attrs block) =
    unless (is_some (look_up names home.module_name name.text) || is_foreign home name) (declare home name (body_meaning kind (Written home params None)))
by_body names home (decl.Function place name params «result» block) =
    unless (in_module names home name || is_foreign home name) (declare home name (Function (Written home params «result»)))
by_body names home other = []

-- The round in which a declaration declares by its body: functions in the first, which declare their names whatever handlers
-- there are; then the handlers and hooks that stand in no module, since they are declarations for those in modules.
abbrev pub round_of : Stated → ℕ
round_of one = of_form (out-Decl one.decl)
  where
    of_form : Decl-F Decl → ℕ
    of_form (decl.Body place kind name params attrs block) = if bytes_eq one.home.module_name [] then 1 else 2
    of_form other = 0

abbrev pub with_bodies : List Declared → List Stated → List Declared
with_bodies names [] = names
with_bodies names (one ∷ others) = with_bodies (names ++ by_body names one.home (out-Decl one.decl)) others

abbrev pub in_round : List Stated → List Declared → ℕ → List Declared
in_round stated names round = with_bodies names (filter (λ one. round_of one == round) stated)

abbrev pub scripts_of_stated : List Stated → Scripts
scripts_of_stated stated =
    let nodes = all_nodes stated in
    let outright_names = predefined_names ++ flat_map outright_of stated in
    let known : Scripts = record { stated = stated; nodes = nodes; names = outright_names } in
    let names = predefined_names ++ flat_map (with_words known) stated in
    record {
      stated = stated;
      nodes = nodes;
      names = in_round stated (in_round stated (in_round stated names 0) 1) 2;
    }

abbrev pub scripts_of : List File → Scripts
scripts_of files = scripts_of_stated (load_order files)
