-- What a type is rests on names and on the types in the texts, and on no order of declarations.
use Rattle.std.proofs.Common.{◌≡◌, ◌≤◌, ◌+◌, ◌-◌, ◌++◌, ℕ, zero, suc, Bool, true, false, List, [], length, map, filter, flat_map, codes, slice_get, if◌then◌else◌, Option, Some, None, Ok, refl, ap, sym, ◌∙◌, arith}
use Rattle.std.specs.Option.{option_map}
use Rattle.std.proofs.lemmas.Option.{slice_get_past}
use Rattle.std.specs.List.{list_any}
use Rattle.zk_tree.specs.declared.name.Name.{Name}
use Rattle.zk_tree.specs.declared.place.Place.{Place}
use Rattle.zk_tree.specs.declared.decl.Decl.{Decl, out-Decl}
use Rattle.zk_tree.specs.declared.decl.Decl.TheOpen.{Decl-F}
use Rattle.zk_tree.specs.declared.decl.Decl.TheOpen as decl
use Rattle.zk_tree.specs.declared.types.Field.{Field, out-Field}
use Rattle.zk_tree.specs.declared.types.Param.{Param}
use Rattle.zk_tree.specs.declared.types.Type.{«Type», out-Type}
use Rattle.zk_tree.specs.declared.types.Type.TheOpen.{Type-F}
use Rattle.zk_tree.specs.declared.types.Type.TheOpen as written
use Rattle.zk_tree.specs.Places.{type_place}
use Rattle.zk_typed.specs.declared.rule.Rule.TheVariants.{Unknown, WrongType}
use Rattle.zk_typed.specs.declared.script.types.SimpleType.{SimpleType}
use Rattle.zk_typed.specs.declared.script.types.SimpleType.TheVariants as simple
use Rattle.zk_typed.specs.Checked.{Checked, broken, elsewhere, ◌>>=◌, both, each}
use Rattle.zk_typed.specs.LoadOrder.{Home, Stated}
use Rattle.zk_typed.specs.Names.{Declared, Meant, KnownType, WrittenType, Node, RecordNode, EnumNode, is_record, look_up, record_number, enum_number}
use Rattle.zk_typed.specs.Predefined.{record_no, record_types}
use Rattle.zk_typed.specs.Resolving.{Scripts, leads, leads_by, leads_to, named_type, next_text, followed, followed_to, known_type, place_in, as_key, simple_of, type_named, type_of, type_to, unless_deep, FieldInfo, attr_value, fields_of, has_attr, hushed, is_that, known_field, own_fields, written_field}
use Rattle.zk_typed.specs.Types.{ValueType, Simple, Record, Table, Set, Vector}
use Rattle.zk_typed.specs.Within.{mentions}
use Rattle.zk_scope.specs.Fields.{decl_fields, node_fields, own_of, predefined_fields, stated_fields}
use Rattle.zk_scope.proofs.FieldLaws.{own_is}

-- scripts with other declarations
abbrev pub with_stated : Scripts → List Stated → Scripts
with_stated scripts stated = record scripts { stated = stated }

same_leads_to : (most : ℕ) (scripts : Scripts) (stated : List Stated) → leads_to most (with_stated scripts stated) ≡ leads_to most scripts
same_leads_to zero scripts stated = refl
same_leads_to (suc most) scripts stated =
    ap (λ (before : List ℕ → Home → Name → Bool). λ target home name. leads_by (before target) target (look_up scripts.names home.module_name name.text)) (same_leads_to most scripts stated)

same_leads : (scripts : Scripts) (stated : List Stated) → leads (with_stated scripts stated) ≡ leads scripts
same_leads scripts stated = same_leads_to (suc (length scripts.names)) scripts stated

-- the type that a name means, by what leads where
abbrev named_by : (List ℕ → Home → Name → Bool) → (Home → «Type» → Checked ValueType) → Place → Option Declared → Checked ValueType
named_by leads check place None = broken Unknown place
named_by leads check place (Some one) = of_meant one.meant
  where
    of_meant : Meant → Checked ValueType
    of_meant (KnownType type) = Ok type
    of_meant (WrittenType home tree) = elim (list_any (leads one.name home) (mentions tree)) [
      | true ↦ elsewhere
      | false ↦ unless_deep place (check home tree)
    ]
    of_meant other = broken WrongType place

named_is : (scripts : Scripts) (check : Home → «Type» → Checked ValueType) (place : Place) (found : Option Declared) → named_type check scripts place found ≡ named_by (leads scripts) check place found
named_is scripts check place found = refl

abbrev Naming : Type 0
Naming = (Home → «Type» → Checked ValueType) → Place → Option Declared → Checked ValueType

same_naming : (scripts : Scripts) (stated : List Stated) → Path Naming (λ check. named_type check (with_stated scripts stated)) (λ check. named_type check scripts)
same_naming scripts stated = ap (λ (leads : List ℕ → Home → Name → Bool). λ check place found. named_by leads check place found) (same_leads scripts stated)

abbrev Following : Type 0
Following = Home → «Type» → Option (Home × «Type»)

abbrev by_next : Following → Home → «Type» → Option (Home × «Type») → Option (Home × «Type»)
by_next before home tree None = Some (home, tree)
by_next before home tree (Some next) = before next.0 next.1

next_is : (most : ℕ) (scripts : Scripts) (home : Home) (tree : «Type») → followed_to (suc most) scripts home tree ≡ by_next (followed_to most scripts) home tree (next_text scripts home tree)
next_is most scripts home tree = refl

same_followed_to : (most : ℕ) (scripts : Scripts) (stated : List Stated) → followed_to most (with_stated scripts stated) ≡ followed_to most scripts
same_followed_to zero scripts stated = refl
same_followed_to (suc most) scripts stated =
    ap (λ (before : Following). λ (home : Home) (tree : «Type»). by_next before home tree (next_text scripts home tree)) (same_followed_to most scripts stated)

same_followed : (scripts : Scripts) (stated : List Stated) → followed (with_stated scripts stated) ≡ followed scripts
same_followed scripts stated = same_followed_to (suc (length scripts.names)) scripts stated

-- a type by its form, by what names mean and by the types in the texts
abbrev formed_by : List Declared → (ℕ → ℕ → ℕ) → (ℕ → ℕ → ℕ) → (Home → «Type» → Checked ValueType) → Home → «Type» → Checked ValueType
formed_by names record_at enum_at check home tree = of_form (out-Type tree)
  where
    key : «Type» → Checked SimpleType
    key one = check home one >>= as_key (place_in home (type_place one))

    of_form : Type-F «Type» Field Param → Checked ValueType
    of_form (written.Atomic place atomic) = Ok (Simple (simple_of atomic))
    of_form (written.Named name) = known_type (place_in home name.place) (look_up names home.module_name name.text)
    of_form (written.Table place keys value) = both (each key keys) (check home value) >>= (λ parts. Ok (Table parts.0 parts.1))
    of_form (written.Set place keys) = each key keys >>= (λ parts. Ok (Set parts))
    of_form (written.Vector place item) = check home item >>= (λ part. Ok (Vector part))
    of_form (written.Record place fields) = Ok (Record (record_no (record_at home.file place)))
    of_form (written.Enum place words comma) = Ok (Simple (simple.Enum (enum_at home.file place)))
    of_form other = broken WrongType (place_in home (type_place tree))

abbrev behind_by : Following → (Home → «Type» → Checked ValueType) → Home → «Type» → Checked ValueType
behind_by following form home tree = of_end (following home tree)
  where
    of_end : Option (Home × «Type») → Checked ValueType
    of_end None = elsewhere
    of_end (Some end) = form end.0 end.1

abbrev name_by : Naming → Following → List Declared → (Home → «Type» → Checked ValueType) → Home → Name → Checked ValueType
name_by naming following names form home name = naming (behind_by following form) (place_in home name.place) (look_up names home.module_name name.text)

abbrev type_by : Naming → Following → List Declared → (Home → «Type» → Checked ValueType) → Home → «Type» → Checked ValueType
type_by naming following names form home tree = of_form (out-Type tree)
  where
    of_form : Type-F «Type» Field Param → Checked ValueType
    of_form (written.Named name) = name_by naming following names form home name
    of_form other = form home tree

-- the forms of types whose parts nest at most so deep
abbrev form_to : ℕ → Scripts → Home → «Type» → Checked ValueType
form_to depth scripts = formed_by scripts.names (record_number scripts.nodes) (enum_number scripts.nodes) (type_to depth scripts)

type_is : (depth : ℕ) (scripts : Scripts) → type_to (suc depth) scripts ≡ type_by (λ check. named_type check scripts) (followed scripts) scripts.names (form_to depth scripts)
type_is depth scripts = refl

same_form : (depth : ℕ) (scripts : Scripts) (stated : List Stated) → type_to depth (with_stated scripts stated) ≡ type_to depth scripts → form_to depth (with_stated scripts stated) ≡ form_to depth scripts
same_form depth scripts stated same = ap (formed_by scripts.names (record_number scripts.nodes) (enum_number scripts.nodes)) same

same_type_to : (depth : ℕ) (scripts : Scripts) (stated : List Stated) → type_to depth (with_stated scripts stated) ≡ type_to depth scripts
same_type_to zero scripts stated = refl
same_type_to (suc depth) scripts stated =
    type_is depth (with_stated scripts stated) ∙
    ap (λ (naming : Naming). type_by naming (followed (with_stated scripts stated)) scripts.names (form_to depth (with_stated scripts stated))) (same_naming scripts stated) ∙
    ap (λ (following : Following). type_by (λ check. named_type check scripts) following scripts.names (form_to depth (with_stated scripts stated))) (same_followed scripts stated) ∙
    ap (type_by (λ check. named_type check scripts) (followed scripts) scripts.names) (same_form depth scripts stated (same_type_to depth scripts stated)) ∙
    sym (type_is depth scripts)

pub same_type_of : (scripts : Scripts) (stated : List Stated) → type_of (with_stated scripts stated) ≡ type_of scripts
same_type_of = same_type_to 200

name_is : (scripts : Scripts) → type_named scripts ≡ name_by (λ check. named_type check scripts) (followed scripts) scripts.names (form_to 199 scripts)
name_is scripts = refl

pub same_type_named : (scripts : Scripts) (stated : List Stated) → type_named (with_stated scripts stated) ≡ type_named scripts
same_type_named scripts stated =
    name_is (with_stated scripts stated) ∙
    ap (λ (naming : Naming). name_by naming (followed (with_stated scripts stated)) scripts.names (form_to 199 (with_stated scripts stated))) (same_naming scripts stated) ∙
    ap (λ (following : Following). name_by (λ check. named_type check scripts) following scripts.names (form_to 199 (with_stated scripts stated))) (same_followed scripts stated) ∙
    ap (name_by (λ check. named_type check scripts) (followed scripts) scripts.names) (same_form 199 scripts stated (same_type_to 199 scripts stated)) ∙
    sym (name_is scripts)

-- The fields of record types, with the declarations that add some.

abbrev written_by : (Home → «Type» → Checked ValueType) → Home → Field → FieldInfo
written_by check home field = record {
  name = (out-Field field).name.text;
  field_type = hushed (check home (out-Field field).field_type);
  log = has_attr (codes "log") (out-Field field).attrs;
  wire = has_attr (codes "wire") (out-Field field).attrs;
  optional = has_attr (codes "optional") (out-Field field).attrs;
  default = attr_value (codes "default") (out-Field field).attrs;
  home = home;
}

same_written : (scripts : Scripts) (stated : List Stated) → written_field (with_stated scripts stated) ≡ written_field scripts
same_written scripts stated = ap (λ (check : Home → «Type» → Checked ValueType). written_by check) (same_type_of scripts stated)

abbrev node_by : (Home → Field → FieldInfo) → Option Node → List FieldInfo
node_by written None = []
node_by written (Some (RecordNode home place fields)) = map (written home) fields
node_by written (Some (EnumNode home place words)) = []

same_node : (scripts : Scripts) (stated : List Stated) (node : Option Node) → node_fields (with_stated scripts stated) node ≡ node_fields scripts node
same_node scripts stated node = ap (λ (written : Home → Field → FieldInfo). node_by written node) (same_written scripts stated)

same_own_of : (scripts : Scripts) (stated : List Stated) (number : ℕ) (found : Option (List FieldInfo)) → own_of (with_stated scripts stated) number found ≡ own_of scripts number found
same_own_of scripts stated number (Some fields) = refl
same_own_of scripts stated number None = same_node scripts stated (slice_get (filter is_record scripts.nodes) (number - 8))

pub same_own : (scripts : Scripts) (stated : List Stated) (number : ℕ) → own_fields (with_stated scripts stated) number ≡ own_fields scripts number
same_own scripts stated number =
    own_is (with_stated scripts stated) number ∙ same_own_of scripts stated number (predefined_fields number) ∙ sym (own_is scripts number)

abbrev Added : Type 0
Added = Home → Decl-F Decl → List FieldInfo

abbrev added_by : ℕ → (Home → Name → Checked ValueType) → (Home → Field → FieldInfo) → Added
added_by number naming written home (decl.RedefRecord place name fields) = if is_that number (naming home name) then map (written home) fields else []
added_by number naming written home other = []

same_added : (scripts : Scripts) (stated : List Stated) (number : ℕ) → Path Added (decl_fields (with_stated scripts stated) number) (decl_fields scripts number)
same_added scripts stated number =
    ap (λ (naming : Home → Name → Checked ValueType). added_by number naming (written_field (with_stated scripts stated))) (same_type_named scripts stated) ∙
    ap (added_by number (type_named scripts)) (same_written scripts stated)

-- the fields of a record type where these declarations are all
pub fields_among : (scripts : Scripts) (stated : List Stated) (number : ℕ) →
    fields_of (with_stated scripts stated) number ≡ own_fields scripts number ++ flat_map (stated_fields scripts number) stated
fields_among scripts stated number =
    ap (λ own. own ++ flat_map (stated_fields (with_stated scripts stated) number) stated) (same_own scripts stated number) ∙
    ap (λ (added : Added). own_fields scripts number ++ flat_map (λ one. added one.home (out-Decl one.decl)) stated) (same_added scripts stated number)

-- no number past the record types is that of one with fields of its own
pub own_past : (scripts : Scripts) (number : ℕ) → 8 + length (filter is_record scripts.nodes) ≤ number → own_fields scripts number ≡ []
own_past scripts number past =
    own_is scripts number ∙
    ap (λ found. own_of scripts number (option_map (λ one. map known_field one.fields) found)) (slice_get_past record_types number (omega arith)) ∙
    ap (node_fields scripts) (slice_get_past (filter is_record scripts.nodes) (number - 8) (omega arith))
