-- A field of a typed program that is marked `&log` is of a type that columns have.
use Rattle.std.proofs.Common.{◌≡◌, ℕ, ◌-◌, Bool, true, false, not, List, [], ◌∷◌, ◌++◌, filter, flat_map, length, map, codes, Option, Some, None, Ok, Err, refl, sym, ap, ◌∙◌, append-nil}
use Rattle.std.specs.Prelude.{◌||◌, if◌then◌else◌, slice_get}
use Rattle.std.specs.List.{AllByRecursion, list_all}
use Rattle.std.proofs.lemmas.Bool.{and_parts}
use Rattle.zk_base.specs.declared.numbers.RecordNo.{RecordNo}
use Rattle.zk_tree.specs.declared.decl.BodyKind.{BodyKind}
use Rattle.zk_tree.specs.declared.decl.Decl.{Decl, out-Decl}
use Rattle.zk_tree.specs.declared.decl.Decl.TheOpen.{Decl-F}
use Rattle.zk_tree.specs.declared.decl.Decl.TheOpen as decl
use Rattle.zk_tree.specs.declared.decl.Lasting.{Lasting}
use Rattle.zk_tree.specs.declared.name.Name.{Name}
use Rattle.zk_tree.specs.declared.place.Place.{Place}
use Rattle.zk_tree.specs.declared.stmt.Block.{Block}
use Rattle.zk_tree.specs.declared.stmt.Init.{Init}
use Rattle.zk_tree.specs.declared.types.Attr.{Attr}
use Rattle.zk_tree.specs.declared.types.Field.{Field, out-Field}
use Rattle.zk_tree.specs.declared.types.Param.{Param, out-Param}
use Rattle.zk_tree.specs.declared.types.Type.{«Type», out-Type, roll-Type}
use Rattle.zk_tree.specs.declared.types.Type as tree
use Rattle.zk_tree.specs.declared.types.Type.TheOpen.{Type-F}
use Rattle.zk_tree.specs.declared.types.Type.TheOpen as written
use Rattle.zk_tree.specs.declared.types.Type.TheVariants.{outs-Named}
use Rattle.zk_tree.specs.Opening.{trees}
use Rattle.zk_tree.specs.Places.{type_place}
use Rattle.zk_typed.specs.declared.rule.Rule.TheVariants as rule
use Rattle.zk_typed.specs.Checked.{Checked, broken, ◌>>=◌, both, each, require, rules_of}
use Rattle.zk_typed.specs.Columns.{record_fields}
use Rattle.zk_typed.specs.Declarations.{attr_rules, is_one_of, with_value, const_attribute, nothing, fields_rules, field_rules, nested_to, is_column, is_too_deep, parts_rules, type_rules, local_rules, maybe_rules, param_rules, recursive_rules, global_attrs}
use Rattle.zk_typed.specs.Declaring.{variable_meaning, scripts_of}
use Rattle.zk_typed.specs.Errors.{errors, init_checked, value_rules, signature_rules, no_value, bodiless_rules, variable_rules, added_rules, field_names, redef_record_rules, event_rules, function_rules, function_head, head_rules, kind_of, priority_rules, body_context, param_locals, body_made, within_of, result_wanted}
use Rattle.zk_typed.specs.LoadOrder.{File, Home, Stated, load_order}
use Rattle.zk_typed.specs.Names.{Node, RecordNode, EnumNode, Signature, Written, node, type_nodes, field_types, param_types, decl_types, decl_nodes, all_nodes, is_record, whole_name, look_up}
use Rattle.zk_typed.specs.Predefined as predefined
use Rattle.zk_typed.specs.Program.{RecordType, Field as KnownField}
use Rattle.zk_typed.specs.Programs.{checked_or, field_of, record_of, typed_program}
use Rattle.zk_typed.specs.Resolving.{Scripts, FieldInfo, place_in, hushed, type_of, type_named, deeper, fields_of, own_fields, added_fields, is_that, written_field, known_field}
use Rattle.zk_typed.specs.Statements.{Within, InFunction}
use Rattle.zk_typed.specs.Types.{ValueType, Record}
use Rattle.zk_typed.specs.Typing.{wanted_of}
use Rattle.zk_typed.specs.Within.{depth_max, within, maybe_one, mentions, local_types}
use Rattle.zk_sound.specs.Having.{FieldLogs}
use Rattle.zk_sound.proofs.Fields.{FieldWell, NodeWell, AllWell, typed_untold, field_well, well, opened, flat_within}
use Rattle.zk_sound.proofs.Growth.{all_append, all_get, all_map}
use Rattle.zk_sound.proofs.Locals.{body_known}
use Rattle.zk_sound.proofs.Tables.{all_filter}
use Rattle.zk_sound.proofs.Told.{Tells, Untold, none_told, all_types_tell, right_told, untold_both, untold_bind}

-- Signatures as types --------------------------------------------------------------------------------------------------

abbrev behind : {A : Type 0} → List A → List A
behind [] = []
behind (one ∷ others) = others

-- the types within the parameters of a signature
abbrev in_params : List Param → List «Type»
in_params params = flat_map (λ param. within (out-Param param).param_type) params

event_parts : (place : ℕ) (params : List Param) → behind (within (tree.Event place params)) ≡ in_params params
unfolding trees
event_parts place [] = refl
event_parts place (param ∷ params) = ap (λ more. within (out-Param param).param_type ++ more) (event_parts place params)

-- the parameters and the result of a type of events, hooks or functions
in_event : (t : «Type») (place : ℕ) (params : List Param) → out-Type t ≡ written.Event place params → within t ≡ t ∷ in_params params
unfolding trees roll-Type denote.Hole.Carrier.roll
in_event t place params is =
    let same : t ≡ tree.Event place params = opened t (tree.Event place params) (written.Event place params) is refl in
    ap within same ∙ (ap (λ more. tree.Event place params ∷ more) (event_parts place params) ∙ ap (λ (u : «Type»). u ∷ in_params params) (sym same))

in_hook : (t : «Type») (place : ℕ) (params : List Param) → out-Type t ≡ written.Hook place params → within t ≡ t ∷ in_params params
unfolding trees roll-Type denote.Hole.Carrier.roll
in_hook t place params is =
    let same : t ≡ tree.Hook place params = opened t (tree.Hook place params) (written.Hook place params) is refl in
    ap within same ∙ (ap (λ more. tree.Hook place params ∷ more) (event_parts place params) ∙ ap (λ (u : «Type»). u ∷ in_params params) (sym same))

in_procedure : (t : «Type») (place : ℕ) (params : List Param) → out-Type t ≡ written.Procedure place params → within t ≡ t ∷ in_params params
unfolding trees roll-Type denote.Hole.Carrier.roll
in_procedure t place params is =
    let same : t ≡ tree.Procedure place params = opened t (tree.Procedure place params) (written.Procedure place params) is refl in
    ap within same ∙ (ap (λ more. tree.Procedure place params ∷ more) (event_parts place params) ∙ ap (λ (u : «Type»). u ∷ in_params params) (sym same))

in_function : (t : «Type») (place : ℕ) (params : List Param) (given : «Type») → out-Type t ≡ written.Function place params given → within t ≡ t ∷ (in_params params ++ within given)
unfolding trees roll-Type denote.Hole.Carrier.roll
in_function t place params given is =
    let same : t ≡ tree.Function place params given = opened t (tree.Function place params given) (written.Function place params given) is refl in
    ap within same ∙ (ap (λ more. tree.Function place params given ∷ (more ++ (within given ++ []))) (event_parts place params)
    ∙ (ap (λ more. tree.Function place params given ∷ (in_params params ++ more)) (append-nil (within given))
    ∙ ap (λ (u : «Type»). u ∷ (in_params params ++ within given)) (sym same)))

-- Declarations ---------------------------------------------------------------------------------------------------------

abbrev deep_rule : (ValueType → Bool) → Home → «Type» → Checked ValueType → Checked (Unit {0})
deep_rule too_deep home one (Ok type) = require (not (too_deep type)) rule.Recursive (place_in home (type_place one))
deep_rule too_deep home one (Err rules) = Ok tt

untold_each : {A B : Type 0} (check : A → Checked B) (ones : List A) → rules_of (each check ones) ≡ [] → AllByRecursion (λ one. rules_of (check one) ≡ []) ones
untold_each check [] e = tt
untold_each check (one ∷ ones) e =
    let parts = untold_both (check one) (each check ones) (untold_bind (both (check one) (each check ones)) (λ parts. Ok (parts.0 ∷ parts.1)) e) in
    (parts.0, untold_each check ones parts.1)

-- what the types of a declaration, and the fields that it adds to a record type, are like
abbrev AddedWell : Scripts → Home → Decl-F Decl → Type 0
AddedWell scripts home (decl.RedefRecord place name fields) = AllByRecursion (FieldWell scripts home) fields
AddedWell scripts home other = Unit {0}

record DeclWell (scripts : Scripts) (one : Stated) : Type 0 where
  types : AllByRecursion (AllWell scripts one.home) (decl_types (out-Decl one.decl))
  added : AddedWell scripts one.home (out-Decl one.decl)

-- Where nothing is told of a body, nothing is of its parameters, its locals and its statements.
pub event_untold : (scripts : Scripts) (home : Home) (place : Place) (kind : BodyKind) (name : Name) (params : List Param) (attrs : List Attr) (block : Block) → rules_of (event_rules scripts home place kind name params attrs block) ≡ []
    → (rules_of (param_rules scripts home [] params) ≡ []) × (rules_of (local_rules scripts home block) ≡ []) × (rules_of (body_made scripts home (within_of kind) params block).made ≡ [])
event_untold scripts home place kind name params attrs block e =
    let head = head_rules scripts home place name (kind_of kind) params None (look_up scripts.names home.module_name name.text) in
    let marks = attr_rules home (is_one_of (codes "priority" ∷ [])) with_value (λ attr. priority_rules scripts home attr.value) [] attrs in
    let locals = local_rules scripts home block in
    let made = (body_made scripts home (within_of kind) params block).made in
    let first = both (param_rules scripts home [] params) head in
    let rest = both marks (both locals made) in
    let parts = untold_both first rest (untold_bind (both first rest) _ e) in
    let body = untold_both locals made (untold_both marks (both locals made) parts.1).1 in
    ((untold_both (param_rules scripts home [] params) head parts.0).0, body.0, body.1)

-- Nor is any of the result of a function.
pub function_untold : (scripts : Scripts) (earlier : List Stated) (home : Home) (place : Place) (name : Name) (params : List Param) («result» : Option «Type») (block : Block) → rules_of (function_rules scripts earlier home place name params «result» block) ≡ []
    → (rules_of (param_rules scripts home [] params) ≡ []) × (rules_of (maybe_rules scripts home «result») ≡ []) × (rules_of (local_rules scripts home block) ≡ []) × (rules_of (body_made scripts home (InFunction (result_wanted scripts home «result»)) params block).made ≡ [])
function_untold scripts earlier home place name params «result» block e =
    let locals = local_rules scripts home block in
    let made = (body_made scripts home (InFunction (result_wanted scripts home «result»)) params block).made in
    let first = both (param_rules scripts home [] params) (maybe_rules scripts home «result») in
    let head = function_head scripts earlier home place name params «result» (whole_name home.module_name name.text) in
    let rest = both locals made in
    let parts = untold_both first (both head rest) (untold_bind (both first (both head rest)) _ e) in
    let types = untold_both (param_rules scripts home [] params) (maybe_rules scripts home «result») parts.0 in
    let body = untold_both locals made (untold_both head rest parts.1).1 in
    (types.0, types.1, body.0, body.1)

module _ (scripts : Scripts) (tells : (home : Home) (t : «Type») → Tells (type_of scripts home t)) where
  module _ (home : Home) where
    of_parts : (too_deep : ValueType → Bool) (t : «Type») (of : ValueType) → type_of scripts home t ≡ Ok of → rules_of (parts_rules too_deep scripts home t) ≡ [] → AllWell scripts home t
    of_parts too_deep t of known e = well scripts home (tells home) depth_max t 200 of known
        (untold_both (deep_rule too_deep home t (type_of scripts home t)) (nested_to depth_max scripts home t) (untold_bind (both (deep_rule too_deep home t (type_of scripts home t)) (nested_to depth_max scripts home t)) (λ both. Ok tt) e)).1

    of_rules : (t : «Type») → rules_of (type_rules scripts home t) ≡ [] → AllWell scripts home t
    of_rules t e =
        let parts = untold_both (type_of scripts home t) (parts_rules (is_too_deep scripts) scripts home t) (untold_bind (both (type_of scripts home t) (parts_rules (is_too_deep scripts) scripts home t)) (λ both. Ok tt) e) in
        let (of, known) = right_told (type_of scripts home t) (tells home t) parts.0 in
        of_parts (is_too_deep scripts) t of known parts.1

    of_params : (before : List (List ℕ)) (params : List Param) → rules_of (param_rules scripts home before params) ≡ [] → AllByRecursion (λ param. AllWell scripts home (out-Param param).param_type) params
    of_params before [] e = tt
    of_params before (param ∷ params) e =
        let once = require (not (is_one_of before (out-Param param).name.text)) rule.Twice (place_in home (out-Param param).name.place) in
        let of = type_rules scripts home (out-Param param).param_type in
        let rest = param_rules scripts home ((out-Param param).name.text ∷ before) params in
        let parts = untold_both (both once of) rest (untold_bind (both (both once of) rest) _ e) in
        (of_rules (out-Param param).param_type (untold_both once of parts.0).1, of_params ((out-Param param).name.text ∷ before) params parts.1)

    param_list : (params : List Param) → AllByRecursion (λ param. AllWell scripts home (out-Param param).param_type) params → AllByRecursion (AllWell scripts home) (param_types params)
    param_list [] all = tt
    param_list (param ∷ params) all = (all.0, param_list params all.1)

    of_maybe : (given : Option «Type») → rules_of (maybe_rules scripts home given) ≡ [] → AllByRecursion (AllWell scripts home) (maybe_one given)
    of_maybe None e = tt
    of_maybe (Some t) e = (of_rules t e, tt)

    -- the types of the locals of a body whose rules aren't told
    of_locals : (within_it : Within) (params : List Param) (block : Block) → rules_of (local_rules scripts home block) ≡ [] → rules_of (body_made scripts home within_it params block).made ≡ [] → AllByRecursion (AllWell scripts home) (local_types block)
    of_locals within_it params block rules e =
        let context = body_context scripts home within_it in
        by (local_types block) (body_known context (param_locals scripts home params) block (tells home) e)
        (untold_each (parts_rules (is_too_deep scripts) scripts home) (local_types block) (untold_bind (each (parts_rules (is_too_deep scripts) scripts home) (local_types block)) _ rules))
      where
        by : (trees : List «Type») → AllByRecursion (λ t. (of : ValueType) × (type_of scripts home t ≡ Ok of)) trees → AllByRecursion (λ t. rules_of (parts_rules (is_too_deep scripts) scripts home t) ≡ []) trees → AllByRecursion (AllWell scripts home) trees
        by [] known all = tt
        by (t ∷ trees) known all = let (of, is) = known.0 in (of_parts (is_too_deep scripts) t of is all.0, by trees known.1 all.1)

    -- Variables --------------------------------------------------------------------------------------------------------

    -- a type of events, hooks or functions has the types of its parameters within it
    of_signature : (t : «Type») (params : List Param) → within t ≡ t ∷ in_params params → node home t ≡ [] → rules_of (param_rules scripts home [] params) ≡ [] → AllWell scripts home t
    of_signature t params is none e =
        rw is (rw none tt, flat_within (λ u. AllByRecursion (NodeWell scripts) (node home u)) (λ param. within (out-Param param).param_type) params (of_params [] params e))

    of_function : (t : «Type») (params : List Param) (given : «Type») → within t ≡ t ∷ (in_params params ++ within given) → node home t ≡ [] → rules_of (param_rules scripts home [] params) ≡ [] → rules_of (type_rules scripts home given) ≡ [] → AllWell scripts home t
    of_function t params given is none e k =
        let TreeWell : «Type» → Type 0 = λ u. AllByRecursion (NodeWell scripts) (node home u) in
        rw is (rw none tt, all_append TreeWell (in_params params) (within given) (flat_within TreeWell (λ param. within (out-Param param).param_type) params (of_params [] params e)) (of_rules given k))

    signed : (signature : Signature) (init : Option Init) (attrs : List Attr) → rules_of (bodiless_rules scripts home signature init attrs) ≡ [] → rules_of (signature_rules scripts signature) ≡ []
    signed signature init attrs e =
        let first = both (signature_rules scripts signature) (no_value scripts home init) in
        let rest = attr_rules home const_attribute with_value (λ attr. Ok tt) [] attrs in
        (untold_both (signature_rules scripts signature) (no_value scripts home init) (untold_both first rest (untold_bind (both first rest) _ e)).0).0

    signed_parts : (params : List Param) (given : Option «Type») → rules_of (signature_rules scripts (Written home params given)) ≡ [] → (rules_of (param_rules scripts home [] params) ≡ []) × (rules_of (maybe_rules scripts home given) ≡ [])
    signed_parts params given e = untold_both (param_rules scripts home [] params) (maybe_rules scripts home given) (untold_bind (both (param_rules scripts home [] params) (maybe_rules scripts home given)) _ e)

    valued : (place : Place) (t : «Type») (init : Option Init) → rules_of (value_rules scripts home place (Some t) init) ≡ [] → rules_of (type_rules scripts home t) ≡ []
    valued place t None e = untold_bind (type_rules scripts home t) _ e
    valued place t (Some one) e =
        let given = init_checked scripts home (wanted_of (type_of scripts home t)) one in
        (untold_both (type_rules scripts home t) given (untold_bind (both (type_rules scripts home t) given) _ e)).0

    of_variable : (place : Place) (lasting : Lasting) (name : Name) (given : Option «Type») (init : Option Init) (attrs : List Attr)
        → rules_of (variable_rules scripts home place name given init attrs (variable_meaning home lasting given init attrs)) ≡ [] → AllByRecursion (AllWell scripts home) (maybe_one given)
    of_variable place lasting name None init attrs e = tt
    of_variable place lasting name (Some t) init attrs e = (by (out-Type t) refl, tt)
      where
        by : (form : Type-F «Type» Field Param) → out-Type t ≡ form → AllWell scripts home t
        by (written.Event at params) is = of_signature t params (in_event t at params is) (rw is refl) (signed_parts params None (signed (Written home params None) init attrs (rw is at e))).0
        by (written.Hook at params) is = of_signature t params (in_hook t at params is) (rw is refl) (signed_parts params None (signed (Written home params None) init attrs (rw is at e))).0
        by (written.Procedure at params) is = of_signature t params (in_procedure t at params is) (rw is refl) (signed_parts params None (signed (Written home params None) init attrs (rw is at e))).0
        by (written.Function at params given) is =
            let parts = signed_parts params (Some given) (signed (Written home params (Some given)) init attrs (rw is at e)) in
            of_function t params given (in_function t at params given is) (rw is refl) parts.0 parts.1
        by form is =
            let told : rules_of (value_rules scripts home place (Some t) init >>= (λ type. global_attrs scripts home lasting (whole_name home.module_name name.text) type attrs)) ≡ [] = rw is at e in
            of_rules t (valued place t init (untold_bind (value_rules scripts home place (Some t) init) _ told))

    -- Fields that are added --------------------------------------------------------------------------------------------

    pub named_tells : (name : Name) → Tells (type_named scripts home name)
    named_tells name = let told = tells home (tree.Named name) in rw (outs-Named name) at told

    added_well : (number : ℕ) (before : List (List ℕ)) (fields : List Field)
        → rules_of (fields_rules (λ home earlier field. nothing (both (both (field_rules scripts home earlier field) (parts_rules (deeper 199 scripts) scripts home (out-Field field).field_type)) (added_rules scripts home number field))) home before fields) ≡ []
        → AllByRecursion (AllWell scripts home) (field_types fields) × AllByRecursion (FieldWell scripts home) fields
    added_well number before [] e = (tt, tt)
    added_well number before (field ∷ fields) e =
        let rules : Home → List (List ℕ) → Field → Checked (Unit {0}) = λ home earlier field. nothing (both (both (field_rules scripts home earlier field) (parts_rules (deeper 199 scripts) scripts home (out-Field field).field_type)) (added_rules scripts home number field)) in
        let own = field_rules scripts home before field in
        let parts_told = parts_rules (deeper 199 scripts) scripts home (out-Field field).field_type in
        let parts = untold_both (rules home before field) (fields_rules rules home ((out-Field field).name.text ∷ before) fields) (untold_bind (both (rules home before field) (fields_rules rules home ((out-Field field).name.text ∷ before) fields)) _ e) in
        let one = untold_both own parts_told (untold_both (both own parts_told) (added_rules scripts home number field) (untold_bind (both (both own parts_told) (added_rules scripts home number field)) _ parts.0)).0 in
        let (of, known) = right_told (type_of scripts home (out-Field field).field_type) (tells home (out-Field field).field_type) (typed_untold scripts home before field one.0) in
        let rest = added_well number ((out-Field field).name.text ∷ before) fields parts.1 in
        ((of_parts (deeper 199 scripts) (out-Field field).field_type of known one.1, rest.0), (field_well scripts home before field one.0, rest.1))

    redef_well : (before : Scripts) (name : Name) (fields : List Field) → rules_of (redef_record_rules scripts before home name fields (type_named scripts home name)) ≡ []
        → AllByRecursion (AllWell scripts home) (field_types fields) × AllByRecursion (FieldWell scripts home) fields
    redef_well before name fields e = by (type_named scripts home name) (named_tells name) e
      where
        by : (of : Checked ValueType) → Tells of → rules_of (redef_record_rules scripts before home name fields of) ≡ [] → AllByRecursion (AllWell scripts home) (field_types fields) × AllByRecursion (FieldWell scripts home) fields
        by (Ok (Record number)) h e = added_well number.0 (field_names (fields_of before number.0)) fields e
        by (Ok of) h e = let told : rules_of (broken {A = Unit {0}} rule.WrongType (place_in home name.place)) ≡ [] = e in absurd cc
        by (Err []) h e = absurd h
        by (Err (one ∷ rules)) h e = absurd cc

    -- Bodies -----------------------------------------------------------------------------------------------------------

    event_well : (place : Place) (kind : BodyKind) (name : Name) (params : List Param) (attrs : List Attr) (block : Block) → rules_of (event_rules scripts home place kind name params attrs block) ≡ []
        → AllByRecursion (AllWell scripts home) (param_types params ++ local_types block)
    event_well place kind name params attrs block e =
        let parts = event_untold scripts home place kind name params attrs block e in
        all_append (AllWell scripts home) (param_types params) (local_types block) (param_list params (of_params [] params parts.0)) (of_locals (within_of kind) params block parts.1 parts.2)

    function_well : (earlier : List Stated) (place : Place) (name : Name) (params : List Param) («result» : Option «Type») (block : Block) → rules_of (function_rules scripts earlier home place name params «result» block) ≡ []
        → AllByRecursion (AllWell scripts home) (param_types params ++ (maybe_one «result» ++ local_types block))
    function_well earlier place name params «result» block e =
        let parts = function_untold scripts earlier home place name params «result» block e in
        all_append (AllWell scripts home) (param_types params) (maybe_one «result» ++ local_types block) (param_list params (of_params [] params parts.0))
        (all_append (AllWell scripts home) (maybe_one «result») (local_types block) (of_maybe «result» parts.1) (of_locals (InFunction (result_wanted scripts home «result»)) params block parts.2 parts.3))

  decl_well : (one : Stated) → Untold scripts one → DeclWell scripts one
  decl_well one h = by (out-Decl one.decl) refl
    where
      by : (form : Decl-F Decl) → out-Decl one.decl ≡ form → DeclWell scripts one
      by (decl.Variable place lasting name given init attrs) is = let e = h.none in record { types = rw is (of_variable one.home (place_in one.home place) lasting name given init attrs (rw is at e)); added = rw is tt }
      by (decl.Type place name t) is =
          let e = h.none in
          let rules = type_rules scripts one.home t in
          let rest = recursive_rules scripts one.home (whole_name one.home.module_name name.text) (mentions t) in
          record { types = rw is (of_rules one.home t (untold_both rules rest (untold_bind (both rules rest) _ (rw is at e))).0, tt); added = rw is tt }
      by (decl.RedefRecord place name fields) is =
          let e = h.none in
          let all = redef_well one.home (record scripts { stated = h.earlier }) name fields (rw is at e) in
          record { types = rw is all.0; added = rw is all.1 }
      by (decl.Body place kind name params attrs block) is = let e = h.none in record { types = rw is (event_well one.home (place_in one.home place) kind name params attrs block (rw is at e)); added = rw is tt }
      by (decl.Function place name params «result» block) is = let e = h.none in record { types = rw is (function_well one.home h.earlier (place_in one.home place) name params «result» block (rw is at e)); added = rw is tt }
      by form is = record { types = rw is tt; added = rw is tt }

-- Record types ---------------------------------------------------------------------------------------------------------

-- the nodes of a declaration
nodes_in : (scripts : Scripts) (home : Home) (trees : List «Type») → AllByRecursion (AllWell scripts home) trees → AllByRecursion (NodeWell scripts) (flat_map (type_nodes home) trees)
nodes_in scripts home trees all = flat_within (NodeWell scripts) (type_nodes home) trees (all_map (AllWell scripts home) (λ t. AllByRecursion (NodeWell scripts) (type_nodes home t)) (λ t h. flat_within (NodeWell scripts) (node home) (within t) h) trees all)

nodes_well : (scripts : Scripts) (stated : List Stated) → AllByRecursion (DeclWell scripts) stated → AllByRecursion (NodeWell scripts) (all_nodes stated)
nodes_well scripts stated all = flat_within (NodeWell scripts) (λ one. decl_nodes one.home (out-Decl one.decl)) stated
    (all_map (DeclWell scripts) (λ one. AllByRecursion (NodeWell scripts) (decl_nodes one.home (out-Decl one.decl))) (λ one h. nodes_in scripts one.home (decl_types (out-Decl one.decl)) h.types) stated all)

-- a field that is marked `&log`, as a program has it
abbrev InfoLogs : FieldInfo → Type 0
InfoLogs info = info.log ≡ true → is_column (checked_or predefined.bool info.field_type) ≡ true

written_logs : (scripts : Scripts) (home : Home) (field : Field) → FieldWell scripts home field → InfoLogs (written_field scripts home field)
written_logs scripts home field h has = by (type_of scripts home (out-Field field).field_type) refl
  where
    by : (of : Checked ValueType) → type_of scripts home (out-Field field).field_type ≡ of → is_column (checked_or predefined.bool (hushed of)) ≡ true
    by (Ok of) e = h of e has
    by (Err rules) e = refl

all_written : (scripts : Scripts) (home : Home) (fields : List Field) → AllByRecursion (FieldWell scripts home) fields → AllByRecursion InfoLogs (map (written_field scripts home) fields)
all_written scripts home [] all = tt
all_written scripts home (field ∷ fields) all = (written_logs scripts home field all.0, all_written scripts home fields all.1)

abbrev known_logs : KnownField → Bool
known_logs field = not field.log || is_column field.field_type

all_known : (fields : List KnownField) → list_all known_logs fields ≡ true → AllByRecursion InfoLogs (map known_field fields)
all_known [] e = tt
all_known (field ∷ fields) e = let parts = and_parts (known_logs field) (list_all known_logs fields) e in (by field.log (is_column field.field_type) parts.0, all_known fields parts.1)
  where
    by : (log column : Bool) → (not log || column) ≡ true → log ≡ true → column ≡ true
    by true column e has = e
    by false column e has = absurd cc

abbrev RecordLogs : RecordType → Type 0
RecordLogs one = list_all known_logs one.fields ≡ true

all_predefined : (ones : List RecordType) → list_all (λ one. list_all known_logs one.fields) ones ≡ true → AllByRecursion RecordLogs ones
all_predefined [] e = tt
all_predefined (one ∷ ones) e = let parts = and_parts (list_all known_logs one.fields) (list_all (λ one. list_all known_logs one.fields) ones) e in (parts.0, all_predefined ones parts.1)

predefined_log : AllByRecursion RecordLogs predefined.record_types
predefined_log = all_predefined predefined.record_types refl

own_log : (scripts : Scripts) → AllByRecursion (NodeWell scripts) scripts.nodes → (number : ℕ) → AllByRecursion InfoLogs (own_fields scripts number)
own_log scripts nodes number = by (slice_get predefined.record_types number) refl
  where
    count : ℕ
    count = number - length predefined.record_types

    of_node : slice_get predefined.record_types number ≡ None → (found : Option Node) → slice_get (filter is_record scripts.nodes) count ≡ found → AllByRecursion InfoLogs (own_fields scripts number)
    of_node e None k = rw (e, k) tt
    of_node e (Some (RecordNode home place fields)) k = rw (e, k) (all_written scripts home fields (all_get (NodeWell scripts) (filter is_record scripts.nodes) count (RecordNode home place fields) k (all_filter (NodeWell scripts) is_record scripts.nodes nodes)))
    of_node e (Some (EnumNode home place words)) k = rw (e, k) tt

    by : (found : Option RecordType) → slice_get predefined.record_types number ≡ found → AllByRecursion InfoLogs (own_fields scripts number)
    by (Some one) e = rw e (all_known one.fields (all_get RecordLogs predefined.record_types number one e predefined_log))
    by None e = of_node e (slice_get (filter is_record scripts.nodes) count) refl

-- the fields that a declaration adds
abbrev in_decl : Scripts → ℕ → Home → Decl-F Decl → List FieldInfo
in_decl scripts number home (decl.RedefRecord place name fields) = if is_that number (type_named scripts home name) then map (written_field scripts home) fields else []
in_decl scripts number home other = []

added_log : (scripts : Scripts) (number : ℕ) (stated : List Stated) → AllByRecursion (DeclWell scripts) stated → AllByRecursion InfoLogs (flat_map (λ one. in_decl scripts number one.home (out-Decl one.decl)) stated)
added_log scripts number [] all = tt
added_log scripts number (one ∷ stated) all = all_append InfoLogs (in_decl scripts number one.home (out-Decl one.decl)) _ (in_one one.home (out-Decl one.decl) (let well = all.0 in well.added)) (added_log scripts number stated all.1)
  where
    in_one : (home : Home) (form : Decl-F Decl) → AddedWell scripts home form → AllByRecursion InfoLogs (in_decl scripts number home form)
    in_one home (decl.RedefRecord place name fields) h = by (is_that number (type_named scripts home name))
      where
        by : (that : Bool) → AllByRecursion InfoLogs (if that then map (written_field scripts home) fields else [])
        by true = all_written scripts home fields h
        by false = tt
    in_one home form h = tt

abbrev ProgramLogs : RecordType → Type 0
ProgramLogs one = AllByRecursion FieldLogs one.fields

all_made : (scripts : Scripts) (fields : List FieldInfo) → AllByRecursion InfoLogs fields → AllByRecursion FieldLogs (map (field_of scripts) fields)
all_made scripts [] all = tt
all_made scripts (field ∷ fields) all = (all.0, all_made scripts fields all.1)

all_records : (scripts : Scripts) → ((number : ℕ) → AllByRecursion InfoLogs (fields_of scripts number)) → (numbers : List ℕ) → AllByRecursion ProgramLogs (map (record_of scripts) numbers)
all_records scripts logs [] = tt
all_records scripts logs (number ∷ numbers) = (all_made scripts (fields_of scripts number) (logs number), all_records scripts logs numbers)

-- each field of a typed program that is marked `&log` is of a type that columns have
pub columns_of_files : (files : List File) → errors files ≡ [] → (number : RecordNo) → AllByRecursion FieldLogs (record_fields (typed_program files) number)
columns_of_files files right number = by (slice_get (typed_program files).records number.0) refl
  where
    scripts : Scripts
    scripts = scripts_of files

    decls : AllByRecursion (DeclWell scripts) (load_order files)
    decls = all_map (Untold scripts) (DeclWell scripts) (decl_well scripts (all_types_tell files right)) (load_order files) (none_told files right)

    logs : (number : ℕ) → AllByRecursion InfoLogs (fields_of scripts number)
    logs number = all_append InfoLogs (own_fields scripts number) (added_fields scripts number) (own_log scripts (nodes_well scripts (load_order files) decls) number) (added_log scripts number (load_order files) decls)

    by : (found : Option RecordType) → slice_get (typed_program files).records number.0 ≡ found → AllByRecursion FieldLogs (record_fields (typed_program files) number)
    by None is = rw is tt
    by (Some one) is = rw is (all_get ProgramLogs (typed_program files).records number.0 one is (all_records scripts logs _))
