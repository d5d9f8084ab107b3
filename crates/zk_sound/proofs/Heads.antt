-- Where no rule is told, the types in heads are known, and each body has the types of its declaration.
use Rattle.std.proofs.Common.{◌≡◌, ℕ, not, Bool, true, false, List, [], ◌∷◌, Option, Some, None, Ok, Err, refl, ap, ◌∙◌}
use Rattle.std.specs.Prelude.{◌&&◌, ◌||◌, is_some}
use Rattle.std.specs.List.{AllByRecursion, list_any, list_all}
use Rattle.std.proofs.lemmas.Bool.{and_parts}
use Rattle.zk_tree.specs.declared.decl.BodyKind.{BodyKind}
use Rattle.zk_tree.specs.declared.decl.BodyKind.TheVariants as body
use Rattle.zk_tree.specs.declared.decl.Decl.{Decl, out-Decl}
use Rattle.zk_tree.specs.declared.decl.Decl.TheOpen.{Decl-F}
use Rattle.zk_tree.specs.declared.decl.Decl.TheOpen as decl
use Rattle.zk_tree.specs.declared.name.Name.{Name}
use Rattle.zk_tree.specs.declared.place.Place.{Place}
use Rattle.zk_tree.specs.declared.stmt.Init.{Init}
use Rattle.zk_tree.specs.declared.types.Attr.{Attr}
use Rattle.zk_tree.specs.declared.types.Param.{Param, out-Param}
use Rattle.zk_tree.specs.declared.types.Type.{«Type»}
use Rattle.zk_typed.specs.declared.rule.Rule.{Rule}
use Rattle.zk_typed.specs.declared.rule.Rule.TheVariants as rule
use Rattle.zk_typed.specs.Checked.{Checked, broken, ◌>>=◌, ◌>>◌, both, each, require, rules_of}
use Rattle.zk_typed.specs.Declarations.{attr_rules, is_one_of, with_value, const_attribute, type_rules, maybe_rules, param_rules, local_rules, recursive_rules}
use Rattle.zk_typed.specs.Declaring.{predefined_names, in_module, is_foreign, by_body, outright_of, scripts_of}
use Rattle.zk_typed.specs.Errors as errors
use Rattle.zk_typed.specs.Errors.{signature_rules, no_value, bodiless_rules, variable_rules, same_types, same_result, matches, head_rules, kind_of, function_kind, priority_rules, within_of, result_wanted, event_rules, function_head, function_rules, body_made, is_body_of, is_built_in, decl_rules}
use Rattle.zk_typed.specs.LoadOrder.{File, Home, Stated, load_order}
use Rattle.zk_typed.specs.Names.{Declared, Meant, Event, Hook, Function, Word, Signature, Known, Written, declare, whole_name, look_up, find_whole, param_types}
use Rattle.zk_typed.specs.Operations.{same_type}
use Rattle.zk_typed.specs.Resolving.{Scripts, place_in, type_of, maybe_type, params_of, result_of, hushed}
use Rattle.zk_typed.specs.Statements.{InFunction}
use Rattle.zk_typed.specs.Types.{ValueType}
use Rattle.zk_typed.specs.Within.{mentions, maybe_one}
use Rattle.zk_sound.specs.Telling.{IsKnown, HeadIsKnown, IsDeclared, BodyIsDeclared}
use Rattle.zk_sound.proofs.Growth.{all_append, all_map}
use Rattle.zk_sound.proofs.Names.{OutrightAre, BodiesAre, all_unless, found_among, names_all}
use Rattle.zk_sound.proofs.Same.{same_type_is}
use Rattle.zk_sound.proofs.Tables.{all_find}
use Rattle.zk_sound.proofs.Told.{Tells, right_told, untold_both, untold_bind, Untold, type_untold, none_told, all_types_tell}

untold_require : {A : Type 0} (holds : Bool) (why : Rule) (place : Place) (next : Checked A) → rules_of (require holds why place >> next) ≡ [] → rules_of next ≡ []
untold_require true why place next e = e
untold_require false why place next e = absurd cc

required : (holds : Bool) (why : Rule) (place : Place) → rules_of (require holds why place) ≡ [] → holds ≡ true
required true why place e = refl
required false why place e = absurd cc

same_types_are : (a b : List ValueType) → same_types a b ≡ true → a ≡ b
same_types_are [] [] e = refl
same_types_are [] (y ∷ b) e = absurd cc
same_types_are (x ∷ a) [] e = absurd cc
same_types_are (x ∷ a) (y ∷ b) e =
    let parts = and_parts (same_type x y) (same_types a b) e in
    ap (λ (z : ValueType). z ∷ a) (same_type_is x y parts.0) ∙ ap (λ (more : List ValueType). y ∷ more) (same_types_are a b parts.1)

same_result_is : (a b : Option ValueType) → same_result a b ≡ true → a ≡ b
same_result_is None None e = refl
same_result_is None (Some b) e = absurd cc
same_result_is (Some a) None e = absurd cc
same_result_is (Some a) (Some b) e = ap Some (same_type_is a b e)

-- the types of a body and those of its declaration, where all are known
matched : (place : Place) (a : Checked (List ValueType)) (b : Checked (Option ValueType)) (c : Checked (List ValueType)) (d : Checked (Option ValueType)) (own : List ValueType) (own_result : Option ValueType) (types : List ValueType) (gives : Option ValueType)
    → a ≡ Ok own → b ≡ Ok own_result → c ≡ Ok types → d ≡ Ok gives → rules_of (both (both a b) (both c d) >>= (λ parts. require (same_types parts.0.0 parts.1.0 && same_result parts.0.1 parts.1.1) rule.Arguments place)) ≡ []
    → (own ≡ types) × (own_result ≡ gives)
matched place a b c d own own_result types gives first second third last e =
    let test : rules_of (require (same_types own types && same_result own_result gives) rule.Arguments place) ≡ [] = rw (first, second, third, last) at e in
    let parts = and_parts (same_types own types) (same_result own_result gives) (required (same_types own types && same_result own_result gives) rule.Arguments place test) in
    (same_types_are own types parts.0, same_result_is own_result gives parts.1)

module _ (scripts : Scripts) (tells : (home : Home) (tree : «Type») → Tells (type_of scripts home tree)) where
  -- Types in heads -----------------------------------------------------------------------------------------------------

  known : (home : Home) (tree : «Type») → rules_of (type_rules scripts home tree) ≡ [] → IsKnown scripts home tree
  known home tree e = right_told (type_of scripts home tree) (tells home tree) (type_untold scripts home tree e)

  abbrev ParamIsKnown : Home → Param → Type 0
  ParamIsKnown home param = IsKnown scripts home (out-Param param).param_type

  abbrev ResultIsKnown : Home → Option «Type» → Type 0
  ResultIsKnown home «result» = (gives : Option ValueType) × (maybe_type scripts home «result» ≡ Ok gives)

  params_known : (home : Home) (before : List (List ℕ)) (params : List Param) → rules_of (param_rules scripts home before params) ≡ [] → AllByRecursion (ParamIsKnown home) params
  params_known home before [] e = tt
  params_known home before (param ∷ params) e =
      let twice = require (not (is_one_of before (out-Param param).name.text)) rule.Twice (place_in home (out-Param param).name.place) in
      let of = type_rules scripts home (out-Param param).param_type in
      let more = param_rules scripts home ((out-Param param).name.text ∷ before) params in
      let parts = untold_both (both twice of) more (untold_bind (both (both twice of) more) _ e) in
      (known home (out-Param param).param_type (untold_both twice of parts.0).1, params_known home ((out-Param param).name.text ∷ before) params parts.1)

  result_known : (home : Home) («result» : Option «Type») → rules_of (maybe_rules scripts home «result») ≡ [] → ResultIsKnown home «result»
  result_known home None e = (None, refl)
  result_known home (Some tree) e = let (of, is) = known home tree e in (Some of, rw is refl)

  each_known : (home : Home) (params : List Param) → AllByRecursion (ParamIsKnown home) params
      → (types : List ValueType) × (each (λ param. type_of scripts home (out-Param param).param_type) params ≡ Ok types) × (each (λ param. hushed (type_of scripts home (out-Param param).param_type)) params ≡ Ok types)
  each_known home [] all = ([], refl, refl)
  each_known home (param ∷ params) all =
      let (of, is) = all.0 in
      let (types, plain, quiet) = each_known home params all.1 in
      (of ∷ types, rw (is, plain) refl, rw (is, quiet) refl)

  -- Declared signatures ------------------------------------------------------------------------------------------------

  SignatureIsKnown : Signature → Type 0
  SignatureIsKnown (Known params) = Unit {0}
  SignatureIsKnown (Written home params «result») = AllByRecursion (ParamIsKnown home) params × ResultIsKnown home «result»

  MeantIsKnown : Meant → Type 0
  MeantIsKnown (Event signature) = SignatureIsKnown signature
  MeantIsKnown (Hook signature) = SignatureIsKnown signature
  MeantIsKnown (Function signature) = SignatureIsKnown signature
  MeantIsKnown other = Unit {0}

  DeclaredIsKnown : Declared → Type 0
  DeclaredIsKnown one = MeantIsKnown one.meant

  signature_known : (signature : Signature) → rules_of (signature_rules scripts signature) ≡ [] → SignatureIsKnown signature
  unfolding SignatureIsKnown
  signature_known (Known params) e = tt
  signature_known (Written home params «result») e =
      let whole = both (param_rules scripts home [] params) (maybe_rules scripts home «result») in
      let parts = untold_both (param_rules scripts home [] params) (maybe_rules scripts home «result») (untold_bind whole _ e) in
      (params_known home [] params parts.0, result_known home «result» parts.1)

  bodiless_known : (home : Home) (signature : Signature) (init : Option Init) (attrs : List Attr) → rules_of (bodiless_rules scripts home signature init attrs) ≡ [] → SignatureIsKnown signature
  bodiless_known home signature init attrs e =
      let first = both (signature_rules scripts signature) (no_value scripts home init) in
      let rest = attr_rules home const_attribute with_value (λ attr. Ok tt) [] attrs in
      signature_known signature (untold_both (signature_rules scripts signature) (no_value scripts home init) (untold_both first rest (untold_bind (both first rest) _ e)).0).0

  meant_known : (home : Home) (place : Place) (name : Name) (tree : Option «Type») (init : Option Init) (attrs : List Attr) (meant : Meant) → rules_of (variable_rules scripts home place name tree init attrs meant) ≡ [] → MeantIsKnown meant
  unfolding MeantIsKnown
  meant_known home place name tree init attrs (Event signature) e = bodiless_known home signature init attrs e
  meant_known home place name tree init attrs (Hook signature) e = bodiless_known home signature init attrs e
  meant_known home place name tree init attrs (Function signature) e = bodiless_known home signature init attrs e
  meant_known home place name tree init attrs meant e = tt

  word_known : (home : Home) (name : Name) (number : ℕ) → DeclaredIsKnown (declare home name (Word number))
  unfolding DeclaredIsKnown MeantIsKnown
  word_known home name number = tt

  outright_known : (one : Stated) → Untold scripts one → OutrightAre DeclaredIsKnown one
  unfolding DeclaredIsKnown MeantIsKnown
  outright_known one h = by (out-Decl one.decl) refl
    where
      by : (form : Decl-F Decl) → out-Decl one.decl ≡ form → AllByRecursion DeclaredIsKnown (outright_of one)
      by (decl.Variable place lasting name tree init attrs) is = let e = h.none in rw is (meant_known one.home (place_in one.home place) name tree init attrs _ (rw is at e), tt)
      by (decl.Type place name tree) is = rw is (tt, tt)
      by form is = rw is tt

  -- the types in the head of a body
  event_known : (home : Home) (place : Place) (kind : BodyKind) (name : Name) (params : List Param) (attrs : List Attr) (block : _) → rules_of (event_rules scripts home place kind name params attrs block) ≡ []
      → AllByRecursion (ParamIsKnown home) params × (rules_of (head_rules scripts home place name (kind_of kind) params None (look_up scripts.names home.module_name name.text)) ≡ [])
  event_known home place kind name params attrs block e =
      let head = head_rules scripts home place name (kind_of kind) params None (look_up scripts.names home.module_name name.text) in
      let rest = both (attr_rules home (is_one_of (Rattle.std.specs.Prelude.codes "priority" ∷ [])) with_value (λ attr. priority_rules scripts home attr.value) [] attrs) (both (local_rules scripts home block) (body_made scripts home (within_of kind) params block).made) in
      let parts = untold_both (param_rules scripts home [] params) head (untold_both (both (param_rules scripts home [] params) head) rest (untold_bind (both (both (param_rules scripts home [] params) head) rest) _ e)).0 in
      (params_known home [] params parts.0, parts.1)

  function_known : (earlier : List Stated) (home : Home) (place : Place) (name : Name) (params : List Param) («result» : Option «Type») (block : _) → rules_of (function_rules scripts earlier home place name params «result» block) ≡ []
      → AllByRecursion (ParamIsKnown home) params × ResultIsKnown home «result» × (rules_of (head_rules scripts home place name function_kind params «result» (find_whole scripts.names home.module_name (whole_name home.module_name name.text))) ≡ [])
  function_known earlier home place name params «result» block e =
      let whole = whole_name home.module_name name.text in
      let first = both (param_rules scripts home [] params) (maybe_rules scripts home «result») in
      let head = function_head scripts earlier home place name params «result» whole in
      let rest = both (local_rules scripts home block) (body_made scripts home (InFunction (result_wanted scripts home «result»)) params block).made in
      let parts = untold_both first (both head rest) (untold_bind (both first (both head rest)) _ e) in
      let types = untold_both (param_rules scripts home [] params) (maybe_rules scripts home «result») parts.0 in
      let declared = find_whole scripts.names home.module_name whole in (
        params_known home [] params types.0,
        result_known home «result» types.1,
        untold_require (not (list_any (is_body_of whole) earlier || is_built_in declared)) rule.Twice place (head_rules scripts home place name function_kind params «result» declared) (untold_both head rest parts.1).0,
      )

  bodies_known : (one : Stated) → Untold scripts one → BodiesAre DeclaredIsKnown one
  unfolding DeclaredIsKnown MeantIsKnown SignatureIsKnown
  bodies_known one h names = by (out-Decl one.decl) refl
    where
      by : (form : Decl-F Decl) → out-Decl one.decl ≡ form → AllByRecursion DeclaredIsKnown (by_body names one.home (out-Decl one.decl))
      by (decl.Body place body.Event name params attrs block) is = let e = h.none in rw is (all_unless DeclaredIsKnown (is_some (look_up names one.home.module_name name.text) || is_foreign one.home name) _
          ((event_known one.home (place_in one.home place) body.Event name params attrs block (rw is at e)).0, (None, refl)))
      by (decl.Body place body.Hook name params attrs block) is = let e = h.none in rw is (all_unless DeclaredIsKnown (is_some (look_up names one.home.module_name name.text) || is_foreign one.home name) _
          ((event_known one.home (place_in one.home place) body.Hook name params attrs block (rw is at e)).0, (None, refl)))
      by (decl.Function place name params «result» block) is =
          let e = h.none in let parts = function_known h.earlier one.home (place_in one.home place) name params «result» block (rw is at e) in
          rw is (all_unless DeclaredIsKnown (in_module names one.home name || is_foreign one.home name) _ (parts.0, parts.1))
      by form is = rw is tt

  -- nothing is written of it
  is_given : Meant → Bool
  is_given (Event (Written home params «result»)) = false
  is_given (Hook (Written home params «result»)) = false
  is_given (Function (Written home params «result»)) = false
  is_given other = true

  given_known : (one : Declared) → is_given one.meant ≡ true → DeclaredIsKnown one
  unfolding is_given DeclaredIsKnown MeantIsKnown SignatureIsKnown
  given_known one h = by one.meant h
    where
      by : (meant : Meant) → is_given meant ≡ true → MeantIsKnown meant
      by (Event (Known params)) h = tt
      by (Event (Written home params «result»)) h = absurd cc
      by (Hook (Known params)) h = tt
      by (Hook (Written home params «result»)) h = absurd cc
      by (Function (Known params)) h = tt
      by (Function (Written home params «result»)) h = absurd cc
      by meant h = tt

  all_given_known : (ones : List Declared) → list_all (λ one. is_given one.meant) ones ≡ true → AllByRecursion DeclaredIsKnown ones
  all_given_known [] h = tt
  all_given_known (one ∷ ones) h = let parts = and_parts (is_given one.meant) (list_all (λ one. is_given one.meant) ones) h in (given_known one parts.0, all_given_known ones parts.1)

  predefined_known : AllByRecursion DeclaredIsKnown predefined_names
  unfolding is_given
  predefined_known = all_given_known predefined_names refl

  -- Bodies and their declarations --------------------------------------------------------------------------------------

  abbrev Asks : (Meant → Option Signature) → Type 0
  Asks kind = (meant : Meant) (signature : Signature) → kind meant ≡ Some signature → MeantIsKnown meant → SignatureIsKnown signature

  asks_event : Asks (kind_of body.Event)
  unfolding MeantIsKnown
  asks_event (Event other) signature is h = let same : other ≡ signature = cc in rw (← same) h
  asks_event meant signature is h = absurd cc

  asks_hook : Asks (kind_of body.Hook)
  unfolding MeantIsKnown
  asks_hook (Hook other) signature is h = let same : other ≡ signature = cc in rw (← same) h
  asks_hook meant signature is h = absurd cc

  asks_function : Asks function_kind
  unfolding MeantIsKnown
  asks_function (Function other) signature is h = let same : other ≡ signature = cc in rw (← same) h
  asks_function meant signature is h = absurd cc

  signature_types : (signature : Signature) → SignatureIsKnown signature → (types : List ValueType) × (gives : Option ValueType) × (params_of scripts signature ≡ Ok types) × (result_of scripts signature ≡ Ok gives)
  unfolding SignatureIsKnown
  signature_types (Known params) h = (params, None, refl, refl)
  signature_types (Written home params «result») h =
      let (types, plain, quiet) = each_known home params h.0 in
      let (gives, is) = h.1 in
      (types, gives, rw plain refl, rw is refl)

  declared : (home : Home) (place : Place) (name : Name) (kind : Meant → Option Signature) (params : List Param) («result» : Option «Type») (found : Option Declared) → Asks kind → ((one : Declared) → found ≡ Some one → DeclaredIsKnown one)
      → AllByRecursion (ParamIsKnown home) params → ResultIsKnown home «result» → rules_of (head_rules scripts home place name kind params «result» found) ≡ [] → IsDeclared scripts home kind params «result» found
  unfolding DeclaredIsKnown
  declared home place name kind params «result» None asks all own given e = absurd cc
  declared home place name kind params «result» (Some one) asks all own given e = by (kind one.meant) refl
    where
      by : (signature : Option Signature) → kind one.meant ≡ signature → IsDeclared scripts home kind params «result» (Some one)
      by None is = let told : rules_of (broken {A = Unit {0}} rule.WrongType (place_in home name.place)) ≡ [] = rw is at e in absurd cc
      by (Some signature) is =
          let untold : rules_of (matches scripts home place params «result» signature) ≡ [] = rw is at e in
          let (types, gives, takes, results) = signature_types signature (asks one.meant signature is (all one refl)) in
          let (own_types, plain, quiet) = each_known home params own in
          let (own_gives, given_is) = given in
          let same = matched place (each (λ param. hushed (type_of scripts home (out-Param param).param_type)) params) (hushed (maybe_type scripts home «result»)) (params_of scripts signature) (result_of scripts signature) own_types own_gives types gives
          quiet (ap hushed given_is) takes results untold in
          record {
            declared = one;
            there = refl;
            signature = signature;
            of_kind = is;
            types = types;
            gives = gives;
            takes = takes;
            result_is = results;
            own = plain ∙ ap Ok same.0;
            own_result = given_is ∙ ap Ok same.1;
          }

  module _ (names : AllByRecursion DeclaredIsKnown scripts.names) where
    body_declared : (one : Stated) → Untold scripts one → BodyIsDeclared scripts one
    body_declared one h = by (out-Decl one.decl) refl
      where
        by : (form : Decl-F Decl) → out-Decl one.decl ≡ form → BodyIsDeclared scripts one
        by (decl.Body place body.Event name params attrs block) is =
            let e = h.none in let parts = event_known one.home (place_in one.home place) body.Event name params attrs block (rw is at e) in
            rw is (declared one.home (place_in one.home place) name (kind_of body.Event) params None (look_up scripts.names one.home.module_name name.text) asks_event (found_among DeclaredIsKnown scripts.names names one.home.module_name name.text) parts.0 (None, refl) parts.1)
        by (decl.Body place body.Hook name params attrs block) is =
            let e = h.none in let parts = event_known one.home (place_in one.home place) body.Hook name params attrs block (rw is at e) in
            rw is (declared one.home (place_in one.home place) name (kind_of body.Hook) params None (look_up scripts.names one.home.module_name name.text) asks_hook (found_among DeclaredIsKnown scripts.names names one.home.module_name name.text) parts.0 (None, refl) parts.1)
        by (decl.Function place name params «result» block) is =
            let e = h.none in let parts = function_known h.earlier one.home (place_in one.home place) name params «result» block (rw is at e) in
            let whole = whole_name one.home.module_name name.text in
            rw is (declared one.home (place_in one.home place) name function_kind params «result» (find_whole scripts.names one.home.module_name whole) asks_function (λ one there. all_find DeclaredIsKnown _ scripts.names one there names) parts.0 parts.1 parts.2)
        by form is = rw is tt

  -- Heads ----------------------------------------------------------------------------------------------------------------

  types_in : (home : Home) (params : List Param) → AllByRecursion (ParamIsKnown home) params → AllByRecursion (IsKnown scripts home) (param_types params)
  types_in home [] all = tt
  types_in home (param ∷ params) all = (all.0, types_in home params all.1)

  result_in : (home : Home) («result» : Option «Type») → ResultIsKnown home «result» → AllByRecursion (IsKnown scripts home) (maybe_one «result»)
  result_in home None given = tt
  result_in home (Some tree) (gives, is) = by (type_of scripts home tree) refl is
    where
      by : (of : Checked ValueType) → type_of scripts home tree ≡ of → (of >>= (λ type. Ok (Some type))) ≡ Ok gives → AllByRecursion (IsKnown scripts home) (tree ∷ [])
      by (Ok of) e is = ((of, e), tt)
      by (Err rules) e is = absurd cc

  head_known : (one : Stated) → Untold scripts one → HeadIsKnown scripts one
  head_known one h = by (out-Decl one.decl) refl
    where
      by : (form : Decl-F Decl) → out-Decl one.decl ≡ form → HeadIsKnown scripts one
      by (decl.Type place name tree) is =
          let e = h.none in
          let rules = type_rules scripts one.home tree in
          let rest = recursive_rules scripts one.home (whole_name one.home.module_name name.text) (mentions tree) in
          rw is (known one.home tree (untold_both rules rest (untold_bind (both rules rest) _ (rw is at e))).0, tt)
      by (decl.Body place kind name params attrs block) is = let e = h.none in rw is (types_in one.home params (event_known one.home (place_in one.home place) kind name params attrs block (rw is at e)).0)
      by (decl.Function place name params «result» block) is =
          let e = h.none in let parts = function_known h.earlier one.home (place_in one.home place) name params «result» block (rw is at e) in
          rw is (all_append (IsKnown scripts one.home) (param_types params) (maybe_one «result») (types_in one.home params parts.0) (result_in one.home «result» parts.1))
      by form is = rw is tt

-- Scripts that break no rule -------------------------------------------------------------------------------------------

module _ (files : List File) (right : errors.errors files ≡ []) where
  all_tell : (home : Home) (tree : «Type») → Tells (type_of (scripts_of files) home tree)
  all_tell = all_types_tell files right

  all_names_known : AllByRecursion (DeclaredIsKnown (scripts_of files) all_tell) (scripts_of files).names
  all_names_known = names_all (DeclaredIsKnown (scripts_of files) all_tell) (word_known (scripts_of files) all_tell) (load_order files) (predefined_known (scripts_of files) all_tell)
      (all_map _ _ (outright_known (scripts_of files) all_tell) (load_order files) (none_told files right)) (all_map _ _ (bodies_known (scripts_of files) all_tell) (load_order files) (none_told files right))

  pub heads_known : AllByRecursion (HeadIsKnown (scripts_of files)) (load_order files)
  heads_known = all_map _ _ (head_known (scripts_of files) all_tell) (load_order files) (none_told files right)

  pub bodies_declared : AllByRecursion (BodyIsDeclared (scripts_of files)) (load_order files)
  bodies_declared = all_map _ _ (body_declared (scripts_of files) all_tell all_names_known) (load_order files) (none_told files right)
