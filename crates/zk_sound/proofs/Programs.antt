-- The bodies of a typed program have the types of their declarations.
use Rattle.std.proofs.Common.{◌≡◌, ℕ, zero, suc, ◌+◌, Bool, true, false, cond, List, [], ◌∷◌, ◌++◌, length, map, filter, flat_map, Option, Some, None, Ok, Err, refl, sym, ap, subst, ◌∙◌, arith, bytes_eq}
use Rattle.std.specs.Prelude.{if◌then◌else◌, slice_get}
use Rattle.std.specs.List.{AllByRecursion}
use Rattle.zk_tree.specs.declared.decl.BodyKind.TheVariants as body
use Rattle.zk_tree.specs.declared.decl.Decl.{Decl, out-Decl}
use Rattle.zk_tree.specs.declared.decl.Decl.TheOpen.{Decl-F}
use Rattle.zk_tree.specs.declared.decl.Decl.TheOpen as decl
use Rattle.zk_tree.specs.declared.stmt.Block.{Block}
use Rattle.zk_tree.specs.declared.types.Param.{Param, out-Param}
use Rattle.zk_tree.specs.declared.types.Type.{«Type»}
use Rattle.zk_typed.specs.Checked.{Checked, ◌>>=◌, both, each}
use Rattle.zk_typed.specs.Declarations.{variable_type, variables, global_type_to, global_type}
use Rattle.zk_typed.specs.Declaring.{scripts_of}
use Rattle.zk_typed.specs.Errors.{errors, param_locals, body_context, body_made, within_of, result_wanted, kind_of, function_kind}
use Rattle.zk_typed.specs.Forms as form
use Rattle.zk_typed.specs.LoadOrder.{File, Home, Stated, load_order}
use Rattle.zk_typed.specs.Names.{Declared, Meant, Variable, Event, Signature, Written, whole_name, look_up, find_whole}
use Rattle.zk_typed.specs.Predefined as type
use Rattle.zk_typed.specs.Program.{Program, Function, Handler}
use Rattle.zk_typed.specs.Programs.{checked_or, globals_from, no_stmt, stmt_in, function_in, no_function, first_or, function_of, handler_in, typed_program, Typed}
use Rattle.zk_typed.specs.Resolving.{Scripts, type_of, maybe_type, params_of, result_of, hushed}
use Rattle.zk_typed.specs.Statements as statement
use Rattle.zk_typed.specs.Statements.{Within, InFunction, InHook, InHandler, Locals, stmt_to, body_typed}
use Rattle.zk_typed.specs.Types.{ValueType}
use Rattle.zk_typed.specs.Typing.{LocalName, wanted_of, is_variable, is_function}
use Rattle.zk_typed.specs.Within.{depth_max}
use Rattle.zk_sound.specs.Agreeing.{Agrees, LocalsAgree, StandsIn, WithinGives, StmtLogsFit}
use Rattle.zk_sound.specs.Having.{BodyFits, FunctionFits, HandlerFits}
use Rattle.zk_sound.specs.Telling.{IsDeclared, BodyIsDeclared}
use Rattle.zk_sound.specs.Worlds.{Names, global_names, event_params}
use Rattle.zk_sound.specs.Worlds as worlds
use Rattle.zk_sound.proofs.Composed.{block_well, stmt_to_well, body_form}
use Rattle.zk_sound.proofs.Growth.{all_append}
use Rattle.zk_sound.proofs.Heads.{bodies_declared}
use Rattle.zk_sound.proofs.Written.{all_met}

-- Names of bodies ----------------------------------------------------------------------------------------------------

known_type : Checked ValueType → Option ValueType
known_type (Ok of) = Some of
known_type (Err rules) = None

-- the types of locals by their numbers
names_of : Locals → Names
names_of locals = map (λ one. known_type one.type) locals

names_agree : (locals : Locals) → LocalsAgree (names_of locals) locals
unfolding names_of known_type
names_agree locals = record { of = by locals }
  where
    by : (locals : Locals) (number : ℕ) (one : LocalName) (of : ValueType) → slice_get locals number ≡ Some one → one.type ≡ Ok of → worlds.type_of (names_of locals) number ≡ Some of
    by [] number one of there is = absurd cc
    by (first ∷ locals) zero one of there is = let same : first ≡ one = cc in rw (same, is) refl
    by (first ∷ locals) (suc number) one of there is = by locals number one of there is

-- names that begin with these types
begins_with : (types : List ValueType) (names : Names) → ((number : ℕ) (of : ValueType) → slice_get types number ≡ Some of → worlds.type_of names number ≡ Some of) → (rest : Names) × (names ≡ map Some types ++ rest)
begins_with [] names agree = (names, refl)
begins_with (of ∷ types) [] agree = let none : None ≡ Some of = agree zero of refl in absurd cc
begins_with (of ∷ types) (name ∷ names) agree =
    let first : name ≡ Some of = agree zero of refl in
    let (rest, is) = begins_with types names (λ number other there. agree (suc number) other there) in
    (rest, ap (λ (n : Option ValueType). n ∷ names) first ∙ ap (λ (more : Names). Some of ∷ more) is)

params_at : (scripts : Scripts) (home : Home) (params : List Param) (types : List ValueType) → each (λ param. type_of scripts home (out-Param param).param_type) params ≡ Ok types
    → (number : ℕ) (of : ValueType) → slice_get types number ≡ Some of → (one : LocalName) × (slice_get (param_locals scripts home params) number ≡ Some one) × (one.type ≡ Ok of)
params_at scripts home [] types own number of there = let none : [] ≡ types = cc in absurd (never types none number there)
  where
    never : (types : List ValueType) → [] ≡ types → (number : ℕ) → slice_get types number ≡ Some of → ⊥
    never [] e number there = cc
    never (t ∷ types) e number there = cc
params_at scripts home (param ∷ params) types own number of there = by (type_of scripts home (out-Param param).param_type) (each (λ param. type_of scripts home (out-Param param).param_type) params) (λ more k number there. params_at scripts home params more k number of there) refl refl own number there
  where
    first_at : (t : ValueType) (more : List ValueType) → type_of scripts home (out-Param param).param_type ≡ Ok t → types ≡ t ∷ more → slice_get types zero ≡ Some of → hushed (type_of scripts home (out-Param param).param_type) ≡ Ok of
    first_at t more e same there = let here : t ≡ of = (let got : Some t ≡ Some of = rw same at there in cc) in rw (e, here) refl

    by : (t : Checked ValueType) (more : Checked (List ValueType)) → ((types : List ValueType) → each (λ param. type_of scripts home (out-Param param).param_type) params ≡ Ok types → (number : ℕ) → slice_get types number ≡ Some of → (one : LocalName) × (slice_get (param_locals scripts home params) number ≡ Some one) × (one.type ≡ Ok of))
        → type_of scripts home (out-Param param).param_type ≡ t → each (λ param. type_of scripts home (out-Param param).param_type) params ≡ more → (both t more >>= (λ parts. Ok (parts.0 ∷ parts.1))) ≡ Ok types
        → (number : ℕ) → slice_get types number ≡ Some of → (one : LocalName) × (slice_get (param_locals scripts home (param ∷ params)) number ≡ Some one) × (one.type ≡ Ok of)
    by (Err rules) more later e k own number there = absurd cc
    by (Ok t) (Err rules) later e k own number there = absurd cc
    by (Ok t) (Ok more) later e k own zero there = let same : types ≡ t ∷ more = cc in (record { name = (out-Param param).name.text; type = hushed (type_of scripts home (out-Param param).param_type) }, refl, first_at t more e same there)
    by (Ok t) (Ok more) later e k own (suc number) there = let same : types ≡ t ∷ more = cc in later more k number (rw same at there)

-- Bodies -------------------------------------------------------------------------------------------------------------

-- an empty body fits
no_body : (program : Program) (types : List ValueType) (gives : Option ValueType) → BodyFits program types gives no_stmt
no_body program types gives = record { locals = []; fits = tt }

module _ (program : Program) (scripts : Scripts) (agrees : Agrees program scripts) (globals : (number : ℕ) (of : ValueType) → global_type scripts number ≡ Ok of → worlds.type_of (global_names program) number ≡ Some of) where
  made_fits : (home : Home) (within : Within) (params : List Param) (block : Block) (types : List ValueType) (gives : Option ValueType) (made : form.Stmt) → each (λ param. type_of scripts home (out-Param param).param_type) params ≡ Ok types
      → WithinGives within gives → (body_made scripts home within params block).made ≡ Ok made → StmtLogsFit program made → BodyFits program types gives made
  made_fits home within params block types gives made own ends is logs =
      let context = body_context scripts home within in
      let locals : Locals = (body_typed context (param_locals scripts home params) block).locals in
      let names : Names = names_of locals in
      let stands : StandsIn program gives context = record { scripts = agrees; globals = globals; within = ends } in
      let agree : LocalsAgree names locals = names_agree locals in
      let first : LocalsAgree names (param_locals scripts home params) = (block_well program names gives (stmt_to depth_max) (stmt_to_well program names gives depth_max) context stands (param_locals scripts home params) block agree).0 in
      let (rest, begin) = begins_with types names (λ number of there. let (one, at, typed) = params_at scripts home params types own number of there in first.of number one of at typed) in
      record { locals = rest; fits = subst (λ (names : Names). Rattle.zk_sound.specs.Having.StmtFits program names gives made) begin (body_form program names gives context (param_locals scripts home params) block made stands agree is logs) }

  pub stated_fits : (home : Home) (within : Within) (params : List Param) (block : Block) (types : List ValueType) (gives : Option ValueType) → each (λ param. type_of scripts home (out-Param param).param_type) params ≡ Ok types
      → WithinGives within gives → StmtLogsFit program (stmt_in (body_made scripts home within params block)) → BodyFits program types gives (stmt_in (body_made scripts home within params block))
  stated_fits home within params block types gives own ends logs = by (body_made scripts home within params block).made refl
    where
      by : (made : Checked form.Stmt) → (body_made scripts home within params block).made ≡ made → BodyFits program types gives (stmt_in (body_made scripts home within params block))
      by (Ok made) is = rw is (made_fits home within params block types gives made own ends is (rw is at logs))
      by (Err rules) is = rw is (no_body program types gives)

  -- Handlers -----------------------------------------------------------------------------------------------------------

  HandlerMayFit : Handler → Type 0
  HandlerMayFit one = StmtLogsFit program one.body → HandlerFits program one

  handlers_may : (one : Stated) → BodyIsDeclared scripts one → AllByRecursion HandlerMayFit (handler_in scripts one.home (out-Decl one.decl))
  unfolding HandlerMayFit
  handlers_may one h = by (out-Decl one.decl) refl
    where
      by : (f : Decl-F Decl) → out-Decl one.decl ≡ f → AllByRecursion HandlerMayFit (handler_in scripts one.home f)
      by (decl.Body place body.Event name params attrs block) is = found (rw is at h)
        where
          found : IsDeclared scripts one.home (kind_of body.Event) params None (look_up scripts.names one.home.module_name name.text) → AllByRecursion HandlerMayFit (handler_in scripts one.home (decl.Body place body.Event name params attrs block))
          found d = rw d.there (
            (λ logs. (
              d.types,
              agrees.names.events one.home.module_name name.text d.declared d.signature d.types d.there (event_of d.declared.meant d.signature d.of_kind) d.takes,
              stated_fits one.home (within_of body.Event) params block d.types None d.own refl logs,
            )),
            tt,
          )
            where
              event_of : (meant : Meant) (signature : Signature) → kind_of body.Event meant ≡ Some signature → meant ≡ Event signature
              event_of (Event other) signature e = let same : other ≡ signature = cc in ap Event same
              event_of meant signature e = absurd cc
      by f is = tt

  -- Functions ----------------------------------------------------------------------------------------------------------

  FunctionMayFit : Function → Type 0
  FunctionMayFit one = StmtLogsFit program one.body → FunctionFits program one

  result_within : (home : Home) («result» : Option «Type») (gives : Option ValueType) → maybe_type scripts home «result» ≡ Ok gives → WithinGives (InFunction (result_wanted scripts home «result»)) gives
  result_within home None gives is = let same : gives ≡ None = cc in same
  result_within home (Some tree) gives is = by (type_of scripts home tree) refl is
    where
      by : (of : Checked ValueType) → type_of scripts home tree ≡ of → (of >>= (λ type. Ok (Some type))) ≡ Ok gives → WithinGives (InFunction (Some (wanted_of (type_of scripts home tree)))) gives
      by (Ok of) e is = rw e (let same : gives ≡ Some of = cc in same)
      by (Err rules) e is = absurd cc

  functions_may : (declared : Declared) (one : Stated) → BodyIsDeclared scripts one → AllByRecursion FunctionMayFit (function_in scripts declared one.home (out-Decl one.decl))
  unfolding FunctionMayFit
  functions_may declared one h = by (out-Decl one.decl) refl
    where
      by : (f : Decl-F Decl) → out-Decl one.decl ≡ f → AllByRecursion FunctionMayFit (function_in scripts declared one.home f)
      by (decl.Function place name params «result» block) is = found (bytes_eq (whole_name one.home.module_name name.text) declared.name)
        where
          given : statement.Stated
          given = body_made scripts one.home (InFunction (result_wanted scripts one.home «result»)) params block

          made : Function
          made = record {
            params = checked_or [] (params_of scripts (Written one.home params «result»));
            «result» = checked_or None (result_of scripts (Written one.home params «result»));
            locals = length given.locals;
            body = stmt_in given;
          }

          fits : IsDeclared scripts one.home function_kind params «result» (find_whole scripts.names one.home.module_name (whole_name one.home.module_name name.text)) → FunctionMayFit made
          fits d logs = rw (d.own, d.own_result) (stated_fits one.home (InFunction (result_wanted scripts one.home «result»)) params block d.types d.gives d.own (result_within one.home «result» d.gives d.own_result) logs)

          found : (same : Bool) → AllByRecursion FunctionMayFit (if same then made ∷ [] else [])
          found true = (fits (rw is at h), tt)
          found false = tt
      by f is = tt

  first_may : (functions : List Function) → AllByRecursion FunctionMayFit functions → FunctionMayFit (first_or no_function functions)
  unfolding FunctionMayFit
  first_may [] all = λ logs. no_body program [] None
  first_may (one ∷ functions) all = all.0

  each_function : (stated : List Stated) → AllByRecursion (BodyIsDeclared scripts) stated → (declared : Declared) → AllByRecursion FunctionMayFit (flat_map (λ one. function_in scripts declared one.home (out-Decl one.decl)) stated)
  each_function [] all declared = tt
  each_function (one ∷ stated) all declared = all_append FunctionMayFit (function_in scripts declared one.home (out-Decl one.decl)) _ (functions_may declared one all.0) (each_function stated all.1 declared)

  each_handler : (stated : List Stated) → AllByRecursion (BodyIsDeclared scripts) stated → AllByRecursion HandlerMayFit (flat_map (λ one. handler_in scripts one.home (out-Decl one.decl)) stated)
  each_handler [] all = tt
  each_handler (one ∷ stated) all = all_append HandlerMayFit (handler_in scripts one.home (out-Decl one.decl)) _ (handlers_may one all.0) (each_handler stated all.1)

  every_function : AllByRecursion (BodyIsDeclared scripts) scripts.stated → (names : List Declared) → AllByRecursion FunctionMayFit (map (function_of scripts) names)
  every_function all [] = tt
  every_function all (one ∷ names) = (first_may _ (each_function scripts.stated all one), every_function all names)

-- Globals ------------------------------------------------------------------------------------------------------------

-- a global or a constant by its number
module _ (scripts : Scripts) where
  abbrev pub IsGlobal : Declared → Type 0
  IsGlobal one = is_variable one ≡ true

  pub all_globals : (names : List Declared) → AllByRecursion IsGlobal (filter is_variable names)
  all_globals [] = tt
  all_globals (one ∷ names) = by (is_variable one) refl (all_globals names)
    where
      by : (passes : Bool) → is_variable one ≡ passes → AllByRecursion IsGlobal (filter is_variable names) → AllByRecursion IsGlobal (cond passes (one ∷ filter is_variable names) (filter is_variable names))
      by true e rest = (e, rest)
      by false e rest = rest

  pub type_at : (first : ℕ) (ones : List Declared) (number : ℕ) (one : Declared) → AllByRecursion IsGlobal ones → slice_get ones number ≡ Some one
      → worlds.type_of (map (λ one. Some one.global_type) (globals_from scripts first ones)) number ≡ Some (checked_or type.bool (global_type scripts (first + number)))
  type_at first [] number one all there = absurd cc
  type_at first (other ∷ ones) number one all there = by other.meant other number (type_at (first + 1) ones) all there
    where
      Later : Type 0
      Later = (number : ℕ) (one : Declared) → AllByRecursion IsGlobal ones → slice_get ones number ≡ Some one → worlds.type_of (map (λ one. Some one.global_type) (globals_from scripts (first + 1) ones)) number ≡ Some (checked_or type.bool (global_type scripts (first + 1 + number)))

      by : (meant : Meant) (other : Declared) (number : ℕ) → Later → (is_variable (record other { meant = meant }) ≡ true) × AllByRecursion IsGlobal ones → slice_get (record other { meant = meant } ∷ ones) number ≡ Some one
          → worlds.type_of (map (λ one. Some one.global_type) (globals_from scripts first (record other { meant = meant } ∷ ones))) number ≡ Some (checked_or type.bool (global_type scripts (first + number)))
      by (Variable home lasting tree init attrs) other zero later all there = let same : first + 0 ≡ first = omega arith in rw same refl
      by (Variable home lasting tree init attrs) other (suc number) later all there = let same : first + suc number ≡ first + 1 + number = omega arith in rw same (later number one all.1 there)
      by meant other number later all there = absurd cc

  pub globals_are : (number : ℕ) (of : ValueType) → global_type scripts number ≡ Ok of → worlds.type_of (map (λ one. Some one.global_type) (globals_from scripts 0 (variables scripts))) number ≡ Some of
  globals_are number of is = by (slice_get (variables scripts) number) refl
    where
      never : (found : Option Declared) → found ≡ None → hushed (variable_type scripts (global_type_to (length (variables scripts)) scripts) found) ≡ Ok of → ⊥
      never None e k = cc
      never (Some one) e k = cc

      by : (found : Option Declared) → slice_get (variables scripts) number ≡ found → worlds.type_of (map (λ one. Some one.global_type) (globals_from scripts 0 (variables scripts))) number ≡ Some of
      by None e = absurd (never (slice_get (variables scripts) number) e is)
      by (Some one) e = let at = type_at 0 (variables scripts) number one (all_globals scripts.names) e in
          let same : 0 + number ≡ number = omega arith in
          let typed : worlds.type_of (map (λ one. Some one.global_type) (globals_from scripts 0 (variables scripts))) number ≡ Some (checked_or type.bool (global_type scripts number)) = rw same at at in
          typed ∙ ap (λ (m : Checked ValueType). Some (checked_or type.bool m)) is

-- Typed programs -----------------------------------------------------------------------------------------------------

functions_of_files : (files : List File) → errors files ≡ [] → Agrees (typed_program files) (scripts_of files) → AllByRecursion (λ one. StmtLogsFit (typed_program files) one.body) (typed_program files).functions
    → AllByRecursion (FunctionFits (typed_program files)) (typed_program files).functions
unfolding FunctionMayFit
functions_of_files files right agrees logs = all_met (λ one. StmtLogsFit (typed_program files) one.body) (FunctionFits (typed_program files)) (typed_program files).functions
    (every_function (typed_program files) (scripts_of files) agrees (globals_are (scripts_of files)) (bodies_declared files right) (filter is_function (scripts_of files).names)) logs

handlers_of_files : (files : List File) → errors files ≡ [] → Agrees (typed_program files) (scripts_of files) → AllByRecursion (λ one. StmtLogsFit (typed_program files) one.body) (typed_program files).handlers
    → AllByRecursion (HandlerFits (typed_program files)) (typed_program files).handlers
unfolding HandlerMayFit
handlers_of_files files right agrees logs = all_met (λ one. StmtLogsFit (typed_program files) one.body) (HandlerFits (typed_program files)) (typed_program files).handlers
    (each_handler (typed_program files) (scripts_of files) agrees (globals_are (scripts_of files)) (load_order files) (bodies_declared files right)) logs

pub functions_fit : (files : List File) (program : Program) → Typed files program → Agrees program (scripts_of files) → AllByRecursion (λ one. StmtLogsFit program one.body) program.functions → AllByRecursion (FunctionFits program) program.functions
functions_fit files program typed = subst (λ (p : Program). Agrees p (scripts_of files) → AllByRecursion (λ one. StmtLogsFit p one.body) p.functions → AllByRecursion (FunctionFits p) p.functions) (sym typed.whole) (functions_of_files files typed.right)

pub handlers_fit : (files : List File) (program : Program) → Typed files program → Agrees program (scripts_of files) → AllByRecursion (λ one. StmtLogsFit program one.body) program.handlers → AllByRecursion (HandlerFits program) program.handlers
handlers_fit files program typed = subst (λ (p : Program). Agrees p (scripts_of files) → AllByRecursion (λ one. StmtLogsFit p one.body) p.handlers → AllByRecursion (HandlerFits p) p.handlers) (sym typed.whole) (handlers_of_files files typed.right)
