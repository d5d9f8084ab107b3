-- Globals and constants are declared once, so what is found by a name is the global of its number.
use Rattle.std.proofs.Common.{◌≡◌, ℕ, zero, suc, ◌+◌, Bool, true, false, cond, List, [], ◌∷◌, ◌++◌, ◌==◌, find, filter, flat_map, length, map, codes, Option, Some, None, Ok, Err, refl, sym, ap, subst, ◌∙◌}
use Rattle.std.specs.Prelude.{◌||◌, if◌then◌else◌, is_some, slice_get}
use Rattle.std.specs.List.{AllByRecursion}
use Rattle.zk_agenda.specs.Laws.{SparingTablesStay}
use Rattle.zk_agenda.specs.Sparing.{Numbers, SparesStmt, Spares, Expires}
use Rattle.zk_tree.specs.declared.decl.BodyKind.TheVariants as body
use Rattle.zk_tree.specs.declared.decl.Decl.{Decl, out-Decl}
use Rattle.zk_tree.specs.declared.decl.Decl.TheOpen.{Decl-F}
use Rattle.zk_tree.specs.declared.decl.Decl.TheOpen as decl
use Rattle.zk_tree.specs.declared.decl.Lasting.{Lasting}
use Rattle.zk_tree.specs.declared.stmt.Init.{Init}
use Rattle.zk_tree.specs.declared.types.Attr.{Attr}
use Rattle.zk_tree.specs.declared.types.Type.{«Type»}
use Rattle.zk_tree.specs.declared.expiry.Expiry.{Expiry}
use Rattle.zk_tree.specs.declared.stmt.Block.{Block}
use Rattle.zk_tree.specs.declared.types.Param.{Param}
use Rattle.zk_typed.specs.Checked.{Checked}
use Rattle.zk_typed.specs.Declarations.{variables}
use Rattle.zk_typed.specs.Declaring.{predefined_names, outright_of, with_words, by_body, in_round, round_of, scripts_of_stated, scripts_of}
use Rattle.zk_typed.specs.Errors.{body_made, body_context, param_locals, within_of, result_wanted, errors}
use Rattle.zk_typed.specs.Forms as form
use Rattle.zk_typed.specs.Expressions.{has_expiry}
use Rattle.zk_typed.specs.LoadOrder.{File, Home, Stated, load_order}
use Rattle.zk_typed.specs.Names.{Declared, Meant, Variable, Written, whole_name, look_up, all_nodes}
use Rattle.zk_typed.specs.Program.{Program, Global, Function, HookBody, Handler}
use Rattle.zk_typed.specs.Programs.{checked_or, no_stmt, stmt_in, priority_of, function_in, no_function, first_or, function_of, hook_body_in, hook_of, handler_in, expiry_of, global_made, globals_from, typed_program}
use Rattle.zk_typed.specs.Resolving.{Scripts, has_attr, params_of, result_of}
use Rattle.zk_typed.specs.Statements.{Within, InFunction, Stated as Judged}
use Rattle.zk_typed.specs.Typing.{is_variable, is_function, is_hook, number_among}
use Rattle.zk_sound.specs.Agreeing.{AreApart}
use Rattle.zk_sound.proofs.Growth.{all_append}
use Rattle.zk_sound.proofs.Names.{BodiesAre, all_by_each, all_unless, found_among, behind_all}
use Rattle.zk_sound.proofs.Checks.{Sound}
use Rattle.zk_sound.proofs.Among.{Among, all_among}
use Rattle.zk_sound.proofs.Apart.{written_apart}
use Rattle.zk_sound.proofs.Once.{apart_filter, among_filter, counted_at}
use Rattle.zk_sound.proofs.Programs.{all_globals}
use Rattle.zk_sound.proofs.SparedCalls.{Frees}
use Rattle.zk_sound.proofs.SparedStmts.{body_spares}
use Rattle.zk_sound.specs.Laws.{TypedTablesStay}

-- Variables in the texts -----------------------------------------------------------------------------------------------

no_variables : (names : List Declared) → AllByRecursion (λ one. is_variable one ≡ false) names → filter is_variable names ≡ []
no_variables [] all = refl
no_variables (one ∷ names) all = by (is_variable one) all.0 (no_variables names all.1)
  where
    by : (variable : Bool) → variable ≡ false → filter is_variable names ≡ [] → cond variable (one ∷ filter is_variable names) (filter is_variable names) ≡ []
    by true e rest = absurd cc
    by false e rest = rest

filter_both : (names others : List Declared) → filter is_variable (names ++ others) ≡ filter is_variable names ++ filter is_variable others
filter_both [] others = refl
filter_both (one ∷ names) others = by (is_variable one) (filter_both names others)
  where
    by : (variable : Bool) → filter is_variable (names ++ others) ≡ filter is_variable names ++ filter is_variable others
        → cond variable (one ∷ filter is_variable (names ++ others)) (filter is_variable (names ++ others)) ≡ cond variable (one ∷ filter is_variable names) (filter is_variable names) ++ filter is_variable others
    by true rest = ap (λ (xs : List Declared). one ∷ xs) rest
    by false rest = rest

-- The globals of a program ---------------------------------------------------------------------------------------------

either : (a b : Bool) → (a || b) ≡ false → (a ≡ false) × (b ≡ false)
either true b e = absurd cc
either false b e = (refl, e)

no_attr : (name : List ℕ) (attrs : List Attr) → has_attr name attrs ≡ false → find (λ attr. Rattle.std.specs.Str.bytes_eq attr.name name) attrs ≡ None
no_attr name [] e = refl
no_attr name (attr ∷ attrs) e = by (Rattle.std.specs.Str.bytes_eq attr.name name) e (no_attr name attrs)
  where
    by : (same : Bool) → (same || has_attr name attrs) ≡ false → (has_attr name attrs ≡ false → find (λ attr. Rattle.std.specs.Str.bytes_eq attr.name name) attrs ≡ None) → cond same (Some attr) (find (λ attr. Rattle.std.specs.Str.bytes_eq attr.name name) attrs) ≡ None
    by true e rest = absurd cc
    by false e rest = rest e

no_expiry : (scripts : Scripts) (home : Home) (attrs : List Attr) → has_expiry attrs ≡ false → expiry_of scripts home attrs ≡ None
no_expiry scripts home attrs e =
    let first = either (has_attr (codes "create_expire") attrs || has_attr (codes "read_expire") attrs) (has_attr (codes "write_expire") attrs) e in
    let second = either (has_attr (codes "create_expire") attrs) (has_attr (codes "read_expire") attrs) first.0 in
    rw (no_attr (codes "create_expire") attrs second.0, no_attr (codes "read_expire") attrs second.1, no_attr (codes "write_expire") attrs first.1) refl

module _ (scripts : Scripts) where
  expiry_at : (first number : ℕ) (ones : List Declared) (one : Declared) (home : Home) (lasting : Lasting) (tree : Option «Type») (init : Option Init) (attrs : List Attr) (made : Global) → AllByRecursion (λ one. is_variable one ≡ true) ones
      → slice_get ones number ≡ Some one → one.meant ≡ Variable home lasting tree init attrs → slice_get (globals_from scripts first ones) number ≡ Some made → made.expiry ≡ expiry_of scripts home attrs
  expiry_at first number [] one home lasting tree init attrs made all there meant is = absurd cc
  expiry_at first number (other ∷ ones) one home lasting tree init attrs made all there meant is = by other.meant other number all.0 there is (λ n at found. expiry_at (first + 1) n ones one home lasting tree init attrs made all.1 at meant found)
    where
      by : (other_meant : Meant) (other : Declared) (number : ℕ) → is_variable (record other { meant = other_meant }) ≡ true → slice_get (record other { meant = other_meant } ∷ ones) number ≡ Some one
          → slice_get (globals_from scripts first (record other { meant = other_meant } ∷ ones)) number ≡ Some made
          → ((n : ℕ) → slice_get ones n ≡ Some one → slice_get (globals_from scripts (first + 1) ones) n ≡ Some made → made.expiry ≡ expiry_of scripts home attrs) → made.expiry ≡ expiry_of scripts home attrs
      by (Variable own_home own_lasting own_tree own_init own_attrs) other zero variable there is later =
          let same : Variable own_home own_lasting own_tree own_init own_attrs ≡ Variable home lasting tree init attrs = ap (λ (d : Option Declared). meaning d) there ∙ meant in
          let made_is : global_made scripts first (record other { meant = Variable own_home own_lasting own_tree own_init own_attrs }) own_home own_attrs ≡ made = cc in
          let homes : own_home ≡ home = cc in
          let attributes : own_attrs ≡ attrs = cc in
          ap (λ (g : Global). g.expiry) (sym made_is) ∙ (ap (λ (h : Home). expiry_of scripts h own_attrs) homes ∙ ap (expiry_of scripts home) attributes)
        where
          meaning : Option Declared → Meant
          meaning None = one.meant
          meaning (Some d) = d.meant
      by (Variable own_home own_lasting own_tree own_init own_attrs) other (suc n) variable there is later = later n there is
      by other_meant other number variable there is later = absurd cc

-- Scripts that break no rule -------------------------------------------------------------------------------------------

-- no body declares a variable
no_body_variable : (one : Stated) (names : List Declared) → AllByRecursion (λ one. is_variable one ≡ false) (by_body names one.home (out-Decl one.decl))
no_body_variable one names = by (out-Decl one.decl)
  where
    by : (f : Decl-F Decl) → AllByRecursion (λ one. is_variable one ≡ false) (by_body names one.home f)
    by (decl.Body place body.Event name params attrs block) = all_unless (λ one. is_variable one ≡ false) _ _ refl
    by (decl.Body place body.Hook name params attrs block) = all_unless (λ one. is_variable one ≡ false) _ _ refl
    by (decl.Function place name params «result» block) = all_unless (λ one. is_variable one ≡ false) _ _ refl
    by f = tt

-- the variables of a list are those of its front, where no others are any
front_variables : (names front more : List Declared) → names ≡ front ++ more → AllByRecursion (λ one. is_variable one ≡ false) more → filter is_variable names ≡ filter is_variable front
front_variables names front more is none = ap (filter is_variable) is ∙ (filter_both front more ∙ (ap (λ (xs : List Declared). filter is_variable front ++ xs) (no_variables more none) ∙ append_none (filter is_variable front)))
  where
    append_none : (xs : List Declared) → xs ++ [] ≡ xs
    append_none [] = refl
    append_none (x ∷ xs) = ap (λ (ys : List Declared). x ∷ ys) (append_none xs)

round_variables : (stated : List Stated) (names : List Declared) (round : ℕ) → filter is_variable (in_round stated names round) ≡ filter is_variable names
round_variables stated names round =
    let (more, is, none) = behind_all (λ one. is_variable one ≡ false) names (filter (λ one. round_of one == round) stated)
    (all_by_each (BodiesAre (λ one. is_variable one ≡ false)) no_body_variable (filter (λ one. round_of one == round) stated)) in
    front_variables (in_round stated names round) names more is none

-- all that are declared stand in the texts
variables_written : (stated : List Stated)
    → variables (scripts_of_stated stated) ≡ filter is_variable (predefined_names ++ flat_map (with_words (record { stated = stated; nodes = all_nodes stated; names = predefined_names ++ flat_map outright_of stated })) stated)
variables_written stated =
    let known : Scripts = record { stated = stated; nodes = all_nodes stated; names = predefined_names ++ flat_map outright_of stated } in
    let names = predefined_names ++ flat_map (with_words known) stated in
    round_variables stated (in_round stated (in_round stated names 0) 1) 2 ∙ (round_variables stated (in_round stated names 0) 1 ∙ round_variables stated names 0)

variable_is : (one : Declared) (home : Home) (lasting : Lasting) (tree : Option «Type») (init : Option Init) (attrs : List Attr) → one.meant ≡ Variable home lasting tree init attrs → is_variable one ≡ true
variable_is one home lasting tree init attrs is = rw is refl

module _ (files : List File) (right : errors files ≡ []) where
  apart : AreApart (variables (scripts_of files))
  apart =
      let stated : List Stated = load_order files in
      let known : Scripts = record { stated = load_order files; nodes = all_nodes (load_order files); names = predefined_names ++ flat_map outright_of (load_order files) } in
      subst AreApart (sym (variables_written stated)) (apart_filter is_variable (predefined_names ++ flat_map (with_words known) stated) (written_apart (scripts_of files) known stated right))

  -- what is found by a name and has no expiry is no global whose entries expire
  pub frees : Frees (Expires (typed_program files)) (scripts_of files)
  frees = record {
    by = λ module_name name one home lasting tree init attrs found meant free expires.
        let (made, got, has) = expires in
        let scripts : Scripts = scripts_of files in
        let among : Among one (variables scripts) = among_filter is_variable scripts.names one (found_among (λ one. Among one scripts.names) scripts.names (all_among scripts.names) module_name name one found) (variable_is one home lasting tree init attrs meant) in
        let there = counted_at (variables scripts) apart one among in
        let none : made.expiry ≡ None = expiry_at scripts 0 (number_among is_variable scripts one) (variables scripts) one home lasting tree init attrs made (all_globals scripts scripts.names) there meant got ∙ no_expiry scripts home attrs free in
        never made.expiry none has;
  }
    where
      never : (expiry : Option Expiry) → expiry ≡ None → is_some expiry ≡ true → ⊥
      never None e k = cc
      never (Some one) e k = cc

-- Bodies ---------------------------------------------------------------------------------------------------------------

stmt_spares : (spared : Numbers) (one : Judged) → Sound (SparesStmt spared) one.made → SparesStmt spared (stmt_in one)
stmt_spares spared one h = by one.made h
  where
    by : (m : Checked form.Stmt) → Sound (SparesStmt spared) m → SparesStmt spared (checked_or no_stmt m)
    by (Ok made) h = h
    by (Err rules) h = tt

module _ (spared : Numbers) (scripts : Scripts) (frees : Frees spared scripts) where
  made_spares : (home : Home) (within : Within) (params : List Param) (block : Block) → SparesStmt spared (stmt_in (body_made scripts home within params block))
  made_spares home within params block = stmt_spares spared (body_made scripts home within params block) (body_spares spared (body_context scripts home within) (param_locals scripts home params) block frees)

  abbrev FunctionSpares : Function → Type 0
  FunctionSpares one = SparesStmt spared one.body

  function_spares : (one : Declared) (home : Home) (f : Decl-F Decl) → AllByRecursion FunctionSpares (function_in scripts one home f)
  function_spares one home (decl.Function place name params «result» block) = by (Rattle.std.specs.Str.bytes_eq (whole_name home.module_name name.text) one.name)
    where
      by : (same : Bool) → AllByRecursion FunctionSpares (if same then record {
        params = checked_or [] (params_of scripts (Written home params «result»));
        «result» = checked_or None (result_of scripts (Written home params «result»));
        locals = length (body_made scripts home (InFunction (result_wanted scripts home «result»)) params block).locals;
        body = stmt_in (body_made scripts home (InFunction (result_wanted scripts home «result»)) params block);
      } ∷ [] else [])
      by true = (made_spares home (InFunction (result_wanted scripts home «result»)) params block, tt)
      by false = tt
  function_spares one home f = tt

  flat : {A B : Type 0} (P : B → Type 0) (f : A → List B) → ((a : A) → AllByRecursion P (f a)) → (ones : List A) → AllByRecursion P (flat_map f ones)
  flat P f h [] = tt
  flat P f h (one ∷ ones) = all_append P (f one) (flat_map f ones) (h one) (flat P f h ones)

  first_spares : (functions : List Function) → AllByRecursion FunctionSpares functions → FunctionSpares (first_or no_function functions)
  first_spares [] all = tt
  first_spares (one ∷ functions) all = all.0

  functions_spare : (names : List Declared) → AllByRecursion FunctionSpares (map (function_of scripts) names)
  functions_spare [] = tt
  functions_spare (one ∷ names) = (first_spares _ (flat FunctionSpares (λ stated. function_in scripts one stated.home (out-Decl stated.decl)) (λ stated. function_spares one stated.home (out-Decl stated.decl)) scripts.stated), functions_spare names)

  abbrev BodySpares : HookBody → Type 0
  BodySpares one = SparesStmt spared one.body

  hook_spares : (one : Declared) (home : Home) (f : Decl-F Decl) → AllByRecursion BodySpares (hook_body_in scripts one home f)
  hook_spares one home (decl.Body place body.Hook name params attrs block) = of_declared (look_up scripts.names home.module_name name.text) refl
    where
      made : HookBody
      made = record { priority = priority_of scripts home attrs; locals = length (body_made scripts home (within_of body.Hook) params block).locals; body = stmt_in (body_made scripts home (within_of body.Hook) params block) }

      by : (same : Bool) → AllByRecursion BodySpares (if same then made ∷ [] else [])
      by true = (made_spares home (within_of body.Hook) params block, tt)
      by false = tt

      of_declared : (found : Option Declared) → look_up scripts.names home.module_name name.text ≡ found → AllByRecursion BodySpares (hook_body_in scripts one home (decl.Body place body.Hook name params attrs block))
      of_declared None is = rw is tt
      of_declared (Some meant) is = rw is (by (Rattle.std.specs.Str.bytes_eq meant.name one.name))
  hook_spares one home f = tt

  hooks_spare : (names : List Declared) → AllByRecursion (λ hook. AllByRecursion BodySpares hook.bodies) (map (hook_of scripts) names)
  hooks_spare [] = tt
  hooks_spare (one ∷ names) = (flat BodySpares (λ stated. hook_body_in scripts one stated.home (out-Decl stated.decl)) (λ stated. hook_spares one stated.home (out-Decl stated.decl)) scripts.stated, hooks_spare names)

  abbrev HandlerSpares : Handler → Type 0
  HandlerSpares one = SparesStmt spared one.body

  handler_spares : (home : Home) (f : Decl-F Decl) → AllByRecursion HandlerSpares (handler_in scripts home f)
  handler_spares home (decl.Body place body.Event name params attrs block) = of_declared (look_up scripts.names home.module_name name.text) refl
    where
      of_declared : (found : Option Declared) → look_up scripts.names home.module_name name.text ≡ found → AllByRecursion HandlerSpares (handler_in scripts home (decl.Body place body.Event name params attrs block))
      of_declared None is = rw is tt
      of_declared (Some one) is = rw is (made_spares home (within_of body.Event) params block, tt)
  handler_spares home f = tt

program_spares : (files : List File) → errors files ≡ [] → Spares (Expires (typed_program files)) (typed_program files)
program_spares files right =
    let scripts : Scripts = scripts_of files in
    let free : Frees (Expires (typed_program files)) (scripts_of files) = frees files right in
    let spared : Numbers = Expires (typed_program files) in
    record {
      functions = functions_spare spared scripts free (filter is_function scripts.names);
      hooks = hooks_spare spared scripts free (filter is_hook scripts.names);
      handlers = flat spared scripts free (HandlerSpares spared scripts free) (λ one. handler_in scripts one.home (out-Decl one.decl)) (λ one. handler_spares spared scripts free one.home (out-Decl one.decl)) scripts.stated;
    }

-- the tables of a typed program stay those of its globals
pub tables_stay_of_files : SparingTablesStay → TypedTablesStay
tables_stay_of_files stay files program typed = stay program (subst (λ (p : Program). Spares (Expires p) p) (sym typed.whole) (program_spares files typed.right))
