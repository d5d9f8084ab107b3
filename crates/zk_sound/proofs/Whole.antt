-- A typed program that says what its scripts say is one whose bodies, values and fields have the types of their places.
use Rattle.std.proofs.Common.{◌≡◌, ◌==◌, ℕ, zero, suc, ◌+◌, Bool, true, false, List, [], ◌∷◌, ◌++◌, length, map, filter, flat_map, Some, None, Ok, refl, sym, ap, subst, ◌∙◌, arith, append_assoc, bytes_eq}
use Rattle.std.specs.Prelude.{if◌then◌else◌, slice_get}
use Rattle.std.specs.List.{AllByRecursion}
use Rattle.std.specs.Option.{option_map}
use Rattle.std.proofs.lemmas.Slice.Eq.{bytes_eq-Decides}
use Rattle.zk_base.specs.declared.numbers.HookNo.{HookNo}
use Rattle.zk_tree.specs.declared.decl.BodyKind.TheVariants as body
use Rattle.zk_tree.specs.declared.decl.Decl.{Decl, out-Decl}
use Rattle.zk_tree.specs.declared.decl.Decl.TheOpen.{Decl-F}
use Rattle.zk_tree.specs.declared.decl.Decl.TheOpen as decl
use Rattle.zk_typed.specs.Declaring.{predefined_names, with_words, round_of, in_round, scripts_of_stated, scripts_of}
use Rattle.zk_typed.specs.Errors.{errors, kind_of, body_made, within_of}
use Rattle.zk_typed.specs.LoadOrder.{File, Stated, load_order}
use Rattle.zk_typed.specs.Names.{Declared, Meant, Hook, Signature, look_up, count_before}
use Rattle.zk_typed.specs.Predefined.{filter_record, zeek_init, zeek_done}
use Rattle.zk_typed.specs.Program.{Program, Global, HookBody, Hook as ProgramHook}
use Rattle.zk_typed.specs.Programs.{numbers_from, record_of, event_of, hook_body_in, hook_of, priority_of, stmt_in, typed_program, Typed}
use Rattle.zk_typed.specs.Resolving.{Scripts}
use Rattle.zk_typed.specs.Types.{ValueType}
use Rattle.zk_typed.specs.Typing.{is_event, is_hook, number_among}
use Rattle.zk_sound.specs.Agreeing.{Agrees, AreApart, BodyBegins, IsWritten, StmtLogsFit, SaysItsScripts}
use Rattle.zk_sound.specs.Having.{FilterTypes, ExpiryTakes, ValuesFit, GlobalFits, HookBodyFits, HookFits, ProgramFits}
use Rattle.zk_sound.specs.Holding.{field_types}
use Rattle.zk_sound.specs.Telling.{IsDeclared, BodyIsDeclared}
use Rattle.zk_sound.specs.Worlds.{global_names, hook_params, event_params}
use Rattle.zk_sound.specs.Worlds as worlds
use Rattle.zk_sound.proofs.Apart.{declared_once}
use Rattle.zk_sound.proofs.Columns.{columns_of_files}
use Rattle.zk_sound.proofs.Growth.{all_append, all_map}
use Rattle.zk_sound.proofs.Heads.{bodies_declared}
use Rattle.zk_sound.proofs.Initials.{fields_begin, values_fit}
use Rattle.zk_sound.proofs.Names.{BodiesAre, all_by_each, behind_all}
use Rattle.zk_sound.proofs.Numbers.{fields_of_files}
use Rattle.zk_sound.proofs.Objects.{got_map}
use Rattle.zk_sound.proofs.Once.{names_agree_by, hooks_once_by}
use Rattle.zk_sound.proofs.Programs.{globals_are, stated_fits, functions_fit, handlers_fit}
use Rattle.zk_sound.proofs.Words.{words_are, logs_are}
use Rattle.zk_sound.proofs.Written.{all_met}

-- What every program has ---------------------------------------------------------------------------------------------

record_seven : (scripts : Scripts) (count : ℕ) → slice_get (map (record_of scripts) (numbers_from 0 (8 + count))) 7 ≡ Some (record_of scripts 7)
record_seven scripts count = let same : 8 + count ≡ suc (suc (suc (suc (suc (suc (suc (suc count))))))) = omega arith in rw same refl

filter_types : (files : List File) → FilterTypes (field_types (typed_program files) filter_record)
filter_types files = rw (record_seven (scripts_of files) _) (_, refl)

-- the predefined names stand first
names_behind : (stated : List Stated) → (more : List Declared) × ((scripts_of_stated stated).names ≡ predefined_names ++ more)
names_behind stated =
    let known : Scripts = record { stated = stated; nodes = Rattle.zk_typed.specs.Names.all_nodes stated; names = predefined_names ++ flat_map Rattle.zk_typed.specs.Declaring.outright_of stated } in
    let words = flat_map (with_words known) stated in
    let (first, one) = round_behind stated (predefined_names ++ words) 0 in
    let (second, two) = round_behind stated (in_round stated (predefined_names ++ words) 0) 1 in
    let (third, three) = round_behind stated (in_round stated (in_round stated (predefined_names ++ words) 0) 1) 2 in (
      words ++ (first ++ (second ++ third)),
      three ∙ (ap (λ (names : List Declared). names ++ third) two ∙ (ap (λ (names : List Declared). (names ++ second) ++ third) one
          ∙ (append_assoc ((predefined_names ++ words) ++ first) second third ∙ (append_assoc (predefined_names ++ words) first (second ++ third) ∙ append_assoc predefined_names words (first ++ (second ++ third)))))),
    )
  where
    round_behind : (stated : List Stated) (names : List Declared) (round : ℕ) → (more : List Declared) × (in_round stated names round ≡ names ++ more)
    round_behind stated names round =
        let (more, is, all) = behind_all (λ one. Unit {0}) names (filter (λ one. round_of one == round) stated) (all_by_each (BodiesAre (λ one. Unit {0})) (λ one names. all_by_each (λ one. Unit {0}) (λ one. tt) _) _) in
        (more, is)

first_events : (scripts : Scripts) (names more : List Declared) → names ≡ predefined_names ++ more
    → (option_map (λ one. one.params) (slice_get (map (event_of scripts) (filter is_event names)) 0) ≡ Some []) × (option_map (λ one. one.params) (slice_get (map (event_of scripts) (filter is_event names)) 1) ≡ Some [])
first_events scripts names more is = rw is (refl, refl)

events_of_files : (files : List File) → (event_params (typed_program files) zeek_init ≡ Some []) × (event_params (typed_program files) zeek_done ≡ Some [])
events_of_files files = let (more, is) = names_behind (load_order files) in first_events (scripts_of files) (scripts_of files).names more is

-- Hooks --------------------------------------------------------------------------------------------------------------

module _ (program : Program) (scripts : Scripts) (agrees : Agrees program scripts) (says : SaysItsScripts program scripts) (globals : (number : ℕ) (of : ValueType) → Rattle.zk_typed.specs.Declarations.global_type scripts number ≡ Ok of → worlds.type_of (global_names program) number ≡ Some of) where
  -- a body of the hook of a number, where what it says of logs fits
  abbrev BodyMayFit : List ValueType → HookBody → Type 0
  BodyMayFit params one = StmtLogsFit program one.body → HookBodyFits program params one

  bodies_may : (number : ℕ) (one : Declared) (params : List ValueType) → number_among is_hook scripts one ≡ number → hook_params program (record { 0 = number }) ≡ Some params → (stated : Stated) → BodyIsDeclared scripts stated
      → AllByRecursion (BodyMayFit params) (hook_body_in scripts one stated.home (out-Decl stated.decl))
  bodies_may number one params at known stated h = by (out-Decl stated.decl) refl
    where
      by : (f : Decl-F Decl) → out-Decl stated.decl ≡ f → AllByRecursion (BodyMayFit params) (hook_body_in scripts one stated.home f)
      by (decl.Body place body.Hook name hook_own attrs block) is = found (rw is at h)
        where
          made : HookBody
          made = record { priority = priority_of scripts stated.home attrs; locals = length (body_made scripts stated.home (within_of body.Hook) hook_own block).locals; body = stmt_in (body_made scripts stated.home (within_of body.Hook) hook_own block) }

          hook_is : (meant : Meant) (signature : Signature) → kind_of body.Hook meant ≡ Some signature → meant ≡ Hook signature
          hook_is (Hook other) signature e = let same : other ≡ signature = cc in ap Hook same
          hook_is meant signature e = absurd cc

          fits : (d : IsDeclared scripts stated.home (kind_of body.Hook) hook_own None (look_up scripts.names stated.home.module_name name.text)) → bytes_eq d.declared.name one.name ≡ true → BodyMayFit params made
          fits d same logs =
              let named : d.declared.name ≡ one.name = (bytes_eq-Decides d.declared.name one.name).0 same in
              let number_is : number_among is_hook scripts d.declared ≡ number = ap (λ (text : List ℕ). count_before (λ other. bytes_eq other.name text) (filter is_hook scripts.names)) named ∙ at in
              let there : hook_params program (record { 0 = number_among is_hook scripts d.declared }) ≡ Some d.types = agrees.names.hooks stated.home.module_name name.text d.declared d.signature d.types d.there (hook_is d.declared.meant d.signature d.of_kind) d.takes in
              let types : Some d.types ≡ Some params = sym there ∙ ap (λ (n : ℕ). let hook : HookNo = record { 0 = n } in hook_params program hook) number_is ∙ known in
              let are : d.types ≡ params = cc in
              subst (λ (types : List ValueType). Rattle.zk_sound.specs.Having.BodyFits program types None made.body) are
              (stated_fits program scripts agrees globals stated.home (within_of body.Hook) hook_own block d.types None d.own refl logs)

          found : IsDeclared scripts stated.home (kind_of body.Hook) hook_own None (look_up scripts.names stated.home.module_name name.text) → AllByRecursion (BodyMayFit params) (hook_body_in scripts one stated.home (decl.Body place body.Hook name hook_own attrs block))
          found d = rw d.there (named (bytes_eq d.declared.name one.name) refl)
            where
              named : (same : Bool) → bytes_eq d.declared.name one.name ≡ same → AllByRecursion (BodyMayFit params) (if same then made ∷ [] else [])
              named true e = (fits d e, tt)
              named false e = tt
      by f is = tt

  each_body : (number : ℕ) (one : Declared) (params : List ValueType) → number_among is_hook scripts one ≡ number → hook_params program (record { 0 = number }) ≡ Some params → (stated : List Stated) → AllByRecursion (BodyIsDeclared scripts) stated
      → AllByRecursion (BodyMayFit params) (flat_map (λ stated. hook_body_in scripts one stated.home (out-Decl stated.decl)) stated)
  each_body number one params at known [] all = tt
  each_body number one params at known (stated ∷ others) all = all_append (BodyMayFit params) (hook_body_in scripts one stated.home (out-Decl stated.decl)) _ (bodies_may number one params at known stated all.0) (each_body number one params at known others all.1)

  abbrev BodiesLogFit : ProgramHook → Type 0
  BodiesLogFit hook = AllByRecursion (λ one. StmtLogsFit program one.body) hook.bodies

  hooks_from : AllByRecursion (BodyIsDeclared scripts) scripts.stated → (ones : List Declared)
      → ((number : ℕ) (one : Declared) → slice_get ones number ≡ Some one → (at : ℕ) × (number_among is_hook scripts one ≡ at) × (hook_params program (record { 0 = at }) ≡ Some (hook_of scripts one).params))
      → AllByRecursion BodiesLogFit (map (hook_of scripts) ones) → AllByRecursion (HookFits program) (map (hook_of scripts) ones)
  hooks_from all [] there logs = tt
  hooks_from all (one ∷ ones) there logs =
      let (at, number, known) = there zero one refl in (
        all_met (λ one. StmtLogsFit program one.body) (HookBodyFits program (hook_of scripts one).params) (hook_of scripts one).bodies (each_body at one (hook_of scripts one).params number known scripts.stated all) logs.0,
        hooks_from all ones (λ number other is. there (suc number) other is) logs.1,
      )

once_of : (files : List File) → errors files ≡ [] → SaysItsScripts (typed_program files) (scripts_of files) → AreApart (scripts_of files).names
once_of files right says = declared_once files right (all_map IsWritten (λ one. BodyBegins (out-Decl one.decl)) (λ one h. h.body) (load_order files) says.written)

agrees_whole : (files : List File) → errors files ≡ [] → SaysItsScripts (typed_program files) (scripts_of files) → Agrees (typed_program files) (scripts_of files)
agrees_whole files right says = record { fields = fields_of_files files; names = names_agree_by files right (once_of files right says) (words_are files says.written) }

hooks_of_files : (files : List File) → errors files ≡ [] → SaysItsScripts (typed_program files) (scripts_of files) → AllByRecursion (HookFits (typed_program files)) (typed_program files).hooks
hooks_of_files files right says = hooks_from (typed_program files) (scripts_of files) (agrees_whole files right says) says (globals_are (scripts_of files)) (bodies_declared files right) (filter is_hook (scripts_of files).names)
    (λ number one is. (number, hooks_once_by files right (once_of files right says) number one is, ap (option_map (λ hook. hook.params)) (got_map (hook_of (scripts_of files)) (filter is_hook (scripts_of files).names) number ∙ ap (option_map (hook_of (scripts_of files))) is))) says.hooks

-- The whole program --------------------------------------------------------------------------------------------------

globals_whole : (program : Program) (globals : List Global) → AllByRecursion (ValuesFit program) globals → AllByRecursion (λ one. ExpiryTakes program one.global_type one.expire_func) globals → AllByRecursion (GlobalFits program) globals
globals_whole program [] values expiry = tt
globals_whole program (one ∷ globals) values expiry = (record { initial = values.0.0; added = values.0.1; expiry = expiry.0 }, globals_whole program globals values.1 expiry.1)

whole_of_files : (files : List File) → errors files ≡ [] → SaysItsScripts (typed_program files) (scripts_of files) → ProgramFits (typed_program files)
whole_of_files files right says =
    let typed : Typed files (typed_program files) = record { right = right; whole = refl } in
    record {
      fields = fields_begin files (typed_program files) typed;
      columns = columns_of_files files right;
      logs = logs_are files says.written;
      filter = filter_types files;
      begins = (events_of_files files).0;
      ends = (events_of_files files).1;
      globals = globals_whole (typed_program files) (typed_program files).globals (values_fit files (typed_program files) typed (agrees_whole files right says) says.values) says.expiry;
      functions = functions_fit files (typed_program files) typed (agrees_whole files right says) says.functions;
      hooks = hooks_of_files files right says;
      handlers = handlers_fit files (typed_program files) typed (agrees_whole files right says) says.handlers;
    }

pub whole_fits : (files : List File) (program : Program) → Typed files program → SaysItsScripts program (scripts_of files) → ProgramFits program
whole_fits files program typed = subst (λ (p : Program). SaysItsScripts p (scripts_of files) → ProgramFits p) (sym typed.whole) (whole_of_files files typed.right)
