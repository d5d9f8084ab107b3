-- Where each name is declared once, its number among its kind is that of its declaration.
use Rattle.std.proofs.Common.{◌≡◌, ◌≢◌, ◌⊎◌, inl, inr, ℕ, zero, suc, Bool, true, false, cond, List, [], ◌∷◌, map, filter, find, flat_map, length, Option, Some, None, Ok, refl, sym, ap, ◌∙◌, bytes_eq}
use Rattle.std.specs.Prelude.{if◌then◌else◌, slice_get, ◌&&◌, ◌||◌}
use Rattle.std.specs.List.{AllByRecursion}
use Rattle.std.specs.Option.{option_map}
use Rattle.std.proofs.lemmas.Bool.{and_parts}
use Rattle.std.proofs.lemmas.Slice.Eq.{bytes_eq-Decides}
use Rattle.zk_tree.specs.declared.decl.Decl.{Decl, out-Decl}
use Rattle.zk_tree.specs.declared.decl.Decl.TheOpen.{Decl-F}
use Rattle.zk_tree.specs.declared.decl.Decl.TheOpen as decl
use Rattle.zk_typed.specs.Declaring.{scripts_of}
use Rattle.zk_typed.specs.Errors.{errors, body_made, result_wanted, function_kind}
use Rattle.zk_typed.specs.LoadOrder.{File, Stated, load_order}
use Rattle.zk_typed.specs.LogCalls.{is_log_word, stream_type}
use Rattle.zk_typed.specs.Names.{Declared, Meant, Word, Function, Signature, Written, whole_name, is_open, look_up, find_whole, first_of, count_before}
use Rattle.zk_typed.specs.Program.{Function as Body}
use Rattle.zk_typed.specs.Programs.{checked_or, function_in, no_function, first_or, function_of, stmt_in, signature_of, hook_of, event_of, typed_program}
use Rattle.zk_typed.specs.Resolving.{Scripts, params_of, result_of}
use Rattle.zk_typed.specs.Checked.{Checked}
use Rattle.zk_typed.specs.declared.script.program.Log.{Log}
use Rattle.zk_typed.specs.Statements.{InFunction}
use Rattle.zk_typed.specs.Types.{ValueType}
use Rattle.zk_typed.specs.Typing.{is_event, is_hook, is_function, number_among}
use Rattle.zk_sound.specs.Agreeing.{NamesAgree, AreApart}
use Rattle.zk_sound.specs.Having.{MayGive}
use Rattle.zk_sound.specs.Holding.{is_word}
use Rattle.zk_sound.specs.Telling.{IsDeclared, BodyIsDeclared}
use Rattle.zk_sound.proofs.Among.{Among}
use Rattle.zk_sound.proofs.Growth.{all_append}
use Rattle.zk_sound.proofs.Heads.{bodies_declared}
use Rattle.zk_sound.proofs.Objects.{got_map}

pub apart_filter : (test : Declared → Bool) (names : List Declared) → AreApart names → AreApart (filter test names)
apart_filter test [] h = tt
apart_filter test (one ∷ names) h = by (test one) (apart_filter test names h.1)
  where
    fewer : (others : List Declared) → AllByRecursion (λ other. one.name ≢ other.name) others → AllByRecursion (λ other. one.name ≢ other.name) (filter test others)
    fewer [] all = tt
    fewer (other ∷ others) all = keep (test other) (fewer others all.1)
      where
        keep : (passes : Bool) → AllByRecursion (λ other. one.name ≢ other.name) (filter test others) → AllByRecursion (λ other. one.name ≢ other.name) (cond passes (other ∷ filter test others) (filter test others))
        keep true rest = (all.0, rest)
        keep false rest = rest

    by : (passes : Bool) → AreApart (filter test names) → AreApart (cond passes (one ∷ filter test names) (filter test names))
    by true rest = (fewer names h.0, rest)
    by false rest = rest

pub among_filter : (test : Declared → Bool) (names : List Declared) (one : Declared) → Among one names → test one ≡ true → Among one (filter test names)
among_filter test [] one h e = absurd h
among_filter test (other ∷ names) one (inl is) e = by (test other) (ap test is ∙ e)
  where
    by : (passes : Bool) → passes ≡ true → Among one (cond passes (other ∷ filter test names) (filter test names))
    by true k = inl is
    by false k = absurd cc
among_filter test (other ∷ names) one (inr more) e = by (test other) (among_filter test names one more e)
  where
    by : (passes : Bool) → Among one (filter test names) → Among one (cond passes (other ∷ filter test names) (filter test names))
    by true rest = inr rest
    by false rest = rest

among_find : (test : Declared → Bool) (names : List Declared) (one : Declared) → find test names ≡ Some one → Among one names × (test one ≡ true)
among_find test [] one is = absurd cc
among_find test (other ∷ names) one is = by (test other) refl (among_find test names one) is
  where
    by : (passes : Bool) → test other ≡ passes → (find test names ≡ Some one → Among one names × (test one ≡ true)) → cond passes (Some other) (find test names) ≡ Some one → Among one (other ∷ names) × (test one ≡ true)
    by true e rest is = let same : other ≡ one = cc in (inl same, ap test (sym same) ∙ e)
    by false e rest is = let found = rest is in (inr found.0, found.1)

never_among : (one other : Declared) (others : List Declared) → AllByRecursion (λ more. other.name ≢ more.name) others → Among one others → other.name ≡ one.name → ⊥
never_among one other [] all h e = h
never_among one other (first ∷ others) all (inl is) e = all.0 (e ∙ ap (λ (d : Declared). d.name) (sym is))
never_among one other (first ∷ others) all (inr more) e = never_among one other others all.1 more e

-- of one name there is one
one_named : (names : List Declared) → AreApart names → (a b : Declared) → Among a names → Among b names → a.name ≡ b.name → a ≡ b
one_named [] apart a b h k e = absurd h
one_named (x ∷ names) apart a b (inl h) (inl k) e = sym h ∙ k
one_named (x ∷ names) apart a b (inl h) (inr k) e = absurd (never_among b x names apart.0 k (ap (λ (d : Declared). d.name) h ∙ e))
one_named (x ∷ names) apart a b (inr h) (inl k) e = absurd (never_among a x names apart.0 h (ap (λ (d : Declared). d.name) k ∙ sym e))
one_named (x ∷ names) apart a b (inr h) (inr k) e = one_named names apart.1 a b h k e

-- so it is found where it is counted to
pub counted_at : (names : List Declared) → AreApart names → (one : Declared) → Among one names → slice_get names (count_before (λ other. bytes_eq other.name one.name) names) ≡ Some one
counted_at [] apart one h = absurd h
counted_at (x ∷ names) apart one h = by (bytes_eq x.name one.name) refl (counted_at names apart.1 one) h
  where
    by : (same : Bool) → bytes_eq x.name one.name ≡ same → (Among one names → slice_get names (count_before (λ other. bytes_eq other.name one.name) names) ≡ Some one) → Among one (x ∷ names)
        → slice_get (x ∷ names) (elim same [ true ↦ 0 | false ↦ suc (count_before (λ other. bytes_eq other.name one.name) names) ]) ≡ Some one
    by true e rest (inl is) = ap Some is
    by true e rest (inr more) = absurd (never_among one x names apart.0 more ((bytes_eq-Decides x.name one.name).0 e))
    by false e rest (inl is) = absurd (never (sym e ∙ (bytes_eq-Decides x.name one.name).1 (ap (λ (d : Declared). d.name) is)))
      where
        never : false ≡ true → ⊥
        never e = cc
    by false e rest (inr more) = rest more

counted_to : (names : List Declared) → AreApart names → (number : ℕ) (one : Declared) → slice_get names number ≡ Some one → count_before (λ other. bytes_eq other.name one.name) names ≡ number
counted_to [] apart number one is = absurd cc
counted_to (x ∷ names) apart zero one is = let same : x ≡ one = cc in let eq : bytes_eq x.name one.name ≡ true = (bytes_eq-Decides x.name one.name).1 (ap (λ (d : Declared). d.name) same) in first (bytes_eq x.name one.name) eq
  where
    first : (same : Bool) → same ≡ true → ◌≡◌ {A = ℕ} (elim same [ true ↦ 0 | false ↦ suc (count_before (λ other. bytes_eq other.name one.name) names) ]) 0
    first true e = refl
    first false e = absurd cc
counted_to (x ∷ names) apart (suc number) one is = by (bytes_eq x.name one.name) refl (counted_to names apart.1 number one is)
  where
    among : (names : List Declared) (number : ℕ) → slice_get names number ≡ Some one → Among one names
    among [] number is = absurd cc
    among (y ∷ names) zero is = let same : y ≡ one = cc in inl same
    among (y ∷ names) (suc number) is = inr (among names number is)

    by : (same : Bool) → bytes_eq x.name one.name ≡ same → count_before (λ other. bytes_eq other.name one.name) names ≡ number → ◌≡◌ {A = ℕ} (elim same [ true ↦ 0 | false ↦ suc (count_before (λ other. bytes_eq other.name one.name) names) ]) (suc number)
    by true e rest = absurd (never_among one x names apart.0 (among names number is) ((bytes_eq-Decides x.name one.name).0 e))
    by false e rest = ap suc rest

module _ (scripts : Scripts) (apart : AreApart scripts.names) where
  among_names : (module_name name : List ℕ) (one : Declared) → look_up scripts.names module_name name ≡ Some one → Among one scripts.names
  among_names module_name name one is = by (find_whole scripts.names module_name (whole_name module_name name)) refl is
    where
      by : (found : Option Declared) → find_whole scripts.names module_name (whole_name module_name name) ≡ found → first_of found (find_whole scripts.names module_name name) ≡ Some one → Among one scripts.names
      by None e is = (among_find _ scripts.names one is).0
      by (Some other) e is = (among_find _ scripts.names one (e ∙ is)).0

  numbered : (kind : Declared → Bool) (one : Declared) → Among one scripts.names → kind one ≡ true → slice_get (filter kind scripts.names) (number_among kind scripts one) ≡ Some one
  numbered kind one h e = counted_at (filter kind scripts.names) (apart_filter kind scripts.names apart) one (among_filter kind scripts.names one h e)

  -- a function with a body of a name takes what its declaration says
  AsDeclared : List ValueType → Option ValueType → Body → Type 0
  AsDeclared params gives one = (one.params ≡ params) × (one.«result» ≡ gives)

  in_stated : (one : Declared) (signature : Signature) (params : List ValueType) (gives : Option ValueType) → Among one scripts.names → one.meant ≡ Function signature → params_of scripts signature ≡ Ok params → result_of scripts signature ≡ Ok gives
      → (stated : Stated) → BodyIsDeclared scripts stated → AllByRecursion (AsDeclared params gives) (function_in scripts one stated.home (out-Decl stated.decl))
  unfolding AsDeclared
  in_stated one signature params gives among meant takes results stated h = by (out-Decl stated.decl) refl
    where
      by : (f : Decl-F Decl) → out-Decl stated.decl ≡ f → AllByRecursion (AsDeclared params gives) (function_in scripts one stated.home f)
      by (decl.Function place name own «result» block) is = found (rw is at h)
        where
          found : IsDeclared scripts stated.home function_kind own «result» (find_whole scripts.names stated.home.module_name (whole_name stated.home.module_name name.text)) → AllByRecursion (AsDeclared params gives) (function_in scripts one stated.home (decl.Function place name own «result» block))
          found d = named (bytes_eq (whole_name stated.home.module_name name.text) one.name) refl
            where
              there : Among d.declared scripts.names × ((bytes_eq d.declared.name (whole_name stated.home.module_name name.text) && (d.declared.exported || is_open stated.home.module_name (whole_name stated.home.module_name name.text))) ≡ true)
              there = among_find (λ other. bytes_eq other.name (whole_name stated.home.module_name name.text) && (other.exported || is_open stated.home.module_name (whole_name stated.home.module_name name.text))) scripts.names d.declared d.there

              function_is : (meant : Meant) (signature : Signature) → function_kind meant ≡ Some signature → meant ≡ Function signature
              function_is (Function other) signature e = let same : other ≡ signature = cc in ap Function same
              function_is meant signature e = absurd cc

              same_signature : (a b : Signature) → ◌≡◌ {A = Meant} (Function a) (Function b) → a ≡ b
              same_signature a b e = cc

              agrees : bytes_eq (whole_name stated.home.module_name name.text) one.name ≡ true → (d.types ≡ params) × (d.gives ≡ gives)
              agrees e =
                  let whole : d.declared.name ≡ whole_name stated.home.module_name name.text = (bytes_eq-Decides d.declared.name (whole_name stated.home.module_name name.text)).0 (and_parts (bytes_eq d.declared.name (whole_name stated.home.module_name name.text)) (d.declared.exported || is_open stated.home.module_name (whole_name stated.home.module_name name.text)) there.1).0 in
                  let same : d.declared ≡ one = one_named scripts.names apart d.declared one there.0 among (whole ∙ (bytes_eq-Decides (whole_name stated.home.module_name name.text) one.name).0 e) in
                  let signatures : d.signature ≡ signature = same_signature d.signature signature (sym (function_is d.declared.meant d.signature d.of_kind) ∙ ap (λ (x : Declared). x.meant) same ∙ meant) in
                  let first = sym d.takes ∙ ap (params_of scripts) signatures ∙ takes in
                  let second = sym d.result_is ∙ ap (result_of scripts) signatures ∙ results in
                  (cc, cc)

              made : Body
              made = record {
                params = checked_or [] (params_of scripts (Written stated.home own «result»));
                «result» = checked_or None (result_of scripts (Written stated.home own «result»));
                locals = length (body_made scripts stated.home (InFunction (result_wanted scripts stated.home «result»)) own block).locals;
                body = stmt_in (body_made scripts stated.home (InFunction (result_wanted scripts stated.home «result»)) own block);
              }

              made_is : (made.params ≡ d.types) × (made.«result» ≡ d.gives)
              made_is = (rw d.own refl, rw d.own_result refl)

              named : (same : Bool) → bytes_eq (whole_name stated.home.module_name name.text) one.name ≡ same → AllByRecursion (AsDeclared params gives) (if same then made ∷ [] else [])
              named true e = let both = agrees e in ((made_is.0 ∙ both.0, made_is.1 ∙ both.1), tt)
              named false e = tt
      by f is = tt

  all_in_stated : (one : Declared) (signature : Signature) (params : List ValueType) (gives : Option ValueType) → Among one scripts.names → one.meant ≡ Function signature → params_of scripts signature ≡ Ok params → result_of scripts signature ≡ Ok gives
      → (stated : List Stated) → AllByRecursion (BodyIsDeclared scripts) stated → AllByRecursion (AsDeclared params gives) (flat_map (λ stated. function_in scripts one stated.home (out-Decl stated.decl)) stated)
  all_in_stated one signature params gives among meant takes results [] all = tt
  all_in_stated one signature params gives among meant takes results (stated ∷ others) all = all_append (AsDeclared params gives) (function_in scripts one stated.home (out-Decl stated.decl)) _
      (in_stated one signature params gives among meant takes results stated all.0) (all_in_stated one signature params gives among meant takes results others all.1)

  declared_or_none : (params : List ValueType) (gives : Option ValueType) (functions : List Body) → AllByRecursion (AsDeclared params gives) functions → (first_or no_function functions ≡ no_function) ⊎ AsDeclared params gives (first_or no_function functions)
  declared_or_none params gives [] all = inl refl
  declared_or_none params gives (one ∷ functions) all = inr all.0

  may_give : (params : List ValueType) (gives : Option ValueType) (one : Body) → (one ≡ no_function) ⊎ AsDeclared params gives one → (of : ValueType) → gives ≡ Some of → MayGive one.«result» of
  unfolding AsDeclared
  may_give params gives one (inl none) of is = rw none tt
  may_give params gives one (inr declared) of is = let given : one.«result» ≡ Some of = declared.1 ∙ is in rw given refl

  takes_as : (params : List ValueType) (gives : Option ValueType) (one : Body) → (one ≡ no_function) ⊎ AsDeclared params gives one → (one ≡ no_function) ⊎ (one.params ≡ params)
  unfolding AsDeclared
  takes_as params gives one (inl none) = inl none
  takes_as params gives one (inr declared) = inr declared.0

-- Typed programs -----------------------------------------------------------------------------------------------------

module _ (files : List File) (right : errors files ≡ []) (apart : AreApart (scripts_of files).names) where
  -- what a program has of a kind at the number of a declared name
  at_number : {A : Type 0} (kind : Declared → Bool) (made : Declared → A) (one : Declared) → Among one (scripts_of files).names → kind one ≡ true → slice_get (map made (filter kind (scripts_of files).names)) (number_among kind (scripts_of files) one) ≡ Some (made one)
  at_number kind made one h e = got_map made (filter kind (scripts_of files).names) (number_among kind (scripts_of files) one) ∙ ap (option_map made) (numbered (scripts_of files) apart kind one h e)

  pub names_agree_by : ((module_name name : List ℕ) (one : Declared) (number : ℕ) → look_up (scripts_of files).names module_name name ≡ Some one → one.meant ≡ Word number → is_word one.name ≡ true) → NamesAgree (typed_program files) (scripts_of files)
  unfolding AsDeclared
  names_agree_by words = record {
    functions = λ module_name name one signature params gives is meant takes results.
        let scripts : Scripts = scripts_of files in
        let among = among_names scripts apart module_name name one is in
        let declared = declared_or_none scripts apart params gives _ (all_in_stated scripts apart one signature params gives among meant takes results (load_order files) (bodies_declared files right)) in
        record {
          function = function_of scripts one;
          there = at_number is_function (function_of scripts) one among (rw meant refl);
          takes = takes_as scripts apart params gives (function_of scripts one) declared;
          may_give = may_give scripts apart params gives (function_of scripts one) declared;
        };
    hooks = λ module_name name one signature params is meant takes.
        let among = among_names (scripts_of files) apart module_name name one is in
        ap (option_map (λ hook. hook.params)) (at_number is_hook (hook_of (scripts_of files)) one among (rw meant refl)) ∙ params_are one signature params (rw meant refl) takes;
    events = λ module_name name one signature params is meant takes.
        let among = among_names (scripts_of files) apart module_name name one is in
        ap (option_map (λ event. event.params)) (at_number is_event (event_of (scripts_of files)) one among (rw meant refl)) ∙ params_are one signature params (rw meant refl) takes;
    logs = λ module_name name one is log.
        let among = among_names (scripts_of files) apart module_name name one is in
        rw (at_number is_log_word (λ one. let made : Log = record { word = one.name; columns = stream_type (scripts_of files) one.name } in made) one among log) refl;
    words = words;
  }
    where
      params_are : (one : Declared) (signature : Signature) (params : List ValueType) → signature_of one ≡ signature → params_of (scripts_of files) signature ≡ Ok params → Some (checked_or [] (params_of (scripts_of files) (signature_of one))) ≡ Some params
      params_are one signature params is takes = ap (λ (s : Signature). Some (checked_or [] (params_of (scripts_of files) s))) is ∙ ap (λ (m : Checked (List ValueType)). Some (checked_or [] m)) takes

  pub hooks_once_by : (number : ℕ) (one : Declared) → slice_get (filter is_hook (scripts_of files).names) number ≡ Some one → number_among is_hook (scripts_of files) one ≡ number
  hooks_once_by number one is = counted_to (filter is_hook (scripts_of files).names) (apart_filter is_hook (scripts_of files).names apart) number one is
