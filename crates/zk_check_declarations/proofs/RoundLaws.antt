-- The types of globals, as they are told.
use Rattle.std.proofs.Common.{◌≡◌, ℕ, zero, suc, ◌+◌, ◌<◌, Bool, true, false, List, [], ◌∷◌, length, map, filter, set, Option, Some, None, Ok, Err, slice_get, inr, refl, ap, sym, subst, ◌∙◌, arith}
use Rattle.std.proofs.lemmas.List.{length-map}
use Rattle.std.specs.Bool.{OnTrue}
use Rattle.std.specs.Prelude.{Result, IfOk}
use Rattle.std.specs.Option.{option_and_then, option_map}
use Rattle.zk_typed.specs.Checked.{Checked, elsewhere}
use Rattle.zk_tree.specs.declared.decl.Lasting.{Lasting}
use Rattle.zk_tree.specs.declared.stmt.Init.{Init}
use Rattle.zk_tree.specs.declared.types.Attr.{Attr}
use Rattle.zk_tree.specs.declared.types.Type.{«Type»}
use Rattle.zk_typed.specs.Declarations.{circular, global_type, global_type_to, told_type, variable_type, variables}
use Rattle.zk_typed.specs.LoadOrder.{Home}
use Rattle.zk_typed.specs.Names.{Declared, Variable}
use Rattle.zk_typed.specs.Resolving.{Scripts, hushed, type_of}
use Rattle.zk_typed.specs.Types.{ValueType}
use Rattle.zk_typed.specs.Typing.{is_variable}
use Rattle.zk_scope.specs.declared.declared.Declared.{Declared as LentDeclared}
use Rattle.zk_scope.specs.Indexing.{passing}
use Rattle.zk_scope.specs.Lent.{declared_lent, declared_of}
use Rattle.zk_scope.proofs.PassingLaws.{nth_passing}
use Rattle.zk_check_expressions.specs.declared.env.GlobalType.{GlobalType}
use Rattle.zk_check_expressions.specs.declared.env.GlobalType.TheVariants as global
use Rattle.zk_check_expressions.specs.declared.env.Globals.{Globals}
use Rattle.zk_check_expressions.specs.Envs.{global_of, globals_at}
use Rattle.zk_check_declarations.specs.Rounds.{IsAfter, IsGlobals, by_init, filled, type_in, types_at}
use Rattle.zk_check_declarations.specs.Staying.{IsMarked, Stays}
use Rattle.zk_check_declarations.proofs.RoundEnds.{ext, filled_at, get_map, later_stays, meant_is, meant_type, round_stays, stays_then, still_told, told_alike, told_at_last}
use Rattle.zk_check_declarations.proofs.StayingRounds.{variable_stays}

by_found : (globals : Globals) (number : ℕ) (found : Option GlobalType) → globals.circular ≡ false → slice_get globals.types.now number ≡ found →
    globals_at globals number ≡ type_in (option_map global_of found)
by_found globals number None straight e = rw (e, straight) refl
by_found globals number (Some one) straight e = rw e refl

pub globals_are : (globals : Globals) → globals.circular ≡ false → globals_at globals ≡ types_at (map global_of globals.types.now)
globals_are globals straight = ext (λ number.
    by_found globals number (slice_get globals.types.now number) straight refl ∙ ap type_in (sym (get_map global_of globals.types.now number)))

-- what other declarations know
hushed_at : (types : List GlobalType) (number : ℕ) → types_at (map (λ one. hushed (global_of one)) types) number ≡ hushed (types_at (map global_of types) number)
hushed_at [] number = refl
hushed_at (one ∷ types) zero = refl
hushed_at (one ∷ types) (suc number) = hushed_at types number

pub known_told : (scripts : Scripts) (told known : List GlobalType) → IsGlobals told (told_type scripts) → map global_of known ≡ map (λ one. hushed (global_of one)) told → IsGlobals known (global_type scripts)
known_told scripts told known is e = record {
  are = λ globals lent straight.
      let all : Globals = record globals { types = record globals.types { now = told } } in
      let at_told : types_at (map global_of told) ≡ told_type scripts = sym (globals_are all straight) ∙ is.are all refl straight in
      globals_are globals straight ∙ ap (λ items. types_at (map global_of items)) lent ∙ ap types_at e ∙ ext (hushed_at told) ∙ ap (λ (types : ℕ → Checked ValueType). λ number. hushed (types number)) at_told;
}

pub by_written : (scripts : Scripts) (others : ℕ → Checked ValueType) (one : Declared) (home : Home) (lasting : Lasting) (given : Option «Type») (init : Option Init) (attrs : List Attr) (tree : «Type») →
    one.meant ≡ Variable home lasting given init attrs → given ≡ Some tree → hushed (type_of scripts home tree) ≡ variable_type scripts others (Some one)
by_written scripts others one home lasting given init attrs tree e f =
    sym (meant_is scripts others one ∙ ap (meant_type scripts others) e ∙ ap (λ written. meant_type scripts others (Variable home lasting written init attrs)) f)

by_value : (scripts : Scripts) (others : ℕ → Checked ValueType) (home : Home) (lasting : Lasting) (init : Option Init) (attrs : List Attr) →
    by_init scripts others home init ≡ meant_type scripts others (Variable home lasting None init attrs)
by_value scripts others home lasting None attrs = refl
by_value scripts others home lasting (Some init) attrs = refl

pub by_inferred : (scripts : Scripts) (others : ℕ → Checked ValueType) (one : Declared) (home : Home) (lasting : Lasting) (given : Option «Type») (init : Option Init) (attrs : List Attr) →
    one.meant ≡ Variable home lasting given init attrs → given ≡ None → by_init scripts others home init ≡ variable_type scripts others (Some one)
by_inferred scripts others one home lasting given init attrs e f =
    by_value scripts others home lasting init attrs ∙
    sym (meant_is scripts others one ∙ ap (meant_type scripts others) e ∙ ap (λ written. meant_type scripts others (Variable home lasting written init attrs)) f)

pub on_true : (b : Bool) (P : Type 0) → (b ≡ true → P) → OnTrue b P
on_true true P h = h refl
on_true false P h = tt

pub ok_map : {A E : Type 0} (P Q : A → Type 0) (result : Result A E) → ((a : A) → P a → Q a) → IfOk result P → IfOk result Q
ok_map P Q (Ok a) h p = h a p
ok_map P Q (Err e) h p = tt

pub ok_at : {A E : Type 0} (view : A → Checked ValueType) (result : Result A E) (a b : Checked ValueType) → a ≡ b → IfOk result (λ made. view made ≡ a) → IfOk result (λ made. view made ≡ b)
ok_at view result a b e = ok_map (λ made. view made ≡ a) (λ made. view made ≡ b) result (λ made f. f ∙ e)

-- Round after round -------------------------------------------------------------------------------------------------

-- of the types of globals one alone rests on a circle
global_circular : (one : GlobalType) → IsMarked (global_of one) → global_of one ≡ circular
global_circular (global.Known one) e = absurd cc
global_circular global.Unknown e = absurd cc
global_circular global.Circular e = refl

type_circular : (types : List GlobalType) (number : ℕ) → IsMarked (types_at (map global_of types) number) → types_at (map global_of types) number ≡ circular
type_circular [] number e = absurd cc
type_circular (one ∷ types) zero e = global_circular one e
type_circular (one ∷ types) (suc number) e = type_circular types number e

-- the types that the first round tells
pub first_after : (scripts : Scripts) (types : List GlobalType) → map global_of types ≡ filled scripts (λ number. circular) (variables scripts) → IsAfter scripts 0 types
first_after scripts types is = record {
  so_far = λ number. inr (sym (first number));
  at_last = λ number.
      subst (λ (type : Checked ValueType). Stays type (told_type scripts number)) (sym (first number))
      (later_stays scripts (length (variables scripts)) 1 (suc (length (variables scripts))) number (omega arith));
}
  where
    first : (number : ℕ) → types_at (map global_of types) number ≡ global_type_to 1 scripts number
    first number = ap (λ items. types_at items number) is ∙ filled_at scripts (λ number. circular) number

-- those that a round more tells
pub next_after : (scripts : Scripts) (round : ℕ) (types next : List GlobalType) → map global_of next ≡ filled scripts (types_at (map global_of types)) (variables scripts) →
    IsAfter scripts round types → IsAfter scripts (round + 1) next
next_after scripts round types next is before = record {
  so_far = λ number.
      let one : suc round ≡ round + 1 = omega arith in
      subst (λ at. Stays (global_type_to (suc at) scripts number) (types_at (map global_of next) number)) one
      (subst (λ (type : Checked ValueType). Stays (global_type_to (suc (suc round)) scripts number) type) (sym (told number))
      (variable_stays scripts (global_type_to (suc round) scripts) (types_at (map global_of types)) before.so_far (slice_get (variables scripts) number)));
  at_last = λ number.
      subst (λ (type : Checked ValueType). Stays type (told_type scripts number)) (sym (told number))
      (told_at_last scripts (types_at (map global_of types)) before.at_last number);
}
  where
    told : (number : ℕ) → types_at (map global_of next) number ≡ variable_type scripts (types_at (map global_of types)) (slice_get (variables scripts) number)
    told number = ap (λ items. types_at items number) is ∙ filled_at scripts (types_at (map global_of types)) number

-- a round over what is lent
pub round_lent : (scripts : Scripts) (globals : Globals) (next : List GlobalType) (names : List Declared) → globals.circular ≡ false → names ≡ scripts.names →
    map global_of next ≡ filled scripts (globals_at globals) (filter is_variable names) → map global_of next ≡ filled scripts (types_at (map global_of globals.types.now)) (variables scripts)
round_lent scripts globals next names straight all is =
    is ∙ ap (λ others. filled scripts others (filter is_variable names)) (globals_are globals straight) ∙ ap (λ all. filled scripts (types_at (map global_of globals.types.now)) (filter is_variable all)) all

-- the type of the name at a place
pub told_there : (scripts : Scripts) (globals : Globals) (declared : List LentDeclared) (place : ℕ) (one : LentDeclared) → globals.circular ≡ false → declared_lent declared ≡ scripts.names → slice_get declared place ≡ Some one →
    variable_type scripts (globals_at globals) (Some (declared_of one)) ≡ variable_type scripts (types_at (map global_of globals.types.now)) (slice_get scripts.names place)
told_there scripts globals declared place one straight all is =
    ap (λ others. variable_type scripts others (Some (declared_of one))) (globals_are globals straight) ∙
    ap (variable_type scripts (types_at (map global_of globals.types.now)))
    (sym (ap (λ names. slice_get names place) (sym all) ∙ get_map declared_of declared place ∙ ap (option_map declared_of) is))

pub nothing_there : (scripts : Scripts) (others : ℕ → Checked ValueType) (declared : List LentDeclared) (place : ℕ) → declared_lent declared ≡ scripts.names → slice_get declared place ≡ None →
    elsewhere ≡ variable_type scripts others (slice_get scripts.names place)
nothing_there scripts others declared place all is =
    ap (variable_type scripts others) (sym (ap (λ names. slice_get names place) (sym all) ∙ get_map declared_of declared place ∙ ap (option_map declared_of) is))

-- as many pass as have places
passing_by : {A : Type 0} (q : A → Bool) (one : A) (others : List A) (b : Bool) → q one ≡ b → length (passing q others) ≡ length (filter q others) → length (passing q (one ∷ others)) ≡ length (filter q (one ∷ others))
passing_by q one others true e rest = rw e (ap suc (length-map (passing q others) suc ∙ rest))
passing_by q one others false e rest = rw e (length-map (passing q others) suc ∙ rest)

pub passing_many : {A : Type 0} (q : A → Bool) (items : List A) → length (passing q items) ≡ length (filter q items)
passing_many q [] = refl
passing_many q (one ∷ others) = passing_by q one others (q one) refl (passing_many q others)

-- the variable of a number is the name at its place
pub variable_at : (scripts : Scripts) (places : List ℕ) (number place : ℕ) → places ≡ passing is_variable scripts.names → slice_get places number ≡ Some place →
    slice_get scripts.names place ≡ slice_get (variables scripts) number
variable_at scripts places number place are is =
    sym (nth_passing is_variable scripts.names number ∙ ap (λ all. option_and_then (slice_get scripts.names) (slice_get all number)) (sym are) ∙ ap (option_and_then (slice_get scripts.names)) is)

pub same_lent : (types next lent other : List GlobalType) → lent ≡ types → other ≡ next → map global_of lent ≡ map global_of other → map global_of types ≡ map global_of next
same_lent types next lent other e d same = sym (ap (map global_of) e) ∙ same ∙ ap (map global_of) d

-- what holds of the type of each holds of them where one is another
at_set : (types : List GlobalType) (place number : ℕ) (made : GlobalType) (IsSo : Checked ValueType → Type 0) → place < length types → (place ≡ number → IsSo (global_of made)) →
    IsSo (types_at (map global_of types) number) → IsSo (types_at (map global_of (set types place made)) number)
at_set [] place number made IsSo within new old = absurd (omega arith)
at_set (one ∷ types) zero zero made IsSo within new old = new refl
at_set (one ∷ types) zero (suc number) made IsSo within new old = old
at_set (one ∷ types) (suc place) zero made IsSo within new old = old
at_set (one ∷ types) (suc place) (suc number) made IsSo within new old = at_set types place number made IsSo (omega arith) (λ same. new (ap suc same)) old

-- those where one more is told by the others
pub told_after : (scripts : Scripts) (round number : ℕ) (types : List GlobalType) (made : GlobalType) → number < length types →
    global_of made ≡ variable_type scripts (types_at (map global_of types)) (slice_get (variables scripts) number) →
    IsAfter scripts round types → IsAfter scripts round (set types number made)
told_after scripts round place types made within is before = record {
  so_far = λ number. at_set types place number made (λ type. Stays (global_type_to (suc round) scripts number) type) within (new_so_far number) (before.so_far number);
  at_last = λ number. at_set types place number made (λ type. Stays type (told_type scripts number)) within (new_at_last number) (before.at_last number);
}
  where
    grown : (number : ℕ) → Stays (global_type_to round scripts number) (types_at (map global_of types) number)
    grown number = stays_then (global_type_to round scripts number) (global_type_to (suc round) scripts number) (types_at (map global_of types) number) (round_stays scripts round number) (before.so_far number)

    new_so_far : (number : ℕ) → place ≡ number → Stays (global_type_to (suc round) scripts number) (global_of made)
    new_so_far number same =
        subst (λ at. Stays (global_type_to (suc round) scripts at) (global_of made)) same
        (subst (λ (type : Checked ValueType). Stays (global_type_to (suc round) scripts place) type) (sym is)
        (variable_stays scripts (global_type_to round scripts) (types_at (map global_of types)) grown (slice_get (variables scripts) place)))

    new_at_last : (number : ℕ) → place ≡ number → Stays (global_of made) (told_type scripts number)
    new_at_last number same =
        subst (λ at. Stays (global_of made) (told_type scripts at)) same
        (subst (λ (type : Checked ValueType). Stays type (told_type scripts place)) (sym is)
        (told_at_last scripts (types_at (map global_of types)) before.at_last place))

-- the type of a variable, told by that of the name at its place
pub told_as : (scripts : Scripts) (types lent : List GlobalType) (places : List ℕ) (number place : ℕ) (made : GlobalType) → lent ≡ types → places ≡ passing is_variable scripts.names → slice_get places number ≡ Some place →
    global_of made ≡ variable_type scripts (types_at (map global_of lent)) (slice_get scripts.names place) → global_of made ≡ variable_type scripts (types_at (map global_of types)) (slice_get (variables scripts) number)
told_as scripts types lent places number place made same are is told =
    told ∙ ap (λ items. variable_type scripts (types_at (map global_of items)) (slice_get scripts.names place)) same ∙ ap (variable_type scripts (types_at (map global_of types))) (variable_at scripts places number place are is)

-- those that a round more leaves as they are
pub still_globals : (scripts : Scripts) (round : ℕ) (types next : List GlobalType) → map global_of next ≡ filled scripts (types_at (map global_of types)) (variables scripts) →
    map global_of types ≡ map global_of next → IsAfter scripts round types → IsGlobals types (told_type scripts)
still_globals scripts round types next is same before = record {
  are = λ globals lent straight. globals_are globals straight ∙ ap (λ items. types_at (map global_of items)) lent ∙ ext all;
}
  where
    still : (number : ℕ) → types_at (map global_of types) number ≡ variable_type scripts (types_at (map global_of types)) (slice_get (variables scripts) number)
    still number = ap (λ items. types_at items number) (same ∙ is) ∙ filled_at scripts (types_at (map global_of types)) number

    all : (number : ℕ) → types_at (map global_of types) number ≡ told_type scripts number
    all number =
        told_alike scripts (types_at (map global_of types)) number (type_circular types number)
        (still_told scripts (types_at (map global_of types)) still (suc (length (variables scripts))) number) (before.at_last number)

-- those after as many rounds as there are globals
pub last_globals : (scripts : Scripts) (round : ℕ) (types : List GlobalType) → round ≡ length (variables scripts) → IsAfter scripts round types → IsGlobals types (told_type scripts)
last_globals scripts round types last before = record {
  are = λ globals lent straight. globals_are globals straight ∙ ap (λ items. types_at (map global_of items)) lent ∙ ext all;
}
  where
    all : (number : ℕ) → types_at (map global_of types) number ≡ told_type scripts number
    all number =
        told_alike scripts (types_at (map global_of types)) number (type_circular types number)
        (subst (λ at. Stays (global_type_to (suc at) scripts number) (types_at (map global_of types) number)) last (before.so_far number)) (before.at_last number)
