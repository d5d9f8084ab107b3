-- Parts of a program one after another.
use Rattle.std.proofs.Common.{◌≡◌, ℕ, zero, suc, ◌+◌, ◌≤◌, Bool, true, false, List, [], ◌∷◌, ◌++◌, filter, flat_map, length, map, take, Option, if◌then◌else◌, refl, sym, ap, ◌∙◌, add-zero, add-one, arith}
use Rattle.std.specs.Prelude.{codes}
use Rattle.std.specs.Option.{option_map}
use Rattle.std.specs.Str.{bytes_eq}
use Rattle.std.proofs.lemmas.List.{append_assoc, take_all}
use Rattle.zk_tree.specs.declared.decl.Decl.{Decl, out-Decl}
use Rattle.zk_tree.specs.declared.decl.Decl.TheOpen.{Decl-F}
use Rattle.zk_tree.specs.declared.decl.Decl.TheOpen as decl
use Rattle.zk_tree.specs.declared.place.Place.{Place}
use Rattle.zk_tree.specs.declared.types.Attr.{Attr}
use Rattle.zk_tree.specs.declared.expiry.Expiry.{Expiry}
use Rattle.zk_typed.specs.declared.script.literal.DefaultValue.{DefaultValue}
use Rattle.zk_typed.specs.declared.script.primitive.Primitive.{Primitive}
use Rattle.zk_typed.specs.declared.script.primitive.Primitive.TheVariants as primitive
use Rattle.zk_typed.specs.Forms as form
use Rattle.zk_typed.specs.LoadOrder.{Home, Stated}
use Rattle.zk_typed.specs.Names.{Declared, Meant, KnownType, WrittenType, Word, Variable, Event, Hook, Function, BuiltInFunction, Log, whole_name}
use Rattle.zk_typed.specs.Program as program
use Rattle.zk_typed.specs.Predefined as type
use Rattle.zk_typed.specs.Programs.{all_given, checked_or, default_of, expiry_of, first_given, first_or, function_number, globals_from, later_given, numbers_from, place_of_variable, shaped, variable_place}
use Rattle.zk_typed.specs.Declarations.{ValueGiven, global_type as known_type}
use Rattle.zk_typed.specs.Resolving.{Scripts, attr_value, place_in}
use Rattle.zk_typed.specs.Types.{ValueType}
use Rattle.zk_typed.specs.Typing.{is_variable}
use Rattle.zk_typed.specs.declared.script.program.Log.{Log as ProgramLog}
use Rattle.zk_typed.specs.LoadOrder.{File}
use Rattle.zk_typed.specs.View as view
use Rattle.zk_typed.specs.View.{program_of}
use Rattle.zk_check.specs.declared.program.Code.{Code}
use Rattle.zk_check.specs.declared.program.Data.{Data}
use Rattle.zk_check.specs.Programming.{IsCode, IsData, program_in}
use Rattle.zk_check.proofs.PushLaws.{map_behind}
use Rattle.zk_check_declarations.specs.Choosing.{chosen}
use Rattle.zk_check.specs.Globals.{global_by, globals_by, no_place, place_by, primitive_shaped, stated_place}

pub map_same : {A B : Type 0} (f g : A → B) (same : (one : A) → f one ≡ g one) (all : List A) → map f all ≡ map g all
map_same f g same [] = refl
map_same f g same (one ∷ all) = ap (λ first. first ∷ map f all) (same one) ∙ ap (λ more. g one ∷ more) (map_same f g same all)

-- Numbers ----------------------------------------------------------------------------------------------------------

pub one_number_more : (first count : ℕ) → numbers_from first (suc count) ≡ numbers_from first count ++ (first + count) ∷ []
one_number_more first zero = ap (λ n. n ∷ []) (sym (add-zero first))
one_number_more first (suc count) =
    let same : (first + 1) + count ≡ first + suc count = omega arith in
    ap (λ more. first ∷ more) (one_number_more (first + 1) count ∙ ap (λ n. numbers_from (first + 1) count ++ n ∷ []) same)

-- one record type more
pub one_record_more : {A B : Type 0} (view : A → B) (f : ℕ → B) (all next : List A) (one : A) (number : ℕ) →
    next ≡ all ++ one ∷ [] → map view all ≡ map f (numbers_from 0 number) → view one ≡ f number → map view next ≡ map f (numbers_from 0 (number + 1))
one_record_more view f all next one number is before same =
    let numbers : numbers_from 0 (number + 1) ≡ numbers_from 0 number ++ (0 + number) ∷ [] = rw add-one (one_number_more 0 number) in
    let itself : 0 + number ≡ number = omega arith in
    ap (map view) is ∙ map_behind view all one ∙ ap (λ front. front ++ view one ∷ []) before ∙ ap (λ last. map f (numbers_from 0 number) ++ last ∷ []) (same ∙ ap f (sym itself))
    ∙ sym (ap (map f) numbers ∙ map_behind f (numbers_from 0 number) (0 + number))

-- Places -----------------------------------------------------------------------------------------------------------

one_or_none : (found : Bool) (place otherwise : Place) → (if found then place else otherwise) ≡ first_or otherwise (if found then place ∷ [] else [])
one_or_none true place otherwise = refl
one_or_none false place otherwise = refl

variable_first : (whole : List ℕ) (otherwise : Place) (home : Home) (one : Decl-F Decl) → variable_place whole otherwise home one ≡ first_or otherwise (place_by whole home one)
variable_first whole otherwise home (decl.Variable place lasting name tree init attrs) = one_or_none (bytes_eq (whole_name home.module_name name.text) whole) (place_in home place) otherwise
variable_first whole otherwise home (decl.Module place name) = refl
variable_first whole otherwise home (decl.Export place decls) = refl
variable_first whole otherwise home (decl.Load place file) = refl
variable_first whole otherwise home (decl.Redef place name operator init) = refl
variable_first whole otherwise home (decl.RedefEnum place name words comma) = refl
variable_first whole otherwise home (decl.RedefRecord place name fields) = refl
variable_first whole otherwise home (decl.Type place name tree) = refl
variable_first whole otherwise home (decl.Body place kind name params attrs block) = refl
variable_first whole otherwise home (decl.Function place name params given block) = refl

first_of_both : (otherwise : Place) (front behind : List Place) → first_or (first_or otherwise behind) front ≡ first_or otherwise (front ++ behind)
first_of_both otherwise [] behind = refl
first_of_both otherwise (one ∷ front) behind = refl

-- the place of a global is that of its first declaration
pub place_first : (whole : List ℕ) (stated : List Stated) → place_of_variable whole stated ≡ first_or no_place (flat_map (stated_place whole) stated)
place_first whole [] = refl
place_first whole (one ∷ others) =
    variable_first whole (place_of_variable whole others) one.home (out-Decl one.decl) ∙ ap (λ otherwise. first_or otherwise (stated_place whole one)) (place_first whole others)
    ∙ first_of_both no_place (stated_place whole one) (flat_map (stated_place whole) others)

-- Globals ----------------------------------------------------------------------------------------------------------

-- a global of its parts
pub global_parts : (scripts : Scripts) (number : ℕ) (home : Home) (attrs : List Attr) (place : Place) (global_type : ValueType) (initial : Option form.Expr) (added : List form.Expr)
    (expiry : Option Expiry) (expire_func : Option ℕ) (given : List ValueGiven) → global_type ≡ checked_or type.bool (known_type scripts number) →
    initial ≡ option_map (shaped (expiry_of scripts home attrs) (default_of scripts home global_type attrs)) (first_given scripts number global_type given) →
    added ≡ all_given scripts global_type (later_given given) → expiry ≡ expiry_of scripts home attrs → expire_func ≡ function_number scripts home (attr_value (codes "expire_func") attrs) →
    record { place = place; global_type = global_type; initial = initial; added = added; expiry = expiry; expire_func = expire_func } ≡ global_by scripts number place home attrs given
global_parts scripts number home attrs place global_type initial added expiry expire_func given type_is initial_is added_is expiry_is func_is =
    let known = checked_or type.bool (known_type scripts number) in
    let begins : ValueType → Option form.Expr = λ one. option_map (shaped (expiry_of scripts home attrs) (default_of scripts home one attrs)) (first_given scripts number one given) in
    let later : ValueType → List form.Expr = λ one. all_given scripts one (later_given given) in
    let make : ValueType → Option form.Expr → List form.Expr → Option Expiry → Option ℕ → program.Global = λ one first more expires func.
    record { place = place; global_type = one; initial = first; added = more; expiry = expires; expire_func = func } in
    ap (λ (first : Option form.Expr). make global_type first added expiry expire_func) initial_is
    ∙ ap (λ (more : List form.Expr). make global_type (begins global_type) more expiry expire_func) added_is
    ∙ ap (λ (one : ValueType). make one (begins one) (later one) expiry expire_func) type_is
    ∙ ap (λ (expires : Option Expiry). make known (begins known) (later known) expires expire_func) expiry_is
    ∙ ap (make known (begins known) (later known) (expiry_of scripts home attrs)) func_is

-- all items, as far as they go
pub gathered : {A B C : Type 0} (lent : A → B) (make : B → List C) (items : List A) (index : ℕ) (all : List C) (whole : List B) → length items ≤ index →
    all ≡ flat_map make (map lent (take index items)) → map lent items ≡ whole → all ≡ flat_map make whole
gathered {A} lent make items index all whole past so_far is = so_far ∙ ap (λ (front : List A). flat_map make (map lent front)) (take_all index items past) ∙ ap (flat_map make) is

-- Names of a kind --------------------------------------------------------------------------------------------------

kept_first : {A B : Type 0} (f : A → B) (one : A) (is : Bool) (rest : List A) (whole : List B) → whole ≡ map f rest → (if is then f one ∷ [] else []) ++ whole ≡ map f (if is then one ∷ rest else rest)
kept_first f one true rest whole same = ap (λ more. f one ∷ more) same
kept_first f one false rest whole same = same

-- what is made of the items that are chosen
pub kept : {A B : Type 0} (test : A → Bool) (f : A → B) (items : List A) → flat_map (chosen test f) items ≡ map f (filter test items)
kept test f [] = refl
kept test f (one ∷ others) = kept_first f one (test one) (filter test others) (flat_map (chosen test f) others) (kept test f others)

-- Values that have the shape of their global ------------------------------------------------------------------------

pub shaped_apply : (expiry : Option Expiry) (default : Option DefaultValue) (one : Primitive) (operands : form.Exprs) →
    form.Apply (primitive_shaped expiry default one) operands ≡ shaped expiry default (form.Apply one operands)
shaped_apply expiry default (primitive.NewTable shape) operands = refl
shaped_apply expiry default (primitive.NewSet shape) operands = refl
shaped_apply expiry default other operands = refl

-- Programs ---------------------------------------------------------------------------------------------------------

pub program_parts : (first : Data) (code : Code) (files : List File) (scripts : Scripts) → IsData first files scripts → IsCode code scripts →
    program_of (record {
      files = first.files;
      records = first.records;
      logs = first.logs;
      globals = first.globals;
      functions = code.functions;
      hooks = code.hooks;
      events = code.events;
      handlers = code.handlers;
    }) ≡ program_in files scripts
program_parts first code files scripts is_data is_code =
    let make : List (List ℕ) → List program.RecordType → List ProgramLog → List program.Global → List program.Function → List program.Hook → List program.Event → List program.Handler → program.Program =
    λ names records logs globals functions hooks events handlers.
    record { files = names; records = records; logs = logs; globals = globals; functions = functions; hooks = hooks; events = events; handlers = handlers } in
    let wanted = program_in files scripts in
    let behind : List program.Function → List program.Hook → List program.Event → List program.Handler → program.Program = make wanted.files wanted.records wanted.logs wanted.globals in
    let functions = map view.function_of code.functions in
    let hooks = map view.hook_of code.hooks in
    let events = map view.event_of code.events in
    let handlers = map view.handler_of code.handlers in
    ap (λ (names : List (List ℕ)). make names (map view.record_of first.records) first.logs (map view.global_of first.globals) functions hooks events handlers) is_data.files
    ∙ ap (λ (records : List program.RecordType). make wanted.files records first.logs (map view.global_of first.globals) functions hooks events handlers) is_data.records
    ∙ ap (λ (logs : List ProgramLog). make wanted.files wanted.records logs (map view.global_of first.globals) functions hooks events handlers) is_data.logs
    ∙ ap (λ (globals : List program.Global). make wanted.files wanted.records wanted.logs globals functions hooks events handlers) is_data.globals
    ∙ ap (λ (all : List program.Function). behind all hooks events handlers) is_code.functions
    ∙ ap (λ (all : List program.Hook). behind wanted.functions all events handlers) is_code.hooks
    ∙ ap (λ (all : List program.Event). behind wanted.functions wanted.hooks all handlers) is_code.events
    ∙ ap (behind wanted.functions wanted.hooks wanted.events) is_code.handlers
