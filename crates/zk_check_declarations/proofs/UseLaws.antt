-- What calls of the log framework write to paths.
use Rattle.std.proofs.Common.{◌≡◌, ℕ, ◌+◌, ◌<◌, ◌==◌, length, take, get_or, append-nil, Bool, true, false, if◌then◌else◌, List, [], ◌∷◌, ◌++◌, map, filter, flat_map, Option, Some, None, Ok, Err, slice_get, refl, ap, sym, ◌∙◌, append_assoc}
use Rattle.std.specs.List.{filter_map}
use Rattle.std.specs.Option.{option_map}
use Rattle.std.proofs.lemmas.List.{map-append, take_more}
use Rattle.std.proofs.lemmas.List.Elements.{filter_map-append}
use Rattle.std.proofs.lemmas.Grind.{flat_map-append}
use Rattle.zk_base.specs.declared.numbers.HookNo.{HookNo}
use Rattle.zk_base.specs.declared.numbers.LogId.{LogId}
use Rattle.zk_tree.specs.declared.decl.Decl.{out-Decl}
use Rattle.zk_typed.specs.declared.script.log_call.LogCall.{LogCall}
use Rattle.zk_typed.specs.declared.script.log_call.LogCall.TheVariants as log
use Rattle.zk_typed.specs.declared.script.primitive.Primitive.TheVariants as primitive
use Rattle.zk_typed.specs.declared.script.program.Log.{Log}
use Rattle.zk_typed.specs.Checked.{Checked}
use Rattle.zk_typed.specs.Declarations.{env_at}
use Rattle.zk_typed.specs.Errors.{call_uses, leaves_of_log, log_call, log_calls, path_use, stream_paths}
use Rattle.zk_typed.specs.Expressions.{expr_typed}
use Rattle.zk_typed.specs.Forms as form
use Rattle.zk_typed.specs.LoadOrder.{Stated}
use Rattle.zk_typed.specs.Logs.{picked}
use Rattle.zk_typed.specs.LogCalls.{Call, LeafInfo, all_calls, decl_calls, is_log_word, logged}
use Rattle.zk_typed.specs.Names.{Declared}
use Rattle.zk_typed.specs.Resolving.{Scripts}
use Rattle.zk_typed.specs.Types.{ValueType}
use Rattle.zk_typed.specs.Typing.{Typed, Nothing, typed}
use Rattle.zk_scope.specs.declared.leaves.Leaf.{Leaf}
use Rattle.zk_scope.specs.Leaves.{leaf_of, leaves_lent}
use Rattle.zk_check_declarations.specs.declared.logging.StreamPath.{StreamPath}
use Rattle.zk_check_declarations.specs.Logging.{log_of, logs_of}
use Rattle.zk_check_declarations.specs.Uses.{calls_typed, created_by, created_in, filter_use, if_there, leaves_found, log_form, paths_of, stated_created, stream_path, streams_lent, use_with}
use Rattle.zk_check_declarations.proofs.RoundEnds.{get_map}

-- The call that a typed form is ------------------------------------------------------------------------------------

call_form : (scripts : Scripts) (call : Call) (type : ValueType) (one : form.Expr) → expr_typed (env_at scripts call.home) Nothing call.whole ≡ Ok (typed type one) →
    if_there (log_form one) ≡ log_call scripts call
call_form scripts call type (form.Apply (primitive.Log one) operands) e = rw e refl
call_form scripts call type (form.Apply other operands) e = rw e refl
call_form scripts call type other e = rw e refl

pub call_typed : (scripts : Scripts) (call : Call) (given : Checked Typed) → expr_typed (env_at scripts call.home) Nothing call.whole ≡ given → calls_typed given ≡ log_call scripts call
call_typed scripts call (Ok one) e = call_form scripts call one.type one.expr e
call_typed scripts call (Err rules) e = rw e refl

-- Columns ----------------------------------------------------------------------------------------------------------

leaves_word : (scripts : Scripts) (number : LogId) (word : Option Declared) → slice_get (filter is_log_word scripts.names) number.0 ≡ word →
    leaves_of_log scripts number ≡ leaves_found scripts (option_map (log_of scripts) word)
leaves_word scripts number None e = rw e refl
leaves_word scripts number (Some word) e = rw e refl

pub leaves_at : (scripts : Scripts) (number : LogId) (logs : List Log) (found : Option Log) → logs ≡ logs_of scripts → found ≡ slice_get logs number.0 →
    leaves_found scripts found ≡ leaves_of_log scripts number
leaves_at scripts number logs found are e =
    let words = filter is_log_word scripts.names in
    ap (leaves_found scripts) (e ∙ ap (λ all. slice_get all number.0) are ∙ get_map (log_of scripts) words number.0) ∙ sym (leaves_word scripts number (slice_get words number.0) refl)

-- the column with a number, and none
pub picked_one : (before : List Leaf) (copy leaf : Leaf) (leaves : List Leaf) (place : ℕ) → Some leaf ≡ slice_get leaves place → leaf_of copy ≡ leaf_of leaf →
    leaves_lent (before ++ copy ∷ []) ≡ leaves_lent before ++ if_there (slice_get (leaves_lent leaves) place)
picked_one before copy leaf leaves place found same =
    map-append leaf_of before (copy ∷ []) ∙ ap (λ one. leaves_lent before ++ one ∷ []) same ∙
    ap (λ one. leaves_lent before ++ if_there one) (ap (option_map leaf_of) found ∙ sym (get_map leaf_of leaves place))

pub picked_none : (before : List Leaf) (leaves : List Leaf) (place : ℕ) → None ≡ slice_get leaves place → leaves_lent before ≡ leaves_lent before ++ if_there (slice_get (leaves_lent leaves) place)
picked_none before leaves place found =
    sym (append-nil (leaves_lent before)) ∙ ap (λ one. leaves_lent before ++ if_there one) (ap (option_map leaf_of) found ∙ sym (get_map leaf_of leaves place))

one_picked : {A : Type 0} (h : ℕ → Option A) (place : ℕ) (found : Option A) → h place ≡ found → filter_map h (place ∷ []) ≡ if_there found
one_picked h place None e = rw e refl
one_picked h place (Some one) e = rw e refl

pub picked_turn : {A : Type 0} (all : List A) (places : List ℕ) (i : ℕ) → i < length places →
    picked all (take (i + 1) places) ≡ picked all (take i places) ++ if_there (slice_get all (get_or places i 0))
picked_turn all places i within =
    let place = get_or places i 0 in
    ap (picked all) (take_more places i 0 within) ∙ filter_map-append (λ one. slice_get all one) (take i places) (place ∷ []) ∙
    ap (λ last. picked all (take i places) ++ last) (one_picked (λ one. slice_get all one) place (slice_get all place) refl)

-- Streams ----------------------------------------------------------------------------------------------------------

streams_so : (scripts : Scripts) (stated : List Stated) →
    flat_map (stated_created scripts) stated ≡ flat_map created_by (flat_map (log_call scripts) (flat_map (λ one. decl_calls one.home (out-Decl one.decl)) stated))
streams_so scripts [] = refl
streams_so scripts (one ∷ others) =
    let calls = decl_calls one.home (out-Decl one.decl) in
    let more = flat_map (λ (one : Stated). decl_calls one.home (out-Decl one.decl)) others in
    ap (λ rest. stated_created scripts one ++ rest) (streams_so scripts others) ∙
    ap (λ first. first ++ flat_map created_by (flat_map (log_call scripts) more)) (in_calls calls) ∙
    sym (flat_map-append created_by (flat_map (log_call scripts) calls) (flat_map (log_call scripts) more)) ∙
    ap (flat_map created_by) (sym (flat_map-append (log_call scripts) calls more))
  where
    in_calls : (calls : List Call) → flat_map (λ call. flat_map created_by (log_call scripts call)) calls ≡ flat_map created_by (flat_map (log_call scripts) calls)
    in_calls [] = refl
    in_calls (call ∷ calls) =
        ap (λ rest. flat_map created_by (log_call scripts call) ++ rest) (in_calls calls) ∙ sym (flat_map-append created_by (log_call scripts call) (flat_map (log_call scripts) calls))

first_if : {A : Type 0} (b : Bool) (x : A) (xs : List A) → (if b then x ∷ [] else []) ++ xs ≡ (if b then x ∷ xs else xs)
first_if true x xs = refl
first_if false x xs = refl

paths_in : (number : LogId) (calls : List LogCall) → paths_of number (flat_map created_by calls) ≡ stream_paths number calls
paths_in number [] = refl
paths_in number (log.Create other event path policy columns ∷ calls) =
    ap (λ rest. if other.0 == number.0 then path ∷ rest else rest) (paths_in number calls) ∙ sym (first_if (other.0 == number.0) path (stream_paths number calls))
paths_in number (log.AddFilter other name path policy columns ∷ calls) = paths_in number calls
paths_in number (log.RemoveFilter other name ∷ calls) = paths_in number calls

pub paths_at : (scripts : Scripts) (number : LogId) (streams : List (LogId × List ℕ)) → streams ≡ created_in scripts →
    paths_of number streams ≡ stream_paths number (log_calls scripts (all_calls scripts))
paths_at scripts number streams are =
    ap (paths_of number) (are ∙ streams_so scripts scripts.stated) ∙ paths_in number (log_calls scripts (all_calls scripts))

-- What a call writes -----------------------------------------------------------------------------------------------

pub one_call_uses : (scripts from : Scripts) (call : Call) (one : LogCall) (found : Option LogCall) → from ≡ scripts → if_there found ≡ log_call from call → found ≡ Some one →
    path_use scripts one ≡ call_uses scripts call
one_call_uses scripts from call one found same e is =
    sym (append-nil (path_use scripts one)) ∙ ap (λ given. flat_map (path_use scripts) (if_there given)) (sym is) ∙ ap (flat_map (path_use scripts)) (e ∙ ap (λ all. log_call all call) same)

pub no_call_uses : (scripts from : Scripts) (call : Call) (found : Option LogCall) → from ≡ scripts → if_there found ≡ log_call from call → found ≡ None → [] ≡ call_uses scripts call
no_call_uses scripts from call found same e is =
    ap (λ given. flat_map (path_use scripts) (if_there given)) (sym is) ∙ ap (flat_map (path_use scripts)) (e ∙ ap (λ all. log_call all call) same)

filter_by : (scripts : Scripts) (number : LogId) (name : List ℕ) (path : Option (List ℕ)) (policy : Option HookNo) (columns : List ℕ) → filter_use scripts number path columns ≡ path_use scripts (log.AddFilter number name path policy columns)
filter_by scripts number name None policy columns = refl
filter_by scripts number name (Some path) policy columns = refl

pub filter_is : (scripts : Scripts) (one : LogCall) (number : LogId) (name : List ℕ) (path : Option (List ℕ)) (policy : Option HookNo) (columns : List ℕ) → one ≡ log.AddFilter number name path policy columns →
    filter_use scripts number path columns ≡ path_use scripts one
filter_is scripts one number name path policy columns is = filter_by scripts number name path policy columns ∙ ap (path_use scripts) (sym is)

pub filter_streams : (scripts : Scripts) (number : LogId) (path : Option (List ℕ)) (columns : List ℕ) (streams : List (LogId × List ℕ)) (leaves : List LeafInfo) → path ≡ None → streams ≡ created_in scripts → leaves ≡ logged (leaves_of_log scripts number) →
    map (use_with leaves columns) (paths_of number streams) ≡ filter_use scripts number path columns
filter_streams scripts number path columns streams leaves none are found =
    ap (λ some. map (use_with some columns) (paths_of number streams)) found ∙
    ap (map (use_with (logged (leaves_of_log scripts number)) columns)) (paths_at scripts number streams are) ∙
    ap (λ some. filter_use scripts number some columns) (sym none)

-- the paths so far, and that of one more stream
last_if : {A : Type 0} (b : Bool) (x : A) → (if b then x ∷ [] else []) ≡ [] ++ (if b then x ∷ [] else [])
last_if true x = refl
last_if false x = refl

more_if : {A : Type 0} (b : Bool) (x : A) (all before last : List A) → all ≡ before ++ last → (if b then x ∷ all else all) ≡ (if b then x ∷ before else before) ++ last
more_if true x all before last e = ap (λ rest. x ∷ rest) e
more_if false x all before last e = e

pub paths_more : (number : LogId) (before : List (LogId × List ℕ)) (one : LogId × List ℕ) → paths_of number (before ++ one ∷ []) ≡ paths_of number before ++ (if one.0.0 == number.0 then one.1 ∷ [] else [])
paths_more number [] one = last_if (one.0.0 == number.0) one.1
paths_more number (first ∷ before) one =
    more_if (first.0.0 == number.0) first.1 (paths_of number (before ++ one ∷ [])) (paths_of number before) (if one.0.0 == number.0 then one.1 ∷ [] else []) (paths_more number before one)

mapped_if : {A B : Type 0} (f : A → B) (b test : Bool) (x : A) → test ≡ b → map f (if b then x ∷ [] else []) ≡ (if test then f x ∷ [] else [])
mapped_if f true test x e = rw e refl
mapped_if f false test x e = rw e refl

pub streams_turn : (number : LogId) (leaves : List LeafInfo) (places : List ℕ) (streams : List StreamPath) (i : ℕ) (one : StreamPath) (test : Bool) → i < length streams → one ≡ get_or streams i one → test ≡ (one.log.0 == number.0) →
    map (use_with leaves places) (paths_of number (streams_lent (take (i + 1) streams))) ≡
    map (use_with leaves places) (paths_of number (streams_lent (take i streams))) ++ (if test then use_with leaves places one.path ∷ [] else [])
streams_turn number leaves places streams i one test within is e =
    ap (λ some. map (use_with leaves places) (paths_of number (streams_lent some))) (take_more streams i one within ∙ ap (λ x. take i streams ++ x ∷ []) (sym is)) ∙
    ap (λ some. map (use_with leaves places) (paths_of number some)) (map-append stream_path (take i streams) (one ∷ [])) ∙
    ap (map (use_with leaves places)) (paths_more number (streams_lent (take i streams)) (stream_path one)) ∙
    map-append (use_with leaves places) (paths_of number (streams_lent (take i streams))) (if one.log.0 == number.0 then one.path ∷ [] else []) ∙
    ap (λ last. map (use_with leaves places) (paths_of number (streams_lent (take i streams))) ++ last) (mapped_if (use_with leaves places) (one.log.0 == number.0) test one.path e)
