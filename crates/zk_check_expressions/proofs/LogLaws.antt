-- Calls of the log framework.
use Rattle.std.proofs.Common.{◌≡◌, ℕ, Bool, true, false, not, ◌&&◌, ◌||◌, List, [], ◌∷◌, ◌++◌, Option, Some, None, Result, Ok, Err, refl, ap, sym, ◌∙◌}
use Rattle.std.specs.Borrow.{Bor}
use Rattle.std.specs.List.{list_any}
use Rattle.std.specs.Option.{option_map}
use Rattle.std.specs.Str.{bytes_eq}
use Rattle.zk_base.specs.declared.numbers.RecordNo.{RecordNo}
use Rattle.zk_scope.specs.Same.{same_bytes}
use Rattle.zk_tree.specs.declared.decl.BodyKind.{BodyKind}
use Rattle.zk_tree.specs.declared.decl.BodyKind.TheVariants as body
use Rattle.zk_tree.specs.declared.expr.Expr.{Expr, out-Expr}
use Rattle.zk_tree.specs.declared.expr.Expr.TheOpen.{Item-F}
use Rattle.zk_tree.specs.declared.expr.Expr.TheOpen as written
use Rattle.zk_tree.specs.declared.expr.Item.{Item, out-Item}
use Rattle.zk_tree.specs.declared.expr.Link.{Link}
use Rattle.zk_tree.specs.declared.expr.Part.{Part}
use Rattle.zk_tree.specs.declared.name.Name.{Name}
use Rattle.zk_typed.specs.declared.refusal.Refusal.{Refusal}
use Rattle.zk_typed.specs.declared.refusal.Refusal.TheVariants.{Broken, NoMemory}
use Rattle.zk_tree.specs.declared.place.Place.{Place}
use Rattle.zk_typed.specs.declared.rule.Rule.TheVariants as rule
use Rattle.zk_typed.specs.Checked.{Checked, along, broken_anyway, both, require, ◌>>=◌, ◌>>◌}
use Rattle.zk_typed.specs.Declarations.{nothing}
use Rattle.zk_typed.specs.Errors.{kind_of}
use Rattle.zk_typed.specs.LogCalls.{StreamTold, among, astray, event_kind, hook_kind, log_arguments, log_type, log_with, log_word, named_signature, only_settings, setting_name, setting_rules, word_of}
use Rattle.zk_typed.specs.Names.{BuiltInFunction, Declared, Event, Function, Hook, KnownType, Log, LogFunction, Meant, Signature, Variable, Word, WrittenType}
use Rattle.zk_typed.specs.Resolving.{params_of}
use Rattle.zk_typed.specs.Tells.{Tells}
use Rattle.zk_typed.specs.Types.{ValueType}
use Rattle.zk_typed.specs.Typing.{Check, Env, Nothing, at, expr_place, found, on_item}
use Rattle.zk_check_operators.specs.declared.operands.Typed.{Typed as RustTyped}
use Rattle.zk_check_operators.specs.Views.{typed_of}
use Rattle.zk_check_expressions.specs.declared.log_words.LogWord.{LogWord}
use Rattle.zk_check_expressions.specs.Refusing.{Refuses}
use Rattle.zk_check_expressions.proofs.Refusals.{refused}
use Rattle.zk_check_expressions.specs.LogSettings.{AreAlike, ColumnsTold, PathsTold, filter_view, kept_view, log_word_of, logged_word, signed_declared, typed_word, with_type}

-- Refusals ---------------------------------------------------------------------------------------------------------

pub stream_passed : {B B' : Type 0} (vb : B → B') (ca : Checked (Unit {0} × StreamTold)) (k : Unit {0} × StreamTold → Checked B') (refusal : Refusal) →
    Tells (λ (parts : Unit {0} × StreamTold). parts) (Err refusal) ca → Tells vb (Err refusal) (ca >>= k)
stream_passed vb ca k (Broken rules) h = rw h refl
stream_passed vb ca k NoMemory h = tt

pub filter_passed : {B B' : Type 0} (vb : B → B') (ca : Checked ((Unit {0} × PathsTold) × ColumnsTold)) (k : (Unit {0} × PathsTold) × ColumnsTold → Checked B') (refusal : Refusal) →
    Tells filter_view (Err refusal) ca → Tells vb (Err refusal) (ca >>= k)
filter_passed vb ca k (Broken rules) h = rw h refl
filter_passed vb ca k NoMemory h = tt

-- Names ------------------------------------------------------------------------------------------------------------

by_params : (env : Env) (kind : BodyKind) (wanted : Option (List ValueType)) (one : Expr) (name : Name) (declared : Declared) (signature : Signature) (params : Checked (List ValueType)) →
    out-Expr one ≡ written.Name name → found env name ≡ Some declared → kind_of kind declared.meant ≡ Some signature → params_of env.scripts signature ≡ params →
    named_signature env (kind_of kind) wanted one ≡ signed_declared env kind wanted (expr_place env one) declared
by_params env kind None one name declared signature (Ok params) e f h p = rw e (rw f (rw h (rw p refl)))
by_params env kind (Some types) one name declared signature (Ok params) e f h p = rw e (rw f (rw h (rw p refl)))
by_params env kind wanted one name declared signature (Err rules) e f h p = rw e (rw f (rw h (rw p refl)))

by_signature : (env : Env) (kind : BodyKind) (wanted : Option (List ValueType)) (one : Expr) (name : Name) (declared : Declared) (signature : Option Signature) →
    out-Expr one ≡ written.Name name → found env name ≡ Some declared → kind_of kind declared.meant ≡ signature →
    named_signature env (kind_of kind) wanted one ≡ signed_declared env kind wanted (expr_place env one) declared
by_signature env kind wanted one name declared None e f h = rw e (rw f (rw h refl))
by_signature env kind wanted one name declared (Some signature) e f h = by_params env kind wanted one name declared signature (params_of env.scripts signature) e f h refl

-- a name that is declared, as one of events or of hooks
pub signed_is : (env : Env) (kind : BodyKind) (wanted : Option (List ValueType)) (one : Expr) (name : Name) (declared : Declared) →
    out-Expr one ≡ written.Name name → found env name ≡ Some declared → named_signature env (kind_of kind) wanted one ≡ signed_declared env kind wanted (expr_place env one) declared
signed_is env kind wanted one name declared e f = by_signature env kind wanted one name declared (kind_of kind declared.meant) e f refl

event_is : (meant : Meant) → event_kind meant ≡ kind_of body.Event meant
event_is (KnownType one) = refl
event_is (WrittenType home tree) = refl
event_is (Word number) = refl
event_is (Variable home lasting tree init attrs) = refl
event_is (Event signature) = refl
event_is (Hook signature) = refl
event_is (Function signature) = refl
event_is (BuiltInFunction function) = refl
event_is (Log function) = refl

hook_is : (meant : Meant) → hook_kind meant ≡ kind_of body.Hook meant
hook_is (KnownType one) = refl
hook_is (WrittenType home tree) = refl
hook_is (Word number) = refl
hook_is (Variable home lasting tree init attrs) = refl
hook_is (Event signature) = refl
hook_is (Hook signature) = refl
hook_is (Function signature) = refl
hook_is (BuiltInFunction function) = refl
hook_is (Log function) = refl

pub events_are : event_kind ≡ kind_of body.Event
events_are = λ i meant. event_is meant i

pub hooks_are : hook_kind ≡ kind_of body.Hook
hooks_are = λ i meant. hook_is meant i

-- Words ------------------------------------------------------------------------------------------------------------

-- the word of a log that has a stream, or what is wrong with an argument that names none
abbrev pub word_or : Check → Env → Expr → Option (Declared × Option RecordNo) → Checked (Declared × Option RecordNo)
word_or check env one None = broken_anyway (check Nothing one) rule.WrongType (expr_place env one)
word_or check env one (Some word) = Ok word

by_type : (check : Check) (env : Env) (one : Expr) (word : Declared) (type : Option (Option RecordNo)) →
    word_of (found env) one ≡ Some word → log_type env.scripts word.name ≡ type → log_word check env one ≡ word_or check env one (with_type word type)
by_type check env one word None e h = rw e (rw h refl)
by_type check env one word (Some type) e h = rw e (rw h refl)

by_word : (check : Check) (env : Env) (one : Expr) (word : Option Declared) → word_of (found env) one ≡ word → log_word check env one ≡ word_or check env one (typed_word env word)
by_word check env one None e = rw e refl
by_word check env one (Some word) e = by_type check env one word (log_type env.scripts word.name) e refl

pub word_is : (check : Check) (env : Env) (one : Expr) → log_word check env one ≡ word_or check env one (logged_word env one)
word_is check env one = by_word check env one (word_of (found env) one) refl

pub no_word : (check : Check) (env : Env) (one : Expr) (part : Result RustTyped Refusal) (refusal : Refusal) → None ≡ logged_word env one →
    Refuses rule.WrongType (expr_place env one) part refusal → Tells typed_of part (check Nothing one) → Tells log_word_of (Err refusal) (log_word check env one)
no_word check env one part refusal none h k = rw (word_is check env one ∙ ap (word_or check env one) (sym none)) (refused typed_of log_word_of rule.WrongType (expr_place env one) part refusal (check Nothing one) h k)

pub the_word : (check : Check) (env : Env) (one : Expr) (word : LogWord) → Some (log_word_of word) ≡ logged_word env one → Tells log_word_of (Ok word) (log_word check env one)
the_word check env one word is = word_is check env one ∙ ap (word_or check env one) (sym is)

-- Arguments --------------------------------------------------------------------------------------------------------

-- arguments that have no place
pub more_arguments : {first : Item} {rest : List Item} (check : Check) (env : Env) (place : Place) (function : LogFunction) (word : Declared) (known : Option RecordNo) (item : Item) (others : List Item) → others ≡ first ∷ rest →
    log_arguments check env place function word known item others ≡ along (broken_anyway (on_item check env (log_with check env place function word known) item) rule.Arguments place) (astray check env others)
more_arguments check env place function word known item others more = rw more refl

-- Settings ---------------------------------------------------------------------------------------------------------

or_turned : (a b : Bool) → (a || (b || false)) ≡ (b || a)
or_turned true true = refl
or_turned true false = refl
or_turned false true = refl
or_turned false false = refl

or_first : (a b c : Bool) → (a || (b || c)) ≡ (b || (a || c))
or_first true true c = refl
or_first true false c = refl
or_first false true c = refl
or_first false false c = refl

among_last : (name one : List ℕ) (names : List (List ℕ)) → among name (names ++ one ∷ []) ≡ among name (one ∷ names)
among_last name one [] = refl
among_last name one (first ∷ names) = ap (λ more. bytes_eq first name || more) (among_last name one names) ∙ or_first (bytes_eq first name) (bytes_eq one name) (among name names)

pub alike_same : (allowed names : List (List ℕ)) → AreAlike allowed names names
alike_same allowed names name is_allowed = refl

pub alike_added : (allowed names : List (List ℕ)) (one : List ℕ) → AreAlike allowed (names ++ one ∷ []) (one ∷ names)
alike_added allowed names one name is_allowed = among_last name one names

-- a name that was given before is given again
pub alike_again : (allowed names : List (List ℕ)) (one : List ℕ) → among one names ≡ true → AreAlike allowed names (one ∷ names)
alike_again allowed names one before name is_allowed = by_same (bytes_eq one name) refl
  where
    by_same : (same : Bool) → bytes_eq one name ≡ same → among name names ≡ (same || among name names)
    by_same false e = refl
    by_same true e = ap (λ other. among other names) (sym (same_bytes one name e)) ∙ before

-- a name that isn't allowed is none of those that are
pub alike_other : (allowed names : List (List ℕ)) (one : List ℕ) → among one allowed ≡ false → AreAlike allowed names (one ∷ names)
alike_other allowed names one other name is_allowed = by_same (bytes_eq one name) refl
  where
    by_same : (same : Bool) → bytes_eq one name ≡ same → among name names ≡ (same || among name names)
    by_same false e = refl
    by_same true e = absurd (let is : among one allowed ≡ true = ap (λ other. among other allowed) (same_bytes one name e) ∙ is_allowed in cc)

-- what is said of a setting rests on what was given of the names that are allowed
alike_rules : (check : Check) (env : Env) (allowed some others : List (List ℕ)) (item : Item-F Expr Item Part Link) → AreAlike allowed some others →
    setting_rules check env allowed some item ≡ setting_rules check env allowed others item
alike_rules check env allowed some others (written.Value value) alike = refl
alike_rules check env allowed some others (written.Item::Field place name value) alike = by_allowed (among name.text allowed) refl
  where
    by_allowed : (holds : Bool) → among name.text allowed ≡ holds →
        (require holds rule.Field (at env place) >> require (not (among name.text some)) rule.Twice (at env place)) ≡ (require holds rule.Field (at env place) >> require (not (among name.text others)) rule.Twice (at env place))
    by_allowed false e = refl
    by_allowed true e = ap (λ given. require (not given) rule.Twice (at env place)) (alike name.text e)

alike_name : (allowed some others : List (List ℕ)) (item : Item-F Expr Item Part Link) → AreAlike allowed some others → AreAlike allowed (setting_name item some) (setting_name item others)
alike_name allowed some others (written.Value value) alike = alike
alike_name allowed some others (written.Item::Field place one value) alike = λ name is_allowed. ap (λ more. bytes_eq one.text name || more) (alike name is_allowed)

pub alike_only : (check : Check) (env : Env) (allowed some others : List (List ℕ)) (items : List Item) → AreAlike allowed some others →
    only_settings check env allowed some items ≡ only_settings check env allowed others items
alike_only check env allowed some others [] alike = refl
alike_only check env allowed some others (item ∷ items) alike =
    ap (λ first. both first (only_settings check env allowed (setting_name (out-Item item) some) items) >> Ok tt) (alike_rules check env allowed some others (out-Item item) alike)
    ∙ ap (λ more. both (setting_rules check env allowed others (out-Item item)) more >> Ok tt)
    (alike_only check env allowed (setting_name (out-Item item) some) (setting_name (out-Item item) others) items (alike_name allowed some others (out-Item item) alike))

-- nothing stands before
pub none_before : (more : Checked (Unit {0})) → nothing (both (Ok (tt {0})) more) ≡ more
none_before (Ok tt) = refl
none_before (Err rules) = refl
