-- Parts of a program, by what was checked.
use Rattle.std.proofs.Common.{◌≡◌, ℕ, Bool, true, false, List, [], ◌∷◌, ◌++◌, length, map, Option, Some, None, Result, Ok, Err, if◌then◌else◌, refl, sym, ap, subst, ◌∙◌, arith}
use Rattle.std.specs.Prelude.{IfOk, codes, slice_get}
use Rattle.std.specs.Option.{option_and_then, option_map}
use Rattle.zk_base.specs.declared.Mem.{Mem}
use Rattle.zk_base.specs.declared.time.Span.{Span}
use Rattle.zk_check_expressions.specs.declared.env.GlobalType.{GlobalType}
use Rattle.zk_check_expressions.specs.declared.env.Globals.{Globals}
use Rattle.zk_check_expressions.specs.Envs.{global_of, globals_at}
use Rattle.zk_check_operators.specs.Gather.{Told}
use Rattle.zk_tree.specs.declared.expiry.Expiry.{Expiry}
use Rattle.zk_tree.specs.declared.expiry.Expiry.TheVariants.{Create, Read, Write}
use Rattle.zk_tree.specs.declared.types.Attr.{Attr}
use Rattle.zk_typed.specs.declared.refusal.Refusal.{Refusal}
use Rattle.zk_typed.specs.declared.refusal.Refusal.TheVariants.{Broken, NoMemory}
use Rattle.zk_typed.specs.declared.script.stmt.Stmt.{Stmt}
use Rattle.zk_typed.specs.Checked.{Checked, elsewhere}
use Rattle.zk_typed.specs.Declarations.{circular}
use Rattle.zk_typed.specs.Forms as form
use Rattle.zk_typed.specs.LoadOrder.{Home}
use Rattle.zk_typed.specs.Predefined as type
use Rattle.zk_typed.specs.Programs.{checked_or, expiry_of, if_checked, no_stmt}
use Rattle.zk_typed.specs.Resolving.{Scripts}
use Rattle.zk_typed.specs.Statements.{Stated}
use Rattle.zk_typed.specs.Tells.{Tells}
use Rattle.zk_typed.specs.Types.{ValueType}
use Rattle.zk_typed.specs.View.{stmt_of}
use Rattle.zk_check.specs.declared.judged.Judged.{Judged}
use Rattle.zk_check.specs.declared.program.bodies.Body.{Body}
use Rattle.zk_check.specs.Globals.{first_expiry, span_of}
use Rattle.zk_check.specs.Judging.{IsJudged}
use Rattle.zk_check.specs.Programming.{IsBody, IsChecked, stmts_or}

-- What was checked -------------------------------------------------------------------------------------------------

pub checked_is : {A : Type 0} (given : Result A Refusal) (one : Result (Option A) Mem) (wanted : Checked A) → Tells (λ (made : A). made) given wanted → IsChecked given one →
    IfOk one (λ found. found ≡ if_checked wanted)
checked_is (Ok made) (Ok found) wanted tells is = is ∙ sym (ap if_checked tells)
checked_is (Err (Broken rules)) (Ok found) wanted tells is = is ∙ sym (ap if_checked tells)
checked_is (Err NoMemory) (Ok found) wanted tells is = absurd is
checked_is (Ok made) (Err memory) wanted tells is = tt
checked_is (Err (Broken rules)) (Err memory) wanted tells is = tt
checked_is (Err NoMemory) (Err memory) wanted tells is = tt

checked_view : {A B : Type 0} (view : A → B) (given : Result A Refusal) (found : Option A) (wanted : Checked B) → Tells view given wanted → IsChecked given (Ok found) →
    option_map view found ≡ if_checked wanted
checked_view view (Ok made) found wanted tells is = ap (option_map view) is ∙ sym (ap if_checked tells)
checked_view view (Err (Broken rules)) found wanted tells is = ap (option_map view) is ∙ sym (ap if_checked tells)
checked_view view (Err NoMemory) found wanted tells is = absurd is

-- what was checked of the value that an attribute has
pub given_checked : {A X : Type 0} (given : Result A Refusal) (one : Result (Option A) Mem) (rules : X → Checked A) (from : Option X) (value : X) → from ≡ Some value →
    Tells (λ (made : A). made) given (rules value) → IsChecked given one → IfOk one (λ found. found ≡ option_and_then (λ value. if_checked (rules value)) from)
given_checked {A} {X} given one rules from value is tells checked =
    subst (λ (from : Option X). IfOk one (λ found. found ≡ option_and_then (λ value. if_checked (rules value)) from)) (sym is) (checked_is given one (rules value) tells checked)

-- Expiries ---------------------------------------------------------------------------------------------------------

abbrev first_in : Option Span → (Span → Expiry) → Option Expiry → Option Expiry
first_in None make other = other
first_in (Some one) make other = Some (make one)

by_three : (create read write : Option Span) → first_expiry create read write ≡ first_in create Create (first_in read Read (first_in write Write None))
by_three (Some create) read write = refl
by_three None (Some read) write = refl
by_three None None (Some write) = refl
by_three None None None = refl

pub expiry_is : (scripts : Scripts) (home : Home) (attrs : List Attr) →
    first_expiry (span_of scripts home attrs (codes "create_expire")) (span_of scripts home attrs (codes "read_expire")) (span_of scripts home attrs (codes "write_expire")) ≡ expiry_of scripts home attrs
expiry_is scripts home attrs =
    by_three (span_of scripts home attrs (codes "create_expire")) (span_of scripts home attrs (codes "read_expire")) (span_of scripts home attrs (codes "write_expire"))

-- Bodies -----------------------------------------------------------------------------------------------------------

stmts_checked : (wanted : Checked form.Stmt) → stmts_or (if_checked wanted) ≡ checked_or no_stmt wanted
stmts_checked (Ok one) = refl
stmts_checked (Err rules) = refl

told_found : {A : Type 0} (given : Result A Refusal) (found : Option A) → IsChecked given (Ok found) → Told given
told_found (Ok made) found is = tt
told_found (Err (Broken rules)) found is = tt
told_found (Err NoMemory) found is = absurd is

-- a body, by what was found right of its statements
pub body_found : (made : Body) (judged : Judged) (found : Option Stmt) (wanted : Stated) → made.locals ≡ judged.locals → stmt_of made.body ≡ stmts_or (option_map stmt_of found) →
    IsChecked judged.made (Ok found) → IsJudged judged wanted → IsBody made wanted
body_found made judged found wanted many same checked is = record {
  stmts = same ∙ ap stmts_or (checked_view stmt_of judged.made found wanted.made is.made checked) ∙ stmts_checked wanted.made;
  many = many ∙ is.many (told_found judged.made found checked);
}

-- Types of globals -------------------------------------------------------------------------------------------------

abbrev pub global_found : Globals → Option GlobalType → Checked ValueType
global_found globals None = if globals.circular then circular else elsewhere
global_found globals (Some one) = global_of one

pub global_at : (globals : Globals) (known : ℕ → Checked ValueType) (number : ℕ) (found : Option GlobalType) → globals_at globals ≡ known → slice_get globals.types.now number ≡ found →
    known number ≡ global_found globals found
global_at globals known number found is at = sym (ap (λ (types : ℕ → Checked ValueType). types number) is) ∙ ap (global_found globals) at

pub unknown_bool : (circular_too : Bool) → checked_or type.bool (if circular_too then circular else elsewhere) ≡ type.bool
unknown_bool true = refl
unknown_bool false = refl

-- Lists that end ---------------------------------------------------------------------------------------------------
