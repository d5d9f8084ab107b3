-- A round that judges by types of globals that are told, or rest on a circle, tells no other types than the rounds of all.
use Rattle.std.proofs.Common.{◌≡◌, ℕ, Option, Some, None, Ok, Err, inl, inr, refl, ap}
use Rattle.zk_tree.specs.declared.stmt.Init.{Init}
use Rattle.zk_tree.specs.declared.stmt.Init.TheVariants as init
use Rattle.zk_typed.specs.Checked.{Checked}
use Rattle.zk_typed.specs.Declarations.{bodiless, marked, variable_type}
use Rattle.zk_typed.specs.Expressions.{expr_typed}
use Rattle.zk_typed.specs.LoadOrder.{Home}
use Rattle.zk_typed.specs.Names.{Declared, Meant, Variable}
use Rattle.zk_typed.specs.Resolving.{Scripts}
use Rattle.zk_typed.specs.Statements.{init_typed}
use Rattle.zk_typed.specs.Types.{ValueType}
use Rattle.zk_typed.specs.Typing.{Typed, at, Nothing}
use Rattle.zk_typed.specs.Within.{depth_max}
use Rattle.zk_check_declarations.specs.Staying.{Stays}
use Rattle.zk_check_declarations.proofs.StayingMembers.{braces_stay}
use Rattle.zk_check_declarations.proofs.StayingWhole.{expr_stays}

-- the type of what stays
marked_stays : (one now : Checked Typed) → Stays one now → Stays (marked one) (marked now)
marked_stays (Ok one) now (inl e) = absurd cc
marked_stays (Err rules) now (inl e) = rw e (inl refl)
marked_stays one now (inr e) = inr (ap marked e)

init_stays : (scripts : Scripts) (home : Home) (some known : ℕ → Checked ValueType) → ((number : ℕ) → Stays (some number) (known number)) → (one : Init) → Stays (init_typed (bodiless scripts home some) Nothing one) (init_typed (bodiless scripts home known) Nothing one)
init_stays scripts home some known more (init.Value one) = expr_stays (bodiless scripts home some) known more depth_max Nothing one
init_stays scripts home some known more (init.Braces place values comma) =
    braces_stay (bodiless scripts home some) known more (expr_typed (bodiless scripts home some)) (expr_typed (bodiless scripts home known)) (expr_stays (bodiless scripts home some) known more depth_max) (at (bodiless scripts home some) place) values Nothing

-- what a round tells of a variable, by more types of others
pub variable_stays : (scripts : Scripts) (some known : ℕ → Checked ValueType) → ((number : ℕ) → Stays (some number) (known number)) → (one : Option Declared) → Stays (variable_type scripts some one) (variable_type scripts known one)
variable_stays scripts some known more None = inr refl
variable_stays scripts some known more (Some one) = by one.meant refl
  where
    by : (meant : Meant) → one.meant ≡ meant → Stays (variable_type scripts some (Some one)) (variable_type scripts known (Some one))
    by (Variable home lasting None (Some init) attrs) is = rw is (marked_stays (init_typed (bodiless scripts home some) Nothing init) (init_typed (bodiless scripts home known) Nothing init) (init_stays scripts home some known more init))
    by other is = rw is (inr refl)
