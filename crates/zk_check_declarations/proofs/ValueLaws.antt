-- Initial values and values that are given anew.
use Rattle.std.proofs.Common.{◌≡◌, ℕ, Bool, true, codes, List, Ok, Err, refl, ap, sym, ◌∙◌}
use Rattle.zk_tree.specs.declared.decl.Redefining.{Redefining}
use Rattle.zk_tree.specs.declared.place.Place.{Place}
use Rattle.zk_tree.specs.declared.stmt.Init.{Init}
use Rattle.zk_tree.specs.declared.types.Attr.{Attr}
use Rattle.zk_typed.specs.declared.rule.Rule.TheVariants as rule
use Rattle.zk_typed.specs.declared.refusal.Refusal.{Refusal}
use Rattle.zk_typed.specs.declared.refusal.Refusal.TheVariants.{Broken, NoMemory}
use Rattle.zk_typed.specs.Checked.{Checked, require, ◌>>=◌, ◌>>◌}
use Rattle.zk_typed.specs.Declarations.{global_type}
use Rattle.zk_typed.specs.Errors.{number_of_variable}
use Rattle.zk_typed.specs.LoadOrder.{Home}
use Rattle.zk_typed.specs.Names.{Declared}
use Rattle.zk_typed.specs.Resolving.{Scripts, has_attr}
use Rattle.zk_typed.specs.Types.{ValueType}
use Rattle.zk_check_declarations.specs.Valued.{anew_value, redef_variable}
use Rattle.zk_typed.specs.Tells.{Tells}
use Rattle.zk_typed.specs.Typing.{Typed}
use Rattle.zk_check_operators.specs.Views.{typed_of}

-- what is broken in a value is broken in what has it
pub typed_passed : {B B' : Type 0} (vb : B → B') (ca : Checked Typed) (k : Typed → Checked B') (refusal : Refusal) →
    Tells typed_of (Err refusal) ca → Tells vb (Err refusal) (ca >>= k)
typed_passed vb ca k (Broken rules) h = rw h refl
typed_passed vb ca k NoMemory h = tt

-- rules that are broken before a value
pub rules_passed : {B B' : Type 0} (vb : B → B') (ca : Checked (Unit {0})) (k : Checked B') (refusal : Refusal) →
    Tells {A = Unit {0}} {B = Unit {0}} (λ done. done) (Err refusal) ca → Tells vb (Err refusal) (ca >> k)
rules_passed vb ca k (Broken rules) h = rw h refl
rules_passed vb ca k NoMemory h = tt

-- a value that a global is given anew that may be given one
pub redef_by : (scripts : Scripts) (home : Home) (place : Place) (operator : Redefining) (init : Init) (attrs : List Attr) (one : Declared) (known : ℕ → Checked ValueType) (has : Bool) (number : ℕ) →
    has ≡ has_attr (codes "redef") attrs → has ≡ true → known ≡ global_type scripts → number ≡ number_of_variable scripts one →
    redef_variable scripts home place operator init attrs one ≡ anew_value scripts home operator init (known number)
redef_by scripts home place operator init attrs one known has number tested holds types numbered =
    ap (λ marked. require marked rule.FixedGlobal place >> anew_value scripts home operator init (global_type scripts (number_of_variable scripts one))) (sym tested ∙ holds) ∙
    ap (λ at. anew_value scripts home operator init (global_type scripts at)) (sym numbered) ∙ ap (λ (given : ℕ → Checked ValueType). anew_value scripts home operator init (given number)) (sym types)
