-- The names that a `for` sets at each turn.
use Rattle.std.specs.Prelude.{◌≡◌, ℕ, List, map, Result, Ok}
use Rattle.std.specs.Borrow.{Bor}
use Rattle.zk_check_expressions.specs.declared.env.LocalName.{LocalName as LentLocal}
use Rattle.zk_check_expressions.specs.Envs.{locals_of}
use Rattle.zk_check_operators.specs.Gather.{Told}
use Rattle.zk_tree.specs.declared.name.Name.{Name}
use Rattle.zk_tree.specs.declared.place.Place.{Place}
use Rattle.zk_typed.specs.declared.rule.Rule.TheVariants as rule
use Rattle.zk_typed.specs.Checked.{Checked, both, require, ◌>>=◌, ◌>>◌}
use Rattle.zk_typed.specs.declared.refusal.Refusal.{Refusal}
use Rattle.zk_typed.specs.Operations.{same_type}
use Rattle.zk_typed.specs.Statements.{Locals}
use Rattle.zk_typed.specs.Tells.{Tells}
use Rattle.zk_typed.specs.Types.{ValueType}

-- the number of a local whose type has to be the one that is given
abbrev pub fitting_number : Place → ℕ → Checked ValueType → Checked ValueType → Checked ℕ
fitting_number place number local given = both local given >>= (λ types. require (same_type types.0 types.1) rule.WrongType place >> Ok number)

-- an answer tells the number of a name, and the locals are those that are visible after it, unless memory ran out
pub record GivesNumber (given : Result ℕ Refusal) (after : List LentLocal) (wanted : Checked ℕ × Locals) : Type 0 where
  pub made : Tells (λ (number : ℕ). number) given wanted.0
  pub visible : Told given → locals_of after ≡ wanted.1

abbrev pub names_lent : List (Bor Name) → List Name
names_lent names = map (λ one. one.now) names
