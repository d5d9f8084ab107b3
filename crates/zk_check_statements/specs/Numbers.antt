-- The numbers of the names of a `for`.
use Rattle.std.specs.Prelude.{◌≡◌, ℕ, List, [], ◌++◌, map, Option, Result, Ok, Err}
use Rattle.std.specs.Option.{option_map}
use Rattle.std.specs.declared.alloc.Global.{Global}
use Rattle.std.specs.declared.vec.Vec.{Vec}
use Rattle.zk_check_expressions.specs.declared.env.LocalName.{LocalName as LentLocal}
use Rattle.zk_check_expressions.specs.Envs.{locals_of}
use Rattle.zk_check_expressions.specs.Envs.{known_or}
use Rattle.zk_check_operators.specs.Gather.{Told}
use Rattle.zk_typed.specs.declared.refusal.Refusal.{Refusal}
use Rattle.zk_typed.specs.declared.refusal.Refusal.TheVariants.{Broken, NoMemory}
use Rattle.zk_typed.specs.declared.script.types.ValueType.{ValueType as RustType}
use Rattle.zk_typed.specs.Checked.{Checked, both, ◌>>=◌}
use Rattle.zk_typed.specs.Statements.{Locals}
use Rattle.zk_typed.specs.Tells.{Tells}
use Rattle.zk_typed.specs.Types.{ValueType}
use Rattle.zk_typed.specs.View.{type_of}

-- the types that are given to names, where they are known
abbrev pub given_in : Option RustType → Checked ValueType
given_in one = known_or (option_map type_of one)

abbrev pub givens_in : List (Option RustType) → List (Checked ValueType)
givens_in types = map given_in types

abbrev pub items_of : Vec ℕ Global → List ℕ
items_of numbers = numbers.items

-- an answer tells the numbers of names, and the locals are those that are visible after them, unless memory ran out
pub record GivesNumbers (given : Result (Vec ℕ Global) Refusal) (after : List LentLocal) (wanted : Checked (List ℕ) × Locals) : Type 0 where
  pub made : Tells items_of given wanted.0
  pub visible : Told given → locals_of after ≡ wanted.1

-- the numbers so far
abbrev pub seen_numbers : Result (Vec ℕ Global) Refusal → Checked (List ℕ)
seen_numbers (Ok numbers) = Ok numbers.items
seen_numbers (Err (Broken rules)) = Err rules
seen_numbers (Err NoMemory) = Err []

abbrev pub with_numbers : Checked (List ℕ) → Checked (List ℕ) × Locals → Checked (List ℕ) × Locals
with_numbers before more = (both before more.0 >>= (λ parts. Ok (parts.0 ++ parts.1)), more.1)
