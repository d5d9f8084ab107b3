-- Parts of a list that are checked one after another.
use Rattle.std.specs.Prelude.{◌≡◌, List, [], ◌∷◌, ◌++◌, Option, Some, None, Result, Ok, Err}
use Rattle.std.specs.declared.alloc.Global.{Global}
use Rattle.std.specs.declared.vec.Vec.{Vec}
use Rattle.zk_typed.specs.declared.refusal.Refusal.{Refusal}
use Rattle.zk_typed.specs.declared.refusal.Refusal.TheVariants.{Broken, NoMemory}
use Rattle.zk_typed.specs.Checked.{Checked}

-- what some parts and one more are, unless memory ran out
abbrev pub next_of : {A : Type 0} → Result (Vec A Global) Refusal → Result A Refusal → Option (Checked (List A))
next_of (Ok before) (Ok one) = Some (Ok (before.items ++ one ∷ []))
next_of (Ok before) (Err (Broken rules)) = Some (Err rules)
next_of (Ok before) (Err NoMemory) = None
next_of (Err (Broken rules)) (Ok one) = Some (Err rules)
next_of (Err (Broken rules)) (Err (Broken more)) = Some (Err (rules ++ more))
next_of (Err (Broken rules)) (Err NoMemory) = None
next_of (Err NoMemory) part = None

abbrev pub IsNext : {A : Type 0} → Result (Vec A Global) Refusal → Result A Refusal → Result (Vec A Global) Refusal → Type 0
IsNext all part (Ok next) = next_of all part ≡ Some (Ok next.items)
IsNext all part (Err (Broken rules)) = next_of all part ≡ Some (Err rules)
IsNext all part (Err NoMemory) = Unit {0}
