-- Parts of a construct that are checked one after another: all rules that are broken in them are told.
use Rattle.std.specs.Prelude.{◌≡◌, [], ◌++◌, Result, Ok, Err}
use Rattle.zk_typed.specs.declared.refusal.Refusal.{Refusal}
use Rattle.zk_typed.specs.declared.refusal.Refusal.TheVariants.{Broken, NoMemory}
use Rattle.zk_typed.specs.Checked.{Checked, along, both}
use Rattle.zk_typed.specs.Declarations.{nothing}

-- what an answer says of a part
abbrev pub told : {A : Type 0} → Result A Refusal → Checked A
told (Ok one) = Ok one
told (Err (Broken rules)) = Err rules
told (Err NoMemory) = Err []

-- memory didn't run out
abbrev pub Told : {A : Type 0} → Result A Refusal → Type 0
Told (Err NoMemory) = ⊥
Told (Err (Broken rules)) = Unit {0}
Told (Ok one) = Unit {0}

-- an answer is what both parts are, or tells all that is broken in either
abbrev pub IsBoth : {A B : Type 0} → Result A Refusal → Result B Refusal → Result (A × B) Refusal → Type 0
IsBoth first second (Ok pair) = (first ≡ Ok pair.0) × (second ≡ Ok pair.1)
IsBoth first second (Err (Broken rules)) = Told first × Told second × (both (told first) (told second) ≡ Err rules)
IsBoth first second (Err NoMemory) = Unit {0}

-- the rules of one refusal, and then those of another
abbrev pub Follows : Refusal → Refusal → Refusal → Type 0
Follows (Broken before) (Broken more) (Broken rules) = rules ≡ before ++ more
Follows (Broken before) NoMemory (Broken rules) = ⊥
Follows NoMemory second (Broken rules) = ⊥
Follows first second NoMemory = Unit {0}

-- rules that were told before, and then those of one more part
abbrev pub Adds : Result (Unit {0}) Refusal → Result (Unit {0}) Refusal → Result (Unit {0}) Refusal → Type 0
Adds first second (Err NoMemory) = Unit {0}
Adds first second (Err (Broken rules)) = Told first × Told second × (nothing (both (told first) (told second)) ≡ Err rules)
Adds first second (Ok one) = Told first × Told second × (nothing (both (told first) (told second)) ≡ Ok tt)

-- a part, and what is judged beside it
abbrev pub IsAlong : {A B : Type 0} → Result A Refusal → Result B Refusal → Result A Refusal → Type 0
IsAlong part other (Err NoMemory) = Unit {0}
IsAlong part other (Err (Broken rules)) = Told part × Told other × (along (told part) (told other) ≡ Err rules)
IsAlong part other (Ok one) = Told part × Told other × (along (told part) (told other) ≡ Ok one)
