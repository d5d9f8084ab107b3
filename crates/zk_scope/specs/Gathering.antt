-- Parts of a list that are checked one after another.
use Rattle.std.specs.Prelude.{◌≡◌, List, [], ◌∷◌, ◌++◌, Result, Ok, Err}
use Rattle.zk_typed.specs.declared.refusal.Refusal.{Refusal}
use Rattle.zk_typed.specs.declared.refusal.Refusal.TheVariants.{Broken, NoMemory}

-- what was checked so far with one more part, or all that is broken in either
abbrev pub Appends : {A : Type 0} → Result (List A) Refusal → Result A Refusal → Result (List A) Refusal → Type 0
Appends all one (Err NoMemory) = Unit {0}
Appends (Ok all) (Ok one) (Ok more) = more ≡ all ++ one ∷ []
Appends (Err (Broken rules)) (Ok one) (Err (Broken told)) = told ≡ rules
Appends (Ok all) (Err (Broken rules)) (Err (Broken told)) = told ≡ rules
Appends (Err (Broken first)) (Err (Broken second)) (Err (Broken told)) = told ≡ first ++ second
Appends all one other = ⊥
