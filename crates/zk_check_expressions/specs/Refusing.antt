-- What is refused of a construct for a rule of its own, beside what is broken in its parts.
use Rattle.std.specs.Prelude.{◌≡◌, Bool, true, false, [], ◌∷◌, Result, Ok, Err}
use Rattle.zk_tree.specs.declared.place.Place.{Place}
use Rattle.zk_typed.specs.declared.refusal.Refusal.{Refusal}
use Rattle.zk_typed.specs.declared.refusal.Refusal.TheVariants.{Broken, NoMemory}
use Rattle.zk_typed.specs.declared.rule.Rule.{Rule}
use Rattle.zk_typed.specs.Checked.{told_or}

-- the rules that are told of a part, or else this one
abbrev pub Refuses : {A : Type 0} → Rule → Place → Result A Refusal → Refusal → Type 0
Refuses rule place (Ok one) (Broken rules) = rules ≡ record { rule = rule; place = place } ∷ []
Refuses rule place (Err (Broken before)) (Broken rules) = rules ≡ told_or before (record { rule = rule; place = place } ∷ [])
Refuses rule place (Err NoMemory) (Broken rules) = ⊥
Refuses rule place part NoMemory = Unit {0}

-- a part, where a rule of the whole holds; else that is refused
abbrev pub Holds : {A : Type 0} → Bool → Rule → Place → Result A Refusal → Result A Refusal → Type 0
Holds true rule place part result = result ≡ part
Holds false rule place part (Ok one) = ⊥
Holds false rule place part (Err refusal) = Refuses rule place part refusal

-- what is broken in a part, and nothing where it is right
abbrev pub Hushes : {A : Type 0} → Result A Refusal → Refusal → Type 0
Hushes (Ok one) (Broken rules) = rules ≡ []
Hushes (Err (Broken before)) (Broken rules) = rules ≡ before
Hushes (Err NoMemory) (Broken rules) = ⊥
Hushes part NoMemory = Unit {0}
