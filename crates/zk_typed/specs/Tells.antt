-- An answer tells what checking gives, unless memory ran out.
use Rattle.std.specs.Prelude.{◌≡◌, Result, Ok, Err}
use Rattle.zk_typed.specs.declared.refusal.Refusal.{Refusal}
use Rattle.zk_typed.specs.declared.refusal.Refusal.TheVariants.{Broken, NoMemory}
use Rattle.zk_typed.specs.Checked.{Checked}

abbrev pub Tells : {A B : Type 0} → (A → B) → Result A Refusal → Checked B → Type 0
Tells view (Ok one) wanted = wanted ≡ Ok (view one)
Tells view (Err (Broken rules)) wanted = wanted ≡ Err rules
Tells view (Err NoMemory) wanted = Unit {0}
