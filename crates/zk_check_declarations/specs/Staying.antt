-- What is told of a text where more is known of the types of globals.
use Rattle.std.specs.Prelude.{◌≡◌, true, ◌⊎◌}
use Rattle.zk_typed.specs.Checked.{Checked, rules_of}
use Rattle.zk_typed.specs.Declarations.{is_circular}

-- what is told rests on a circle
abbrev pub IsMarked : {A : Type 0} → Checked A → Type 0
IsMarked m = is_circular (rules_of m) ≡ true

-- what is told rests on a circle, or stays as it is
abbrev pub Stays : {A : Type 0} → Checked A → Checked A → Type 0
Stays m n = IsMarked m ⊎ (m ≡ n)
