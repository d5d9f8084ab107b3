-- What is made of the items of a list that are chosen.
use Rattle.std.specs.Prelude.{Bool, List, [], ◌∷◌, if◌then◌else◌}

-- what is made of an item, where it is chosen
abbrev pub chosen : {A B : Type 0} → (A → Bool) → (A → B) → A → List B
chosen test f one = if test one then f one ∷ [] else []
