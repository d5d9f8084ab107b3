-- Lists that are put together with something between each and the next.
use Rattle.std.specs.Prelude.{List, [], ◌∷◌, ◌++◌}

abbrev pub joined_by : {X : Type 0} → List X → List (List X) → List X
joined_by separator [] = []
joined_by separator (first ∷ []) = first
joined_by separator (first ∷ second ∷ others) = first ++ (separator ++ joined_by separator (second ∷ others))
