-- The elements of a list, each with those before it.
use Rattle.std.specs.Prelude.{List, [], ◌∷◌, ◌++◌}

pub record Step (A : Type 0) : Type 0 where
  pub before : List A
  pub last : A

-- an element and those before it
abbrev pub so_far : {A : Type 0} → Step A → List A
so_far step = step.before ++ step.last ∷ []

abbrev pub steps_behind : {A : Type 0} → List A → List A → List (Step A)
steps_behind before [] = []
steps_behind before (next ∷ rest) = record { before = before; last = next } ∷ steps_behind (before ++ next ∷ []) rest

-- each element with those before it
abbrev pub steps : {A : Type 0} → List A → List (Step A)
steps all = steps_behind [] all
