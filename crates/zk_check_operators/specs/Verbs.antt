-- The verbs of a text from a byte on.
use Rattle.std.specs.Prelude.{ℕ, Bool, true, false, List, ◌++◌, Option, Some, None}
use Rattle.zk_typed.specs.Making.{verbs, verb_first}

-- behind a `%`, or not
abbrev pub verbs_in : Bool → List ℕ → Option (List ℕ)
verbs_in true text = verb_first text
verbs_in false text = verbs text

-- with those that were found before
abbrev pub after : List ℕ → Option (List ℕ) → Option (List ℕ)
after before None = None
after before (Some more) = Some (before ++ more)
