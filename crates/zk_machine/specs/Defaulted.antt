-- The tables that have a `&default`, by their object numbers.
use Rattle.std.specs.Prelude.{ℕ, suc, ◌≤◌, List, [], ◌∷◌}
use Rattle.zk_machine.specs.declared.table_defaults.TableDefault.{TableDefault}

-- the numbers rise from this one on, and stay below that one
abbrev pub Rises : ℕ → List TableDefault → ℕ → Type 0
Rises from [] above = from ≤ above
Rises from (one ∷ others) above = (from ≤ one.object.0) × Rises (suc one.object.0) others above
