-- A list that begins another.
use Rattle.std.specs.Prelude.{◌≡◌, List, ◌++◌}

-- the part is a prefix of the whole
pub record IsPrefix {X : Type 0} (part whole : List X) : Type 0 where
  pub rest : List X
  pub joined : whole ≡ part ++ rest
