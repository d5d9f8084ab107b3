-- Names that were met.
use Rattle.std.specs.Prelude.{◌≡◌, ℕ, List}
use Rattle.std.specs.HashSet.{contains}
use Rattle.std.specs.Str.{bytes_eq}
use Rattle.zk_typed.specs.Declarations.{is_one_of}
use Rattle.zk_check_declarations.specs.declared.seen.Seen.{Seen}

-- those that were met are these
pub record Sees (seen : Seen) (names : List (List ℕ)) : Type 0 where
  pub told : (name : List ℕ) → contains bytes_eq seen.names name ≡ is_one_of names name
