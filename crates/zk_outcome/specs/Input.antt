-- What is read of an input.
use Rattle.std.specs.Prelude.{◌≡◌, ◌⊎◌, ◌<◌, ℕ, List, length, Option, Some, None}
use Rattle.zk_outcome.specs.Prefix.{IsPrefix}

-- an input is read whole, or beyond so many bytes
pub record IsReadBeyond (most : ℕ) (whole bytes : List ℕ) : Type 0 where
  pub prefix : IsPrefix bytes whole
  pub enough : (bytes ≡ whole) ⊎ (most < length bytes)

-- what is read of an input that is there, or not
abbrev pub IsReadOf : ℕ → Option (List ℕ) → Option (List ℕ) → Type 0
IsReadOf most None None = Unit {0}
IsReadOf most None (Some bytes) = ⊥
IsReadOf most (Some whole) None = ⊥
IsReadOf most (Some whole) (Some bytes) = IsReadBeyond most whole bytes
