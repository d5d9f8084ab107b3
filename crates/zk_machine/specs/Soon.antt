-- What code comes to by a step, or by several.
use Rattle.std.specs.Prelude.{◌≡◌, ℕ, zero, suc, Some, slice_get}
use Rattle.zk_lower.specs.Code.{Op, Code}
use Rattle.zk_lower.specs.Frames.{Machine}
use Rattle.zk_lower.specs.Steps.{Step, Goes, Ends, step}

-- an operation stands at a place
abbrev pub Stands : Code → ℕ → Op → Type 0
Stands code at one = slice_get code.ops at ≡ Some one

-- so many steps more
abbrev pub more_steps : Code → ℕ → Step → Step
more_steps code zero one = one
more_steps code (suc count) (Goes machine) = more_steps code count (step code machine)
more_steps code (suc count) (Ends ran) = Ends ran

-- the first step, or one of the next, is such
pub record Soon (Such : Step → Type 0) (code : Code) (old : Machine) : Type 0 where
  pub more : ℕ
  pub such : Such (more_steps code more (step code old))
