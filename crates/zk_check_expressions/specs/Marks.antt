-- Numbers that are marked.
use Rattle.std.specs.Prelude.{◌≡◌, ℕ, ◌==◌, List}
use Rattle.std.specs.BTreeSet.{contains}
use Rattle.std.specs.List.{list_any}
use Rattle.std.specs.Ordering.{nat_cmp}
use Rattle.std.specs.declared.alloc.Global.{Global}
use Rattle.std.specs.declared.collections.BTreeSet.{BTreeSet}

-- a set has these numbers
abbrev pub Marks : BTreeSet ℕ Global → List ℕ → Type 0
Marks marked numbers = (number : ℕ) → contains nat_cmp marked number ≡ list_any (λ one. one == number) numbers
