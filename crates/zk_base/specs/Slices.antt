-- Slices that lie in one another.
use Rattle.std.specs.Prelude.{◌≡◌, ℕ, ◌+◌, List}
use Rattle.std.specs.Borrow.{Bor}

-- the part begins in memory at byte `at` of the whole
abbrev pub BeginsAt : ℕ → Bor (List ℕ) → Bor (List ℕ) → Type 0
BeginsAt at whole part = (part.ref_ptr.0 ≡ whole.ref_ptr.0) × (part.ref_ptr.1 ≡ whole.ref_ptr.1 + at)
