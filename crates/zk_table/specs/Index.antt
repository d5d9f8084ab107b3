-- The index of dues: a tree over places, in which each place knows the first turn of its own and below it.
use Rattle.std.specs.Prelude.{◌≡◌, ◌≢◌, ℕ, ◌+◌, ◌*◌, ◌<◌, ◌≤◌, List, length, slice_index_or, Option, None}
use Rattle.zk_base.specs.declared.time.Moment.{Moment}
use Rattle.zk_tree.specs.Table.{earlier}

-- the first turn of a place and of those below it, by what those below it know
abbrev pub first_at : (ℕ → Option (Moment × ℕ)) → List (Option (Moment × ℕ)) → ℕ → Option (Moment × ℕ)
first_at turns firsts place =
    earlier (earlier (turns place) (slice_index_or firsts (2 * place + 1) None)) (slice_index_or firsts (2 * place + 2) None)

-- a place knows the first turn of its own and below it
abbrev pub IsNode : (ℕ → Option (Moment × ℕ)) → List (Option (Moment × ℕ)) → ℕ → Type 0
IsNode turns firsts place = slice_index_or firsts place None ≡ first_at turns firsts place

-- each place but one, and those above it, knows it
pub record AllBut (turns : ℕ → Option (Moment × ℕ)) (firsts : List (Option (Moment × ℕ))) (but : ℕ) : Type 0 where
  pub nodes : (place : ℕ) → place < length firsts → place ≢ but → IsNode turns firsts place
  pub beyond : (place : ℕ) → length firsts ≤ place → turns place ≡ None

-- each place knows it, and none has a turn beyond the index
pub record IsTree (turns : ℕ → Option (Moment × ℕ)) (firsts : List (Option (Moment × ℕ))) : Type 0 where
  pub nodes : (place : ℕ) → place < length firsts → IsNode turns firsts place
  pub beyond : (place : ℕ) → length firsts ≤ place → turns place ≡ None
