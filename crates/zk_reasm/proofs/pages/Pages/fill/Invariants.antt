use Rattle.std.proofs.Common.{◌≡◌, ℕ, ◌+◌, ◌-◌, ◌≤◌, length, take, IsSome}
use Rattle.std.specs.Option.{option_or}
use Rattle.zk_reasm.specs.Pages.{byte_paged, page_of}
use Rattle.zk_reasm.specs.Between.{held_between}
use Rattle.zk_reasm.specs.Piece.{byte_in}
use Rattle.zk_reasm.proofs.pages.Pages.fill.Given as goal

-- the first bytes are put where nothing was
abbrev pub invariant-loop-done : goal.invariant-loop-done
invariant-loop-done l = record {
  within : l.done ≤ length l.bytes;
  bytes : (place : ℕ) → byte_paged l.self place
      ≡ option_or (byte_paged l.initial.self place) (byte_in l.at (take l.done l.bytes) place);
  count : l.count + held_between (byte_paged l.initial.self) l.at (l.at + l.done) ≡ l.done;
  pages : (place : ℕ) → IsSome (page_of l.initial.self place) → IsSome (page_of l.self place);
}

abbrev pub decreases-loop-done : goal.decreases-loop-done
decreases-loop-done l = length l.bytes - l.done
