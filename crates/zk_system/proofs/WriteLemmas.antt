-- What a write leaves of the outside where nothing of it is told.
use Rattle.std.proofs.Common.{◌≡◌, ℕ, List, Bool, Some, ap, sym, ◌∙◌}
use Rattle.zk_base.specs.declared.shelf.Fault.TheVariants as fault
use Rattle.zk_base.specs.declared.shelf.Wrote.{Wrote}
use Rattle.zk_base.specs.declared.shelf.Wrote.TheVariants as wrote
use Rattle.zk_base.specs.declared.counts.Counts.{Counts}
use Rattle.zk_base.specs.Counts.{without_fault}
use Rattle.zk_base.specs.Shelf.{Outside, Puts}
use Rattle.zk_system.specs.DirShelf.{untold, CountsWrite}

-- a write of which nothing is told leaves its count, and a prefix of no bytes is a prefix
pub puts : (after : List ℕ → Outside) (is_open : Bool) (old : Counts) (piece : List ℕ) (result : Wrote) (new : Counts)
    → ((part : List ℕ) → after part ≡ untold is_open (without_fault old))
    → CountsWrite old result new → Puts after (untold is_open old) piece result (untold is_open new)
puts after is_open old piece wrote.Done new same counted = ap (untold is_open) counted ∙ sym (same piece)
puts after is_open old piece wrote.Failed new same counted = record {
  length = 0;
  count = new.write_faults;
  risen = counted.1;
  left = ap (λ counts. record (untold is_open counts) { write_faults = new.write_faults }) counted.0
      ∙ ap (λ (o : Outside). record o { write_faults = new.write_faults; last = Some fault.Write }) (sym (same _));
}
puts after is_open old piece wrote.NoMemory new same counted = absurd counted
