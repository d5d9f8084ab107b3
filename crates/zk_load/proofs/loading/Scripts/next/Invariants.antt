use Rattle.std.proofs.Common.{◌≡◌, ℕ, List, length}
use Rattle.zk_load.specs.Loading as plain
use Rattle.zk_load.specs.Loading.{unread}
use Rattle.zk_load.specs.Pending.{Waits}
use Rattle.zk_load.proofs.loading.Scripts.next.Given as goal

-- the names that were passed over were read
abbrev pub invariant-names : goal.invariant-names
invariant-names l = record {
  goes_on : (read : plain.Scripts) (names : List (List ℕ)) → Waits l.initial.self read names → (others : List (List ℕ)) × (unread read names ≡ unread read others) × Waits l.self read others;
  stays : l.self.read ≡ l.initial.self.read;
}

abbrev pub decreases-names : goal.decreases-names
decreases-names l = length l.self.pending.items
