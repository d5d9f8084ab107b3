-- A table that was given no segment.
use Rattle.std.proofs.Common.{◌≡◌, ℕ, [], None, refl, arith}
use Rattle.zk_base.specs.declared.time.Moment.{Moment}
use Rattle.zk_conn.specs.Standing as conns
use Rattle.zk_traffic.specs.declared.table.Table.{Table}
use Rattle.zk_traffic.specs.Instances.{begun, instances, latest}
use Rattle.zk_traffic.specs.StreamTable.{entry_at}
use Rattle.zk_traffic.specs.Table.{IsCurrent}

pub current_new : (table : Table) (limit : ℕ) (t : Moment) → conns.StandsFor table.conns [] → table.streams.limit ≡ limit → ((n : ℕ) → entry_at table.streams n ≡ None) → table.streams.kept ≡ 0
    → IsCurrent table limit [] t
unfolding begun instances latest
current_new table limit t stands limit_is entries kept = record {
  told = [];
  holds = record {
    limit_is = limit_is;
    stands = stands;
    begun_is = refl;
    known = λ key. refl;
    entries = λ key. tt;
    unused = λ n past. entries n;
    kept_is = kept;
  };
  in_order = λ k d within. absurd (omega (arith, within));
}
