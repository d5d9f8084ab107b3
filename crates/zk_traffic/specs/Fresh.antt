-- A run of bytes by which a packet moved a front.
use Rattle.std.specs.Prelude.{ℕ, List}
use Rattle.zk_base.specs.declared.network.Side.{Side}
use Rattle.zk_base.specs.declared.numbers.ConnNo.{ConnNo}
use Rattle.zk_traffic.specs.declared.news.Fresh.{Fresh}

pub record FreshRun : Type 0 where
  pub conn : ConnNo
  pub side : Side
  pub from : ℕ
  pub bytes : List ℕ

-- the run that is lent
abbrev pub fresh_lent : Fresh → FreshRun
fresh_lent fresh = record { conn = fresh.conn; side = fresh.side; from = fresh.from; bytes = fresh.bytes.now }
