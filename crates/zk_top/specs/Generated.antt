-- What a run over a generated capture comes to.
use Rattle.std.specs.Prelude.{◌≡◌}
use Rattle.zk_top.specs.declared.generated.Report.{Report}
use Rattle.zk_top.specs.Outcome.{Outcome}

-- its ending, and what is said
pub record IsOf (report : Report) (wanted : Outcome) : Type 0 where
  pub ends : report.ending ≡ wanted.ending
  pub says : report.said.items ≡ wanted.said
