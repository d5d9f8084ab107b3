use Rattle.zk_conn.proofs.InstanceLaws.{live_told, told_live_number, one_number}
use Rattle.zk_conn.proofs.conns.live_instances.Goals as goal

pub returns-clause-live : goal.returns-clause-live
returns-clause-live c = λ conns told conn stands. (live_told conns told conn stands, told_live_number conns told conn stands)

pub returns-clause-one : goal.returns-clause-one
returns-clause-one c = one_number
