use Rattle.zk_conn.proofs.CutLaws.{latest_by_cutting, one_cutting}
use Rattle.zk_conn.proofs.InstanceLaws.{instance_last, instance_timely}
use Rattle.zk_conn.proofs.conns.instances_of_a_key.Goals as goal

pub returns-clause-last : goal.returns-clause-last
returns-clause-last c = instance_last

pub returns-clause-timely : goal.returns-clause-timely
returns-clause-timely c = instance_timely

pub returns-clause-cut : goal.returns-clause-cut
returns-clause-cut c = latest_by_cutting

pub returns-clause-one : goal.returns-clause-one
returns-clause-one c = one_cutting
