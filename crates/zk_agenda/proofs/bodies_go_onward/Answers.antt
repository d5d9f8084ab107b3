use Rattle.zk_agenda.proofs.Bodies.{handlers_go, initials_go, expiries_go}
use Rattle.zk_agenda.proofs.bodies_go_onward.Goals as goal

pub returns : goal.returns
returns c = record { handlers = handlers_go; initials = initials_go; expiries = expiries_go }
