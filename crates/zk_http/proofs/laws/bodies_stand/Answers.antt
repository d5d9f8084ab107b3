use Rattle.zk_http.proofs.BodyLaws.{bodies_grow}
use Rattle.zk_http.proofs.laws.bodies_stand.Goals as goal

pub returns : goal.returns
returns c = record { grows = bodies_grow }
