use Rattle.zk_item_laws.proofs.Moments.{moments_rise}
use Rattle.zk_item_laws.proofs.moments_rise.Goals as goal

pub returns : goal.returns
returns c = moments_rise
