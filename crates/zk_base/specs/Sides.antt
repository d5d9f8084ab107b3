-- The two ends of a connection.
use Rattle.zk_base.specs.declared.network.Side.{Side}
use Rattle.zk_base.specs.declared.network.Side.TheVariants.{Orig, Resp}

abbrev pub other : Side → Side
other Orig = Resp
other Resp = Orig
