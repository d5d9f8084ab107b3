use Rattle.std.proofs.Common.{refl}
use Rattle.zk_reasm.proofs.NewLemmas.{stands_new}
use Rattle.zk_reasm.proofs.stream.Stream.new.Goals as goal

pub returns : goal.returns
returns c = stands_new _ c.args.base c.args.limit refl refl refl refl refl refl c.new.ensures.front c.new.ensures.taken c.new.ensures.bytes
