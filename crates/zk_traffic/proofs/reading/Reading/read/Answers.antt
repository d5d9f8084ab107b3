use Rattle.std.proofs.Common.{ap}
use Rattle.std.specs.Option.{option_map}
use Rattle.zk_traffic.proofs.ReadingLemmas.{reads_nothing}
use Rattle.zk_traffic.proofs.reading.Reading.read.Goals as goal

pub returns-in-None : goal.returns-in-None
returns-in-None c = reads_nothing c.args.first c.args.self.now _ c.args.«units».now.items (ap (option_map (λ boxed. boxed.value)) c.in-None.is) (ap (option_map (λ boxed. boxed.value)) c.in-None.is)
