use Rattle.std.proofs.Common.{refl}
use Rattle.zk_units.specs.Cuts.{gap_places}
use Rattle.zk_units.proofs.HttpReaderLemmas.{on_ok}
use Rattle.zk_units.proofs.ReaderLemmas.{gets_http}
use Rattle.zk_units.proofs.readers.Readers.add_gap.Goals as goal

pub returns-in-Http : goal.returns-in-Http
returns-in-Http c = on_ok c.add_gap.result c.add_gap.ensures (λ grown. gets_http c.args.side (gap_places c.args.places) c.args.self.now _ c.in-Http.http c.add_gap.new.self c.in-Http.is refl grown)
