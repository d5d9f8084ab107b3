use Rattle.std.proofs.Common.{refl}
use Rattle.zk_units.specs.Cuts.{byte_places}
use Rattle.zk_units.proofs.HttpReaderLemmas.{on_ok}
use Rattle.zk_units.proofs.ReaderLemmas.{gets_http}
use Rattle.zk_units.proofs.readers.Readers.add_bytes.Goals as goal

pub returns-in-Http : goal.returns-in-Http
returns-in-Http c = on_ok c.add_bytes.result c.add_bytes.ensures (λ grown. gets_http c.args.side (byte_places c.args.bytes.now) c.args.self.now _ c.in-Http.http c.add_bytes.new.self c.in-Http.is refl grown)
