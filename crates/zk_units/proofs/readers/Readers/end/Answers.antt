use Rattle.std.proofs.Common.{refl}
use Rattle.zk_units.proofs.ReaderLemmas.{ends_http}
use Rattle.zk_units.proofs.readers.Readers.end.Goals as goal

pub returns-in-Http : goal.returns-in-Http
returns-in-Http c = ends_http c.args.side c.args.self.now _ c.in-Http.http c.end.new.self c.in-Http.is refl c.end.ensures
