use Rattle.std.proofs.Common.{refl}
use Rattle.zk_conn.specs.Told.{Reached}
use Rattle.zk_conn.proofs.TableLemmas.{tells_hastened}
use Rattle.zk_conn.proofs.conns.Conns.tell_fin.Goals as goal

pub returns : goal.returns
returns c = λ was there.
    tells_hastened c.args.self.now (record c.args.self.now { slots = _ }) c.hasten.new.self c.args.slot was c.index_mut.result.now c.reach_fin.new.self
    (Reached was.key c.args.side) there c.index_mut.ensures.value (c.reach_fin.ensures.follows was.key) c.reach_fin.ensures.filed refl refl refl refl refl refl c.hasten.ensures
