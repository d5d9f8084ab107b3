use Rattle.std.proofs.Common.{refl}
use Rattle.zk_conn.proofs.TableLemmas.{tells_front}
use Rattle.zk_conn.proofs.conns.Conns.tell_front.Goals as goal

pub returns : goal.returns
returns c = λ was there.
    tells_front c.args.self.now (record c.args.self.now { slots = _ }) c.args.slot was c.index_mut.result.now c.front.new.self c.args.side c.args.front
    there c.index_mut.ensures.value (c.front.ensures.follows c.index_mut.result.now.key) c.front.ensures.filed refl refl refl refl refl refl
