use Rattle.std.proofs.Common.{false, refl, ◌∙◌}
use Rattle.zk_conn.specs.Told.{Packet}
use Rattle.zk_conn.proofs.TableLemmas.{tells_hastened, touched_hastened}
use Rattle.zk_conn.proofs.conns.Conns.go_on.Goals as goal

pub returns-clause-tells : goal.returns-clause-tells
returns-clause-tells c = λ was there.
    tells_hastened c.args.self.now (record c.args.self.now { slots = _ }) c.hasten.new.self c.args.slot was c.index_mut.result.now c.touch-touched.new.self
    (Packet c.args.t c.args.p.now) there c.index_mut.ensures.value c.touch-touched.ensures.follows c.touch-touched.ensures.filed refl refl refl refl refl refl c.hasten.ensures

pub returns-clause-touched : goal.returns-clause-touched
returns-clause-touched c = λ was is there is_there.
    c.touch-touched.ensures.touched
    ∙ touched_hastened c.args.self.now (record c.args.self.now { slots = _ }) c.hasten.new.self c.args.slot was c.index_mut.result.now c.touch-touched.new.self is
    false c.args.p.now there c.index_mut.ensures.value refl c.hasten.ensures is_there
