use Rattle.zk_conn.proofs.TableLemmas.{hastens_filed}
use Rattle.zk_conn.proofs.conns.Conns.hasten.Goals as goal

pub returns-then-lt : goal.returns-then-lt
returns-then-lt c = λ was there. hastens_filed c.args.self.now c.file.new.self c.args.slot was (c.file.ensures was there)
