use Rattle.std.proofs.Common.{rules}
use Rattle.zk_base.specs.MemShelf.{state_of}
use Rattle.zk_base.proofs.MemShelfLemmas.{reads}
use Rattle.zk_base.proofs.mem_shelf.MemShelfShelf.read.Goals as goal

pub returns-clause-exact : goal.returns-clause-exact
returns-clause-exact c = search rules

pub returns-clause-leaves : goal.returns-clause-leaves
returns-clause-leaves c = reads (state_of c.args.self.now) c.args.buf.now c.if-fails_next.got c.if-fails_next.buf (state_of c.count.new.self) (returns-clause-exact c)
