use Rattle.std.proofs.Common.{rules}
use Rattle.zk_base.specs.MemShelf.{state_of}
use Rattle.zk_base.proofs.MemShelfLemmas.{starts}
use Rattle.zk_base.proofs.mem_shelf.MemShelfShelf.start.Goals as goal

pub returns-then-ne-clause-exact : goal.returns-then-ne-clause-exact
returns-then-ne-clause-exact c = search rules

pub returns-then-ne-clause-leaves : goal.returns-then-ne-clause-leaves
returns-then-ne-clause-leaves c = starts (state_of c.args.self.now) c.args.name.now c.if-fails_next.started (state_of c.count.new.self) (returns-then-ne-clause-exact c)
