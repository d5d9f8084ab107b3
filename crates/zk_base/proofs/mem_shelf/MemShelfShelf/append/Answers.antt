use Rattle.std.proofs.Common.{rules, refl}
use Rattle.zk_base.specs.Shelf.{after_append}
use Rattle.zk_base.specs.MemShelf.{state_of, mem_outside}
use Rattle.zk_base.proofs.MemShelfLemmas.{puts}
use Rattle.zk_base.proofs.mem_shelf.MemShelfShelf.append.Goals as goal

pub returns-clause-exact : goal.returns-clause-exact
returns-clause-exact c = search rules

pub returns-clause-leaves : goal.returns-clause-leaves
returns-clause-leaves c =
    puts (after_append (mem_outside c.args.self.now) c.args.name.now) (state_of c.args.self.now) c.args.bytes.now c.end_write.result (state_of c.end_write.new.self) (λ part. refl) (returns-clause-exact c)
