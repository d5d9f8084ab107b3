use Rattle.std.proofs.Common.{is_some, refl}
use Rattle.zk_base.specs.Shelf.{after_complaint}
use Rattle.zk_system.specs.DirShelf.{untold}
use Rattle.zk_system.proofs.WriteLemmas.{puts}
use Rattle.zk_system.proofs.dir_shelf.DirShelfShelf.complain.Goals as goal

pub returns-clause-leaves : goal.returns-clause-leaves
returns-clause-leaves g c =
    let is_open = is_some c.args.self.now.input in
    puts (after_complaint (untold is_open c.args.self.now.counts)) is_open c.args.self.now.counts c.args.bytes.now c.wrote.result c.wrote.new.counts (λ part. refl) c.wrote.ensures.counted
