use Rattle.std.proofs.Common.{subst}
use Rattle.zk_table.specs.Kept.{Becomes}
use Rattle.zk_table.proofs.KeptLemmas.{emptied}
use Rattle.zk_table.proofs.OperationLemmas.{some-live}
use Rattle.zk_table.proofs.entries.Entries.remove.Goals as goal

pub returns-then-len-self : goal.returns-then-len-self
returns-then-len-self c = λ order kept numbered.
    let old = c.args.self.now in
    let empties = c.empty.ensures order numbered.stored numbered.there (some-live old c.args.place order numbered.stored kept numbered.there) in
    let gone = emptied old c.empty.new.self kept c.args.place order numbered.stored numbered.there empties in
    subst (Becomes c.close.new.self) gone.is (c.close.ensures.same gone.kept)

pub returns-else-len-self : goal.returns-else-len-self
returns-else-len-self c = λ order kept numbered.
    let old = c.args.self.now in
    let empties = c.empty.ensures order numbered.stored numbered.there (some-live old c.args.place order numbered.stored kept numbered.there) in
    emptied old c.empty.new.self kept c.args.place order numbered.stored numbered.there empties
