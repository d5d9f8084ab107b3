use Rattle.std.proofs.Common.{arith}
use Rattle.zk_reasm.proofs.ScatteredLemmas.{held_between-bytes}
use Rattle.zk_reasm.proofs.stretch.Stretch.count.Goals as goal

pub returns : goal.returns
returns c =
    let all = held_between-bytes c.args.self.now.at c.args.self.now.bytes.items c.args.from c.args.to in
    let len = c.args.self.now.bytes.ok.0 in
    omega (arith, all, len)
