use Rattle.std.proofs.Common.{sym}
use Rattle.zk_lower.proofs.Seams.{replaced}
use Rattle.zk_lower.proofs.tail.Tail.replace.Goals as goal

pub returns-then-behind-len : goal.returns-then-behind-len
returns-then-behind-len c = λ lt. replaced c.self.inside.ops c.set.new.self c.args.self.now c.args.behind c.args.op c.set.ensures (sym c.self.view_is) lt
