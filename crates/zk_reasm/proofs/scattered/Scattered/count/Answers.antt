use Rattle.std.proofs.Common.{sym, arith}
use Rattle.zk_reasm.specs.Scattered.{byte_scattered}
use Rattle.zk_reasm.proofs.ScatteredLemmas.{held_scattered}
use Rattle.zk_reasm.proofs.RangeLemmas.{held_between-none, held_between-le}
use Rattle.zk_reasm.proofs.scattered.Scattered.count.Goals as goal

pub returns-then-to-from : goal.returns-then-to-from
returns-then-to-from c = sym (held_between-none (byte_scattered c.args.self.now) c.args.from c.args.to (omega arith))

pub overflow_add-result : goal.overflow_add-result
overflow_add-result c =
    let all = held_scattered c.args.self.now c.args.from c.args.to in
    let few = held_between-le (byte_scattered c.args.self.now) c.args.from c.args.to in
    omega (arith, all, few, c.count.ensures, c.count-2.ensures)

pub returns : goal.returns
returns c =
    let all = held_scattered c.args.self.now c.args.from c.args.to in
    omega (arith, all, c.count.ensures, c.count-2.ensures)
