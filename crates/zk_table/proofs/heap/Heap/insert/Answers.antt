use Rattle.std.proofs.Common.{sym, subst, arith}
use Rattle.zk_tree.specs.Table as plain
use Rattle.zk_value.specs.Plain.{key_of, value_of}
use Rattle.zk_table.specs.Dues.{IsIndexed}
use Rattle.zk_table.proofs.DueLemmas.{indexed-reordered, never-insert}
use Rattle.zk_table.proofs.heap.Heap.insert.Goals as goal

pub invariant_of-self-2 : goal.invariant_of-self-2
invariant_of-self-2 c =
    let s = c.self.inside in
    indexed-reordered (plain.insert c.args.now (key_of c.args.key) (value_of c.args.value)) s.watched.unwatched.items s.watched.objects c.insert.new.self s.firsts
    c.deref_mut.result.now c.reorder.new.firsts c.args.number.0
    (never-insert c.args.now (key_of c.args.key) (value_of c.args.value)) c.in_ok-insert.ensures.ok c.deref_mut.ensures.value (omega arith) c.reorder.ensures c.self.invariant

pub invariant_of-self : goal.invariant_of-self
invariant_of-self c = subst (λ os. IsIndexed os c.self.inside.watched.unwatched.items c.self.inside.firsts.items) (sym c.in_err-insert.ensures.err) c.self.invariant
