use Rattle.std.proofs.Common.{slice_set, None, refl, subst, sym, arith}
use Rattle.zk_conn.specs.Removals.{AllBut, IsTree}
use Rattle.zk_conn.proofs.RemovalLemmas.{filed_anew, tree_after}
use Rattle.zk_conn.proofs.removals.Removals.forget.Goals as goal

pub returns-then-slot-len-clause-index : goal.returns-then-slot-len-clause-index
returns-then-slot-len-clause-index c = λ tree.
    tree_after _ c.args.self.now.firsts c.refile.new.firsts (omega arith)
    (subst (λ l. AllBut l c.deref_mut.result.now c.args.slot → IsTree l c.refile.new.firsts) c.deref.ensures.value c.refile.ensures
    (subst (λ l. AllBut (slice_set c.args.self.now.filings.items c.args.slot None) l c.args.slot) (sym c.deref_mut.ensures.value)
    (filed_anew c.args.self.now.filings.items c.args.self.now.firsts.items c.args.slot tree None (λ past. refl) (omega arith))))
