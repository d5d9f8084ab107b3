use Rattle.std.proofs.Common.{slice_set, ◌≡◌, Some, subst, sym, ◌∙◌, ap, arith}
use Rattle.std.proofs.lemmas.Grind.{common_steps}
use Rattle.zk_conn.specs.Removals.{at_slot, is_sooner, AllBut, IsRaised, IsTree}
use Rattle.zk_conn.proofs.RemovalLemmas.{filed_anew, filed_sooner, tree_after}
use Rattle.zk_conn.proofs.removals.Removals.file.Goals as goal

pub returns-then-is_sooner-clause-index : goal.returns-then-is_sooner-clause-index
returns-then-is_sooner-clause-index c = λ tree.
    tree_after _ c.args.self.now.firsts c.raise.new.firsts (omega arith)
    (c.raise.ensures _
    (subst (λ l. IsRaised (slice_set c.args.self.now.filings.items c.args.slot (Some c.args.filing)) l c.args.slot c.args.filing) (sym c.deref_mut.ensures.value)
    (filed_sooner c.args.self.now.filings.items c.args.self.now.firsts.items c.args.slot tree c.args.filing (omega arith) (omega arith)
    (ap (is_sooner c.args.filing) (let known : at_slot c.args.self.now.filings.items c.args.slot ≡ c.index-known.result.now = grind (arith, common_steps, c.index-known.ensures) in known)
    ∙ sym c.is_sooner.ensures ∙ c.if-is_sooner.true))))

pub returns-else-is_sooner-clause-index : goal.returns-else-is_sooner-clause-index
returns-else-is_sooner-clause-index c = λ tree.
    tree_after _ c.args.self.now.firsts c.refile.new.firsts (omega arith)
    (subst (λ l. AllBut l c.deref_mut-else-is_sooner.result.now c.args.slot → IsTree l c.refile.new.firsts) c.deref.ensures.value c.refile.ensures
    (subst (λ l. AllBut (slice_set c.args.self.now.filings.items c.args.slot (Some c.args.filing)) l c.args.slot) (sym c.deref_mut-else-is_sooner.ensures.value)
    (filed_anew c.args.self.now.filings.items c.args.self.now.firsts.items c.args.slot tree (Some c.args.filing) (λ past. absurd (omega (arith, past))) (omega arith))))
