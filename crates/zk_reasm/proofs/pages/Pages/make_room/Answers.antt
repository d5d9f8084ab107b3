use Rattle.std.proofs.Common.{◌≡◌, ◌/◌, None, Some, sym, ap, ◌∙◌, ⊎_elim, arith}
use Rattle.std.specs.BTreeMap as tree
use Rattle.std.specs.Ordering.{nat_cmp}
use Rattle.std.proofs.lemmas.Bool.{cases_eq}
use Rattle.zk_reasm.specs.declared.pages.Pages.{Pages}
use Rattle.zk_reasm.specs.declared.page.TheConstants.{PAGE_LEN}
use Rattle.zk_reasm.specs.Pages.{page_at}
use Rattle.zk_reasm.proofs.PagesLemmas.{Writes, byte_paged-same, byte_paged-made, page_of-made, page_of-stays, page_of-found}
use Rattle.zk_reasm.proofs.PieceLemmas.{none_from}
use Rattle.zk_reasm.proofs.pages.Pages.make_room.Goals as goal
use Rattle.zk_reasm.proofs.pages.Pages.make_room.Goals.{then-not-contains_key+in_ok-insert, else-not-contains_key}

pub returns-in_err-insert-clause-same : goal.returns-in_err-insert-clause-same
returns-in_err-insert-clause-same c = λ at. byte_paged-same c.loop-key.self _ c.in_err-insert.ensures.err at ∙ c.loop-key.invariant.same at

pub loop-key-preserved : goal.loop-key-preserved
loop-key-preserved c = elim c.if-not-contains_key.branch [
  | then-not-contains_key+in_ok-insert w ↦ (
      let old = c.loop-key.self in
      let new = c.if-not-contains_key.self in
      let key = c.loop-key.key-counter in
      let pages : new.pages ≡ w.insert.new.self = ap (λ (a : Pages). a.pages) w.self-is in
      let updates = w.in_ok-insert.ensures.updates in
      let writes : Writes old new key (Some w.new.result) = record {
        here = ap (λ m. tree.get nat_cmp m key) pages ∙ updates.1;
        others = λ q other. ap (λ m. tree.get nat_cmp m q) pages ∙ updates.2 q other;
      } in
      let none : page_at old key ≡ None = none_from (page_at old key) (sym c.contains_key.ensures ∙ w.if-not-contains_key.true) in
      record {
        same = λ at. byte_paged-made old new key w.new.result none w.new.ensures writes at ∙ c.loop-key.invariant.same at;
        made = λ at low high. ⊎_elim
            (λ here. page_of-made old new key w.new.result at writes here)
            (λ other. page_of-stays old new key w.new.result at writes (c.loop-key.invariant.made at low (omega (arith, high, other))))
            (cases_eq (at / PAGE_LEN) key);
      })
  | else-not-contains_key w ↦ rw w.self-is (record {
    same = c.loop-key.invariant.same;
    made = λ at low high. ⊎_elim
        (λ here. page_of-found c.loop-key.self c.loop-key.key-counter at here (sym c.contains_key.ensures ∙ w.if-not-contains_key.false))
        (λ other. c.loop-key.invariant.made at low (omega (arith, high, other)))
        (cases_eq (at / PAGE_LEN) c.loop-key.key-counter);
  })
]
