use Rattle.std.proofs.Common.{◌-◌, ◌*◌, ap, ◌∙◌, ⊎_elim, arith}
use Rattle.std.specs.Option.{is_some}
use Rattle.std.proofs.lemmas.Bool.{cases_lt}
use Rattle.zk_reasm.specs.declared.page.TheConstants.{PAGE_LEN}
use Rattle.zk_reasm.proofs.PagesLemmas.{byte_paged-at, none_before, none_from_page}
use Rattle.zk_reasm.proofs.pages.Pages.first_held.Goals as goal

pub returns-in-Some-first_held : goal.returns-in-Some-first_held
returns-in-Some-first_held c =
    let table = c.args.self.now in
    let key = c.in-Some.key in
    let page = c.in-Some.page.now in
    let i = c.in-Some-first_held.at in
    let found = c.in-Some-first_held.ensures in
    let next = c.in-Some.ensures in (
      omega (arith, found.0, c.max.ensures, c.loop-key.invariant.order),
      omega (arith, found.1, next.1),
      ap is_some (byte_paged-at table key i page next.2 found.1) ∙ found.2,
      λ at low high. ⊎_elim
          (c.loop-key.invariant.before at low)
          (λ behind. none_before table c.loop-key.from key (c.max.result - key * PAGE_LEN) i page (omega (arith, c.max.ensures)) next.2 next.3
          found.3 (omega (arith, found.1)) at behind high)
          (cases_lt at c.loop-key.from),
    )

pub loop-key-preserved : goal.loop-key-preserved
loop-key-preserved c =
    let table = c.args.self.now in
    let key = c.in-Some.key in
    let page = c.in-Some.page.now in
    let next = c.in-Some.ensures in
    record {
      order = omega (arith, next.0, c.loop-key.invariant.order);
      within = omega (arith, next.1);
      before = λ at low high. ⊎_elim
          (c.loop-key.invariant.before at low)
          (λ behind. none_before table c.loop-key.from key (c.max.result - key * PAGE_LEN) PAGE_LEN page (omega (arith, c.max.ensures)) next.2 next.3
          (λ i from to. c.in_default-first_held.ensures i from) (omega arith) at behind (omega (arith, high)))
          (cases_lt at c.loop-key.from);
    }

pub returns : goal.returns
returns c = λ at low. ⊎_elim
    (c.loop-key.invariant.before at low)
    (λ behind. none_from_page c.args.self.now c.loop-key.from c.in_default.ensures at behind)
    (cases_lt at c.loop-key.from)
