use Rattle.std.proofs.Common.{◌≡◌, ℕ, ◌/◌, Some, sym, ap, ◌∙◌, arith}
use Rattle.std.specs.BTreeMap as tree
use Rattle.std.specs.Option.{option_copied_mut, is_some}
use Rattle.zk_reasm.specs.declared.page.Page.{Page}
use Rattle.zk_reasm.specs.declared.page.TheConstants.{PAGE_LEN}
use Rattle.zk_reasm.specs.Pages.{page_at}
use Rattle.zk_reasm.proofs.PagesLemmas.{byte_paged-same, cut_below, cut_above, cut_below_none, cut_above_none}
use Rattle.zk_reasm.proofs.pages.Pages.cut.Goals as goal

pub returns-in-Some-clause-below : goal.returns-in-Some-clause-below
returns-in-Some-clause-below c =
    let mid = c.drop_pages.new.self in
    let was = c.in-Some.page.now in
    let had : page_at mid (c.args.from / PAGE_LEN) ≡ Some was = sym c.get_mut.ensures.value ∙ ap option_copied_mut c.in-Some.is in
    let written = (c.get_mut.follows.holds c.cut.new.self).3 (ap is_some had) in
    cut_below c.args.self.now mid _ c.args.from c.div_ceil.result was c.cut.new.self (omega (arith, c.div_ceil.ensures)) c.drop_pages.ensures.below had
    (record { here = written.1; others = written.2 }) c.cut.ensures.below

pub returns-in-Some-clause-above : goal.returns-in-Some-clause-above
returns-in-Some-clause-above c =
    let mid = c.drop_pages.new.self in
    let was = c.in-Some.page.now in
    let had : page_at mid (c.args.from / PAGE_LEN) ≡ Some was = sym c.get_mut.ensures.value ∙ ap option_copied_mut c.in-Some.is in
    let written = (c.get_mut.follows.holds c.cut.new.self).3 (ap is_some had) in
    cut_above mid _ c.args.from c.div_ceil.result c.cut.new.self (omega (arith, c.div_ceil.ensures)) c.drop_pages.ensures.above
    (record { here = written.1; others = written.2 }) c.cut.ensures.above

pub returns-in_default-clause-below : goal.returns-in_default-clause-below
returns-in_default-clause-below c = λ at low.
    byte_paged-same c.drop_pages.new.self _ (ap (λ (m : tree.BTreeMap ℕ Page). m.entries) c.get_mut.follows.holds-at-none) at
    ∙ cut_below_none c.args.self.now c.drop_pages.new.self c.args.from c.div_ceil.result (omega (arith, c.div_ceil.ensures)) c.drop_pages.ensures.below at low

pub returns-in_default-clause-above : goal.returns-in_default-clause-above
returns-in_default-clause-above c = λ at low.
    byte_paged-same c.drop_pages.new.self _ (ap (λ (m : tree.BTreeMap ℕ Page). m.entries) c.get_mut.follows.holds-at-none) at
    ∙ cut_above_none c.drop_pages.new.self c.args.from c.div_ceil.result (omega (arith, c.div_ceil.ensures)) c.drop_pages.ensures.above
    (sym c.get_mut.ensures.value ∙ ap option_copied_mut c.in_default.is) at low
