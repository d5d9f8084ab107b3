use Rattle.std.proofs.Common.{◌≡◌, ◌/◌, ◌%◌, Some, sym, ap, ◌∙◌, arith}
use Rattle.std.specs.BTreeMap as tree
use Rattle.std.specs.Ordering.{nat_cmp}
use Rattle.std.specs.Option.{is_some, option_copied}
use Rattle.zk_reasm.specs.declared.page.TheConstants.{PAGE_LEN}
use Rattle.zk_reasm.specs.Pages.{page_of}
use Rattle.zk_reasm.specs.Page.{byte_on}
use Rattle.zk_reasm.proofs.PagesLemmas.{byte_paged-on, byte_paged-off}
use Rattle.zk_reasm.proofs.pages.Pages.free_on_page.Goals as goal

pub returns-in-Some-clause-before : goal.returns-in-Some-clause-before
unfolding page_of
returns-in-Some-clause-before c = λ at low high.
    let table = c.args.self.now in
    let page = c.in-Some.page.now in
    let is : page_of table c.args.from ≡ Some page = sym c.get.ensures.value ∙ ap option_copied c.in-Some.is in
    let same : at / PAGE_LEN ≡ c.args.from / PAGE_LEN = omega (arith, low, high, c.first_free.ensures.within) in
    ap is_some (byte_paged-on table at page (ap (tree.get nat_cmp table.pages) same ∙ is))
    ∙ c.first_free.ensures.before (at % PAGE_LEN) (omega (arith, low, same)) (omega (arith, high, same))

pub returns-in-Some-clause-free : goal.returns-in-Some-clause-free
unfolding page_of
returns-in-Some-clause-free c = λ same.
    let table = c.args.self.now in
    let page = c.in-Some.page.now in
    byte_paged-on table c.args.from page (sym c.get.ensures.value ∙ ap option_copied c.in-Some.is)
    ∙ ap (byte_on page) (let e : c.args.from % PAGE_LEN ≡ c.first_free.result = omega (arith, same) in e)
    ∙ c.first_free.ensures.free

pub returns-in-None-clause-free : goal.returns-in-None-clause-free
unfolding page_of
returns-in-None-clause-free c = λ same. byte_paged-off c.args.self.now c.args.from (sym c.get.ensures.value ∙ ap option_copied c.in-None.is)
