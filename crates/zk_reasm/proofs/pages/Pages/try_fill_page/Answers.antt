use Rattle.std.proofs.Common.{◌≡◌, ◌+◌, ◌*◌, ◌/◌, ◌%◌, length, Some, sym, ap, ◌∙◌, arith}
use Rattle.std.specs.Option.{is_some, option_copied_mut, option_or}
use Rattle.zk_reasm.specs.declared.page.TheConstants.{PAGE_LEN}
use Rattle.zk_reasm.specs.Pages.{byte_paged, page_at, page_of}
use Rattle.zk_reasm.specs.Page.{byte_on}
use Rattle.zk_reasm.specs.Piece.{byte_in}
use Rattle.zk_reasm.proofs.PagesLemmas.{byte_paged-put, byte_paged-page, page_of-stays}
use Rattle.zk_reasm.proofs.RangeLemmas.{held_between-shift}
use Rattle.zk_reasm.proofs.pages.Pages.try_fill_page.Goals as goal

pub returns-in-None-clause-none : goal.returns-in-None-clause-none
unfolding page_of
returns-in-None-clause-none c = sym c.get_mut.ensures.value ∙ ap option_copied_mut c.in-None.is

pub returns-in-Some-clause-bytes : goal.returns-in-Some-clause-bytes
unfolding page_of
returns-in-Some-clause-bytes c = λ place.
    let old = c.args.self.now in
    let was = c.in-Some.page.now in
    let had : page_of old c.args.at ≡ Some was = sym c.get_mut.ensures.value ∙ ap option_copied_mut c.in-Some.is in
    let written = (c.get_mut.follows.holds c.fill.new.self).3 (ap is_some had) in
    byte_paged-put old _ (c.args.at / PAGE_LEN) (c.args.at % PAGE_LEN) was c.fill.new.self c.args.bytes.now had
    (record { here = written.1; others = written.2 }) c.requires.within c.fill.ensures.first place
    ∙ ap (λ from. option_or (byte_paged old place) (byte_in from c.args.bytes.now place))
    (let e : c.args.at / PAGE_LEN * PAGE_LEN + c.args.at % PAGE_LEN ≡ c.args.at = omega arith in e)

pub returns-in-Some-clause-count : goal.returns-in-Some-clause-count
unfolding page_of
returns-in-Some-clause-count c =
    let old = c.args.self.now in
    let was = c.in-Some.page.now in
    let had : page_of old c.args.at ≡ Some was = sym c.get_mut.ensures.value ∙ ap option_copied_mut c.in-Some.is in
    ap (λ n. c.fill.result + n)
    (held_between-shift (byte_paged old) (byte_on was) c.args.at (c.args.at % PAGE_LEN) (length c.args.bytes.now)
    (byte_paged-page old c.args.at (length c.args.bytes.now) was had c.requires.within))
    ∙ c.fill.ensures.count

pub returns-in-Some-clause-pages : goal.returns-in-Some-clause-pages
returns-in-Some-clause-pages c = λ place there.
    let old = c.args.self.now in
    let had : page_at old (c.args.at / PAGE_LEN) ≡ Some c.in-Some.page.now = sym c.get_mut.ensures.value ∙ ap option_copied_mut c.in-Some.is in
    let written = (c.get_mut.follows.holds c.fill.new.self).3 (ap is_some had) in
    page_of-stays old _ (c.args.at / PAGE_LEN) c.fill.new.self place (record { here = written.1; others = written.2 }) there
