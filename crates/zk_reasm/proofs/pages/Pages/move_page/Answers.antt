use Rattle.std.proofs.Common.{◌≡◌, ◌+◌, ◌-◌, ◌*◌, ◌/◌, ◌%◌, ◌≤◌, ◌++◌, Some, sym, ap, ◌∙◌, arith, append-nil}
use Rattle.std.specs.Option.{is_some, option_copied_mut}
use Rattle.zk_reasm.specs.declared.page.TheConstants.{PAGE_LEN}
use Rattle.zk_reasm.specs.Pages.{byte_paged, page_of, page_at}
use Rattle.zk_reasm.specs.Between.{held_between, bytes_between}
use Rattle.zk_reasm.specs.Page.{byte_on}
use Rattle.zk_base.specs.ByteQueue.{bytes_of}
use Rattle.zk_reasm.proofs.PagesLemmas.{byte_paged-off, byte_paged-page, byte_paged-behind}
use Rattle.zk_reasm.proofs.RangeLemmas.{held_between-split, held_between-shift, bytes_between-none, bytes_between-shift}
use Rattle.zk_reasm.proofs.pages.Pages.move_page.Goals as goal

pub returns-in_default-clause-run : goal.returns-in_default-clause-run
returns-in_default-clause-run c =
    sym (ap (λ xs. bytes_of c.args.run.now ++ xs) (bytes_between-none (byte_paged c.args.self.now) c.args.from c.args.from (omega arith)) ∙ append-nil (bytes_of c.args.run.now))

pub returns-in_default-clause-stop : goal.returns-in_default-clause-stop
unfolding page_of
returns-in_default-clause-stop c = λ same low. byte_paged-off c.args.self.now c.args.from (sym c.get_mut.ensures.value ∙ ap option_copied_mut c.in_default.is)

pub move_run-at-requires-clause-room : goal.move_run-at-requires-clause-room
unfolding page_of
move_run-at-requires-clause-room c =
    let old = c.args.self.now in
    let from = c.args.from in
    let i = from % PAGE_LEN in
    let was = c.in-Some.page.now in
    let had : page_of old from ≡ Some was = sym c.get_mut.ensures.value ∙ ap option_copied_mut c.in-Some.is in
    let n = c.min-end.result - i in
    let short : i ≤ c.min-end.result = omega (arith, c.min-end.ensures) in
    let same = held_between-shift (byte_paged old) (byte_on was) from i n (byte_paged-page old from n was had (omega (arith, c.min-end.ensures))) in
    let end = ap (held_between (byte_on was) i) (let e : i + n ≡ c.min-end.result = omega (arith, short) in e) in
    let cut = held_between-split (byte_paged old) from (from + n) c.args.to (omega arith) (omega (arith, c.min-end.ensures)) in
    omega (arith, same, end, cut, c.requires.room)

pub returns-clause-run : goal.returns-clause-run
unfolding page_of
returns-clause-run c =
    let old = c.args.self.now in
    let from = c.args.from in
    let i = from % PAGE_LEN in
    let was = c.in-Some.page.now in
    let had : page_of old from ≡ Some was = sym c.get_mut.ensures.value ∙ ap option_copied_mut c.in-Some.is in
    let r = c.move_run-at.result in
    let n = r - i in
    c.move_run-at.ensures.run
    ∙ ap (λ xs. bytes_of c.args.run.now ++ xs)
    (ap (bytes_between (byte_on was) i) (let e : r ≡ i + n = omega (arith, c.move_run-at.ensures.order) in e)
    ∙ sym (bytes_between-shift (byte_paged old) (byte_on was) from i n (byte_paged-page old from n was had (omega (arith, c.move_run-at.ensures.within, c.min-end.ensures))))
    ∙ ap (bytes_between (byte_paged old) from) (let e : from + n ≡ from / PAGE_LEN * PAGE_LEN + r = omega (arith, c.move_run-at.ensures.order) in e))

pub returns-clause-had : goal.returns-clause-had
unfolding page_of
returns-clause-had c = λ at low high.
    let old = c.args.self.now in
    let from = c.args.from in
    let i = from % PAGE_LEN in
    let was = c.in-Some.page.now in
    let had : page_of old from ≡ Some was = sym c.get_mut.ensures.value ∙ ap option_copied_mut c.in-Some.is in
    let r = c.move_run-at.result in
    let k = at - from in
    ap is_some (ap (byte_paged old) (let e : at ≡ from + k = omega (arith, low) in e)
    ∙ byte_paged-page old from (r - i) was had (omega (arith, c.move_run-at.ensures.within, c.min-end.ensures)) k (omega (arith, low, high)))
    ∙ c.move_run-at.ensures.had (i + k) (omega arith) (omega (arith, low, high))

pub returns-clause-behind : goal.returns-clause-behind
returns-clause-behind c = λ at low.
    let old = c.args.self.now in
    let was = c.in-Some.page.now in
    let had : page_at old (c.args.from / PAGE_LEN) ≡ Some was = sym c.get_mut.ensures.value ∙ ap option_copied_mut c.in-Some.is in
    let written = (c.get_mut.follows.holds c.move_run-at.new.self).3 (ap is_some had) in
    c.drop_if_empty.ensures at
    ∙ byte_paged-behind old _ c.args.from c.move_run-at.result was c.move_run-at.new.self had
    (record { here = written.1; others = written.2 }) (omega (arith, c.move_run-at.ensures.within, c.min-end.ensures)) c.move_run-at.ensures.behind at low

pub returns-clause-stop : goal.returns-clause-stop
unfolding page_of
returns-clause-stop c = λ same low.
    let old = c.args.self.now in
    let from = c.args.from in
    let i = from % PAGE_LEN in
    let was = c.in-Some.page.now in
    let had : page_of old from ≡ Some was = sym c.get_mut.ensures.value ∙ ap option_copied_mut c.in-Some.is in
    ap (byte_paged old) (let e : from ≡ from + 0 = omega arith in e)
    ∙ byte_paged-page old from 1 was had (omega arith) 0 (omega arith)
    ∙ ap (byte_on was) (let e : i + 0 ≡ c.move_run-at.result = omega (arith, same) in e)
    ∙ c.move_run-at.ensures.stop (omega (arith, same, low, c.min-end.ensures))
