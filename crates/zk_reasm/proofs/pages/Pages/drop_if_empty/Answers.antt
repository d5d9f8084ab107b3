use Rattle.std.proofs.Common.{◌≡◌, Some, sym, ap, ◌∙◌}
use Rattle.std.specs.Option.{option_copied}
use Rattle.zk_reasm.specs.Pages.{page_at}
use Rattle.zk_reasm.proofs.PagesLemmas.{byte_paged-dropped}
use Rattle.zk_reasm.proofs.pages.Pages.drop_if_empty.Goals as goal

pub returns-then-is_empty : goal.returns-then-is_empty
returns-then-is_empty c =
    let had : page_at c.args.self.now c.args.key ≡ Some c.in-Some.page.now = sym c.get.ensures.value ∙ ap option_copied c.in-Some.is in
    byte_paged-dropped c.args.self.now _ c.args.key c.in-Some.page.now had (c.is_empty.ensures c.if-is_empty.true)
    (record { here = c.remove.ensures.updates.1; others = c.remove.ensures.updates.2 })
