use Rattle.std.proofs.Common.{List, ap, sym, ◌∙◌, slice_get}
use Rattle.std.specs.Option.{option_map}
use Rattle.zk_scope.specs.declared.home.Stated.{Stated}
use Rattle.zk_scope.specs.Lent.{stated_of}
use Rattle.zk_scope.specs.Scripted.{scripts_in}
use Rattle.zk_scope.proofs.IndexLaws.{get_of_map, seen_through}
use Rattle.zk_scope.proofs.known.Names.stated_at.Goals as goal

pub returns : goal.returns
unfolding scripts_in
returns c =
    let items = c.args.self.now.stated.items in
    seen_through stated_of c.at.result ∙ ap (option_map stated_of) (c.at.ensures ∙ ap (λ (x : List Stated). slice_get x c.args.place) c.deref.ensures.value) ∙
    sym (get_of_map stated_of items c.args.place)
