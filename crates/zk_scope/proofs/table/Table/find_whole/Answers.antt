use Rattle.std.proofs.Common.{Some, None, List, Bor, ap, sym, ◌∙◌, slice_get}
use Rattle.std.specs.Option.{option_map}
use Rattle.zk_typed.specs.Names.{is_open}
use Rattle.zk_scope.specs.declared.declared.Declared.{Declared}
use Rattle.zk_scope.specs.Lent.{declared_lent, declared_of}
use Rattle.zk_scope.proofs.IndexLaws.{whole_found, get_of_map, seen_through}
use Rattle.zk_scope.proofs.table.Table.find_whole.Goals as goal

pub returns-in_err-place : goal.returns-in_err-place
returns-in_err-place c =
    let names = declared_lent c.args.self.now.names.items in
    ap (option_map (λ (one : Bor Declared). declared_of one.now)) c.from_residual.ensures ∙
    whole_found names c.args.from_module.now c.args.whole.now c.is_open.result None (c.is_open.ensures ∙ ap (is_open c.args.from_module.now) c.as_slice.ensures)
    (c.in_err-place.ensures names c.args.self.now.indexed)

pub returns : goal.returns
returns c =
    let items = c.args.self.now.names.items in
    let names = declared_lent items in
    seen_through declared_of c.at.result ∙ ap (option_map declared_of) (c.at.ensures ∙ ap (λ (x : List Declared). slice_get x c.in_ok-place.place) c.deref.ensures.value) ∙
    sym (get_of_map declared_of items c.in_ok-place.place) ∙
    whole_found names c.args.from_module.now c.args.whole.now c.is_open.result (Some c.in_ok-place.place) (c.is_open.ensures ∙ ap (is_open c.args.from_module.now) c.as_slice.ensures)
    (c.in_ok-place.ensures names c.args.self.now.indexed)
