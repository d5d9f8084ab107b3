use Rattle.std.proofs.Common.{List, Option, ap, sym, ◌∙◌, slice_get}
use Rattle.std.specs.Option.{option_map}
use Rattle.zk_scope.specs.declared.declared.Declared.{Declared}
use Rattle.zk_scope.specs.Leading.{text_of}
use Rattle.zk_scope.specs.Lent.{declared_of}
use Rattle.zk_scope.specs.Scripted.{scripts_in}
use Rattle.zk_scope.proofs.IndexLaws.{get_of_map}
use Rattle.zk_scope.proofs.known.Names.text_at.Goals as goal

pub returns-in-Some : goal.returns-in-Some
unfolding scripts_in
returns-in-Some c =
    let items = c.args.self.now.table.names.items in
    c.written_text.ensures ∙ ap (λ (x : Option Declared). text_of (option_map declared_of x)) (c.in-Some.ensures ∙ ap (λ (x : List Declared). slice_get x c.args.place) c.deref.ensures.value) ∙
    ap text_of (sym (get_of_map declared_of items c.args.place))

pub returns-in-None : goal.returns-in-None
unfolding scripts_in
returns-in-None c =
    let items = c.args.self.now.table.names.items in
    ap (λ (x : Option Declared). text_of (option_map declared_of x)) (c.in-None.ensures ∙ ap (λ (x : List Declared). slice_get x c.args.place) c.deref.ensures.value) ∙
    ap text_of (sym (get_of_map declared_of items c.args.place))
