use Rattle.std.proofs.Common.{ℕ, List, slice_get, ap, sym, ◌∙◌}
use Rattle.std.specs.Option.{option_and_then}
use Rattle.zk_scope.specs.declared.ends.End.{End}
use Rattle.zk_scope.specs.Leading.{text_at}
use Rattle.zk_scope.specs.Scripted.{scripts_in}
use Rattle.zk_scope.proofs.EndLaws.{told_end}
use Rattle.zk_scope.proofs.typing.end_place.Goals as goal

pub returns-in-Some : goal.returns-in-Some
unfolding scripts_in
returns-in-Some c = λ text is.
    let scripts = scripts_in c.args.names.now in
    ap (option_and_then (text_at scripts.names)) c.end_of.ensures ∙
    told_end scripts c.args.names.now.ends.items c.args.place c.in-Some.end.now text c.args.names.now.ended (sym (c.in-Some.ensures ∙ ap (λ (x : List End). slice_get x c.args.place) c.deref.ensures.value)) is
