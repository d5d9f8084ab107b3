use Rattle.std.proofs.Common.{◌≡◌, ℕ, List, Some, IfSome, slice_get, ap, sym, ◌∙◌, subst}
use Rattle.std.specs.Option.{option_and_then}
use Rattle.zk_tree.specs.declared.types.Type.{«Type»}
use Rattle.zk_scope.specs.Leading.{text_at}
use Rattle.zk_scope.specs.Lent.{home_of}
use Rattle.zk_scope.specs.Scripted.{scripts_in}
use Rattle.zk_scope.proofs.FollowLaws.{named_next}
use Rattle.zk_scope.proofs.typing.next_place.Goals as goal

pub returns-in-Named-clause-is : goal.returns-in-Named-clause-is
returns-in-Named-clause-is c =
    let scripts = scripts_in c.args.names.now in
    let home = home_of c.in-Some._home in
    c.first_text.ensures.is ∙ ap (λ (x : List ℕ). option_and_then (text_at scripts.names) (slice_get x 0)) c.steps_at.ensures ∙
    named_next scripts c.args.place home c.in-Named.name (sym c.in-Some.ensures ∙ ap (λ (tree : «Type»). Some (home, tree)) c.in-Named.is)

pub returns-in-Named-clause-first : goal.returns-in-Named-clause-first
returns-in-Named-clause-first c = subst (λ (xs : List ℕ). IfSome c.first_text.result (λ (next : ℕ). slice_get xs 0 ≡ Some next)) c.steps_at.ensures c.first_text.ensures.first
