use Rattle.std.proofs.Common.{Bool, List, refl, ap, ◌∙◌}
use Rattle.zk_scope.specs.Indexing.{is_marked, mark_at}
use Rattle.zk_scope.specs.Scripted.{scripts_in}
use Rattle.zk_scope.proofs.known.Names.is_circle.Goals as goal

pub returns-in-Some : goal.returns-in-Some
unfolding scripts_in
returns-in-Some c =
    ap is_marked c.in-Some.ensures ∙ ap (λ (x : List Bool). mark_at x c.args.place) c.deref.ensures.value ∙ c.args.self.now.circled (scripts_in c.args.self.now) refl c.args.place

pub returns-in-None : goal.returns-in-None
unfolding scripts_in
returns-in-None c =
    ap is_marked c.in-None.ensures ∙ ap (λ (x : List Bool). mark_at x c.args.place) c.deref.ensures.value ∙ c.args.self.now.circled (scripts_in c.args.self.now) refl c.args.place
