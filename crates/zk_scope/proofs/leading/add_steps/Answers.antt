use Rattle.std.proofs.Common.{ℕ, List, fold, nat_eq, ap, ◌∙◌}
use Rattle.indexmap.specs.IndexSet.{insert_key}
use Rattle.zk_scope.proofs.leading.add_steps.Goals as goal

pub returns : goal.returns
returns c = λ names has. c.in_ok-add_found.ensures ∙ ap (λ (x : List ℕ). fold (insert_key nat_eq) c.args.found.now.keys x) (c.steps_at.ensures ∙ has.0 c.args.place)
