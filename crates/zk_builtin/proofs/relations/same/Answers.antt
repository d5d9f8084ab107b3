use Rattle.std.proofs.Common.{◌∙◌}
use Rattle.zk_builtin.proofs.RelationLemmas.{same-eq}
use Rattle.zk_builtin.proofs.relations.same.Goals as goal

pub returns : goal.returns
returns c = c.eq.ensures ∙ same-eq c.args.a.now c.args.b.now
