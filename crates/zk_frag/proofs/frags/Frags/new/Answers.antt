use Rattle.std.proofs.Common.{[], subst}
use Rattle.zk_frag.specs.Standing.{StandsFor}
use Rattle.zk_frag.proofs.KeyLemmas.{key_eq_is}
use Rattle.zk_frag.proofs.frags.Frags.new.Goals as goal

pub returns-clause-empty : goal.returns-clause-empty
returns-clause-empty c = subst (λ same. StandsFor same c.new.result []) key_eq_is c.new.ensures.empty
