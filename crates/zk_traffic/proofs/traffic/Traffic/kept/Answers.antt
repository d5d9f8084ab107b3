use Rattle.std.proofs.Common.{◌∙◌, arith}
use Rattle.zk_traffic.proofs.BoundLemmas.{kept_within, kept_is}
use Rattle.zk_traffic.proofs.traffic.Traffic.kept.Goals as goal

pub returns-clause-exact : goal.returns-clause-exact
returns-clause-exact c = λ h stands. c.kept.ensures ∙ kept_is c.args.self.now h stands

pub returns-clause-bound : goal.returns-clause-bound
returns-clause-bound c = λ h stands.
    omega (arith, c.kept.ensures, kept_within c.args.self.now h stands)
