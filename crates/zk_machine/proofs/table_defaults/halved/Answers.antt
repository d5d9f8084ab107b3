use Rattle.std.proofs.Common.{◌∙◌}
use Rattle.zk_machine.proofs.DefaultLemmas.{halved-is}
use Rattle.zk_machine.proofs.table_defaults.halved.Goals as goal

pub returns-in-Some : goal.returns-in-Some
returns-in-Some c = λ above up.
    c.at.ensures ∙ halved-is c.args.number c.args.all.now above c.in-Some.place up c.in-Some.ensures.found
