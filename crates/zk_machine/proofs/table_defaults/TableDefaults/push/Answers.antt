use Rattle.std.proofs.Common.{sym, subst}
use Rattle.zk_machine.specs.Defaulted.{Rises}
use Rattle.zk_machine.proofs.DefaultLemmas.{rises-with}
use Rattle.zk_machine.proofs.table_defaults.TableDefaults.push.Goals as goal

pub invariant_of-self-2 : goal.invariant_of-self-2
invariant_of-self-2 c = λ above is.
    subst (λ all. Rises 0 all above) (sym c.in_ok-push.ensures.items)
    (rises-with c.self.inside.above c.above_with-above.result c.self.inside.all.items c.args.one c.self.invariant c.above_with-above.ensures.next c.above_with-above.ensures.rises above is)
