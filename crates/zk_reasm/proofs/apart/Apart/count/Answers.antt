use Rattle.std.proofs.Common.{ap, sym}
use Rattle.std.specs.Option.{option_map}
use Rattle.zk_reasm.proofs.ApartLemmas.{none_held}
use Rattle.zk_reasm.proofs.apart.Apart.count.Goals as goal

pub returns-in-None : goal.returns-in-None
returns-in-None c = sym (none_held c.args.self.now c.args.from c.args.to (ap (option_map (λ boxed. boxed.value)) c.in-None.is))
