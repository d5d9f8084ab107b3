use Rattle.std.proofs.Common.{Ok, Some, None, sym, ap}
use Rattle.zk_value.specs.declared.value.Value.TheVariants.{Count}
use Rattle.zk_builtin.proofs.FindLemmas.{strstr-found}
use Rattle.zk_builtin.proofs.strings.strstr.Goals as goal

pub returns-in-Some : goal.returns-in-Some
returns-in-Some c = ap (λ n. Ok (Count n)) (sym (strstr-found c.args.big.now c.args.little.now (Some c.in-Some.place) c.in-Some.ensures))

pub returns-in-None : goal.returns-in-None
returns-in-None c = ap (λ n. Ok (Count n)) (sym (strstr-found c.args.big.now c.args.little.now None c.in-None.ensures))
