use Rattle.std.proofs.Common.{◌∙◌, sym, arith}
use Rattle.std.proofs.lemmas.Bool.Decides.{nat_tests}
use Rattle.zk_dns.proofs.DataLemmas.{data-judged-class}
use Rattle.zk_dns.proofs.data.judge.Goals as goal

pub returns-then-rclass-eq-INTERNET : goal.returns-then-rclass-eq-INTERNET
returns-then-rclass-eq-INTERNET c = c.judge_by_type.ensures ∙ sym (data-judged-class _ _ _ _ _ ∙ grind (arith, nat_tests))

pub returns-else-rclass-eq-INTERNET : goal.returns-else-rclass-eq-INTERNET
returns-else-rclass-eq-INTERNET c = sym (data-judged-class _ _ _ _ _ ∙ grind (arith, nat_tests))
