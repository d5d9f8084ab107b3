use Rattle.std.proofs.Common.{◌∙◌, sym, arith}
use Rattle.std.proofs.lemmas.Bool.Decides.{nat_tests}
use Rattle.zk_dns.proofs.DataLemmas.{data-judged}
use Rattle.zk_dns.proofs.data.judge_by_type.Goals as goal

pub returns-in-1 : goal.returns-in-1
returns-in-1 c = c.only_if.ensures ∙ sym (data-judged _ _ _ _ c.requires.order c.requires.whole ∙ grind (arith, nat_tests))

pub returns-in-28 : goal.returns-in-28
returns-in-28 c = c.only_if-in-28.ensures ∙ sym (data-judged _ _ _ _ c.requires.order c.requires.whole ∙ grind (arith, nat_tests))

pub returns-in-2 : goal.returns-in-2
returns-in-2 c = c.judge_name.ensures ∙ sym (data-judged _ _ _ _ c.requires.order c.requires.whole ∙ grind (arith, nat_tests))

pub returns-in-15 : goal.returns-in-15
returns-in-15 c = c.judge_name-in-15.ensures ∙ sym (data-judged _ _ _ _ c.requires.order c.requires.whole ∙ grind (arith, nat_tests))

pub returns-in-16 : goal.returns-in-16
returns-in-16 c =
    c.only_if-in-16.ensures ∙ sym (data-judged _ _ _ _ c.requires.order c.requires.whole ∙ grind (arith, nat_tests, c.are_strings.ensures))

pub returns-in-6 : goal.returns-in-6
returns-in-6 c = c.judge_soa.ensures ∙ sym (data-judged _ _ _ _ c.requires.order c.requires.whole ∙ grind (arith, nat_tests))

pub returns-in_default : goal.returns-in_default
returns-in_default c = sym (data-judged _ _ _ _ c.requires.order c.requires.whole ∙ grind (arith, nat_tests))
