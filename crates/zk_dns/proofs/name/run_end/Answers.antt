use Rattle.std.proofs.Common.{◌∙◌, sym, arith}
use Rattle.std.proofs.lemmas.Bool.Decides.{nat_tests}
use Rattle.zk_dns.proofs.NameLemmas.{run_end_is, run_end-next}
use Rattle.zk_dns.proofs.name.run_end.Goals as goal

pub returns-in-0-clause-exact : goal.returns-in-0-clause-exact
returns-in-0-clause-exact c =
    sym (c.loop-place.invariant.rest ∙ run_end_is _ _ _ _ c.requires.bound ∙ grind (arith, nat_tests))

pub returns-then-left-len-clause-exact : goal.returns-then-left-len-clause-exact
returns-then-left-len-clause-exact c =
    sym (c.loop-place.invariant.rest ∙ run_end_is _ _ _ _ c.requires.bound ∙ grind (arith, nat_tests))

pub returns-then-size-len-gt-NAME_MAX-clause-exact :
    goal.returns-then-size-len-gt-NAME_MAX-clause-exact
returns-then-size-len-gt-NAME_MAX-clause-exact c =
    sym (c.loop-place.invariant.rest ∙ run_end_is _ _ _ _ c.requires.bound ∙ grind (arith, nat_tests))

pub loop-place-preserved : goal.loop-place-preserved
loop-place-preserved c = record {
  rest = c.loop-place.invariant.rest
      ∙ run_end-next _ _ _ _ _ c.requires.bound c.from-len.ensures (omega arith) (omega arith) (omega arith) (omega arith);
  small = omega arith;
}

pub returns-in-64-to-191-clause-exact : goal.returns-in-64-to-191-clause-exact
returns-in-64-to-191-clause-exact c =
    sym (c.loop-place.invariant.rest ∙ run_end_is _ _ _ _ c.requires.bound ∙ grind (arith, nat_tests))

pub returns-in_default-clause-exact : goal.returns-in_default-clause-exact
returns-in_default-clause-exact c =
    sym (c.loop-place.invariant.rest ∙ run_end_is _ _ _ _ c.requires.bound ∙ grind (arith, nat_tests))

pub returns-in_default-2-clause-exact : goal.returns-in_default-2-clause-exact
returns-in_default-2-clause-exact c =
    sym (c.loop-place.invariant.rest ∙ run_end_is _ _ _ _ c.requires.bound ∙ grind (arith, nat_tests))

pub returns-clause-exact : goal.returns-clause-exact
returns-clause-exact c =
    sym (c.loop-place.invariant.rest ∙ run_end_is _ _ _ _ c.requires.bound ∙ grind (arith, nat_tests))
