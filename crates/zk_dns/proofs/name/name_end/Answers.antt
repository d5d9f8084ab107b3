use Rattle.std.proofs.Common.{◌∙◌, sym, arith, Err, ap}
use Rattle.std.proofs.lemmas.Bool.Decides.{nat_tests}
use Rattle.std.proofs.lemmas.Result.{err_from_is_err_and}
use Rattle.zk_dns.specs.declared.fault.DnsFault.{DnsFault}
use Rattle.zk_dns.proofs.NameLemmas.{left-astray, left-root, name_end-begins, name_end-refused}
use Rattle.zk_dns.proofs.SkipLemmas.{left-skip_fault, left-skips_on}
use Rattle.zk_dns.proofs.name.name_end.Goals as goal

pub returns-in_err-run-clause-exact : goal.returns-in_err-run-clause-exact
returns-in_err-run-clause-exact c =
    let refused = name_end-refused c.args.bytes.now c.args.bound c.args.place c.in_err-run.field-0.0 (sym c.in_err-run.ensures.exact) in
    let p = err_from_is_err_and c.from_residual.result c.from_residual.ensures.1 in
    p.1 ∙ ap (λ (why : DnsFault). Err why) p.2 ∙ sym refused

pub loop-run-init : goal.loop-run-init
loop-run-init c = record {
  rest = rw c.behind_ending-next.ensures (name_end-begins _ _ _ _ (sym c.in_ok-run.ensures.exact));
  whole = omega (arith, c.in_ok-run.ensures.within, c.requires.bound);
  small = c.in_ok-run.ensures.size;
  within = omega (arith, c.in_ok-run.ensures.within, c.behind_ending-next.ensures);
}

pub returns-then-target-lt-TARGET_MIN-clause-exact :
    goal.returns-then-target-lt-TARGET_MIN-clause-exact
returns-then-target-lt-TARGET_MIN-clause-exact c =
    sym (c.loop-run.invariant.rest ∙ left-astray _ _ _ _ c.loop-run-test.true (grind (arith, nat_tests)))

pub returns-in_err-run-2-clause-exact : goal.returns-in_err-run-2-clause-exact
returns-in_err-run-2-clause-exact c =
    let found = rw c.whole.ensures at c.in_err-run-2.ensures.exact in
    let p = err_from_is_err_and c.from_residual-in_err-run-2.result c.from_residual-in_err-run-2.ensures.1 in
    p.1 ∙ ap (λ (why : DnsFault). Err why) p.2
    ∙ sym (c.loop-run.invariant.rest
    ∙ left-skip_fault _ _ _ _ _ c.target_at-target.result _ _ c.requires.skips c.loop-run-test.true c.target_at-target.ensures
    (omega arith) (omega arith) c.skip-start.ensures (sym found))

pub loop-run-smaller : goal.loop-run-smaller
loop-run-smaller c =
    (left-skips_on c.behind_ending-next.result _ _ _ _ c.target_at-target.result _ _ c.requires.skips c.loop-run-test.true c.target_at-target.ensures
    (omega arith) (omega arith) c.skip-start.ensures (sym (rw c.whole.ensures at c.in_ok-run-2.ensures.exact))).0

pub loop-run-preserved : goal.loop-run-preserved
loop-run-preserved c = record {
  rest = c.loop-run.invariant.rest
      ∙ (left-skips_on _ _ _ _ _ c.target_at-target.result _ _ c.requires.skips c.loop-run-test.true c.target_at-target.ensures
      (omega arith) (omega arith) c.skip-start.ensures (sym (rw c.whole.ensures at c.in_ok-run-2.ensures.exact))).1;
  whole = omega (arith, rw c.whole.ensures at c.in_ok-run-2.ensures.within);
  small = c.in_ok-run-2.ensures.size;
  within = c.loop-run.invariant.within;
}

pub returns-clause-exact : goal.returns-clause-exact
returns-clause-exact c = sym (c.loop-run.invariant.rest ∙ left-root _ _ _ _ c.loop-run-test.false)
