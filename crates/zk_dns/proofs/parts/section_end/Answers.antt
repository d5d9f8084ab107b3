use Rattle.std.proofs.Common.{◌∙◌, ap, arith, sym, Err}
use Rattle.std.proofs.lemmas.Result.{err_from_is_err_and}
use Rattle.zk_dns.specs.declared.fault.DnsFault.{DnsFault}
use Rattle.zk_dns.proofs.PartLemmas.{all_end-fault, all_end-next, all_end-none}
use Rattle.zk_dns.proofs.parts.section_end.Goals as goal

pub returns-in_err-place-clause-exact : goal.returns-in_err-place-clause-exact
returns-in_err-place-clause-exact g c =
    let p = err_from_is_err_and c.from_residual.result c.from_residual.ensures.1 in
    p.1 ∙ ap (λ (why : DnsFault). Err why) p.2
    ∙ sym (c.loop.invariant.rest ∙ all_end-fault _ _ _ _ _ c.loop-test.true (sym c.in_err-place.ensures.exact))

pub loop-preserved : goal.loop-preserved
loop-preserved g c = record {
  rest = c.loop.invariant.rest ∙ all_end-next _ _ _ _ _ c.loop-test.true (sym c.in_ok-place.ensures.exact);
  within = c.in_ok-place.ensures.within;
}

pub returns-clause-exact : goal.returns-clause-exact
returns-clause-exact g c = sym (c.loop.invariant.rest ∙ all_end-none _ _ _ _ (omega (arith, c.loop-test.false)))
