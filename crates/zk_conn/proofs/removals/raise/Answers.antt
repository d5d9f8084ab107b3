use Rattle.std.proofs.Common.{[], sym, ◌∙◌, arith}
use Rattle.zk_conn.proofs.RemovalLemmas.{higher_length, raised_enough, raised_top, raised_up}
use Rattle.zk_conn.proofs.removals.raise.Goals as goal

pub loop-filing-preserved : goal.loop-filing-preserved
loop-filing-preserved c = (
  omega (arith, higher_length [] c.loop-filing.firsts c.loop-filing.at c.args.filing, c.loop-filing.invariant.0),
  λ filings raised. raised_up filings c.loop-filing.firsts c.loop-filing.at c.args.filing c.loop-filing.invariant.0 (omega (arith, c.if-at-eq0.false))
      (sym c.is_sooner.ensures ∙ c.loop-filing-test.true) (c.loop-filing.invariant.1 filings raised),
)

pub returns-then-at-eq0 : goal.returns-then-at-eq0
returns-then-at-eq0 c = λ filings raised.
    raised_top filings c.loop-filing.firsts c.loop-filing.at c.args.filing c.loop-filing.invariant.0 (omega (arith, c.if-at-eq0.true))
    (sym c.is_sooner.ensures ∙ c.loop-filing-test.true) (c.loop-filing.invariant.1 filings raised)

pub returns : goal.returns
returns c = λ filings raised.
    raised_enough filings c.loop-filing.firsts c.loop-filing.at c.args.filing (sym c.is_sooner.ensures ∙ c.loop-filing-test.false) (c.loop-filing.invariant.1 filings raised)
