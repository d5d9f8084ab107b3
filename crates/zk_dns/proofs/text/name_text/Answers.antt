use Rattle.std.proofs.Common.{◌∙◌, sym, arith}
use Rattle.std.proofs.lemmas.Bool.Decides.{nat_tests}
use Rattle.zk_dns.proofs.SkipLemmas.{skip-text}
use Rattle.zk_dns.proofs.TextLemmas.{has-run, name-leads, name-stops, text-labels, text-root}
use Rattle.zk_dns.proofs.text.name_text.Goals as goal
use Rattle.zk_dns.proofs.text.name_text.Goals.{then-is_empty+in_ok-push, else-is_empty}

pub push_labels-requires : goal.push_labels-requires
push_labels-requires c = has-run _ _ c.loop-text.invariant.rest

pub target_at-requires : goal.target_at-requires
target_at-requires c = (name-leads _ _ _ _ _ c.loop-text.invariant.rest c.in_ok-ending.ensures.text c.if-bytes-ending-eq0.false).0

pub loop-text-smaller : goal.loop-text-smaller
loop-text-smaller c =
    let leads = name-leads _ _ _ _ _ c.loop-text.invariant.rest c.in_ok-ending.ensures.text c.if-bytes-ending-eq0.false in
    let goes = skip-text _ _ _ _ c.requires.skips (rw c.target_at.ensures leads.2) c.skip-start.ensures in
    omega (arith, leads.1, c.target_at.ensures, goes.0)

pub loop-text-preserved : goal.loop-text-preserved
loop-text-preserved c =
    let leads = name-leads _ _ _ _ _ c.loop-text.invariant.rest c.in_ok-ending.ensures.text c.if-bytes-ending-eq0.false in
    let goes = skip-text _ _ _ _ c.requires.skips (rw c.target_at.ensures leads.2) c.skip-start.ensures in
    record {
      rest = goes.1;
      text = c.loop-text.invariant.text ∙ leads.3 ∙ rw (← c.target_at.ensures) (goes.2 _);
    }

pub returns : goal.returns
returns c =
    let told = c.loop-text.invariant.text
    ∙ name-stops _ _ _ _ _ c.loop-text.invariant.rest c.in_ok-ending.ensures.text c.if-bytes-ending-eq0.true in
    let len = c.push_labels.new.text.ok.0 in
    rw c.from.ensures (elim c.if-is_empty.branch [
      | then-is_empty+in_ok-push w ↦ rw (w.text-is, w.in_ok-push.ensures.items) (text-root _ _ _ c.requires.name told
          (sym len ∙ grind (arith, nat_tests, w.if-is_empty.true, c.is_empty.ensures)))
      | else-is_empty w ↦ rw w.text-is (text-labels _ _ _ c.requires.name told
          (λ none. absurd (grind (arith, nat_tests, w.if-is_empty.false, c.is_empty.ensures, len, none))))
    ])
