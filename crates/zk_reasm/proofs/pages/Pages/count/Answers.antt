use Rattle.std.proofs.Common.{◌≡◌, ℕ, ◌≤◌, ◌<◌, cond, Option, None, max, sym, ap, ◌∙◌, ⊎_elim, arith}
use Rattle.std.proofs.lemmas.Bool.{cases_lt}
use Rattle.zk_reasm.specs.Pages.{byte_paged}
use Rattle.zk_reasm.specs.Between.{held_between}
use Rattle.zk_reasm.proofs.RangeLemmas.{held_at, held_between-split, held_between-none, held_between-more, held_between-empty}
use Rattle.zk_reasm.proofs.pages.Pages.count.Goals as goal

pub loop-place-init : goal.loop-place-init
loop-place-init c = record {
  order = omega arith;
  end = omega arith;
  count = sym (held_between-none (byte_paged c.args.self.now) c.args.from c.args.from (omega arith));
  within = omega arith;
}

pub loop-place-preserved : goal.loop-place-preserved
loop-place-preserved c =
    let f = byte_paged c.args.self.now in
    let place = c.in-Some.place in
    let found = c.in-Some.ensures in
    let here : held_at f place ≡ 1 = ap (λ b. cond b 1 0) found.2 in
    let passed = held_between-split f c.args.from c.loop-place.from place c.loop-place.invariant.order found.0 in
    let empty = held_between-empty f c.loop-place.from place found.3 in
    let more = held_between-more f c.args.from place (omega (arith, found.0, c.loop-place.invariant.order)) in
    record {
      order = omega (arith, found.0, c.loop-place.invariant.order);
      end = omega (arith, c.if-to-place.false);
      count = omega (arith, here, passed, empty, more, c.loop-place.invariant.count);
      within = omega (arith, found.0, c.loop-place.invariant.within, c.loop-place.invariant.order);
    }

-- nothing from here on
ended : (f : ℕ → Option ℕ) (from place to count : ℕ) → from ≤ place → place ≤ max from to → count ≡ held_between f from place
    → ((at : ℕ) → place ≤ at → at < to → f at ≡ None) → count ≡ held_between f from to
ended f from place to count order end counted none =
    ⊎_elim
    (λ past. counted ∙ held_between-none f from place (omega (arith, past, end)) ∙ sym (held_between-none f from to (omega (arith, past, end, order))))
    (λ low. let cut = held_between-split f from place to order low in let empty = held_between-empty f place to none in omega (arith, counted, cut, empty))
    (cases_lt to place)

pub returns-in_default : goal.returns-in_default
returns-in_default c =
    ended (byte_paged c.args.self.now) c.args.from c.loop-place.from c.args.to c.loop-place.count c.loop-place.invariant.order c.loop-place.invariant.end
    c.loop-place.invariant.count (λ at low high. c.in_default.ensures at low)

pub returns-then-to-place : goal.returns-then-to-place
returns-then-to-place c =
    ended (byte_paged c.args.self.now) c.args.from c.loop-place.from c.args.to c.loop-place.count c.loop-place.invariant.order c.loop-place.invariant.end
    c.loop-place.invariant.count (λ at low high. c.in-Some.ensures.3 at low (omega (arith, high, c.if-to-place.true)))
