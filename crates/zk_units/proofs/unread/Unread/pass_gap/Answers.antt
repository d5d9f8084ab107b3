use Rattle.std.proofs.Common.{◌≡◌, [], ◌∷◌, refl, ap, arith}
use Rattle.zk_units.specs.Cuts.{gaps_in, runs_in}
use Rattle.zk_units.proofs.CutLemmas.{gaps-cons, runs-cons}
use Rattle.zk_units.proofs.UnreadLemmas.{first_gap, later_gaps, none_of, pass-last, pass-some_gap, pass-to_next}
use Rattle.zk_units.proofs.unread.Unread.pass_gap.Goals as goal

pub invariant_of-self : goal.invariant_of-self
invariant_of-self c =
    let u = c.args.self.now in
    let cut = c.in-Some.cut in
    let rest = c.pop_front.new.self.items in
    let cuts : u.cuts.items ≡ cut ∷ rest = c.in-Some.ensures.items in
    let all = first_gap u cut rest cuts in
    let none : u.run ≡ 0 = c.requires.first (omega arith) in
    record {
      whole = omega (arith, u.whole, ap runs_in cuts, runs-cons cut rest, none);
      counted = omega (arith, u.counted, ap gaps_in cuts, gaps-cons cut rest, c.if-self-eq0.true, c.requires.gap);
      filled = later_gaps cut rest all;
      uncut = λ is. absurd (omega (arith, is, all 0 cut (omega arith)));
      behind = omega (arith, u.behind);
      within = u.within;
    }

pub returns-in-Some-clause-places : goal.returns-in-Some-clause-places
returns-in-Some-clause-places c =
    let u = c.args.self.now in
    let cut = c.in-Some.cut in
    let all = first_gap u cut c.pop_front.new.self.items c.in-Some.ensures.items in
    pass-to_next u _ c.args.places cut (omega arith) (c.requires.first (omega arith)) (omega arith) (all 0 cut (omega arith)) c.in-Some.ensures.items refl refl refl

pub returns-in_default-clause-places : goal.returns-in_default-clause-places
returns-in_default-clause-places c =
    let none : c.args.self.now.cuts.items ≡ [] = none_of c.args.self.now.cuts.items (omega (arith, c.in_default.ensures.cases.0)) in
    pass-last c.args.self.now _ c.args.places (omega arith) (c.requires.first (omega arith)) (omega arith) none c.if-self-eq0.true refl

pub returns-else-self-eq0-clause-places : goal.returns-else-self-eq0-clause-places
returns-else-self-eq0-clause-places c =
    pass-some_gap c.args.self.now _ c.args.places (omega arith) c.requires.first (omega arith) refl refl refl refl
