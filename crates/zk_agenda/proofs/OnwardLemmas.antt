-- One world behind another.
use Rattle.std.proofs.Common.{◌≡◌, ℕ, ◌+◌, Bool, true, false, List, [], ◌∷◌, ◌++◌, length, refl, sym, ap, subst, ◌∙◌, append_assoc, append-nil, arith}
use Rattle.std.specs.Prelude.{◌≤ℤ◌, ◌+ℤ◌, ◌^◌, ◌-◌, ℤ, pos, if◌then◌else◌}
use Rattle.std.proofs.lemmas.Int.{ints}
use Rattle.std.proofs.lemmas.List.{length-append}
use Rattle.std.proofs.Math.Nat.{add_assoc}
use Rattle.std.specs.Int.{int_min, int_max}
use Rattle.zk_base.specs.declared.numbers.EventNo.{EventNo}
use Rattle.zk_base.specs.declared.time.Moment.{Moment}
use Rattle.zk_base.specs.declared.time.Span.{Span}
use Rattle.zk_tree.specs.Table.{last_moment, moment_after}
use Rattle.zk_tree.specs.Value.{Value}
use Rattle.zk_typed.specs.Primitives.{schedule}
use Rattle.zk_typed.specs.State.{World, scheduled_for}
use Rattle.zk_typed.specs.World.{Queued, Scheduled, queued}
use Rattle.zk_agenda.specs.Onward.{AreScheduled, Onward}

-- a change of other parts
pub onward_alike : (before after : World) → after.time ≡ before.time → after.is_ending ≡ before.is_ending → after.scheduled ≡ before.scheduled → after.schedulings ≡ before.schedulings
    → Onward before after
onward_alike before after time ending scheduled schedulings = record {
  time = time;
  ending = ending;
  more = [];
  scheduled = scheduled ∙ sym (append-nil before.scheduled);
  schedulings = schedulings ∙ (let e : before.schedulings ≡ before.schedulings + 0 = omega arith in e);
  are_scheduled = tt;
  none = λ is. refl;
}

are-both : (now : Moment) (order : ℕ) (first second : List Scheduled) → AreScheduled now order first → AreScheduled now (order + length first) second
    → AreScheduled now order (first ++ second)
are-both now order [] second one other = subst (λ n. AreScheduled now n second) (let e : order + 0 ≡ order = omega arith in e) other
are-both now order (event ∷ first) second one other = (
  one.0,
  one.1,
  are-both now (order + 1) first second one.2
      (subst (λ n. AreScheduled now n second) (let e : order + length (event ∷ first) ≡ order + 1 + length first = omega arith in e) other),
)

-- both of two lists are none
none-of-both : (first second : List Scheduled) → first ≡ [] → second ≡ [] → first ++ second ≡ []
none-of-both first second one other = ap (λ l. l ++ second) one ∙ other

pub onward_both : (a b c : World) → Onward a b → Onward b c → Onward a c
onward_both a b c first second = record {
  time = second.time ∙ first.time;
  ending = second.ending ∙ first.ending;
  more = first.more ++ second.more;
  scheduled = second.scheduled ∙ (ap (λ l. l ++ second.more) first.scheduled ∙ append_assoc a.scheduled first.more second.more);
  schedulings = second.schedulings ∙ (ap (λ n. n + length second.more) first.schedulings ∙ (add_assoc a.schedulings (length first.more) (length second.more)
      ∙ ap (λ n. a.schedulings + n) (sym (length-append first.more second.more))));
  are_scheduled = are-both a.time a.schedulings first.more second.more first.are_scheduled
      (subst (λ n. AreScheduled a.time n second.more) first.schedulings (subst (λ (m : Moment). AreScheduled m b.schedulings second.more) first.time second.are_scheduled));
  none = λ is. none-of-both first.more second.more (first.none is) (second.none (first.ending ∙ is));
}

-- so long after a moment isn't before it
long_after : (z d : ℤ) → z ≤ℤ pos (2 ^ 63 - 1) → z ≤ℤ int_min (z +ℤ int_max d (pos 0)) (pos (2 ^ 63 - 1))
long_after z d within = grind (arith, ints)

pub not_before : (now : Moment) (delay : Span) → now.0 ≤ℤ last_moment → now.0 ≤ℤ (moment_after now delay).0
unfolding moment_after
not_before now delay within = long_after now.0 delay.0 within

one-scheduled : (due : Moment) (what : Queued) (world : World) → (world.time.0 ≤ℤ last_moment → world.time.0 ≤ℤ due.0) → world.is_ending ≡ false
    → Onward world (scheduled_for due what world)
one-scheduled due what world after goes = record {
  time = refl;
  ending = refl;
  more = record { due = due; order = world.schedulings; what = what } ∷ [];
  scheduled = refl;
  schedulings = refl;
  are_scheduled = (refl, after, tt);
  none = λ is. absurd (let no : ⊥ = cc in no);
}

-- an event that is scheduled, once the end has begun or before
pub scheduled_onward : (event : EventNo) (delay : Span) (args : List Value) (world : World) → Onward world (schedule event delay args world)
scheduled_onward event delay args world = by_ending world.is_ending refl
  where
    by_ending : (ending : Bool) → world.is_ending ≡ ending → Onward world (schedule event delay args world)
    by_ending true is = subst (λ b. Onward world (if b then world else scheduled_for (moment_after world.time delay) (queued event args) world)) (sym is) (onward_alike world world refl refl refl refl)
    by_ending false is = subst (λ b. Onward world (if b then world else scheduled_for (moment_after world.time delay) (queued event args) world)) (sym is)
        (one-scheduled (moment_after world.time delay) (queued event args) world (not_before world.time delay) is)
