-- Of the events that a run schedules each is dispatched once or waits still, and none waits where it comes to its end.
use Rattle.std.proofs.Common.{◌≡◌, ℕ, ◌+◌, ◌<◌, ◌≤◌, true, false, cond, List, [], ◌∷◌, ◌++◌, fold, map, suc, Some, refl, sym, ap, subst, ◌∙◌, arith}
use Rattle.std.specs.Prelude.{nat_lt, filter}
use Rattle.std.specs.List.{count_by}
use Rattle.std.proofs.lemmas.Bool.Decides.{nat_tests}
use Rattle.zk_base.specs.declared.time.Moment.{Moment}
use Rattle.zk_typed.specs.Predefined.{zeek_done}
use Rattle.zk_typed.specs.Program.{Program}
use Rattle.zk_typed.specs.Running.{Due, EntryDue, EventDue, Goes, Floods, Item, Progress, Turn, begun, drained, earlier, finish, first_turn, goes_on, happens, next_turn, no_values, not_waiting, run, take, turns, world_in}
use Rattle.zk_typed.specs.State.{World, ending_at, first_world, queued_behind, with_time}
use Rattle.zk_typed.specs.World.{Scheduled, queued}
use Rattle.zk_agenda.specs.Laws.{DispatchedOnce, ItemsGo, waits}
use Rattle.zk_agenda.specs.Onward.{Onward, Raises}
use Rattle.zk_agenda.specs.Trace.{Came, Dispatched, dispatches, from_here, in_beginning, in_end, in_item, in_items, in_turns, is_scheduled}
use Rattle.zk_agenda.proofs.Once.{Conserves, follows, given, onward-conserves, turn-conserves}
use Rattle.zk_agenda.proofs.Walk.{Follows, Settled, over_beginning, over_end, over_item, over_queue, over_turns, turns_settle}
use Rattle.zk_agenda.proofs.Worlds.{dispatch-onward, expire_of-onward, initialised-moves, still}
use Rattle.std.specs.Prelude.{All, slice_get, not, ◌==◌}
use Rattle.std.proofs.lemmas.Bool.{false≢true}

pub all-first : {X : Type 0} (P : X → Type 0) (x : X) (xs : List X) → All P (x ∷ xs) → P x
all-first P x xs all = all 0 x (omega arith)

pub all-others : {X : Type 0} (P : X → Type 0) (x : X) (xs : List X) → All P (x ∷ xs) → All P xs
all-others P x xs all = λ k d within. all (suc k) d (omega (arith, within))

-- Counting -------------------------------------------------------------------------------------------------------------------

module _ (order : ℕ) (program : Program) (budget : ℕ) where
  timed-conserves : (world : World) (moment : Moment) → Conserves order world [] (with_time moment world)
  timed-conserves world moment = record { most = λ most. most; count = λ most. let e : 0 + waits order world + given order world ≡ waits order world + given order world = omega arith in e }

  ending-conserves : (world : World) (moment : Moment) → Conserves order world [] (ending_at moment world)
  ending-conserves world moment = record { most = λ most. most; count = λ most. let e : 0 + waits order world + given order world ≡ waits order world + given order world = omega arith in e }

  item-conserves : (item : Item) → ((world : World) → Raises world (item.raises world)) → (before : Progress)
      → Conserves order (world_in before) (from_here (in_item program budget item) before) (world_in (take program budget before item))
  item-conserves item goes (Goes world left) = over_item program (Conserves order) (follows order program) budget item world
      (λ one turn next due. turn-conserves order program budget (λ at. at) one turn next) (λ after more is. timed-conserves after item.moment) goes left
  item-conserves item goes (Floods world) = onward-conserves order world world (still world)

  items-conserve : (items : List Item) → ItemsGo items → (before : Progress)
      → Conserves order (world_in before) (in_items program budget before items) (world_in (fold (take program budget) before items))
  items-conserve [] goes before = onward-conserves order (world_in before) (world_in before) (still (world_in before))
  items-conserve (item ∷ items) goes before =
      (follows order program).both (world_in before) (world_in (take program budget before item)) _ (from_here (in_item program budget item) before) _
      (item-conserves item (all-first (λ (i : Item). (world : World) → Raises world (i.raises world)) item items goes) before)
      (items-conserve items (all-others (λ (i : Item). (world : World) → Raises world (i.raises world)) item items goes) (take program budget before item))

  end-conserves : (last : Moment) (before : Progress) → Conserves order (world_in before) (from_here (in_end program budget last) before) (world_in (goes_on (finish program budget last) before))
  end-conserves last (Goes world left) = (follows order program).both world (ending_at last world) (world_in (finish program budget last world left)) [] (in_end program budget last world left) (ending-conserves world last)
      (over_end program (Conserves order) (follows order program) budget last world (λ one turn next due. turn-conserves order program budget (λ at. last) one turn next) left)
  end-conserves last (Floods world) = onward-conserves order world world (still world)

  run-conserves : (items : List Item) (last : Moment) → ItemsGo items
      → Conserves order (first_world (no_values program)) (dispatches program budget items last) (world_in (run program budget items last))
  run-conserves items last goes =
      let first = first_world (no_values program) in
      let start = begun program budget in
      let all = fold (take program budget) start items in
      (follows order program).both first (world_in all) _ (in_beginning program budget ++ in_items program budget start items) (from_here (in_end program budget last) all)
      ((follows order program).both first (world_in start) (world_in all) (in_beginning program budget) (in_items program budget start items)
      (over_beginning program (Conserves order) (follows order program) budget (onward-conserves order first _ (initialised-moves program budget 0 first program.globals).onward)) (items-conserve items goes start))
      (end-conserves last all)

  abbrev below : ℕ → ℕ
  below n = cond (nat_lt order n) 1 0

  one-given : (n : ℕ) → order < n → below n ≡ 1
  one-given n within = grind (arith, nat_tests)

  pub once : (items : List Item) (last : Moment) → ItemsGo items → order < (world_in (run program budget items last)).schedulings
      → count_by (is_scheduled order) (dispatches program budget items last) + waits order (world_in (run program budget items last)) ≡ 1
  once items last goes within =
      let whole = run-conserves items last goes in
      let none : waits order (first_world (no_values program)) ≤ given order (first_world (no_values program)) = omega arith in
      let counts = whole.count none in
      let one = one-given (world_in (run program budget items last)).schedulings within in
      let zero_given : given order (first_world (no_values program)) ≡ 0 = grind (arith, nat_tests) in
      let zero_waits : waits order (first_world (no_values program)) ≡ 0 = refl in
      omega (arith, counts, one, zero_given, zero_waits)

-- The end --------------------------------------------------------------------------------------------------------------------

-- once the end has begun nothing more is scheduled
record Quiet (before : World) (trace : List Dispatched) (after : World) : Type 0 where
  ending : after.is_ending ≡ before.is_ending
  none : before.is_ending ≡ true → before.scheduled ≡ [] → after.scheduled ≡ []

onward-quiet : (before after : World) → Onward before after → Quiet before [] after
onward-quiet before after goes = record { ending = goes.ending; none = λ is none. goes.scheduled ∙ (ap (λ l. l ++ goes.more) none ∙ goes.none is) }

quietly : (program : Program) → Follows program Quiet
quietly program = record {
  onward = λ before after passes. onward-quiet before after passes.moves.onward;
  waited = λ before after event passes. let quiet = onward-quiet before after passes.moves.onward in record { ending = quiet.ending; none = quiet.none };
  both = λ a b c first second one other. record { ending = other.ending ∙ one.ending; none = λ is none. other.none (one.ending ∙ is) (one.none is none) };
}

turn-quiet : (program : Program) (budget : ℕ) (at : Moment → Moment) (world : World) (one : Turn)
    → Quiet world (record { time = at one.at; what = Came one } ∷ []) (happens program budget (with_time (at one.at) world) one.what)
turn-quiet program budget at world one = by_what one.what
  where
    by_what : (what : Due) → Quiet world (record { time = at one.at; what = Came one } ∷ []) (happens program budget (with_time (at one.at) world) what)
    by_what (EntryDue table number) =
        let quiet = onward-quiet (with_time (at one.at) world) _ (expire_of-onward program budget table number (with_time (at one.at) world) (slice_get program.globals table)) in
        record { ending = quiet.ending; none = quiet.none }
    by_what (EventDue event) =
        let waiting = not_waiting event (with_time (at one.at) world) in
        let quiet = onward-quiet waiting _ (dispatch-onward program budget waiting event.what) in
        record { ending = quiet.ending; none = λ is none. quiet.none is (ap (filter (λ other. not (other.order == event.order))) none) }

-- where nothing comes next once the end has begun, nothing waits
none-left : (program : Program) (world : World) → world.is_ending ≡ true → ((one : Turn) → next_turn program world ≡ Some one → true ≡ false) → world.scheduled ≡ []
none-left program world is none = by_list world.scheduled refl
  where
    by_list : (list : List Scheduled) → world.scheduled ≡ list → world.scheduled ≡ []
    by_list [] same = same
    by_list (first ∷ others) same =
        let turns_there = map (λ (one : Scheduled). let turn : Turn = record { at = one.due; what = EventDue one } in turn) others in
        let there : next_turn program world ≡ Some (earlier (record { at = first.due; what = EventDue first }) (first_turn turns_there)) = rw (is, same) refl in
        absurd (let no : ⊥ = false≢true (sym (none _ there)) in no)

settled-none : (program : Program) (progress : Progress) (after : World) (left : ℕ) → Settled program (λ one. true) progress → progress ≡ Goes after left
    → (one : Turn) → next_turn program after ≡ Some one → true ≡ false
settled-none program progress after left settled is = subst (Settled program (λ one. true)) is settled

end-quiet : (program : Program) (budget : ℕ) (last : Moment) (world : World) (left : ℕ) (turned : Progress) → turned ≡ turns program budget (λ at. last) (λ one. true) (ending_at last world) left
    → (after : World) (more : ℕ) → goes_on (λ w l. drained program budget l (queued_behind (queued zeek_done [] ∷ []) w)) turned ≡ Goes after more → after.scheduled ≡ []
end-quiet program budget last world left (Floods flooded) is after more comes = absurd (let no : ⊥ = cc in no)
end-quiet program budget last world left (Goes before some) is after more comes =
    let over = over_turns program Quiet (quietly program) budget (λ at. last) (λ one. true) (λ w one next due. turn-quiet program budget (λ at. last) w one) (suc left) (ending_at last world) left in
    let quiet = subst (λ (p : Progress). Quiet (ending_at last world) (in_turns program budget (λ at. last) (λ one. true) (ending_at last world) left) (world_in p)) (sym is) over in
    let nothing = none-left program before quiet.ending (settled-none program _ before some (turns_settle program budget (λ at. last) (λ one. true) (ending_at last world) left) (sym is)) in
    let done = queued_behind (queued zeek_done [] ∷ []) before in
    let rest = over_queue program Quiet (quietly program) budget some done in
    ap (λ (p : Progress). (world_in p).scheduled) (sym comes) ∙ rest.none quiet.ending nothing

run-quiet : (program : Program) (budget : ℕ) (last : Moment) (before : Progress) (after : World) (more : ℕ) → goes_on (finish program budget last) before ≡ Goes after more → after.scheduled ≡ []
run-quiet program budget last (Goes world left) after more comes = end-quiet program budget last world left (turns program budget (λ at. last) (λ one. true) (ending_at last world) left) refl after more comes
run-quiet program budget last (Floods world) after more comes = absurd (let no : ⊥ = cc in no)

pub dispatched_once : DispatchedOnce
dispatched_once program budget items last goes = record {
  once = λ order within. once order program budget items last goes within;
  all = λ world left is. run-quiet program budget last (fold (take program budget) (begun program budget) items) world left is;
}
