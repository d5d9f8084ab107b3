-- Network time rises over a run, and so do the dues of its turns, where no body takes the table away from a global whose entries expire.
use Rattle.std.proofs.Common.{◌≡◌, ℕ, ◌+◌, true, false, List, [], ◌∷◌, ◌++◌, fold, Option, Some, None, refl, sym, ap, subst, ◌∙◌, arith}
use Rattle.std.specs.Prelude.{◌≤ℤ◌, ℤ, pos, int_le, not, ◌==◌, slice_get}
use Rattle.std.proofs.lemmas.Int.{ints}
use Rattle.std.proofs.lemmas.Bool.Decides.{nat_tests}
use Rattle.std.proofs.lemmas.List.{map-append}
use Rattle.std.proofs.lemmas.List.Elements.{filter_map-append}
use Rattle.zk_base.specs.declared.time.Moment.{Moment}
use Rattle.zk_tree.specs.Store.{Object, Store}
use Rattle.zk_tree.specs.Store as object
use Rattle.zk_tree.specs.Table.{last_moment}
use Rattle.zk_tree.specs.Value as plain
use Rattle.zk_tree.specs.Value.{Value}
use Rattle.zk_typed.specs.Does.{named}
use Rattle.zk_typed.specs.Program.{Program, Global}
use Rattle.zk_typed.specs.Running.{Due, EntryDue, EventDue, Goes, Floods, Item, Progress, Turn, begun, dispatches_max, happens, initialised, next_turn, table_behind, table_of, no_values, not_waiting, take, world_in}
use Rattle.zk_typed.specs.State.{World, first_world, with_time}
use Rattle.zk_typed.specs.World.{Queued, Scheduled}
use Rattle.zk_agenda.specs.Laws.{AreInOrder, IsInTime, ItemsGo, SameTables, TablesStay, TimeRises}
use Rattle.zk_agenda.specs.Onward.{AreScheduled, DuesStay, ObjectFrom, Onward, Raises}
use Rattle.zk_agenda.specs.Trace.{Came, Dispatched, Waited, due_in, dues, from_here, in_beginning, in_end, in_item, in_items, is_by, times}
use Rattle.zk_agenda.proofs.Ascending.{Ascends, DueFrom, TableFrom, TablesFrom, Waits, due-both, due-filter, is-ascending, join, le-refl, le-trans, lower, next-at-end, next-first, next-waits, none-waits, waits-lower}
use Rattle.zk_agenda.proofs.Dues.{moves-step}
use Rattle.zk_agenda.proofs.OnceInRuns.{all-first, all-others}
use Rattle.zk_agenda.proofs.Walk.{Follows, Settled, over_beginning, over_end, over_item, turns_settle}
use Rattle.zk_agenda.proofs.Worlds.{AllSound, Passes, dispatch-onward, expire_of-onward, initialised-moves, pass-dispatch, pass-expired, pass-still}

-- Before the end -------------------------------------------------------------------------------------------------------------

-- network time is at most this, nothing is due before it, and the end has not begun
record Ahead (program : Program) (top : ℤ) (world : World) : Type 0 where
  by : world.time.0 ≤ℤ top
  waits : Waits program world.time.0 world
  going : world.is_ending ≡ false
  sound : AllSound world

record Rises (program : Program) (top : ℤ) (before : World) (trace : List Dispatched) (after : World) : Type 0 where
  ahead : Ahead program top before → Ahead program top after
  times_rise : Ahead program top before → Ascends before.time.0 (times trace) after.time.0
  dues_rise : Ahead program top before → Ascends before.time.0 (dues trace) after.time.0

le-same : (a b : ℤ) → b ≡ a → a ≤ℤ b
le-same a b same = subst (λ n. a ≤ℤ n) (sym same) (le-refl a)

new-from : (now : Moment) (order : ℕ) (more : List Scheduled) → now.0 ≤ℤ last_moment → AreScheduled now order more → DueFrom now.0 more
new-from now order [] within are = tt
new-from now order (one ∷ more) within are = (are.1 within, new-from now (order + 1) more within are.2)

object-table : (low : ℤ) (one : Option Object) → ObjectFrom low one → TableFrom low (table_of one)
object-table low None from = tt
object-table low (Some (object.Table table)) from = from
object-table low (Some (object.Vector items)) from = tt
object-table low (Some (object.Record of fields)) from = tt

table-object : (low : ℤ) (one : Option Object) → TableFrom low (table_of one) → ObjectFrom low one
table-object low None from = tt
table-object low (Some (object.Table table)) from = from
table-object low (Some (object.Vector items)) from = tt
table-object low (Some (object.Record of fields)) from = tt

-- in the table of a value nothing comes to be due before network time
value-from : (low : ℤ) (before after : World) → DuesStay before after → low ≤ℤ before.time.0 → before.time.0 ≤ℤ last_moment → (given : Option Value)
    → TableFrom low (table_behind before given) → TableFrom low (table_behind after given)
value-from low before after stay le within None from = tt
value-from low before after stay le within (Some (plain.Object number)) from =
    object-table low (slice_get after.store number.0) (stay.by low number.0 le within (table-object low (slice_get before.store number.0) from))
value-from low before after stay le within (Some other) from = tt

tables-from : (low : ℤ) (before after : World) → DuesStay before after → low ≤ℤ before.time.0 → before.time.0 ≤ℤ last_moment → (number : ℕ) (globals : List Global)
    → SameTables number globals before after → TablesFrom low before number globals → TablesFrom low after number globals
tables-from low before after stay le within number [] same from = tt
tables-from low before after stay le within number (one ∷ others) same from = (
  λ expires. subst (λ (given : Option Value). TableFrom low (table_behind after given)) (sym (same.0 expires)) (value-from low before after stay le within (named before.globals number) (from.0 expires)),
  tables-from low before after stay le within (number + 1) others same.1 from.1,
)

-- the same objects and globals
value-alike : (low : ℤ) (before after : World) → after.store ≡ before.store → (given : Option Value) → TableFrom low (table_behind before given) → TableFrom low (table_behind after given)
value-alike low before after same None from = tt
value-alike low before after same (Some (plain.Object number)) from = subst (λ (store : Store). TableFrom low (table_of (slice_get store number.0))) (sym same) from
value-alike low before after same (Some other) from = tt

tables-alike : (low : ℤ) (before after : World) → after.store ≡ before.store → after.globals ≡ before.globals → (number : ℕ) (globals : List Global)
    → TablesFrom low before number globals → TablesFrom low after number globals
tables-alike low before after store same number [] from = tt
tables-alike low before after store same number (one ∷ others) from = (
  λ expires. subst (λ (values : List (Option Value)). TableFrom low (table_behind after (named values number))) (sym same) (value-alike low before after store (named before.globals number) (from.0 expires)),
  tables-alike low before after store same (number + 1) others from.1,
)

-- where nothing in any object is due before a moment, nothing in a global's table is
value-all : (low : ℤ) (world : World) → ((number : ℕ) → ObjectFrom low (slice_get world.store number)) → (given : Option Value) → TableFrom low (table_behind world given)
value-all low world all None = tt
value-all low world all (Some (plain.Object number)) = object-table low (slice_get world.store number.0) (all number.0)
value-all low world all (Some other) = tt

tables-all : (low : ℤ) (world : World) → ((number : ℕ) → ObjectFrom low (slice_get world.store number)) → (number : ℕ) (globals : List Global) → TablesFrom low world number globals
tables-all low world all number [] = tt
tables-all low world all number (one ∷ others) = (λ expires. value-all low world all (named world.globals number), tables-all low world all (number + 1) others)

module _ (program : Program) (stay : TablesStay program) (top : ℤ) (within : top ≤ℤ last_moment) where
  pass-ahead : (before after : World) → Passes program before after → Ahead program top before → Ahead program top after
  pass-ahead before after passes ahead =
      let goes = passes.moves.onward in
      let same : after.time.0 ≡ before.time.0 = ap (λ (m : Moment). m.0) goes.time in
      let by_last = le-trans before.time.0 top last_moment ahead.by within in
      let more = new-from before.time before.schedulings goes.more by_last goes.are_scheduled in
      record {
        by = subst (λ n. n ≤ℤ top) (sym same) ahead.by;
        waits = subst (λ n. Waits program n after) (sym same) (record {
          events = subst (λ list. DueFrom before.time.0 list) (sym goes.scheduled) (due-both before.time.0 before.scheduled goes.more ahead.waits.events more);
          tables = tables-from before.time.0 before after (moves-step before after passes.moves).dues (le-refl before.time.0) by_last 0 program.globals (passes.tables stay) ahead.waits.tables;
        });
        going = goes.ending ∙ ahead.going;
        sound = λ number. (passes.moves.becomes number).sound (ahead.sound number);
      }

  pass-rises : (before after : World) → Passes program before after → Rises program top before [] after
  pass-rises before after passes =
      let same : after.time.0 ≡ before.time.0 = ap (λ (m : Moment). m.0) passes.moves.onward.time in
      record {
        ahead = pass-ahead before after passes;
        times_rise = λ ahead. le-same before.time.0 after.time.0 same;
        dues_rise = λ ahead. le-same before.time.0 after.time.0 same;
      }

  waited-rises : (before after : World) (event : Queued) → Passes program before after → Rises program top before (record { time = before.time; what = Waited event } ∷ []) after
  waited-rises before after event passes =
      let quiet = pass-rises before after passes in
      record {
        ahead = quiet.ahead;
        times_rise = λ ahead. (le-refl before.time.0, quiet.times_rise ahead);
        dues_rise = quiet.dues_rise;
      }

  both-rise : (a b c : World) (first second : List Dispatched) → Rises program top a first b → Rises program top b second c → Rises program top a (first ++ second) c
  both-rise a b c first second one other = record {
    ahead = λ ahead. other.ahead (one.ahead ahead);
    times_rise = λ ahead. subst (λ list. Ascends a.time.0 list c.time.0) (sym (map-append (λ (d : Dispatched). d.time.0) first second))
        (join a.time.0 (times first) b.time.0 (times second) c.time.0 (one.times_rise ahead) (other.times_rise (one.ahead ahead)));
    dues_rise = λ ahead. subst (λ list. Ascends a.time.0 list c.time.0) (sym (filter_map-append (λ (d : Dispatched). due_in d.what) first second))
        (join a.time.0 (dues first) b.time.0 (dues second) c.time.0 (one.dues_rise ahead) (other.dues_rise (one.ahead ahead)));
  }

  rising : Follows program (Rises program top)
  rising = record { onward = pass-rises; waited = waited-rises; both = both-rise }

  -- a turn at its own due
  turn-rises : (budget : ℕ) (world : World) (one : Turn) → next_turn program world ≡ Some one → one.at.0 ≤ℤ top
      → Rises program top world (record { time = one.at; what = Came one } ∷ []) (happens program budget (with_time one.at world) one.what)
  turn-rises budget world one next due = by_what one.what
    where
      first : world.is_ending ≡ false → Waits program one.at.0 world × ((low : ℤ) → Waits program low world → low ≤ℤ one.at.0)
      first going = next-waits program world one going next

      timed : (waiting after : World) → waiting.time ≡ one.at → waiting.is_ending ≡ world.is_ending → (Waits program one.at.0 world → Waits program one.at.0 waiting)
          → (AllSound world → AllSound waiting) → (AllSound world → Passes program waiting after) → Rises program top world (record { time = one.at; what = Came one } ∷ []) after
      timed waiting after at ending still_waits still_sound passes = record {
        ahead = λ ahead. pass-ahead waiting after (passes ahead.sound) (record {
          by = subst (λ (m : Moment). m.0 ≤ℤ top) (sym at) due;
          waits = subst (λ (m : Moment). Waits program m.0 waiting) (sym at) (still_waits (first ahead.going).0);
          going = ending ∙ ahead.going;
          sound = still_sound ahead.sound;
        });
        times_rise = λ ahead. ((first ahead.going).1 world.time.0 ahead.waits, le-same one.at.0 after.time.0 (ap (λ (m : Moment). m.0) ((passes ahead.sound).moves.onward.time ∙ at)));
        dues_rise = λ ahead. ((first ahead.going).1 world.time.0 ahead.waits, le-same one.at.0 after.time.0 (ap (λ (m : Moment). m.0) ((passes ahead.sound).moves.onward.time ∙ at)));
      }

      by_what : (what : Due) → Rises program top world (record { time = one.at; what = Came one } ∷ []) (happens program budget (with_time one.at world) what)
      by_what (EntryDue table number) =
          timed (with_time one.at world) _ refl refl (λ waits. record { events = waits.events; tables = tables-alike one.at.0 world _ refl refl 0 program.globals waits.tables })
          (λ sound. sound) (λ sound. pass-expired program budget table number (with_time one.at world) sound)
      by_what (EventDue event) =
          timed (not_waiting event (with_time one.at world)) _ refl refl
          (λ waits. record { events = due-filter one.at.0 (λ other. not (other.order == event.order)) world.scheduled waits.events; tables = tables-alike one.at.0 world _ refl refl 0 program.globals waits.tables })
          (λ sound. sound) (λ sound. pass-dispatch program budget (not_waiting event (with_time one.at world)) event.what)

by-moment : (a b : ℤ) → int_le a b ≡ true → a ≤ℤ b
by-moment a b is = grind (arith, ints, nat_tests)

past-moment : (a b : ℤ) → int_le a b ≡ false → b ≤ℤ a
past-moment a b is = grind (arith, ints, nat_tests)

-- behind the turns that are due by a moment, it comes
settled-rises : (program : Program) (moment : Moment) (after : World) (left : ℕ) → Settled program (is_by moment) (Goes after left)
    → Rises program moment.0 after [] (with_time moment after)
settled-rises program moment after left settled = record {
  ahead = λ ahead.
      let waits = by_next ahead.going (next_turn program after) refl in
      record { by = le-refl moment.0; waits = record { events = waits.events; tables = tables-alike moment.0 after _ refl refl 0 program.globals waits.tables }; going = ahead.going; sound = ahead.sound };
  times_rise = λ ahead. ahead.by;
  dues_rise = λ ahead. ahead.by;
}
  where
    by_next : after.is_ending ≡ false → (next : Option Turn) → next_turn program after ≡ next → Waits program moment.0 after
    by_next going None is = none-waits program moment.0 after going is
    by_next going (Some one) is = waits-lower program moment.0 one.at.0 after (past-moment one.at.0 moment.0 (settled one is)) (next-waits program after one going is).0

-- The end --------------------------------------------------------------------------------------------------------------------

-- the turns of the end come at its network time, in the order of their dues
record Ends (last : Moment) (before : World) (trace : List Dispatched) (after : World) : Type 0 where
  time : before.time ≡ last → after.time ≡ last
  ending : before.is_ending ≡ true → after.is_ending ≡ true
  times_stay : before.time ≡ last → Ascends last.0 (times trace) last.0
  dues_rise : before.is_ending ≡ true → (low : ℤ) → DueFrom low before.scheduled → (high : ℤ) × Ascends low (dues trace) high × DueFrom high after.scheduled

module _ (last : Moment) where
  onward-ends : (before after : World) → Onward before after → Ends last before [] after
  onward-ends before after goes = record {
    time = λ is. goes.time ∙ is;
    ending = λ is. goes.ending ∙ is;
    times_stay = λ is. le-refl last.0;
    dues_rise = λ is low from. (
      low,
      le-refl low,
      subst (λ list. DueFrom low list) (sym goes.scheduled) (due-both low before.scheduled goes.more from (subst (λ list. DueFrom low list) (sym (goes.none is)) tt)),
    );
  }

  waited-ends : (before after : World) (event : Queued) → Onward before after → Ends last before (record { time = before.time; what = Waited event } ∷ []) after
  waited-ends before after event goes =
      let quiet = onward-ends before after goes in
      record {
        time = quiet.time;
        ending = quiet.ending;
        times_stay = λ is. let same : before.time.0 ≡ last.0 = ap (λ (m : Moment). m.0) is in (le-same last.0 before.time.0 same, le-same before.time.0 last.0 (sym same));
        dues_rise = quiet.dues_rise;
      }

  both-end : (a b c : World) (first second : List Dispatched) → Ends last a first b → Ends last b second c → Ends last a (first ++ second) c
  both-end a b c first second one other = record {
    time = λ is. other.time (one.time is);
    ending = λ is. other.ending (one.ending is);
    times_stay = λ is. subst (λ list. Ascends last.0 list last.0) (sym (map-append (λ (d : Dispatched). d.time.0) first second))
        (join last.0 (times first) last.0 (times second) last.0 (one.times_stay is) (other.times_stay (one.time is)));
    dues_rise = λ is low from.
        let here = one.dues_rise is low from in
        let then_on = other.dues_rise (one.ending is) here.0 here.2 in (
          then_on.0,
          subst (λ list. Ascends low list then_on.0) (sym (filter_map-append (λ (d : Dispatched). due_in d.what) first second))
              (join low (dues first) here.0 (dues second) then_on.0 here.1 then_on.1),
          then_on.2,
        );
  }

  ending-on : (program : Program) → Follows program (Ends last)
  ending-on program = record {
    onward = λ before after passes. onward-ends before after passes.moves.onward;
    waited = λ before after event passes. waited-ends before after event passes.moves.onward;
    both = both-end;
  }

  turn-ends : (program : Program) (budget : ℕ) (world : World) (one : Turn) → next_turn program world ≡ Some one
      → Ends last world (record { time = last; what = Came one } ∷ []) (happens program budget (with_time last world) one.what)
  turn-ends program budget world one next = by_what one.what
    where
      timed : (waiting after : World) → waiting.time ≡ last → waiting.is_ending ≡ world.is_ending → ((low : ℤ) → DueFrom low world.scheduled → DueFrom low waiting.scheduled)
          → Onward waiting after → Ends last world (record { time = last; what = Came one } ∷ []) after
      timed waiting after at ending from goes =
          let quiet = onward-ends waiting after goes in
          record {
            time = λ is. quiet.time at;
            ending = λ is. quiet.ending (ending ∙ is);
            times_stay = λ is. (le-refl last.0, le-refl last.0);
            dues_rise = λ is low below.
                let first = next-first world one (sym (next-at-end program world is) ∙ next) in
                let rest = quiet.dues_rise (ending ∙ is) one.at.0 (from one.at.0 first.0) in (
                  rest.0,
                  (first.1 low below, rest.1),
                  rest.2,
                );
          }

      by_what : (what : Due) → Ends last world (record { time = last; what = Came one } ∷ []) (happens program budget (with_time last world) what)
      by_what (EntryDue table number) =
          timed (with_time last world) _ refl refl (λ low from. from) (expire_of-onward program budget table number (with_time last world) (slice_get program.globals table))
      by_what (EventDue event) =
          timed (not_waiting event (with_time last world)) _ refl refl (λ low from. due-filter low (λ other. not (other.order == event.order)) world.scheduled from)
          (dispatch-onward program budget (not_waiting event (with_time last world)) event.what)

-- Runs -----------------------------------------------------------------------------------------------------------------------

in-order-by : (start : Moment) (items : List Item) (last : Moment) → AreInOrder start items last → start.0 ≤ℤ last.0
in-order-by start [] last order = order
in-order-by start (item ∷ items) last order = le-trans start.0 item.moment.0 last.0 order.0 (in-order-by item.moment items last order.1)

module _ (program : Program) (budget : ℕ) (stay : TablesStay program) where
  ahead-later : (low high : ℤ) (world : World) → low ≤ℤ high → Ahead program low world → Ahead program high world
  ahead-later low high world le ahead = record { by = le-trans world.time.0 low high ahead.by le; waits = ahead.waits; going = ahead.going; sound = ahead.sound }

  item-rises : (item : Item) → item.moment.0 ≤ℤ last_moment → ((world : World) → Raises world (item.raises world)) → (before : Progress)
      → Rises program item.moment.0 (world_in before) (from_here (in_item program budget item) before) (world_in (take program budget before item))
  item-rises item within goes (Goes world left) = over_item program (Rises program item.moment.0) (rising program stay item.moment.0 within) budget item world
      (λ one turn next due. turn-rises program stay item.moment.0 within budget one turn next (by-moment turn.at.0 item.moment.0 due))
      (λ after more is. settled-rises program item.moment after more (subst (Settled program (is_by item.moment)) is (turns_settle program budget (λ at. at) (is_by item.moment) world dispatches_max)))
      goes left
  item-rises item within goes (Floods world) = pass-rises program stay item.moment.0 within world world (pass-still program world)

  -- what is said of a stretch of whole items, whose last moment is this
  record Whole (start last : Moment) (before : World) (trace : List Dispatched) (after : World) : Type 0 where
    ahead : Ahead program start.0 before → Ahead program last.0 after
    times_rise : Ahead program start.0 before → Ascends before.time.0 (times trace) after.time.0
    dues_rise : Ahead program start.0 before → Ascends before.time.0 (dues trace) after.time.0

  items-rise : (start : Moment) (items : List Item) (last : Moment) → AreInOrder start items last → last.0 ≤ℤ last_moment → ItemsGo items → (before : Progress)
      → Whole start last (world_in before) (in_items program budget before items) (world_in (fold (take program budget) before items))
  items-rise start [] last order within goes before = record {
    ahead = λ ahead. ahead-later start.0 last.0 (world_in before) order ahead;
    times_rise = λ ahead. le-refl (world_in before).time.0;
    dues_rise = λ ahead. le-refl (world_in before).time.0;
  }
  items-rise start (item ∷ items) last order within goes before =
      let by_last = le-trans item.moment.0 last.0 last_moment (in-order-by item.moment items last order.1) within in
      let one = item-rises item by_last (all-first (λ (i : Item). (world : World) → Raises world (i.raises world)) item items goes) before in
      let after = take program budget before item in
      let rest = items-rise item.moment items last order.1 within (all-others (λ (i : Item). (world : World) → Raises world (i.raises world)) item items goes) after in
      let here = from_here (in_item program budget item) before in
      let others = in_items program budget after items in
      let end = (world_in (fold (take program budget) after items)).time.0 in
      record {
        ahead = λ ahead. rest.ahead (one.ahead (ahead-later start.0 item.moment.0 (world_in before) order.0 ahead));
        times_rise = λ ahead.
            let now = ahead-later start.0 item.moment.0 (world_in before) order.0 ahead in
            subst (λ list. Ascends (world_in before).time.0 list end) (sym (map-append (λ (d : Dispatched). d.time.0) here others))
            (join (world_in before).time.0 (times here) (world_in after).time.0 (times others) end (one.times_rise now) (rest.times_rise (one.ahead now)));
        dues_rise = λ ahead.
            let now = ahead-later start.0 item.moment.0 (world_in before) order.0 ahead in
            subst (λ list. Ascends (world_in before).time.0 list end) (sym (filter_map-append (λ (d : Dispatched). due_in d.what) here others))
            (join (world_in before).time.0 (dues here) (world_in after).time.0 (dues others) end (one.dues_rise now) (rest.dues_rise (one.ahead now)));
      }

  -- the dispatches of the end rise from network time on, and so do its dues
  record EndsOn (last : Moment) (before : World) (trace : List Dispatched) : Type 0 where
    times_rise : (high : ℤ) × Ascends before.time.0 (times trace) high
    dues_rise : (high : ℤ) × Ascends before.time.0 (dues trace) high

  end-rises : (last : Moment) (before : Progress) → Ahead program last.0 (world_in before) → EndsOn last (world_in before) (from_here (in_end program budget last) before)
  end-rises last (Goes world left) ahead =
      let ends = over_end program (Ends last) (ending-on last program) budget last world (λ one turn next due. turn-ends last program budget one turn next) left in
      let due = ends.dues_rise refl world.time.0 ahead.waits.events in
      record { times_rise = (last.0, lower world.time.0 last.0 _ last.0 ahead.by (ends.times_stay refl)); dues_rise = (due.0, due.1) }
  end-rises last (Floods world) ahead = record { times_rise = (world.time.0, le-refl world.time.0); dues_rise = (world.time.0, le-refl world.time.0) }

  -- over the initial values: no table was there before them
  initial-rises : pos 0 ≤ℤ last_moment
      → Rises program (pos 0) (first_world (no_values program)) [] (initialised program budget 0 (first_world (no_values program)) program.globals)
  initial-rises within =
      let first = first_world (no_values program) in
      let after = initialised program budget 0 first program.globals in
      let moves = initialised-moves program budget 0 first program.globals in
      let goes = moves.onward in
      let same : after.time.0 ≡ pos 0 = ap (λ (m : Moment). m.0) goes.time in
      record {
        ahead = λ ahead. record {
          by = subst (λ n. n ≤ℤ pos 0) (sym same) (le-refl (pos 0));
          waits = subst (λ n. Waits program n after) (sym same) (record {
            events = subst (λ list. DueFrom (pos 0) list) (sym goes.scheduled) (new-from first.time 0 goes.more within goes.are_scheduled);
            tables = tables-all (pos 0) after (λ number. (moves.becomes number).dues (pos 0) (le-refl (pos 0)) within tt) 0 program.globals;
          });
          going = goes.ending;
          sound = λ number. (moves.becomes number).sound tt;
        };
        times_rise = λ ahead. le-same (pos 0) after.time.0 same;
        dues_rise = λ ahead. le-same (pos 0) after.time.0 same;
      }

  pub in-time : (items : List Item) (last : Moment) → ItemsGo items → AreInOrder (record { 0 = pos 0 }) items last → last.0 ≤ℤ last_moment → IsInTime program budget items last
  in-time items last goes order within =
      let zero : Moment = record { 0 = pos 0 } in
      let world = first_world (no_values program) in
      let start = begun program budget in
      let all = fold (take program budget) start items in
      let first_moment : pos 0 ≤ℤ last_moment = le-trans (pos 0) last.0 last_moment (in-order-by zero items last order) within in
      let begins : Ahead program (pos 0) world = record {
        by = le-refl (pos 0);
        waits = record { events = tt; tables = tables-all (pos 0) world (λ number. tt) 0 program.globals };
        going = refl;
        sound = λ number. tt;
      } in
      let beginning = over_beginning program (Rises program (pos 0)) (rising program stay (pos 0) first_moment) budget (initial-rises first_moment) in
      let rest = items-rise zero items last order within goes start in
      let ends = end-rises last all (rest.ahead (beginning.ahead begins)) in
      let one = in_beginning program budget in
      let two = in_items program budget start items in
      let three = from_here (in_end program budget last) all in
      let time_high = ends.times_rise.0 in
      let due_high = ends.dues_rise.0 in
      record {
        times = is-ascending (pos 0) (times (one ++ two ++ three)) time_high
            (subst (λ list. Ascends (pos 0) list time_high) (sym (map-append (λ (d : Dispatched). d.time.0) (one ++ two) three))
            (join (pos 0) (times (one ++ two)) (world_in all).time.0 (times three) time_high
            (subst (λ list. Ascends (pos 0) list (world_in all).time.0) (sym (map-append (λ (d : Dispatched). d.time.0) one two))
            (join (pos 0) (times one) (world_in start).time.0 (times two) (world_in all).time.0 (beginning.times_rise begins) (rest.times_rise (beginning.ahead begins))))
            ends.times_rise.1));
        dues = is-ascending (pos 0) (dues (one ++ two ++ three)) due_high
            (subst (λ list. Ascends (pos 0) list due_high) (sym (filter_map-append (λ (d : Dispatched). due_in d.what) (one ++ two) three))
            (join (pos 0) (dues (one ++ two)) (world_in all).time.0 (dues three) due_high
            (subst (λ list. Ascends (pos 0) list (world_in all).time.0) (sym (filter_map-append (λ (d : Dispatched). due_in d.what) one two))
            (join (pos 0) (dues one) (world_in start).time.0 (dues two) (world_in all).time.0 (beginning.dues_rise begins) (rest.dues_rise (beginning.ahead begins))))
            ends.dues_rise.1));
      }

pub time_rises : TimeRises
time_rises program budget items last goes stay order within = in-time program budget stay items last goes order within
