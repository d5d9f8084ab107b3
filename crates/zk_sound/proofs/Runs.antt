-- A run keeps the types of its world, from its beginning to its end.
use Rattle.std.proofs.Common.{◌≡◌, ℕ, zero, suc, ◌+◌, ◌==◌, Bool, true, false, not, List, [], ◌∷◌, ◌++◌, length, map, fold, Option, Some, None, refl, arith}
use Rattle.std.specs.Prelude.{slice_get, if◌then◌else◌, is_some, int_le}
use Rattle.std.specs.List.{AllByRecursion}
use Rattle.zk_base.specs.declared.numbers.EventNo.{EventNo}
use Rattle.zk_base.specs.declared.time.Moment.{Moment}
use Rattle.zk_tree.specs.Table.{Table, first_due}
use Rattle.zk_typed.specs.Dispatch.{dispatch, initial_body, world_after}
use Rattle.zk_typed.specs.Does.{named}
use Rattle.zk_typed.specs.Predefined.{zeek_init, zeek_done}
use Rattle.zk_typed.specs.Program.{Program, Global}
use Rattle.zk_typed.specs.Running.{Due, EntryDue, EventDue, Turn, Progress, Goes, Floods, world_in, goes_on, none_left, one_more, drained, turn, one_turn, turn_if, turns_from, turns, is_before, first_turn, table_behind, due_entries, entry_turns, event_turns, next_turn, not_waiting, happens, dispatches_max, Item, initialised, no_values, begun, with_item, take, finish, run}
use Rattle.zk_typed.specs.State.{World, first_world, with_time, with_queue, queued_behind, ending_at}
use Rattle.zk_typed.specs.Types.{ValueType}
use Rattle.zk_typed.specs.World.{Queued, Scheduled, queued}
use Rattle.zk_sound.specs.Holding.{Kinds, HaveTypes}
use Rattle.zk_sound.specs.Worlds.{global_names, event_params, QueuedFits, ScheduledFits, WorldFits}
use Rattle.zk_sound.specs.Having.{ProgramFits}
use Rattle.zk_sound.specs.Keeping.{Stopped}
use Rattle.zk_sound.specs.Laws.{RaisesFit}
use Rattle.zk_sound.proofs.Growth.{all_append}
use Rattle.zk_sound.proofs.Places.{fits_nothing}
use Rattle.zk_sound.proofs.Tables.{all_filter}
use Rattle.zk_sound.proofs.Bodies.{dispatch_keeps, initial_keeps, expiry_keeps}

-- a world is of types that its objects have
pub record Whole (program : Program) (world : World) : Type 0 where
  pub kinds : Kinds
  pub fits : WorldFits program kinds world

abbrev ProgressFits : Program → Progress → Type 0
ProgressFits program progress = Whole program (world_in progress)

stopped_whole : {program : Program} {kinds : Kinds} {world : World} → Stopped program kinds world → Whole program world
stopped_whole h = record { kinds = h.later; fits = h.fits }

module _ (program : Program) (fits : ProgramFits program) (budget : ℕ) where
  -- Parts of a world -------------------------------------------------------------------------------------------------

  at_time : (kinds : Kinds) (moment : Moment) (world : World) → WorldFits program kinds world → WorldFits program kinds (with_time moment world)
  at_time kinds moment world fits = record { objects = fits.objects; defaults = fits.defaults; globals = fits.globals; streams = fits.streams; queue = fits.queue; scheduled = fits.scheduled; rows = fits.rows }

  ended : (last : Moment) (world : World) → Whole program world → Whole program (ending_at last world)
  ended last world h = record { kinds = h.kinds; fits = record { objects = h.fits.objects; defaults = h.fits.defaults; globals = h.fits.globals; streams = h.fits.streams; queue = h.fits.queue; scheduled = h.fits.scheduled; rows = h.fits.rows } }

  no_args : (kinds : Kinds) (event : EventNo) → event_params program event ≡ Some [] → QueuedFits program kinds (queued event [])
  no_args kinds event known = record { args = λ params is. by params is }
    where
      by : (params : List ValueType) → event_params program event ≡ Some params → HaveTypes kinds params []
      by [] is = tt
      by (of ∷ params) is = absurd cc

  waiting : (event : EventNo) (world : World) → event_params program event ≡ Some [] → Whole program world → Whole program (queued_behind (queued event [] ∷ []) world)
  waiting event world known h = record {
    kinds = h.kinds;
    fits = record {
      objects = h.fits.objects;
      defaults = h.fits.defaults;
      globals = h.fits.globals;
      streams = h.fits.streams;
      scheduled = h.fits.scheduled;
      rows = h.fits.rows;
      queue = all_append (QueuedFits program h.kinds) world.queue (queued event [] ∷ []) h.fits.queue (no_args h.kinds event known, tt);
    };
  }

  -- The queue --------------------------------------------------------------------------------------------------------

  drained_fits : (left : ℕ) (world : World) → Whole program world → ProgressFits program (drained program budget left world)
  drained_fits zero world h = by world.queue
    where
      by : (queue : List Queued) → ProgressFits program (none_left world queue)
      by [] = h
      by (first ∷ others) = h
  drained_fits (suc left) world h = by world.queue h.fits.queue (λ world h. drained_fits left world h)
    where
      by : (queue : List Queued) → AllByRecursion (QueuedFits program h.kinds) queue → ((world : World) → Whole program world → ProgressFits program (drained program budget left world))
          → ProgressFits program (one_more program budget left (drained program budget left) world queue)
      by [] all more = h
      by (first ∷ others) (one, rest) more = more (dispatch program budget (with_queue others world) first) (stopped_whole (dispatch_keeps program h.kinds budget (with_queue others world) first fits (record {
        objects = h.fits.objects;
        defaults = h.fits.defaults;
        globals = h.fits.globals;
        streams = h.fits.streams;
        queue = rest;
        scheduled = h.fits.scheduled;
        rows = h.fits.rows;
      }) one))

  goes_fits : (next : World → ℕ → Progress) (progress : Progress) → ((world : World) (left : ℕ) → Whole program world → ProgressFits program (next world left)) → ProgressFits program progress → ProgressFits program (goes_on next progress)
  goes_fits next (Goes world left) keeps h = keeps world left h
  goes_fits next (Floods world) keeps h = h

  -- Turns ------------------------------------------------------------------------------------------------------------

  abbrev TurnFits : Kinds → Turn → Type 0
  TurnFits kinds one = DueFits one.what
    where
      DueFits : Due → Type 0
      DueFits (EntryDue global order) = Unit {0}
      DueFits (EventDue one) = ScheduledFits program kinds one

  first_fits : (kinds : Kinds) (all : List Turn) (one : Turn) → AllByRecursion (TurnFits kinds) all → first_turn all ≡ Some one → TurnFits kinds one
  first_fits kinds [] one h is = absurd cc
  first_fits kinds (turn ∷ all) one (first, others) is = by (first_turn all) refl (λ other e. first_fits kinds all other others e)
    where
      chosen : (before : Bool) (other : Turn) → TurnFits kinds other → TurnFits kinds (if before then other else turn)
      chosen true other h = h
      chosen false other h = first

      by : (found : Option Turn) → first_turn all ≡ found → ((other : Turn) → first_turn all ≡ Some other → TurnFits kinds other) → TurnFits kinds one
      by None e rest = let same : turn ≡ one = told (rw e at is) in rw same at first
        where
          told : Some turn ≡ Some one → turn ≡ one
          told e = cc
      by (Some other) e rest = let same : (if is_before other turn then other else turn) ≡ one = told (rw e at is) in rw same at (chosen (is_before other turn) other (rest other e))
        where
          told : Some (if is_before other turn then other else turn) ≡ Some one → (if is_before other turn then other else turn) ≡ one
          told e = cc

  entries_fit : (kinds : Kinds) (number : ℕ) (found : Option Table) → AllByRecursion (TurnFits kinds) (due_entries number found)
  entries_fit kinds number None = tt
  entries_fit kinds number (Some table) = by (first_due table.entries) refl
    where
      by : (found : Option (Moment × ℕ)) → first_due table.entries ≡ found → AllByRecursion (TurnFits kinds) (due_entries number (Some table))
      by None e = rw e tt
      by (Some first) e = rw e (tt, tt)

  all_entries : (kinds : Kinds) (world : World) (number : ℕ) (globals : List Global) → AllByRecursion (TurnFits kinds) (entry_turns world number globals)
  all_entries kinds world number [] = tt
  all_entries kinds world number (one ∷ others) = all_append (TurnFits kinds) (if is_some one.expiry then due_entries number (table_behind world (named world.globals number)) else []) (entry_turns world (number + 1) others)
      (by (is_some one.expiry)) (all_entries kinds world (number + 1) others)
    where
      by : (expires : Bool) → AllByRecursion (TurnFits kinds) (if expires then due_entries number (table_behind world (named world.globals number)) else [])
      by true = entries_fit kinds number (table_behind world (named world.globals number))
      by false = tt

  all_events : (kinds : Kinds) (scheduled : List Scheduled) → AllByRecursion (ScheduledFits program kinds) scheduled → AllByRecursion (TurnFits kinds) (map (λ one. record { at = one.due; what = EventDue one }) scheduled)
  all_events kinds [] all = tt
  all_events kinds (one ∷ scheduled) (first, others) = (first, all_events kinds scheduled others)

  next_fits : (world : World) (one : Turn) (h : Whole program world) → next_turn program world ≡ Some one → TurnFits h.kinds one
  next_fits world one h is = first_fits h.kinds ((if world.is_ending then [] else entry_turns world 0 program.globals) ++ event_turns world) one
      (all_append (TurnFits h.kinds) (if world.is_ending then [] else entry_turns world 0 program.globals) (event_turns world) (by world.is_ending) (all_events h.kinds world.scheduled h.fits.scheduled)) is
    where
      by : (ending : Bool) → AllByRecursion (TurnFits h.kinds) (if ending then [] else entry_turns world 0 program.globals)
      by true = tt
      by false = all_entries h.kinds world 0 program.globals

  happens_fits : (kinds : Kinds) (world : World) (turn : Turn) → WorldFits program kinds world → TurnFits kinds turn → Whole program (happens program budget world turn.what)
  happens_fits kinds world turn holds h = by turn.what refl
    where
      by : (what : Due) → turn.what ≡ what → Whole program (happens program budget world what)
      by (EntryDue number order) is = stopped_whole (expiry_keeps program kinds budget number order world fits holds)
      by (EventDue one) is = stopped_whole (dispatch_keeps program kinds budget (not_waiting one world) one.what fits (record {
        objects = holds.objects;
        defaults = holds.defaults;
        globals = holds.globals;
        streams = holds.streams;
        queue = holds.queue;
        scheduled = all_filter (ScheduledFits program kinds) (λ other. not (other.order == one.order)) world.scheduled holds.scheduled;
        rows = holds.rows;
      }) (rw is at h))

  turn_fits : (at : Moment → Moment) (world : World) (one : Turn) (more : ℕ) (h : Whole program world) → TurnFits h.kinds one → ProgressFits program (one_turn program budget at world one more)
  turn_fits at world one zero h fit = h
  turn_fits at world one (suc more) h fit = drained_fits more (happens program budget (with_time (at one.at) world) one.what)
      (happens_fits h.kinds (with_time (at one.at) world) one (at_time h.kinds (at one.at) world h.fits) fit)

  turns_fit : (most : ℕ) (at : Moment → Moment) (is_due : Turn → Bool) (world : World) (more : ℕ) → Whole program world → ProgressFits program (turns_from most program budget at is_due world more)
  turns_fit zero at is_due world more h = h
  turns_fit (suc most) at is_due world more h = by (next_turn program world) refl (λ world left h. turns_fit most at is_due world left h)
    where
      goes : Turn → Progress
      goes one = goes_on (turns_from most program budget at is_due) (one_turn program budget at world one more)

      if_due : (due : Bool) (one : Turn) → TurnFits h.kinds one → ((world : World) (left : ℕ) → Whole program world → ProgressFits program (turns_from most program budget at is_due world left))
          → ProgressFits program (elim due [ true ↦ goes one | false ↦ Goes world more ])
      if_due true one fit rest = goes_fits (turns_from most program budget at is_due) (one_turn program budget at world one more) rest (turn_fits at world one more h fit)
      if_due false one fit rest = h

      by : (found : Option Turn) → next_turn program world ≡ found → ((world : World) (left : ℕ) → Whole program world → ProgressFits program (turns_from most program budget at is_due world left)) → ProgressFits program (turn_if is_due world more goes found)
      by None e rest = h
      by (Some one) e rest = if_due (is_due one) one (next_fits world one h e) rest

  -- The run ----------------------------------------------------------------------------------------------------------

  initialised_fits : (number : ℕ) (world : World) (globals : List Global) → ((m : ℕ) (one : Global) → slice_get globals m ≡ Some one → slice_get program.globals (number + m) ≡ Some one) → Whole program world → Whole program (initialised program budget number world globals)
  initialised_fits number world [] stands h = h
  initialised_fits number world (one ∷ others) stands h = initialised_fits (number + 1) (world_after program (initial_body program number one world budget)) others (λ m other there. moved m other (stands (suc m) other there))
      (stopped_whole (initial_keeps program h.kinds budget number world one fits (at_first (stands zero one refl)) h.fits))
    where
      at_first : slice_get program.globals (number + 0) ≡ Some one → slice_get program.globals number ≡ Some one
      at_first e = let same : number + 0 ≡ number = omega arith in rw same at e

      moved : (m : ℕ) (other : Global) → slice_get program.globals (number + suc m) ≡ Some other → slice_get program.globals (number + 1 + m) ≡ Some other
      moved m other e = let same : number + suc m ≡ number + 1 + m = omega arith in rw same at e

  begun_fits : ProgressFits program (begun program budget)
  begun_fits =
      let world : World = initialised program budget 0 (first_world (no_values program)) program.globals in
      drained_fits dispatches_max (queued_behind (queued zeek_init [] ∷ []) world) (waiting zeek_init world fits.begins (initialised_fits 0 (first_world (no_values program)) program.globals first (record {
        kinds = [];
        fits = record { objects = tt; defaults = tt; globals = fits_nothing [] (global_names program) (length program.globals); streams = tt; queue = tt; scheduled = tt; rows = tt };
      })))
    where
      first : (m : ℕ) (one : Global) → slice_get program.globals m ≡ Some one → slice_get program.globals (0 + m) ≡ Some one
      first m one e = let same : m ≡ 0 + m = omega arith in rw same at e

  item_fits : (item : Item) (world : World) (left : ℕ) → RaisesFit program item → Whole program world → ProgressFits program (with_item program budget item world left)
  item_fits item world left raises h =
      drained_fits left (item.raises (with_time item.moment world)) (stopped_whole (raises h.kinds (with_time item.moment world) (at_time h.kinds item.moment world h.fits)))

  take_fits : (item : Item) (before : Progress) → RaisesFit program item → ProgressFits program before → ProgressFits program (take program budget before item)
  take_fits item before raises h = goes_fits (λ world left. goes_on (with_item program budget item) (turns program budget (λ at. at) (λ one. int_le one.at.0 item.moment.0) world dispatches_max)) before
      (λ world left whole. goes_fits (with_item program budget item) (turns program budget (λ at. at) (λ one. int_le one.at.0 item.moment.0) world dispatches_max)
      (λ world left whole. item_fits item world left raises whole)
      (turns_fit (suc dispatches_max) (λ at. at) (λ one. int_le one.at.0 item.moment.0) world dispatches_max whole)) h

  all_taken : (items : List Item) (before : Progress) → AllByRecursion (RaisesFit program) items → ProgressFits program before → ProgressFits program (fold (take program budget) before items)
  all_taken [] before all h = h
  all_taken (item ∷ items) before (first, others) h = all_taken items (take program budget before item) others (take_fits item before first h)

  finish_fits : (last : Moment) (world : World) (left : ℕ) → Whole program world → ProgressFits program (finish program budget last world left)
  finish_fits last world left h = goes_fits (λ world left. drained program budget left (queued_behind (queued zeek_done [] ∷ []) world)) (turns program budget (λ at. last) (λ one. true) (ending_at last world) left)
      (λ world left whole. drained_fits left (queued_behind (queued zeek_done [] ∷ []) world) (waiting zeek_done world fits.ends whole))
      (turns_fit (suc left) (λ at. last) (λ one. true) (ending_at last world) left (ended last world h))

pub run_keeps : (program : Program) (budget : ℕ) (items : List Item) (last : Moment) → ProgramFits program → AllByRecursion (RaisesFit program) items → (kinds : Kinds) × WorldFits program kinds (world_in (run program budget items last))
run_keeps program budget items last fits all =
    let whole : Whole program (world_in (run program budget items last)) = goes_fits program fits budget (finish program budget last) (fold (take program budget) (begun program budget) items) (λ world left h. finish_fits program fits budget last world left h)
    (all_taken program fits budget items (begun program budget) all (begun_fits program fits budget)) in
    (whole.kinds, whole.fits)
