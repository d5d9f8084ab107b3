-- The trace of a run is whole: with what happens between its dispatches it leads from where the run begins to its last world.
use Rattle.std.proofs.Common.{◌≡◌, ℕ, zero, suc, Bool, true, false, List, [], ◌∷◌, ◌++◌, fold, map, Option, Some, None, refl, sym, ap, subst, ◌∙◌, append_assoc, append-nil}
use Rattle.std.specs.Prelude.{filter, filter_map}
use Rattle.std.proofs.lemmas.Bool.{false≢true}
use Rattle.std.proofs.lemmas.List.Elements.{filter-append, filter_map-append}
use Rattle.zk_base.specs.declared.time.Moment.{Moment}
use Rattle.zk_typed.specs.Dispatch.{dispatch}
use Rattle.zk_typed.specs.Predefined.{zeek_done}
use Rattle.zk_typed.specs.Program.{Program}
use Rattle.zk_typed.specs.Running.{Goes, Floods, Item, Progress, Turn, begun, dispatches_max, drained, finish, goes_on, happens, next_turn, none_left, one_more, one_turn, run, take, turn_if, turns, turns_from, with_item, world_in}
use Rattle.zk_typed.specs.State.{World, ending_at, queued_behind, with_queue, with_time}
use Rattle.zk_typed.specs.World.{Queued, queued}
use Rattle.zk_agenda.specs.History.{Dispatches, Ends, Finishes, Happening, IsHistory, IsNext, MayCome, Takes, TraceIsWhole, beginning, dispatch_in, dispatched, happened, is_other, planned, without_first}
use Rattle.zk_agenda.specs.Trace.{Came, Dispatched, Waited, from_first, from_here, if_due, in_beginning, in_end, in_item, in_items, in_queue, in_turn, in_turns, in_turns_from, is_by}
use Rattle.zk_agenda.proofs.Walk.{Settled, turns_settle}

-- where a run goes on, all has happened, and no event waits in the queue
abbrev All : List Happening → Progress → Type 0
All undone (Goes world left) = (undone ≡ []) × (world.queue ≡ [])
All undone (Floods world) = Unit {0}

-- a stretch of a run from a world on, with its dispatches and what is planned beside them
record Reaches (program : Program) (budget : ℕ) (world : World) (trace : List Dispatched) (plan : List Happening) (progress : Progress) : Type 0 where
  history : List Happening
  leads : IsHistory program budget world history (world_in progress)
  dispatches : filter_map dispatch_in history ≡ trace
  undone : List Happening
  others : filter is_other history ++ undone ≡ plan
  all : All undone progress

module _ (program : Program) (budget : ℕ) where
  still : (world : World) (left : ℕ) → world.queue ≡ [] → Reaches program budget world [] [] (Goes world left)
  still world left empty = record { history = []; leads = refl; dispatches = refl; undone = []; others = refl; all = (refl, empty) }

  flooded : (world : World) (plan : List Happening) → Reaches program budget world [] plan (Floods world)
  flooded world plan = record { history = []; leads = refl; dispatches = refl; undone = plan; others = refl; all = tt }

  -- a dispatch comes first
  dispatch-first : (world : World) (one : Dispatched) (trace : List Dispatched) (plan : List Happening) (progress : Progress) → IsNext program world one.time one.what
      → Reaches program budget (dispatched program budget world one.time one.what) trace plan progress → Reaches program budget world (one ∷ trace) plan progress
  dispatch-first world one trace plan progress next more = record {
    history = Dispatches one ∷ more.history;
    leads = (next, more.leads);
    dispatches = ap (λ list. one ∷ list) more.dispatches;
    undone = more.undone;
    others = more.others;
    all = more.all;
  }

  -- something else comes first
  other-first : (world : World) (one : Happening) (trace : List Dispatched) (plan : List Happening) (progress : Progress) → dispatch_in one ≡ None → is_other one ≡ true → MayCome program world one
      → Reaches program budget (happened program budget world one) trace plan progress → Reaches program budget world trace (one ∷ plan) progress
  other-first world one trace plan progress none other may more = record {
    history = one ∷ more.history;
    leads = (may, more.leads);
    dispatches = rw none more.dispatches;
    undone = more.undone;
    others = rw other (ap (λ list. one ∷ list) more.others);
    all = more.all;
  }

  module _ (b : World) (second : List Happening) (c : World) (other : IsHistory program budget b second c) where
    leads-on : (first : List Happening) (a : World) → IsHistory program budget a first b → IsHistory program budget a (first ++ second) c
    leads-on [] = λ a one. subst (λ world. IsHistory program budget world second c) one other
    leads-on (happening ∷ first) = λ a one. (one.0, leads-on first (happened program budget a happening) one.1)

  -- one stretch behind another one
  behind : (world : World) (trace : List Dispatched) (plan more_planned : List Happening) (progress : Progress) (next : World → ℕ → Progress) (then : World → ℕ → List Dispatched)
      → Reaches program budget world trace plan progress
      → ((after : World) (left : ℕ) → progress ≡ Goes after left → after.queue ≡ [] → Reaches program budget after (then after left) more_planned (next after left))
      → Reaches program budget world (trace ++ from_here then progress) (plan ++ more_planned) (goes_on next progress)
  behind world trace plan more_planned (Floods after) next then first more = record {
    history = first.history;
    leads = first.leads;
    dispatches = first.dispatches ∙ sym (append-nil trace);
    undone = first.undone ++ more_planned;
    others = sym (append_assoc (filter is_other first.history) first.undone more_planned) ∙ ap (λ list. list ++ more_planned) first.others;
    all = tt;
  }
  behind world trace plan more_planned (Goes after left) next then first more =
      let second = more after left refl first.all.1 in
      let done : filter is_other first.history ≡ plan = sym (append-nil (filter is_other first.history)) ∙ (ap (λ list. filter is_other first.history ++ list) (sym first.all.0) ∙ first.others) in
      record {
        history = first.history ++ second.history;
        leads = leads-on after second.history (world_in (next after left)) second.leads first.history world first.leads;
        dispatches = filter_map-append dispatch_in first.history second.history ∙ (ap (λ list. list ++ filter_map dispatch_in second.history) first.dispatches ∙ ap (λ list. trace ++ list) second.dispatches);
        undone = second.undone;
        others = ap (λ list. list ++ second.undone) (filter-append is_other first.history second.history)
            ∙ (append_assoc (filter is_other first.history) (filter is_other second.history) second.undone
            ∙ (ap (λ list. list ++ (filter is_other second.history ++ second.undone)) done ∙ ap (λ list. plan ++ list) second.others));
        all = second.all;
      }

  -- The queue ------------------------------------------------------------------------------------------------------------------

  over-first : (left : ℕ) (next : World → Progress) (then : World → List Dispatched) → ((world : World) → Reaches program budget world (then world) [] (next world))
      → (world : World) (queue : List Queued) → world.queue ≡ queue → Reaches program budget world (from_first program budget then world queue) [] (one_more program budget left next world queue)
  over-first left next then goes world [] is = still world (suc left) is
  over-first left next then goes world (first ∷ others) is =
      let after = dispatch program budget (with_queue others world) first in
      dispatch-first world (record { time = world.time; what = Waited first }) (then after) [] (next after) (refl, rw is refl)
      (subst (λ queue. Reaches program budget (dispatch program budget (with_queue (without_first queue) world) first) (then after) [] (next after)) (sym is) (goes after))

  over-none : (world : World) (queue : List Queued) → world.queue ≡ queue → Reaches program budget world [] [] (none_left world queue)
  over-none world [] is = still world 0 is
  over-none world (first ∷ others) is = flooded world []

  over-queue : (left : ℕ) (world : World) → Reaches program budget world (in_queue program budget left world) [] (drained program budget left world)
  over-queue zero world = over-none world world.queue refl
  over-queue (suc left) world = over-first left (drained program budget left) (in_queue program budget left) (λ after. over-queue left after) world world.queue refl

  -- Turns ----------------------------------------------------------------------------------------------------------------------

  over-turn : (at : Moment → Moment) (world : World) (one : Turn) (more : ℕ) → IsNext program world (at one.at) (Came one)
      → Reaches program budget world (in_turn program budget at world one more) [] (one_turn program budget at world one more)
  over-turn at world one zero next = flooded world []
  over-turn at world one (suc left) next =
      let after = happens program budget (with_time (at one.at) world) one.what in
      dispatch-first world (record { time = at one.at; what = Came one }) (in_queue program budget left after) [] (drained program budget left after) next (over-queue left after)

  module _ (at : Moment → Moment) (is_due : Turn → Bool) where
    abbrev Rest : ℕ → Type 0
    Rest most = (world : World) (more : ℕ) → world.queue ≡ [] → Reaches program budget world (in_turns_from most program budget at is_due world more) [] (turns_from most program budget at is_due world more)

    by-due : (most : ℕ) → Rest most → (world : World) (more : ℕ) → world.queue ≡ [] → (one : Turn) → next_turn program world ≡ Some one → (due : Bool)
        → Reaches program budget world
        (elim due [ true ↦ in_turn program budget at world one more ++ from_here (in_turns_from most program budget at is_due) (one_turn program budget at world one more) | false ↦ [] ]) []
        (elim due [ true ↦ goes_on (turns_from most program budget at is_due) (one_turn program budget at world one more) | false ↦ Goes world more ])
    by-due most rest world more empty one next true = behind world (in_turn program budget at world one more) [] [] (one_turn program budget at world one more)
        (turns_from most program budget at is_due) (in_turns_from most program budget at is_due)
        (over-turn at world one more (empty, next)) (λ after left here none. rest after left none)
    by-due most rest world more empty one next false = still world more empty

    by-next : (most : ℕ) → Rest most → (world : World) (more : ℕ) → world.queue ≡ [] → (next : Option Turn) → next_turn program world ≡ next
        → Reaches program budget world
        (if_due is_due (λ one. in_turn program budget at world one more ++ from_here (in_turns_from most program budget at is_due) (one_turn program budget at world one more)) next) []
        (turn_if is_due world more (λ one. goes_on (turns_from most program budget at is_due) (one_turn program budget at world one more)) next)
    by-next most rest world more empty None is = still world more empty
    by-next most rest world more empty (Some one) is = by-due most rest world more empty one is (is_due one)

    over-turns : (most : ℕ) → Rest most
    over-turns zero = λ world more empty. still world more empty
    over-turns (suc most) = λ world more empty. by-next most (over-turns most) world more empty (next_turn program world) refl

  -- The run --------------------------------------------------------------------------------------------------------------------

  over-item : (item : Item) (world : World) (left : ℕ) → world.queue ≡ []
      → Reaches program budget world (in_item program budget item world left) (Takes item ∷ []) (goes_on (with_item program budget item) (turns program budget (λ at. at) (is_by item.moment) world dispatches_max))
  over-item item world left empty =
      let turned = turns program budget (λ at. at) (is_by item.moment) world dispatches_max in
      behind world (in_turns program budget (λ at. at) (is_by item.moment) world dispatches_max) [] (Takes item ∷ []) turned
      (with_item program budget item) (λ after more. in_queue program budget more (item.raises (with_time item.moment after)))
      (over-turns (λ at. at) (is_by item.moment) (suc dispatches_max) world dispatches_max empty)
      (λ after more is none.
      let settled : Settled program (is_by item.moment) (Goes after more) = subst (Settled program (is_by item.moment)) is (turns_settle program budget (λ at. at) (is_by item.moment) world dispatches_max) in
      let raised = item.raises (with_time item.moment after) in
      other-first after (Takes item) (in_queue program budget more raised) [] (drained program budget more raised) refl refl (none, settled) (over-queue more raised))

  over-items : (items : List Item) (start : World) (trace : List Dispatched) (plan : List Happening) (before : Progress) → Reaches program budget start trace plan before
      → Reaches program budget start (trace ++ in_items program budget before items) (plan ++ map (λ item. Takes item) items) (fold (take program budget) before items)
  over-items [] start trace plan before reached =
      subst (λ list. Reaches program budget start list (plan ++ []) before) (sym (append-nil trace)) (subst (λ list. Reaches program budget start trace list before) (sym (append-nil plan)) reached)
  over-items (item ∷ items) start trace plan before reached =
      let here = from_here (in_item program budget item) before in
      let after = take program budget before item in
      let first : Reaches program budget start (trace ++ here) (plan ++ Takes item ∷ []) after = behind start trace plan (Takes item ∷ []) before
      (λ world left. goes_on (with_item program budget item) (turns program budget (λ at. at) (is_by item.moment) world dispatches_max)) (in_item program budget item)
      reached (λ world left is empty. over-item item world left empty) in
      let rest = over-items items start (trace ++ here) (plan ++ Takes item ∷ []) after first in
      let all = fold (take program budget) after items in
      subst (λ list. Reaches program budget start list (plan ++ map (λ one. Takes one) (item ∷ items)) all) (append_assoc trace here (in_items program budget after items))
      (subst (λ list. Reaches program budget start (trace ++ here ++ in_items program budget after items) list all) (append_assoc plan (Takes item ∷ []) (map (λ one. Takes one) items)) rest)

  none-comes : (world : World) (next : Option Turn) → next_turn program world ≡ next → ((turn : Turn) → next_turn program world ≡ Some turn → true ≡ false) → next_turn program world ≡ None
  none-comes world None is none = is
  none-comes world (Some turn) is none = absurd (false≢true (sym (none turn is)))

  over-end : (last : Moment) (world : World) (left : ℕ) → world.queue ≡ []
      → Reaches program budget world (in_end program budget last world left) (Ends last ∷ Finishes ∷ []) (finish program budget last world left)
  over-end last world left empty =
      let begins = ending_at last world in
      other-first world (Ends last) (in_end program budget last world left) (Finishes ∷ []) (finish program budget last world left) refl refl empty
      (behind begins (in_turns program budget (λ at. last) (λ one. true) begins left) [] (Finishes ∷ []) (turns program budget (λ at. last) (λ one. true) begins left)
      (λ after more. drained program budget more (queued_behind (queued zeek_done [] ∷ []) after)) (λ after more. in_queue program budget more (queued_behind (queued zeek_done [] ∷ []) after))
      (over-turns (λ at. last) (λ one. true) (suc left) begins left empty)
      (λ after more is none.
      let settled : Settled program (λ one. true) (Goes after more) = subst (Settled program (λ one. true)) is (turns_settle program budget (λ at. last) (λ one. true) begins left) in
      let done = queued_behind (queued zeek_done [] ∷ []) after in
      other-first after Finishes (in_queue program budget more done) [] (drained program budget more done) refl refl (none, none-comes after (next_turn program after) refl settled) (over-queue more done)))

  over-run : (items : List Item) (last : Moment)
      → Reaches program budget (beginning program budget) (in_beginning program budget ++ in_items program budget (begun program budget) items ++ from_here (in_end program budget last) (fold (take program budget) (begun program budget) items))
      (planned items last) (run program budget items last)
  over-run items last = behind (beginning program budget) (in_beginning program budget ++ in_items program budget (begun program budget) items) (map (λ item. Takes item) items) (Ends last ∷ Finishes ∷ [])
      (fold (take program budget) (begun program budget) items) (finish program budget last) (in_end program budget last)
      (over-items items (beginning program budget) (in_beginning program budget) [] (begun program budget) (over-queue dispatches_max (beginning program budget)))
      (λ world left is empty. over-end last world left empty)

pub trace_is_whole : TraceIsWhole
trace_is_whole program budget items last =
    let reached = over-run program budget items last in
    record {
      history = reached.history;
      leads = reached.leads;
      dispatches = reached.dispatches;
      undone = reached.undone;
      others = reached.others;
      all = λ world left is. subst (All reached.undone) is reached.all;
    }
