-- A run, a dispatch at a time: what holds of each step, and of one stretch of dispatches behind another, holds of the whole.
use Rattle.std.proofs.Common.{◌≡◌, ℕ, zero, suc, ◌<◌, ◌≤◌, arith, Bool, true, false, List, [], ◌∷◌, ◌++◌, Option, Some, None, refl, ap, sym, ◌∙◌}
use Rattle.zk_base.specs.declared.time.Moment.{Moment}
use Rattle.zk_typed.specs.Dispatch.{dispatch}
use Rattle.zk_typed.specs.Program.{Program}
use Rattle.zk_typed.specs.Running.{Goes, Floods, Item, Progress, Turn, begun, dispatches_max, drained, finish, goes_on, happens, initialised, next_turn, no_values, none_left, one_more, one_turn, turn_if, turns, turns_from, with_item, world_in}
use Rattle.zk_typed.specs.State.{World, ending_at, first_world, queued_behind, with_queue, with_time}
use Rattle.zk_typed.specs.World.{Queued, queued}
use Rattle.zk_typed.specs.Predefined.{zeek_done, zeek_init}
use Rattle.zk_agenda.specs.Onward.{Raises}
use Rattle.zk_agenda.specs.Trace.{Came, Dispatched, Waited, from_first, from_here, if_due, in_beginning, in_end, in_item, in_queue, in_turn, in_turns, in_turns_from, is_by}
use Rattle.zk_agenda.proofs.Worlds.{Passes, pass-both, pass-dispatch, pass-queue, pass-raised, pass-still}

-- what holds from a world to another one, over these dispatches, holds of each step and of one stretch behind another
pub record Follows (program : Program) (S : World → List Dispatched → World → Type 0) : Type 0 where
  pub onward : (a b : World) → Passes program a b → S a [] b
  pub waited : (a b : World) (event : Queued) → Passes program a b → S a (record { time = a.time; what = Waited event } ∷ []) b
  pub both : (a b c : World) (first second : List Dispatched) → S a first b → S b second c → S a (first ++ second) c

module _ (program : Program) (S : World → List Dispatched → World → Type 0) (follows : Follows program S) (budget : ℕ) where
  from-first : (left : ℕ) (next : World → Progress) (then : World → List Dispatched) → ((world : World) → S world (then world) (world_in (next world)))
      → (world : World) (queue : List Queued) → S world (from_first program budget then world queue) (world_in (one_more program budget left next world queue))
  from-first left next then goes world [] = follows.onward world world (pass-still program world)
  from-first left next then goes world (first ∷ others) =
      let after = dispatch program budget (with_queue others world) first in
      follows.both world after (world_in (next after)) (record { time = world.time; what = Waited first } ∷ []) (then after)
      (follows.waited world after first (pass-both program world (with_queue others world) after (pass-queue program world others) (pass-dispatch program budget (with_queue others world) first)))
      (goes after)

  none-here : (world : World) (queue : List Queued) → S world [] (world_in (none_left world queue))
  none-here world [] = follows.onward world world (pass-still program world)
  none-here world (first ∷ others) = follows.onward world world (pass-still program world)

  -- over a queue that is drained
  pub over_queue : (left : ℕ) (world : World) → S world (in_queue program budget left world) (world_in (drained program budget left world))
  over_queue zero world = none-here world world.queue
  over_queue (suc left) world = from-first left (drained program budget left) (in_queue program budget left) (λ after. over_queue left after) world world.queue

  module _ (at : Moment → Moment) where
    -- over a turn
    pub over_turn : (world : World) (one : Turn) (more : ℕ)
        → S world (record { time = at one.at; what = Came one } ∷ []) (happens program budget (with_time (at one.at) world) one.what)
        → S world (in_turn program budget at world one more) (world_in (one_turn program budget at world one more))
    over_turn world one zero came = follows.onward world world (pass-still program world)
    over_turn world one (suc left) came =
        let after = happens program budget (with_time (at one.at) world) one.what in
        follows.both world after (world_in (drained program budget left after)) (record { time = at one.at; what = Came one } ∷ []) (in_queue program budget left after)
        came (over_queue left after)

    -- where a run goes on
    pub over_both : (world : World) (first : List Dispatched) (progress : Progress) (next : World → ℕ → Progress) (then : World → ℕ → List Dispatched)
        → S world first (world_in progress) → ((after : World) (left : ℕ) → progress ≡ Goes after left → S after (then after left) (world_in (next after left)))
        → S world (first ++ from_here then progress) (world_in (goes_on next progress))
    over_both world first (Goes after left) next then one more = follows.both world after (world_in (next after left)) first (then after left) one (more after left refl)
    over_both world first (Floods after) next then one more = follows.both world after after first [] one (follows.onward after after (pass-still program after))

    module _ (is_due : Turn → Bool) where
      -- what comes of each turn that is due
      abbrev pub Comes : Type 0
      Comes = (world : World) (one : Turn) → next_turn program world ≡ Some one → is_due one ≡ true
          → S world (record { time = at one.at; what = Came one } ∷ []) (happens program budget (with_time (at one.at) world) one.what)

      abbrev goes : ℕ → World → ℕ → Turn → Progress
      goes most world more one = goes_on (turns_from most program budget at is_due) (one_turn program budget at world one more)

      abbrev then_in : ℕ → World → ℕ → Turn → List Dispatched
      then_in most world more one = in_turn program budget at world one more ++ from_here (in_turns_from most program budget at is_due) (one_turn program budget at world one more)

      -- what holds of the turns behind this one
      abbrev Rest : ℕ → Type 0
      Rest most = (world : World) (more : ℕ) → S world (in_turns_from most program budget at is_due world more) (world_in (turns_from most program budget at is_due world more))

      by_due : Comes → (most : ℕ) → Rest most → (world : World) (more : ℕ) (one : Turn) → next_turn program world ≡ Some one → (due : Bool) → is_due one ≡ due
          → S world (elim due [ true ↦ then_in most world more one | false ↦ [] ]) (world_in (elim due [ true ↦ goes most world more one | false ↦ Goes world more ]))
      by_due comes most rest world more one next true is = over_both world (in_turn program budget at world one more) (one_turn program budget at world one more)
          (turns_from most program budget at is_due) (in_turns_from most program budget at is_due)
          (over_turn world one more (comes world one next is)) (λ after left here. rest after left)
      by_due comes most rest world more one next false is = follows.onward world world (pass-still program world)

      by_next : Comes → (most : ℕ) → Rest most → (world : World) (more : ℕ) (next : Option Turn) → next_turn program world ≡ next
          → S world (if_due is_due (then_in most world more) next) (world_in (turn_if is_due world more (goes most world more) next))
      by_next comes most rest world more None is = follows.onward world world (pass-still program world)
      by_next comes most rest world more (Some one) is = by_due comes most rest world more one is (is_due one) refl

      -- over turns
      pub over_turns : Comes → (most : ℕ) → Rest most
      over_turns comes zero = λ world more. follows.onward world world (pass-still program world)
      over_turns comes (suc most) = λ world more. by_next comes most (over_turns comes most) world more (next_turn program world) refl

  -- over the turns that are due by an item, and then the item
  pub over_item : (item : Item) (world : World)
      → Comes (λ at. at) (is_by item.moment)
      → ((after : World) (left : ℕ) → turns program budget (λ at. at) (is_by item.moment) world dispatches_max ≡ Goes after left → S after [] (with_time item.moment after))
      → ((before : World) → Raises before (item.raises before))
      → (left : ℕ) → S world (in_item program budget item world left) (world_in (goes_on (with_item program budget item) (turns program budget (λ at. at) (is_by item.moment) world dispatches_max)))
  over_item item world comes settles goes left =
      over_both (λ at. at) world (in_turns program budget (λ at. at) (is_by item.moment) world dispatches_max) (turns program budget (λ at. at) (is_by item.moment) world dispatches_max)
      (with_item program budget item) (λ after more. in_queue program budget more (item.raises (with_time item.moment after)))
      (over_turns (λ at. at) (is_by item.moment) comes (suc dispatches_max) world dispatches_max)
      (λ after more is.
      let timed = with_time item.moment after in
      let raised = item.raises timed in
      follows.both after timed _ [] _ (settles after more is) (follows.both timed raised _ [] _ (follows.onward timed raised (pass-raised program timed raised (goes timed))) (over_queue more raised)))

  -- over the end
  pub over_end : (last : Moment) (world : World) → Comes (λ at. last) (λ one. true)
      → (left : ℕ) → S (ending_at last world) (in_end program budget last world left) (world_in (finish program budget last world left))
  over_end last world comes left =
      over_both (λ at. last) (ending_at last world) (in_turns program budget (λ at. last) (λ one. true) (ending_at last world) left) (turns program budget (λ at. last) (λ one. true) (ending_at last world) left)
      (λ after more. drained program budget more (queued_behind (queued zeek_done [] ∷ []) after)) (λ after more. in_queue program budget more (queued_behind (queued zeek_done [] ∷ []) after))
      (over_turns (λ at. last) (λ one. true) comes (suc left) (ending_at last world) left)
      (λ after more is.
      let done = queued_behind (queued zeek_done [] ∷ []) after in
      follows.both after done _ [] _ (follows.onward after done (pass-queue program after done.queue)) (over_queue more done))

  -- over the beginning, behind the initial values
  pub over_beginning : S (first_world (no_values program)) [] (initialised program budget 0 (first_world (no_values program)) program.globals)
      → S (first_world (no_values program)) (in_beginning program budget) (world_in (begun program budget))
  over_beginning begins =
      let first = first_world (no_values program) in
      let computed = initialised program budget 0 first program.globals in
      let waiting = queued_behind (queued zeek_init [] ∷ []) computed in
      follows.both first computed _ [] _ begins
      (follows.both computed waiting _ [] _ (follows.onward computed waiting (pass-queue program computed waiting.queue)) (over_queue dispatches_max waiting))

-- Where turns come to ------------------------------------------------------------------------------------------------------

-- no turn is due any more
abbrev pub Settled : Program → (Turn → Bool) → Progress → Type 0
Settled program is_due (Goes world left) = (one : Turn) → next_turn program world ≡ Some one → is_due one ≡ false
Settled program is_due (Floods world) = Unit {0}

-- so many dispatches may still come, at most
abbrev AtMost : ℕ → Progress → Type 0
AtMost most (Goes world left) = left ≤ most
AtMost most (Floods world) = Unit {0}

at-most-one : (program : Program) (budget left : ℕ) (world : World) (queue : List Queued) → ((after : World) → AtMost left (drained program budget left after))
    → AtMost (suc left) (one_more program budget left (drained program budget left) world queue)
at-most-one program budget left world [] fewer = omega arith
at-most-one program budget left world (first ∷ others) fewer = more left (drained program budget left (dispatch program budget (with_queue others world) first)) (fewer (dispatch program budget (with_queue others world) first))
  where
    more : (n : ℕ) (progress : Progress) → AtMost n progress → AtMost (suc n) progress
    more n (Goes world left) few = omega (arith, few)
    more n (Floods world) few = tt

at-most-none : (world : World) (queue : List Queued) → AtMost 0 (none_left world queue)
at-most-none world [] = omega arith
at-most-none world (first ∷ others) = tt

at-most : (program : Program) (budget left : ℕ) (world : World) → AtMost left (drained program budget left world)
at-most program budget zero world = at-most-none world world.queue
at-most program budget (suc left) world = at-most-one program budget left world world.queue (λ after. at-most program budget left after)

module _ (program : Program) (budget : ℕ) (at : Moment → Moment) (is_due : Turn → Bool) where
  abbrev Settles : ℕ → Type 0
  Settles most = (world : World) (more : ℕ) → more < most → Settled program is_due (turns_from most program budget at is_due world more)

  settled-on : (most : ℕ) → Settles most → (progress : Progress) (left : ℕ) → left < most → AtMost left progress → Settled program is_due (goes_on (turns_from most program budget at is_due) progress)
  settled-on most rest (Goes world more) left enough few = rest world more (omega (arith, enough, few))
  settled-on most rest (Floods world) left enough few = tt

  settled-turn : (most : ℕ) → Settles most → (world : World) (more : ℕ) (one : Turn) → more < suc most
      → Settled program is_due (goes_on (turns_from most program budget at is_due) (one_turn program budget at world one more))
  settled-turn most rest world zero one enough = tt
  settled-turn most rest world (suc left) one enough =
      settled-on most rest _ left (omega (arith, enough)) (at-most program budget left (happens program budget (with_time (at one.at) world) one.what))

  settled-due : (most : ℕ) → Settles most → (world : World) (more : ℕ) → more < suc most → (one : Turn) → next_turn program world ≡ Some one → (due : Bool) → is_due one ≡ due
      → Settled program is_due (elim due [ true ↦ goes_on (turns_from most program budget at is_due) (one_turn program budget at world one more) | false ↦ Goes world more ])
  settled-due most rest world more enough one next true is = settled-turn most rest world more one enough
  settled-due most rest world more enough one next false is = λ other there. let same : one ≡ other = cc in sym (ap is_due same) ∙ is

  settled-next : (most : ℕ) → Settles most → (world : World) (more : ℕ) → more < suc most → (next : Option Turn) → next_turn program world ≡ next
      → Settled program is_due (turn_if is_due world more (λ one. goes_on (turns_from most program budget at is_due) (one_turn program budget at world one more)) next)
  settled-next most rest world more enough None is = λ one there. absurd (let no : ⊥ = cc in no)
  settled-next most rest world more enough (Some one) is = settled-due most rest world more enough one is (is_due one) refl

  settles : (most : ℕ) → Settles most
  settles zero = λ world more enough. absurd (omega (arith, enough))
  settles (suc most) = λ world more enough. settled-next most (settles most) world more enough (next_turn program world) refl

  -- behind all turns that are due, none is
  pub turns_settle : (world : World) (left : ℕ) → Settled program is_due (turns program budget at is_due world left)
  turns_settle world left = settles (suc left) world left (omega arith)
