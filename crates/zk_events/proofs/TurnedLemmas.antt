-- A run is that of the meaning over the items as it takes them, so the laws of its agenda hold.
use Rattle.std.proofs.Common.{◌≡◌, ℕ, zero, suc, List, [], ◌∷◌, fold, refl, ap, arith}
use Rattle.std.specs.Prelude.{All}
use Rattle.zk_agenda.specs.Laws.{DispatchedOnce, ItemsGo, TimeRises}
use Rattle.zk_agenda.specs.Onward.{Raises}
use Rattle.zk_traffic.specs.declared.item.Item.{Item}
use Rattle.zk_typed.specs.Program.{Program}
use Rattle.zk_typed.specs.Running as plain
use Rattle.zk_typed.specs.Running.{Progress, finish, goes_on, take}
use Rattle.zk_typed.specs.State.{World}
use Rattle.zk_events.specs.Laws.{EventsOnce, RunsByTurns, TimeNeverFalls}
use Rattle.zk_events.specs.Run.{SoFar, so_far, taken, turned, turned_from}
use Rattle.zk_events.specs.Turns.{turn_of}
use Rattle.zk_events.proofs.KeptLemmas.{raises-go}

taken-turned : (program : Program) (budget : ℕ) (before : SoFar) (items : List Item)
    → (fold (taken program budget) before items).progress ≡ fold (take program budget) before.progress (turned_from program budget before items)
taken-turned program budget before [] = refl
taken-turned program budget before (item ∷ items) = taken-turned program budget (taken program budget before item) items

pub runs_by_turns : RunsByTurns
runs_by_turns program budget items last = ap (goes_on (finish program budget last)) (taken-turned program budget (so_far program budget []) items)

all-more : {X : Type 0} (P : X → Type 0) (x : X) (xs : List X) → P x → All P xs → All P (x ∷ xs)
all-more P x xs first others = by_place
  where
    by_place : All P (x ∷ xs)
    by_place zero d within = first
    by_place (suc k) d within = others k d (omega (arith, within))

turned-go : (program : Program) (budget : ℕ) (before : SoFar) (items : List Item) → ItemsGo (turned_from program budget before items)
turned-go program budget before [] = λ k d within. absurd (omega (arith, within))
turned-go program budget before (item ∷ items) = all-more (λ (one : plain.Item). (world : World) → Raises world (one.raises world)) (turn_of program before.known item) _
    (λ world. raises-go program before.known item.what world) (turned-go program budget (taken program budget before item) items)

pub events_once : DispatchedOnce → EventsOnce
events_once law program budget items last = law program budget (turned program budget items) last (turned-go program budget (so_far program budget []) items)

pub time_never_falls : TimeRises → TimeNeverFalls
time_never_falls law program budget items last stay order within =
    law program budget (turned program budget items) last (turned-go program budget (so_far program budget []) items) stay order within
