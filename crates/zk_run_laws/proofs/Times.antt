-- Network time over a run over a capture.
use Rattle.std.proofs.Common.{◌≤ℤ◌, ℕ, ℤ, pos, Bool, true, false, cond, List, [], ◌∷◌, fold, arith}
use Rattle.std.specs.Prelude.{All, int_lt}
use Rattle.std.proofs.lemmas.Int.{ints}
use Rattle.std.proofs.lemmas.List.Elements.{All-head, All-tail}
use Rattle.zk_base.specs.declared.time.Moment.{Moment}
use Rattle.zk_agenda.specs.Laws as agenda
use Rattle.zk_events.specs.Laws.{TimeNeverFalls}
use Rattle.zk_events.specs.Run.{SoFar, so_far, taken, turned_from}
use Rattle.zk_item_laws.specs.Moments.{AreInOrder, MomentsRise}
use Rattle.zk_base.specs.Captured.{Captured, IsBounded}
use Rattle.zk_base.specs.NetworkTime.{later, now}
use Rattle.zk_traffic.specs.declared.item.Item.{Item}
use Rattle.zk_traffic.specs.Items.{items_of}
use Rattle.zk_tree.specs.Table.{last_moment}
use Rattle.zk_typed.specs.Program.{Program}
use Rattle.zk_sound.specs.Laws.{TypedTablesStay}
use Rattle.zk_run_laws.specs.Laws.{CapturesRunInTime, ItemsInOrder}

-- items as a run takes them have their own moments
turned-in-order : (program : Program) (budget : ℕ) (before : SoFar) (start last : Moment) (items : List Item) → AreInOrder start items last
    → agenda.AreInOrder start (turned_from program budget before items) last
turned-in-order program budget before start last [] rise = rise
turned-in-order program budget before start last (item ∷ items) rise = (rise.0, turned-in-order program budget (taken program budget before item) item.moment last items rise.1)

pub items_in_order : MomentsRise → ItemsInOrder
items_in_order rise program budget options records ended =
    turned-in-order program budget (so_far program budget []) (record { 0 = pos 0 }) (now records) (items_of options records ended) (rise options records ended)

-- network time is at or before a moment at or before which each packet is
time-within : (top : ℤ) (start : Moment) (packets : List Captured) → start.0 ≤ℤ top → All IsBounded packets → ((p : Captured) → IsBounded p → p.moment.0 ≤ℤ top)
    → (let time : Moment = fold (λ (time : Moment) (p : Captured). later time p.moment) start packets in time).0 ≤ℤ top
time-within top start [] first within each = first
time-within top start (p ∷ packets) first within each =
    time-within top (later start p.moment) packets (by_later (int_lt start.0 p.moment.0) (each p (All-head IsBounded p packets within))) (All-tail IsBounded p packets within) each
  where
    by_later : (b : Bool) → p.moment.0 ≤ℤ top → (let m : Moment = cond b p.moment start in m).0 ≤ℤ top
    by_later true second = second
    by_later false second = first

packet-within : (p : Captured) → IsBounded p → p.moment.0 ≤ℤ last_moment
packet-within p within = rw within.moment.2 (let small = within.moment.1 in omega (arith, ints, small))

pub captures_run_in_time : MomentsRise → TimeNeverFalls → TypedTablesStay → CapturesRunInTime
captures_run_in_time rise never stay files program budget options records typed within =
    never program budget (items_of options records true) (now records) (stay files program typed) (items_in_order rise program budget options records true)
    (time-within last_moment (record { 0 = pos 0 }) records (omega (arith, ints)) within packet-within)
