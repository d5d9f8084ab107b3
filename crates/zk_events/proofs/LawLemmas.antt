-- What was printed and written stays over a run.
use Rattle.std.proofs.Common.{ℕ, List, [], ◌∷◌, ◌++◌, suc, fold, true, refl, sym, subst}
use Rattle.std.proofs.lemmas.List.Sums.{fold-append}
use Rattle.zk_base.specs.declared.time.Moment.{Moment}
use Rattle.zk_lower.specs.Told.{ExpiriesKeep, HandlersKeep, Stays}
use Rattle.zk_traffic.specs.declared.item.Item.{Item}
use Rattle.zk_typed.specs.Program.{Program}
use Rattle.zk_typed.specs.Predefined.{zeek_done}
use Rattle.zk_typed.specs.Running.{Goes, Floods, Progress, dispatches_max, drained, finish, goes_on, take, turns, with_item, world_in}
use Rattle.zk_typed.specs.State.{World, ending_at, queued_behind, with_time}
use Rattle.zk_typed.specs.World.{queued}
use Rattle.zk_events.specs.Known.{Known}
use Rattle.zk_events.specs.Laws.{EndKeeps, ItemsKeep}
use Rattle.zk_events.specs.Run.{SoFar, is_due_by, run, so_far, taken, with_due}
use Rattle.zk_events.specs.Turns.{raises, turn_of}
use Rattle.zk_events.proofs.StaysLemmas.{alike, behind_both, drained-keeps, on-keeps, then_told, turns-keep}
use Rattle.zk_events.proofs.KeptLemmas.{raises-told}

item-keeps : HandlersKeep → (program : Program) (budget : ℕ) (known : Known) (item : Item) (world : World) (left : ℕ)
    → Stays world (world_in (with_item program budget (turn_of program known item) world left))
item-keeps handlers program budget known item world left =
    let told = raises-told program known item.what (with_time item.moment world) in
    let after = raises program known item.what (with_time item.moment world) in
    then_told world after (world_in (drained program budget left after)) told.lines told.rows (drained-keeps handlers program budget left after)

take-keeps : HandlersKeep → ExpiriesKeep → (program : Program) (budget : ℕ) (known : Known) (item : Item) (progress : Progress)
    → Stays (world_in progress) (world_in (take program budget progress (turn_of program known item)))
take-keeps handlers expiries program budget known item (Goes world left) =
    on-keeps world (with_item program budget (turn_of program known item)) (with_due program budget item.moment world left)
    (turns-keep handlers expiries (suc dispatches_max) program budget (λ at. at) (is_due_by item.moment) world dispatches_max)
    (λ after more. item-keeps handlers program budget known item after more)
take-keeps handlers expiries program budget known item (Floods world) = alike world world refl refl

items-keep : HandlersKeep → ExpiriesKeep → (program : Program) (budget : ℕ) (more : List Item) (before : SoFar)
    → Stays (world_in before.progress) (world_in (fold (taken program budget) before more).progress)
items-keep handlers expiries program budget [] before = alike (world_in before.progress) (world_in before.progress) refl refl
items-keep handlers expiries program budget (item ∷ more) before =
    behind_both (world_in before.progress) (world_in (taken program budget before item).progress) (world_in (fold (taken program budget) before (item ∷ more)).progress) (take-keeps handlers expiries program budget before.known item before.progress)
    (items-keep handlers expiries program budget more (taken program budget before item))

pub all_items_keep : HandlersKeep → ExpiriesKeep → ItemsKeep
all_items_keep handlers expiries = λ program budget items more.
    let same = fold-append (taken program budget) (so_far program budget []) items more in
    subst (λ (after : SoFar). Stays (world_in (so_far program budget items).progress) (world_in after.progress)) (sym same)
    (items-keep handlers expiries program budget more (so_far program budget items))

finish-keeps : HandlersKeep → ExpiriesKeep → (program : Program) (budget : ℕ) (last : Moment) (progress : Progress)
    → Stays (world_in progress) (world_in (goes_on (finish program budget last) progress))
finish-keeps handlers expiries program budget last (Floods world) = alike world world refl refl
finish-keeps handlers expiries program budget last (Goes world left) =
    let all = turns program budget (λ at. last) (λ one. true) (ending_at last world) left in
    on-keeps world (λ after more. drained program budget more (queued_behind (queued zeek_done [] ∷ []) after)) all
    (then_told world (ending_at last world) (world_in all) refl refl (turns-keep handlers expiries (suc left) program budget (λ at. last) (λ one. true) (ending_at last world) left))
    (λ after more. let done = queued_behind (queued zeek_done [] ∷ []) after in
    then_told after done (world_in (drained program budget more done)) refl refl (drained-keeps handlers program budget more done))

pub end_keeps : HandlersKeep → ExpiriesKeep → EndKeeps
end_keeps handlers expiries = λ program budget items more last.
    behind_both (world_in (so_far program budget items).progress) (world_in (so_far program budget (items ++ more)).progress) (world_in (run program budget (items ++ more) last)) (all_items_keep handlers expiries program budget items more)
    (finish-keeps handlers expiries program budget last (so_far program budget (items ++ more)).progress)
