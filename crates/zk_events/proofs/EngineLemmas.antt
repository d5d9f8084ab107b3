-- An engine, a call at a time.
use Rattle.std.proofs.Common.{◌≡◌, ℕ, List, [], ◌∷◌, ◌++◌, Option, Some, None, true, refl, sym, ap, ◌∙◌, subst}
use Rattle.std.proofs.lemmas.List.Sums.{fold-append}
use Rattle.zk_base.specs.declared.time.Moment.{Moment}
use Rattle.zk_lower.specs.Told.{Told}
use Rattle.zk_events.specs.Sealed as sealed
use Rattle.zk_traffic.specs.declared.item.Item.{Item}
use Rattle.zk_typed.specs.Predefined.{zeek_done, zeek_init}
use Rattle.zk_typed.specs.Program.{Program}
use Rattle.zk_typed.specs.Running.{Goes, Floods, Progress, begun, dispatches_max, drained, finish, goes_on, initialised, no_values, turns, with_item, world_in}
use Rattle.zk_typed.specs.State.{World, ending_at, first_world, queued_behind, with_time}
use Rattle.zk_typed.specs.World.{queued}
use Rattle.zk_events.specs.declared.dispatcher.Dispatcher.{Dispatcher}
use Rattle.zk_events.specs.declared.dispatcher.Flow.{Flow}
use Rattle.zk_events.specs.declared.dispatcher.Flow.TheVariants as flow
use Rattle.zk_events.specs.declared.engine.Engine.{Engine}
use Rattle.zk_events.specs.declared.engine.ItemEnd.TheVariants as ended
use Rattle.zk_events.specs.Flowing.{Flows, Flooded, FlowsTo}
use Rattle.zk_events.specs.Holding.{known_in}
use Rattle.zk_events.specs.Known.{Known}
use Rattle.zk_events.specs.Run.{Begun, SoFar, so_far, so_far_at, taken, with_due}
use Rattle.zk_events.specs.Standing.{Comes, Continues, IsAt, end_of}
use Rattle.zk_events.specs.Turns.{known_after, turn_of}

abbrev pub flows-along : (dispatcher : Dispatcher) (program : Program) (given : Told) (a b : Progress) → a ≡ b
    → Flows dispatcher program given a → Flows dispatcher program given b
flows-along dispatcher program given a b same flows = record { world = flows.world; comes = sym same ∙ flows.comes; stands = flows.stands }

abbrev pub flooded-along : (dispatcher : Dispatcher) (program : Program) (given : Told) (a b : Progress) → a ≡ b
    → Flooded dispatcher program given a → Flooded dispatcher program given b
flooded-along dispatcher program given a b same flooded = record {
  world = flooded.world;
  waiting = flooded.waiting;
  comes = sym same ∙ flooded.comes;
  stands = flooded.stands;
}

pub along : (flow : Flow) (dispatcher : Dispatcher) (program : Program) (given : Told) (a b : Progress) → a ≡ b
    → FlowsTo flow dispatcher program given a → FlowsTo flow dispatcher program given b
along flow.Goes dispatcher program given a b same flows = flows-along dispatcher program given a b same flows
along flow.Floods dispatcher program given a b same flooded = flooded-along dispatcher program given a b same flooded

-- a run that goes on comes as far as is said, where its objects are those that are known
pub comes-from : (flow : Flow) (engine : Engine) (program : Program) (given : Told) (progress : Progress) (so_far : SoFar)
    → progress ≡ so_far.progress → known_in engine.connections ≡ so_far.known → FlowsTo flow engine.dispatcher program given progress
    → Comes flow engine program given so_far
comes-from flow.Goes engine program given progress so_far same known flows =
    record { flows = flows-along engine.dispatcher program given progress so_far.progress same flows; known = known }
comes-from flow.Floods engine program given progress so_far same known flooded =
    flooded-along engine.dispatcher program given progress so_far.progress same flooded

-- Items ------------------------------------------------------------------------------------------------------------

-- an item behind the turns that are due by it
pub item-goes : (program : Program) (budget spent : ℕ) (before : SoFar) (item : Item) (known : Known) (first last : World) (more left : ℕ) → spent ≡ budget
    → before.progress ≡ Goes first more → known ≡ before.known → with_due program budget item.moment first dispatches_max ≡ Goes last left
    → with_item program spent (turn_of program known item) last left ≡ (taken program budget before item).progress
item-goes program budget spent before item known first last more left paid at is goes =
    ap (λ b. with_item program b (turn_of program known item) last left) paid
    ∙ (ap (λ (k : Known). with_item program budget (turn_of program k item) last left) is
    ∙ (sym (ap (goes_on (with_item program budget (turn_of program before.known item))) goes)
    ∙ sym (ap (goes_on (λ world left. goes_on (with_item program budget (turn_of program before.known item)) (with_due program budget item.moment world left))) at)))

pub item-known : (program : Program) (budget : ℕ) (before : SoFar) (item : Item) (known : Known) (first last : World) (more left : ℕ)
    → before.progress ≡ Goes first more → known ≡ before.known → with_due program budget item.moment first dispatches_max ≡ Goes last left
    → known_after program known item.what (with_time item.moment last) ≡ (taken program budget before item).known
item-known program budget before item known first last more left at is goes =
    ap (λ (k : Known). known_after program k item.what (with_time item.moment last)) is
    ∙ ap (λ (p : Progress). known_after program before.known item.what (with_time item.moment (world_in p)))
    (sym goes ∙ sym (ap (goes_on (with_due program budget item.moment)) at))

-- a flood among the turns that are due by an item
pub item-floods : (program : Program) (budget : ℕ) (before : SoFar) (item : Item) (first last : World) (more : ℕ)
    → before.progress ≡ Goes first more → with_due program budget item.moment first dispatches_max ≡ Floods last
    → Floods last ≡ (taken program budget before item).progress
item-floods program budget before item first last more at floods =
    sym (ap (goes_on (with_item program budget (turn_of program before.known item))) floods)
    ∙ sym (ap (goes_on (λ world left. goes_on (with_item program budget (turn_of program before.known item)) (with_due program budget item.moment world left))) at)

-- a run that was flooded stays so
pub item-stays : (program : Program) (budget : ℕ) (before : SoFar) (item : Item) (world : World) → before.progress ≡ Floods world
    → before.progress ≡ (taken program budget before item).progress
item-stays program budget before item world at =
    at ∙ sym (ap (goes_on (λ world left. goes_on (with_item program budget (turn_of program before.known item)) (with_due program budget item.moment world left))) at)

-- one item more
pub one-more : (program : Program) (budget : ℕ) (items : List Item) (item : Item)
    → so_far program budget (items ++ item ∷ []) ≡ taken program budget (so_far program budget items) item
one-more program budget items item = fold-append (taken program budget) (so_far program budget []) items (item ∷ [])

-- The end ----------------------------------------------------------------------------------------------------------

pub end-goes : (program : Program) (budget spent : ℕ) (last : Moment) (world after : World) (left more : ℕ) → spent ≡ budget
    → turns program budget (λ at. last) (λ one. true) (ending_at last world) left ≡ Goes after more
    → drained program spent more (queued_behind (queued zeek_done [] ∷ []) after) ≡ finish program budget last world left
end-goes program budget spent last world after left more paid goes =
    ap (λ b. drained program b more (queued_behind (queued zeek_done [] ∷ []) after)) paid
    ∙ sym (ap (goes_on (λ w l. drained program budget l (queued_behind (queued zeek_done [] ∷ []) w))) goes)

pub end-floods : (program : Program) (budget : ℕ) (last : Moment) (world after : World) (left : ℕ)
    → turns program budget (λ at. last) (λ one. true) (ending_at last world) left ≡ Floods after
    → Floods after ≡ finish program budget last world left
end-floods program budget last world after left floods =
    sym (ap (goes_on (λ w l. drained program budget l (queued_behind (queued zeek_done [] ∷ []) w))) floods)

pub run-goes : (program : Program) (budget : ℕ) (last : Moment) (progress : Progress) (world : World) (left : ℕ) → progress ≡ Goes world left
    → finish program budget last world left ≡ goes_on (finish program budget last) progress
run-goes program budget last progress world left at = sym (ap (goes_on (finish program budget last)) at)

pub run-stays : (program : Program) (budget : ℕ) (last : Moment) (progress : Progress) (world : World) → progress ≡ Floods world
    → progress ≡ goes_on (finish program budget last) progress
run-stays program budget last progress world at = at ∙ sym (ap (goes_on (finish program budget last)) at)

-- The beginning ----------------------------------------------------------------------------------------------------

pub begun-from : (program : Program) (budget spent left more : ℕ) (world : World) → spent ≡ budget → left ≡ more
    → Goes (first_world (no_values program)) dispatches_max ≡ Goes world more
    → drained program spent left (queued_behind (queued zeek_init [] ∷ []) (initialised program budget 0 world program.globals)) ≡ begun program budget
begun-from program budget spent left more world is as_many at =
    let first : world ≡ first_world (no_values program) = cc in
    let many : left ≡ dispatches_max = cc in
    ap (λ n. drained program n left (queued_behind (queued zeek_init [] ∷ []) (initialised program budget 0 world program.globals))) is
    ∙ (ap (λ n. drained program budget n (queued_behind (queued zeek_init [] ∷ []) (initialised program budget 0 world program.globals))) many
    ∙ ap (λ (w : World). drained program budget dispatches_max (queued_behind (queued zeek_init [] ∷ []) (initialised program budget 0 w program.globals))) first)

-- The state of an engine -------------------------------------------------------------------------------------------

-- an engine that was not flooded goes on
pub goes-on : (flood : Option Moment) (engine : Engine) (program : Program) (given : Told) (so_far : SoFar) → ((moment : Moment) → flood ≡ Some moment → ⊥)
    → IsAt flood engine program given so_far → Continues engine program given so_far
goes-on None engine program given so_far none at = at
goes-on (Some moment) engine program given so_far none at = absurd (none moment refl)

-- one that was flooded stays, where the run does
pub stays-so : (flood : Option Moment) (moment : Moment) (engine : Engine) (program : Program) (given : Told) (before after : SoFar) → flood ≡ Some moment
    → ((world : World) → before.progress ≡ Floods world → before.progress ≡ after.progress)
    → IsAt flood engine program given before → IsAt flood engine program given after
stays-so None moment engine program given before after is same at = absurd (let no : ⊥ = cc in no)
stays-so (Some other) moment engine program given before after is same at = record {
  flooded = flooded-along engine.dispatcher program given before.progress after.progress (same at.flooded.world at.flooded.comes) at.flooded;
  at = at.at;
}

-- and tells its flood again
pub told-again : (flood : Option Moment) (moment : Moment) (engine : Engine) (program : Program) (given : Told) (before after : SoFar) → flood ≡ Some moment
    → ((world : World) → before.progress ≡ Floods world → before.progress ≡ after.progress)
    → IsAt flood engine program given before → ended.Flood moment ≡ end_of after.progress
told-again None moment engine program given before after is same at = absurd (let no : ⊥ = cc in no)
told-again (Some other) moment engine program given before after is same at =
    let this : moment ≡ other = cc in
    ap ended.Flood (this ∙ at.at) ∙ sym (ap end_of (sym (same at.flooded.world at.flooded.comes) ∙ at.flooded.comes))

-- a line or a row more is given out
pub given-more : (flood : Option Moment) (old new : Engine) (program : Program) (given more : Told) (so_far : SoFar)
    → new.dispatcher.left ≡ old.dispatcher.left → new.connections ≡ old.connections
    → ((world : World) → sealed.StandsFor old.dispatcher.machine program given world → sealed.StandsFor new.dispatcher.machine program more world)
    → IsAt flood old program given so_far → IsAt flood new program more so_far
given-more None old new program given more so_far left connections gives at = record {
  flows = record {
    world = at.flows.world;
    comes = at.flows.comes ∙ ap (Goes at.flows.world) (sym left);
    stands = gives at.flows.world at.flows.stands;
  };
  known = ap known_in connections ∙ at.known;
}
given-more (Some moment) old new program given more so_far left connections gives at = record {
  flooded = record {
    world = at.flooded.world;
    waiting = at.flooded.waiting;
    comes = at.flooded.comes;
    stands = gives _ at.flooded.stands;
  };
  at = at.at;
}

-- all that the world tells was given out
pub all-given : (flood : Option Moment) (old new : Engine) (program : Program) (given : Told) (so_far : SoFar)
    → ((world : World) → sealed.StandsFor old.dispatcher.machine program given world
    → (given.lines ≡ world.lines) × (given.rows ≡ world.rows) × sealed.StandsFor new.dispatcher.machine program given world)
    → IsAt flood old program given so_far → (given.lines ≡ (world_in so_far.progress).lines) × (given.rows ≡ (world_in so_far.progress).rows)
all-given None old new program given so_far gives at =
    let all = gives at.flows.world at.flows.stands in
    (all.0 ∙ sym (ap (λ (p : Progress). (world_in p).lines) at.flows.comes), all.1 ∙ sym (ap (λ (p : Progress). (world_in p).rows) at.flows.comes))
all-given (Some moment) old new program given so_far gives at =
    let all = gives _ at.flooded.stands in
    (all.0 ∙ sym (ap (λ (p : Progress). (world_in p).lines) at.flooded.comes), all.1 ∙ sym (ap (λ (p : Progress). (world_in p).rows) at.flooded.comes))

-- an item that a run comes to behind others
pub comes-next : (flow : Flow) (engine : Engine) (program : Program) (given : Told) (spent budget : ℕ) (items : List Item) (item : Item) → spent ≡ budget
    → Comes flow engine program given (taken program spent (so_far program budget items) item)
    → Comes flow engine program given (so_far_at program budget (Begun (items ++ item ∷ [])))
comes-next flow engine program given spent budget items item is comes =
    subst (λ (s : SoFar). Comes flow engine program given s) (sym (one-more program budget items item))
    (subst (λ b. Comes flow engine program given (taken program b (so_far program budget items) item)) is comes)
