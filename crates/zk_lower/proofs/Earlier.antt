-- What was told before a body decides nothing of what it does, and stays.
use Rattle.std.proofs.Common.{◌≡◌, ℕ, List, [], ◌++◌, Option, Some, None, refl, sym, ap, ◌∙◌, append-nil}
use Rattle.std.specs.Option.{option_map}
use Rattle.std.specs.Prelude.{slice_get}
use Rattle.zk_tree.specs.Value.{Value}
use Rattle.zk_typed.specs.Dispatch.{Left, left, handler_body, initial_body, expiry_body, started, all_calls}
use Rattle.zk_typed.specs.Does.{Does, Ran, Gives, Faults, Spent}
use Rattle.zk_typed.specs.Log.{Row}
use Rattle.zk_typed.specs.Meaning.{does, depth_max, first_locals}
use Rattle.zk_typed.specs.Program.{Program, Handler}
use Rattle.zk_typed.specs.State.{World}
use Rattle.zk_lower.specs.Meant.{without_names}
use Rattle.zk_lower.specs.Told.{Told, behind, ran_behind, left_behind, HandlersGoOn, InitialsGoOn, ExpiriesGoOn, Stays, HandlersKeep, InitialsKeep, ExpiriesKeep}
use Rattle.zk_lower.proofs.Budgets.{keeps_initial, keeps_wait_for}
use Rattle.zk_lower.proofs.MeaningUnits.{does_keeps, calls_keep}
use Rattle.zk_lower.proofs.Units.{Keeps}

left_of : {A : Type 0} (told : Told) (ran : Ran A) → left (ran_behind told ran) ≡ left_behind told (left ran)
left_of told (Gives a state) = refl
left_of told (Faults kind place world units) = refl
left_of told (Spent place world) = refl

nameless_of : {A : Type 0} (told : Told) (ran : Ran A) → without_names (ran_behind told ran) ≡ ran_behind told (without_names ran)
nameless_of told (Gives a state) = refl
nameless_of told (Faults kind place world units) = refl
nameless_of told (Spent place world) = refl

-- a body that begins with these locals
begun : {A : Type 0} {m : Does A} → Keeps m → (told : Told) (locals : List (Option Value)) (world : World) (budget : ℕ) → started m locals (behind told world) budget ≡ ran_behind told (started m locals world budget)
begun keeps told locals world budget = keeps.moves told (record { world = world; locals = locals; units = budget })

left_begun : {A : Type 0} {m : Does A} → Keeps m → (told : Told) (locals : List (Option Value)) (world : World) (budget : ℕ) → left (started m locals (behind told world) budget) ≡ left_behind told (left (started m locals world budget))
left_begun {m = m} keeps told locals world budget = ap left (begun keeps told locals world budget) ∙ left_of told (started m locals world budget)

-- Going on ---------------------------------------------------------------------------------------------------------

handler_keeps : (program : Program) (handler : Handler) → Keeps (does program (all_calls program) handler.body)
handler_keeps program handler = does_keeps program (all_calls program) (calls_keep program depth_max) handler.body

if_any : {A B : Type 0} (f g : A → B) (move : B → B) → ((a : A) → f a ≡ move (g a)) → (one : Option A) → option_map f one ≡ option_map move (option_map g one)
if_any f g move h None = refl
if_any f g move h (Some a) = ap Some (h a)

pub handlers_go_on : HandlersGoOn
handlers_go_on told program number args world budget = if_any (λ handler. left (handler_body program handler args (behind told world) budget)) (λ handler. left (handler_body program handler args world budget)) (left_behind told)
    (λ handler. left_begun (handler_keeps program handler) told (first_locals handler.locals args) world budget) (slice_get program.handlers number)

pub initials_go_on : InitialsGoOn
initials_go_on told program number world budget = if_any (λ global. left (initial_body program number global (behind told world) budget)) (λ global. left (initial_body program number global world budget)) (left_behind told)
    (λ global. left_begun (keeps_initial program number global global.initial) told [] world budget) (slice_get program.globals number)

pub expiries_go_on : ExpiriesGoOn
expiries_go_on told program number args world budget = if_any (λ global. without_names (expiry_body program global args (behind told world) budget)) (λ global. without_names (expiry_body program global args world budget)) (ran_behind told)
    (λ global. ap without_names (begun (keeps_wait_for program global.place args global.expire_func) told [] world budget) ∙ nameless_of told (expiry_body program global args world budget)) (slice_get program.globals number)

-- Staying ----------------------------------------------------------------------------------------------------------

-- a world in which nothing was told
abbrev bare : World → World
bare world = record world { lines = []; rows = [] }

abbrev told_in : World → Told
told_in world = record { lines = world.lines; rows = world.rows }

abbrev telling : World → List (List ℕ) → List Row → World
telling world lines rows = record world { lines = lines; rows = rows }

whole_again : (world : World) → behind (told_in world) (bare world) ≡ world
whole_again world = ap (λ lines. telling world lines (world.rows ++ [])) (append-nil world.lines) ∙ ap (telling world world.lines) (append-nil world.rows)

abbrev told_of : Left → Told
told_of one = record { lines = one.world.lines; rows = one.world.rows }

stays : {A : Type 0} {m : Does A} → Keeps m → (locals : List (Option Value)) (world : World) (budget : ℕ) → Stays world (left (started m locals world budget)).world
stays {m = m} keeps locals world budget =
    let same : left (started m locals world budget) ≡ left_behind (told_in world) (left (started m locals (bare world) budget)) =
    ap (λ w. left (started m locals w budget)) (sym (whole_again world)) ∙ left_begun keeps (told_in world) locals (bare world) budget in
    record {
      more = told_of (left (started m locals (bare world) budget));
      lines = ap (λ one. one.world.lines) same;
      rows = ap (λ one. one.world.rows) same;
    }

pub handlers_keep : HandlersKeep
handlers_keep program handler args world budget = stays (handler_keeps program handler) (first_locals handler.locals args) world budget

pub initials_keep : InitialsKeep
initials_keep program number global world budget = stays (keeps_initial program number global global.initial) [] world budget

pub expiries_keep : ExpiriesKeep
expiries_keep program global args world budget = stays (keeps_wait_for program global.place args global.expire_func) [] world budget
