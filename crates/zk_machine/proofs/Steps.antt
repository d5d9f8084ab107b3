-- A run that goes on by a step or by several, or ends by them.
use Rattle.std.proofs.Common.{◌≡◌, refl, ℕ, zero, suc, ◌<◌, Result, Ok, Err, subst, sym, ap, ◌∙◌, arith}
use Rattle.zk_lower.specs.Code.{Code}
use Rattle.zk_lower.specs.Frames.{Machine}
use Rattle.zk_lower.specs.Run.{RunsByStep, WeightFalls, Falls, after, run, weight}
use Rattle.zk_lower.specs.Steps.{Step, Goes, Ends, by, step}
use Rattle.zk_typed.specs.Does.{Does, Ran, Gives, Faults, Spent, and_then, ◌>>◌, pure}
use Rattle.zk_tree.specs.declared.place.Place.{Place}
use Rattle.zk_tree.specs.Value.{Value}
use Rattle.zk_machine.specs.Comes.{Comes}
use Rattle.zk_machine.specs.Leads.{LeadsOn, ran_of}
use Rattle.zk_machine.specs.Running.{machine_of, Moves}
use Rattle.zk_machine.specs.Soon.{more_steps}
use Rattle.zk_machine.specs.State.{state_of}
use Rattle.zk_machine.specs.declared.ends.Next.TheVariants as to
use Rattle.zk_machine.specs.declared.running.Running as running
use Rattle.zk_machine.specs.declared.halt.Halt.{Halt}
use Rattle.zk_machine.specs.declared.halt.Halt.TheVariants as halt
use Rattle.zk_typed.specs.State.{State}

module _ (code : Code) where
  -- the steps after the first one are the run's too
  more_run : RunsByStep → (count : ℕ) (one : Step) → after (more_steps code count one) (run code) ≡ after one (run code)
  more_run law zero one = refl
  more_run law (suc count) (Goes machine) = more_run law count (step code machine) ∙ sym (law code machine)
  more_run law (suc count) (Ends ran) = refl

  falls_less : (low most : ℕ) (one : Step) → low < most → Falls code low one → Falls code most one
  falls_less low most (Goes machine) less falls = omega (arith, less, falls)
  falls_less low most (Ends ran) less falls = tt

  more_fall : WeightFalls → (most count : ℕ) (one : Step) → Falls code most one → Falls code most (more_steps code count one)
  more_fall law most zero one falls = falls
  more_fall law most (suc count) (Goes machine) falls =
      more_fall law most count (step code machine) (falls_less (weight code machine) most (step code machine) falls (law code machine))
  more_fall law most (suc count) (Ends ran) falls = tt

  module _ (old : Machine) (now : running.Running) where
    pub went_on : RunsByStep → LeadsOn (Ok to.Goes) code old now → run code (machine_of now) ≡ run code old
    went_on law on = sym (law code old ∙ (sym (more_run law on.more (step code old)) ∙ ap (λ one. after one (run code)) on.such))

    pub ended : RunsByStep → LeadsOn (Ok to.Ends) code old now → run code old ≡ ran_of now.ending (state_of now.state)
    ended law on = law code old ∙ (sym (more_run law on.more (step code old)) ∙ ap (λ one. after one (run code)) on.such)

    pub lighter : WeightFalls → LeadsOn (Ok to.Goes) code old now → weight code (machine_of now) < weight code old
    lighter law on = let P : Step → Type 0 = λ one. Falls code (weight code old) one in subst P on.such (more_fall law (weight code old) on.more (step code old) (law code old))

-- a step by what a computation's value holds
pub by_then : {A B : Type 0} (ran : Ran A) (f : A → B) (next : B → State → Step) → by (and_then ran (λ a state. Gives (f a) state)) next ≡ by ran (λ a. next (f a))
by_then (Gives a state) f next = refl
by_then (Faults kind place world units) f next = refl
by_then (Spent place world) f next = refl

-- a computation behind one that gave a value, and then a value
pub followed : {A : Type 0} (place : Place) (r : Result (Unit {0}) Halt) (state mid now : State) (first second : Does (Unit {0})) (a : A) → first state ≡ Gives tt mid → Comes (λ u. tt) place r (second mid) now → Comes (λ u. a) place r ((first >> (second >> pure a)) state) now
followed place (Ok u) state mid now first second a e h = ap (λ ran. and_then ran (λ one. second >> pure a)) e ∙ ap (λ ran. and_then ran (λ one. pure a)) h
followed place (Err (halt.Fault kind)) state mid now first second a e h = ap (λ ran. and_then ran (λ one. second >> pure a)) e ∙ ap (λ ran. and_then ran (λ one. pure a)) h
followed place (Err halt.Spent) state mid now first second a e h = ap (λ ran. and_then ran (λ one. second >> pure a)) e ∙ ap (λ ran. and_then ran (λ one. pure a)) h
followed place (Err halt.NoMemory) state mid now first second a e h = tt

-- a step ends where its computation gives no value
pub halts : {A B : Type 0} (C : Type 0) (view : A → B) (place : Place) (why : Halt) (ran : Ran B) (next : B → State → Step) (now : Machine) → Comes view place (Err why) ran now.state → Moves {A = C} place (Err why) (by ran next) now
halts C view place (halt.Fault kind) ran next now e = ap (λ one. by one next) e
halts C view place halt.Spent ran next now e = ap (λ one. by one next) e
halts C view place halt.NoMemory ran next now e = tt

-- a step goes on by the value that its computation gives
pub goes_by : {C : Type 0} (place : Place) (done : Result C Halt) (ran : Ran Value) (value : Value) (state : State) (next : Value → State → Step) (now : Machine) → ran ≡ Gives value state → Moves place done (next value state) now → Moves place done (by ran next) now
goes_by place done ran value state next now is moves = let P : Ran Value → Type 0 = λ ran. Moves place done (by ran next) now in subst P (sym is) moves
