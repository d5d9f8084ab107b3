-- How code runs. Each step leads on in the code, or comes out of a body, or takes a unit, so that a run ends.
use Rattle.std.specs.Prelude.{◌≡◌, ◌<◌, ℕ, zero, suc, ◌+◌, ◌-◌, ◌*◌, List, [], ◌∷◌, length, Option, None}
use Rattle.zk_tree.specs.Value.{Value}
use Rattle.zk_typed.specs.Does.{Ran, Gives}
use Rattle.zk_lower.specs.Code.{Code}
use Rattle.zk_lower.specs.Frames.{Frame, Machine}
use Rattle.zk_lower.specs.Steps.{Step, Goes, Ends, step}

abbrev pub after : Step → (Machine → Ran (Option Value)) → Ran (Option Value)
after (Goes machine) rest = rest machine
after (Ends ran) rest = ran

-- at most so many steps
abbrev pub steps : Code → ℕ → Machine → Ran (Option Value)
steps code zero machine = Gives None machine.state
steps code (suc most) machine = after (step code machine) (steps code most)

-- how much code lies before the bodies that wait
abbrev pub waiting : ℕ → List Frame → ℕ
waiting size [] = 0
waiting size (frame ∷ frames) = (size - frame.back) + waiting size frames

-- what falls at each step
abbrev pub weight : Code → Machine → ℕ
weight code machine = machine.state.units * (length code.ops + 1) + ((length code.ops - machine.at) + waiting (length code.ops) machine.held.frames)

unfoldable pub run : Code → Machine → Ran (Option Value)
run code machine = steps code (suc (weight code machine)) machine

-- The weight falls at each step of any code, so that the steps are never too few: a run is its first step, and then a run.
abbrev pub RunsByStep : Type 0
RunsByStep = (code : Code) (machine : Machine) → run code machine ≡ after (step code machine) (run code)

-- What a step leads to weighs less than so much.
abbrev pub Falls : Code → ℕ → Step → Type 0
Falls code most (Goes machine) = weight code machine < most
Falls code most (Ends ran) = Unit {0}

abbrev pub WeightFalls : Type 0
WeightFalls = (code : Code) (machine : Machine) → Falls code (weight code machine) (step code machine)
