-- The filters of a write, one after another.
use Rattle.std.proofs.Common.{◌≡◌, ℕ, zero, suc, Bool, true, false, List, [], ◌∷◌, ◌+◌, drop, Option, Some, None, refl, sym, ◌∙◌}
use Rattle.zk_base.specs.declared.numbers.HookNo.{HookNo}
use Rattle.zk_tree.specs.declared.place.Place.{Place}
use Rattle.zk_tree.specs.Value.{Value}
use Rattle.zk_typed.specs.Does.{Ran, Gives, and_then, tick}
use Rattle.zk_typed.specs.Log.{Filter}
use Rattle.zk_typed.specs.Logs.{described, policy_of, still_there}
use Rattle.zk_typed.specs.Predefined.{filter_record}
use Rattle.zk_typed.specs.State.{State}
use Rattle.zk_lower.specs.Code.{BodyCode, Code, types_in}
use Rattle.zk_lower.specs.Steps as steps
use Rattle.zk_value.specs.Plain.{value_of}
use Rattle.zk_machine.specs.Onwards.{one_body, one_call, one_filter, one_policy, policy_values, waiting_for}
use Rattle.zk_machine.specs.Running.{stream_in}
use Rattle.zk_machine.specs.declared.frames.Write.{Write}
use Rattle.zk_machine.proofs.ThenLemmas.{then_assoc, then_alike}

module _ (code : Code) (left : ℕ) (place : Place) (write : Write) (one : Filter) where
  abbrev pub others : List Filter
  others = drop (write.at + 1) write.filters.items

  abbrev pub rest : State → Ran steps.Onward
  rest = steps.by_filters code left place (stream_in write) (value_of write.row) others

  -- what comes behind a filter
  abbrev pub onward : Option steps.Onward → State → Ran steps.Onward
  onward None = rest
  onward (Some body) = λ state. Gives body state

  body_step : (args : List Value) (bodies : List BodyCode) (state : State)
      → steps.bodies place args bodies (λ state. and_then (steps.row_written code (waiting_for write one) state) (λ u now. rest now)) (Some (waiting_for write one)) state ≡ and_then (one_body code place write one args bodies state) onward
  body_step args [] state = refl
  body_step args (body ∷ bodies) state =
      sym (then_assoc (tick place state) (λ u now. Gives (Some (steps.Body body args bodies (Some (waiting_for write one)))) now) onward)

  depth_step : (left : ℕ) (args : List Value) (bodies : List BodyCode) (state : State)
      → steps.at_depth left place (steps.bodies place args bodies (λ state. and_then (steps.row_written code (waiting_for write one) state) (λ u now. rest now)) (Some (waiting_for write one))) state
      ≡ and_then (steps.at_depth left place (one_body code place write one args bodies) state) onward
  depth_step zero args bodies state = refl
  depth_step (suc left) args bodies state = body_step args bodies state

  policy_step : (policy : Option HookNo) (state : State)
      → steps.by_policy code left place (waiting_for write one) rest policy state ≡ and_then (one_policy code left place write one policy state) onward
  policy_step None state = refl
  policy_step (Some policy) state =
      let made = described (types_in code) filter_record place (stream_in write) one state in
      then_alike made _ _ (λ told now.
      then_alike (tick place now) _ _ (λ u now. depth_step left (policy_values code write told) (steps.hook_in code policy) now)
      ∙ sym (then_assoc (tick place now) (λ u now. steps.at_depth left place (one_body code place write one (policy_values code write told) (steps.hook_in code policy)) now) onward))
      ∙ sym (then_assoc made (one_call code left place write one policy) onward)

  there_step : (there : Bool) (state : State)
      → steps.if_there there (steps.by_policy code left place (waiting_for write one) rest (policy_of (stream_in write) one)) rest state
      ≡ and_then (steps.if_there there (one_policy code left place write one (policy_of (stream_in write) one)) (λ state. Gives None state) state) onward
  there_step true state = policy_step (policy_of (stream_in write) one) state
  there_step false state = refl

  -- a filter, and those behind it
  pub filter_step : (state : State) → steps.by_filters code left place (stream_in write) (value_of write.row) (one ∷ others) state ≡ and_then (one_filter code left place write one state) onward
  filter_step state = there_step (still_there write.log one.name state.world) state
