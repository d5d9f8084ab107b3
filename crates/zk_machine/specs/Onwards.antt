-- What is left of a hook or of a write, as the machine holds it.
use Rattle.std.specs.Prelude.{◌≡◌, ℕ, ◌+◌, List, [], ◌∷◌, map, reverse, drop, Option, Some, None}
use Rattle.std.specs.Option.{option_map}
use Rattle.zk_base.specs.declared.numbers.HookNo.{HookNo}
use Rattle.zk_base.specs.declared.numbers.LogId.{LogId}
use Rattle.zk_lower.specs.Code.{BodyCode, Code, types_in}
use Rattle.zk_lower.specs.Frames.{Pending}
use Rattle.zk_lower.specs.Steps as steps
use Rattle.zk_lower.specs.View.{body_of}
use Rattle.zk_tree.specs.declared.place.Place.{Place}
use Rattle.zk_tree.specs.Value as plain
use Rattle.zk_tree.specs.Value.{Value}
use Rattle.zk_typed.specs.Does.{Does, ◌>>=◌, ◌>>◌, pure, read, tick}
use Rattle.zk_typed.specs.Log.{Filter}
use Rattle.zk_typed.specs.Logs.{described, log_word, policy_of, still_there, stream_of, write_row}
use Rattle.zk_typed.specs.Predefined.{filter_record}
use Rattle.zk_typed.specs.State.{State}
use Rattle.zk_value.specs.Plain.{value_of, key_of}
use Rattle.zk_machine.specs.Running.{pending_from, stream_in, waits_of}
use Rattle.zk_machine.specs.declared.frames.Write.{Write}
use Rattle.zk_machine.specs.declared.onward.Asked.{Asked}
use Rattle.zk_machine.specs.declared.onward.Onward.{Onward}
use Rattle.zk_machine.specs.declared.onward.Onward.TheVariants.{Answer, Body}

abbrev pub begun_of : Asked → Option Pending → steps.Onward
begun_of asked pending = steps.Body (body_of asked.body) (key_of asked.args.items) (map body_of (reverse asked.others.items)) pending

abbrev pub onward_of : Onward → steps.Onward
onward_of (Answer ran) = steps.Answer ran
onward_of (Body asked write) = begun_of asked (waits_of write)

-- the filters of a write from the next one on
abbrev pub filters_from : Code → ℕ → Place → Write → Does steps.Onward
filters_from code left place write = steps.by_filters code left place (stream_in write) (value_of write.row) (drop write.at write.filters.items)

-- One filter: a body of its policy that runs first, or none where the filters behind it run then.
abbrev pub waiting_for : Write → Filter → Pending
waiting_for write one = pending_from write one (drop (write.at + 1) write.filters.items)

abbrev pub begins_of : Write → Filter → Option Asked → Option steps.Onward
begins_of write one asked = option_map (λ a. begun_of a (Some (waiting_for write one))) asked

abbrev pub row_then : Code → Write → Filter → Does (Option steps.Onward)
row_then code write one = write_row (types_in code) (stream_in write) one (value_of write.row) >> pure None

abbrev pub one_body : Code → Place → Write → Filter → List Value → List BodyCode → Does (Option steps.Onward)
one_body code place write one args [] = row_then code write one
one_body code place write one args (body ∷ others) = tick place >> pure (Some (steps.Body body args others (Some (waiting_for write one))))

-- what a policy is given
abbrev pub policy_values : Code → Write → Value → List Value
policy_values code write told = value_of write.row ∷ plain.Enum (log_word (types_in code) write.log) ∷ told ∷ []

abbrev pub one_call : Code → ℕ → Place → Write → Filter → HookNo → Value → Does (Option steps.Onward)
one_call code left place write one policy told =
    tick place >> steps.at_depth left place (one_body code place write one (policy_values code write told) (steps.hook_in code policy))

abbrev pub one_policy : Code → ℕ → Place → Write → Filter → Option HookNo → Does (Option steps.Onward)
one_policy code left place write one None = row_then code write one
one_policy code left place write one (Some policy) =
    described (types_in code) filter_record place (stream_in write) one >>= one_call code left place write one policy

abbrev pub one_filter : Code → ℕ → Place → Write → Filter → Does (Option steps.Onward)
one_filter code left place write one = do
  there ← read (still_there write.log one.name)
  steps.if_there there (one_policy code left place write one (policy_of (stream_in write) one)) (pure None)

-- It is a write of a row to the stream of a log, with all of its filters to come, or there is no such stream.
abbrev pub Begins : LogId → Value → Option Write → State → Type 0
Begins log row None state = stream_of log state.world.streams ≡ None
Begins log row (Some write) state = (stream_of log state.world.streams ≡ Some (stream_in write)) × (value_of write.row ≡ row) × (write.at ≡ 0)
