use Rattle.std.proofs.Common.{◌∷◌, ◌+◌, [], List, Option, map, drop, sym, ap, ◌∙◌}
use Rattle.std.proofs.lemmas.List.{map-append}
use Rattle.zk_lower.specs.Steps as steps
use Rattle.zk_tree.specs.Value.{Value}
use Rattle.zk_typed.specs.Objects.{first_value, first_values, given_at}
use Rattle.zk_typed.specs.Does.{Ran}
use Rattle.zk_typed.specs.State.{State}
use Rattle.zk_typed.specs.View.{field_of}
use Rattle.zk_typed.specs.declared.script.program.Field.{Field}
use Rattle.zk_value.specs.Plain as value
use Rattle.zk_value.specs.Plain.{key_of}
use Rattle.zk_machine.specs.State.{state_of}
use Rattle.zk_machine.proofs.ListLemmas.{drop-item}
use Rattle.zk_machine.proofs.ThenLemmas.{gathered, gathered-step}
use Rattle.zk_machine.proofs.state.State.first_values.Goals as goal

pub loop-number-preserved : goal.loop-number-preserved
loop-number-preserved c = λ place.
    let given = steps.given c.args.given.now (key_of c.args.operands.now) in
    let fields = c.args.fields.now in
    let n = c.loop-number.number in
    let field = c.index-fields-number.result in
    let state = state_of c.loop-number.self in
    let now = state_of c.first_value.new.self in
    let before = map value.field_of c.loop-number.values.items in
    let one = c.in_ok-value.value in
    let rest : State → Ran (List (Option Value)) = λ state. first_values place given (n + 1) (map field_of (drop (n + 1) fields)) state in
    ap (λ (items : List (Option Value)). gathered items (rest now)) (ap (map value.field_of) c.in_ok-push.ensures.items ∙ map-append value.field_of c.loop-number.values.items (one ∷ []))
    ∙ (sym (gathered-step before (first_value place (field_of field) (given_at n given) state) rest (value.field_of one) now
    (ap (λ g. first_value place (field_of field) g state) (sym c.given_at.ensures) ∙ c.in_ok-value.ensures place))
    ∙ (ap (λ (fs : List Field). gathered before (first_values place given n (map field_of fs) state)) (sym (drop-item fields n field c.loop-number-test.true c.index-fields-number.is))
    ∙ c.loop-number.invariant place))
