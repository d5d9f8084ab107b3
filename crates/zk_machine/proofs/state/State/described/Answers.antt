use Rattle.std.proofs.Common.{◌≡◌, List, [], ◌∷◌, map, rules, sym, ap, ◌∙◌}
use Rattle.zk_lower.specs.Code.{types_in}
use Rattle.zk_lower.specs.Steps as steps
use Rattle.zk_lower.specs.View.{code_of}
use Rattle.zk_tree.specs.Value.{Value}
use Rattle.zk_typed.specs.Columns.{record_fields}
use Rattle.zk_typed.specs.Objects.{new_record}
use Rattle.zk_typed.specs.Predefined.{filter_record}
use Rattle.zk_typed.specs.Program.{Field}
use Rattle.zk_typed.specs.View.{field_of}
use Rattle.zk_value.specs.Plain.{value_of, key_of}
use Rattle.zk_machine.specs.State.{state_of}
use Rattle.zk_machine.proofs.ThenLemmas.{comes_as}
use Rattle.zk_machine.proofs.state.State.described.Goals as goal

pub returns : goal.returns
returns c = λ place.
    let types = types_in (code_of c.args.code.now) in
    let state = state_of c.args.self.now in
    let lent : c.as_slice.result.now ≡ c.in_ok-values.values.items = search rules in
    comes_as value_of place c.new_record.result _ _ _
    (ap (λ (values : List Value). new_record place filter_record (record_fields types filter_record) (steps.given (0 ∷ 1 ∷ []) values) state) (sym c.in_ok-values.ensures)
    ∙ (ap (λ (fields : List Field). new_record place filter_record fields (steps.given (0 ∷ 1 ∷ []) (key_of c.in_ok-values.values.items)) state) (sym c.fields_in-fields.ensures)
    ∙ ap (λ values. new_record place filter_record (map field_of c.fields_in-fields.result.now) (steps.given (0 ∷ 1 ∷ []) (key_of values)) state) (sym lent)))
    (c.new_record.ensures place)
