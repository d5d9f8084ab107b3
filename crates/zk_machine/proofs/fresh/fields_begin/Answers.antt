use Rattle.std.proofs.Common.{◌≡◌, ◌∷◌, ◌+◌, [], List, Option, map, drop, refl, sym, ap, ◌∙◌}
use Rattle.std.proofs.lemmas.List.{map-append}
use Rattle.zk_tree.specs.Value.{Value}
use Rattle.zk_typed.specs.Objects.{given_at}
use Rattle.zk_typed.specs.State.{World, with_store}
use Rattle.zk_typed.specs.View.{field_of}
use Rattle.zk_typed.specs.declared.script.program.Field.{Field}
use Rattle.zk_value.specs.Plain as value
use Rattle.zk_machine.specs.Made.{begins, fields_begin, given_of}
use Rattle.zk_machine.proofs.ListLemmas.{drop-item}
use Rattle.zk_machine.proofs.MadeLemmas.{behind_values, field-more}
use Rattle.zk_machine.proofs.fresh.fields_begin.Goals as goal

pub loop-number-preserved : goal.loop-number-preserved
loop-number-preserved c = (
  λ world same.
      let given = given_of c.args.given.now in
      let fields = c.args.fields.now in
      let n = c.loop-number.number in
      let field = c.index-fields-number.result in
      let now : World = with_store c.loop-number.heap.objects world in
      let after : World = with_store c.begins.new.heap.objects world in
      let before = map value.field_of c.loop-number.values.items in
      let one = c.in_ok-value.value in
      let is : begins now (given_at n given) field.begins ≡ (value.field_of one, after) = ap (λ (g : Option Value). begins now g field.begins) (sym c.given_at.ensures) ∙ c.in_ok-value.ensures.begins now refl in
      ap (λ (items : List (Option Value)). behind_values items (fields_begin given (n + 1) (map field_of (drop (n + 1) fields)) after))
      (ap (map value.field_of) c.in_ok-push.ensures.items ∙ map-append value.field_of c.loop-number.values.items (one ∷ []))
      ∙ (field-more given n (field_of field) (map field_of (drop (n + 1) fields)) now after before (value.field_of one) is
      ∙ (ap (λ (fs : List Field). behind_values before (fields_begin given n (map field_of fs) now)) (sym (drop-item fields n field c.loop-number-test.true c.index-fields-number.is))
      ∙ c.loop-number.invariant.0 world same)),
  c.begins.ensures.unwatched ∙ c.loop-number.invariant.1,
)
