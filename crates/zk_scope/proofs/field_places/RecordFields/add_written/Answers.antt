use Rattle.std.proofs.Common.{◌≡◌, ◌++◌, List, map, take, subst}
use Rattle.std.proofs.lemmas.List.{take_all}
use Rattle.zk_tree.specs.declared.types.Field.{Field}
use Rattle.zk_scope.specs.FieldPlaces.{HasPlaces, field_name, places_from}
use Rattle.zk_scope.proofs.FieldPlaceLaws.{as_before, next_taken, one_more_field}
use Rattle.zk_scope.proofs.field_places.RecordFields.add_written.Goals as goal

pub loop-at-init : goal.loop-at-init
loop-at-init c = λ places names has. as_before c.args.self.now places names has

pub loop-at-preserved : goal.loop-at-preserved
loop-at-preserved c = λ places names has.
    one_more_field field_name c.args.added c.args.fields.now c.loop-at.at c.index-fields-at.result c.loop-at.self c.add.new.self places names c.as_slice.result.now c.loop-at-test.true
    (next_taken c.args.fields.now c.loop-at.at c.index-fields-at.result c.loop-at-test.true c.index-fields-at.is) c.as_slice.ensures
    (c.loop-at.invariant places names has) c.in_ok-add.ensures

pub returns : goal.returns
returns c = λ places names has.
    let all : take c.loop-at.at c.args.fields.now ≡ c.args.fields.now = take_all c.loop-at.at c.args.fields.now c.loop-at-test.false in
    subst (λ (fields : List Field). HasPlaces c.loop-at.self (places ++ places_from c.args.added 0 fields) (names ++ map field_name fields)) all (c.loop-at.invariant places names has)
