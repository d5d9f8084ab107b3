use Rattle.std.proofs.Common.{◌≡◌, ◌++◌, List, None, get_or, map, take, refl, subst}
use Rattle.std.proofs.lemmas.List.{take_all, take_more}
use Rattle.zk_scope.specs.declared.predefined.KnownField.{KnownField}
use Rattle.zk_scope.specs.FieldPlaces.{HasPlaces, known_name, places_from}
use Rattle.zk_scope.proofs.FieldPlaceLaws.{as_before, one_more_field}
use Rattle.zk_scope.proofs.field_places.RecordFields.add_known.Goals as goal

pub loop-at-init : goal.loop-at-init
loop-at-init c = λ places names has. as_before c.args.self.now places names has

pub loop-at-preserved : goal.loop-at-preserved
loop-at-preserved c = λ places names has.
    one_more_field known_name None c.args.fields.now c.loop-at.at (get_or c.args.fields.now c.loop-at.at _) c.loop-at.self c.add.new.self places names _ c.loop-at-test.true
    (take_more c.args.fields.now c.loop-at.at _ c.loop-at-test.true) refl (c.loop-at.invariant places names has) c.in_ok-add.ensures

pub returns : goal.returns
returns c = λ places names has.
    let all : take c.loop-at.at c.args.fields.now ≡ c.args.fields.now = take_all c.loop-at.at c.args.fields.now c.loop-at-test.false in
    subst (λ (fields : List KnownField). HasPlaces c.loop-at.self (places ++ places_from None 0 fields) (names ++ map known_name fields)) all (c.loop-at.invariant places names has)
