use Rattle.std.proofs.Common.{◌≡◌, List, subst, take, ap, ◌∙◌}
use Rattle.std.proofs.lemmas.List.{take_all}
use Rattle.zk_typed.specs.LoadOrder.{Stated}
use Rattle.zk_scope.specs.FieldPlaces.{Hold}
use Rattle.zk_scope.specs.Lent.{stated_lent}
use Rattle.zk_scope.specs.Scripted.{scripts_in}
use Rattle.zk_scope.proofs.FieldPlaceLaws.{hold_first, hold_on, named_so_far, so_far}
use Rattle.zk_scope.proofs.fields.Fields.of.Goals as goal

pub loop-place-init : goal.loop-place-init
loop-place-init c = hold_first (scripts_in c.args.names.now) c.in_ok-records.records.items c.in_ok-records.ensures

pub loop-place-preserved : goal.loop-place-preserved
loop-place-preserved c =
    let scripts = scripts_in c.args.names.now in
    let before = stated_lent (take c.loop-place.place c.stated-stated.result.now) in
    hold_on scripts c.stated-stated.result.now c.loop-place.place c.index-stated-place.result c.add_stated.new.all.items c.loop-place-test.true c.index-stated-place.is
    (c.in_ok-add_stated.ensures (so_far scripts before) (named_so_far scripts before) c.loop-place.invariant)

pub returns : goal.returns
returns c =
    let scripts = scripts_in c.args.names.now in
    let all : take c.loop-place.place c.stated-stated.result.now ≡ c.stated-stated.result.now = take_all c.loop-place.place c.stated-stated.result.now c.loop-place-test.false in
    subst (λ (x : List Stated). Hold c.loop-place.records.items (so_far scripts x) (named_so_far scripts x)) (ap stated_lent all ∙ c.stated-stated.ensures) c.loop-place.invariant
