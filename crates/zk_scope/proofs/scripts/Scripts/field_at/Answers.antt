use Rattle.std.proofs.Common.{List, slice_get, ap, ◌∙◌}
use Rattle.std.specs.Option.{option_and_then}
use Rattle.zk_scope.specs.declared.field_places.FieldPlace.{FieldPlace}
use Rattle.zk_scope.specs.FieldPlaces.{field_at}
use Rattle.zk_scope.specs.Scripted.{scripts_in}
use Rattle.zk_scope.proofs.FieldPlaceLaws.{placed_at}
use Rattle.zk_scope.proofs.scripts.Scripts.field_at.Goals as goal

pub returns-in_ok-made-in-Some : goal.returns-in_ok-made-in-Some
returns-in_ok-made-in-Some c =
    let scripts = scripts_in c.args.self.now.names in
    let number = c.args.one.«record».0 in
    c.in_ok-made-in-Some.ensures ∙ ap (option_and_then (field_at scripts number)) (c.in-Some.ensures ∙ ap (λ (x : List FieldPlace). slice_get x c.args.one.field) c.places.ensures) ∙ placed_at scripts number c.args.one.field

pub returns-in-None : goal.returns-in-None
returns-in-None c =
    let scripts = scripts_in c.args.self.now.names in
    let number = c.args.one.«record».0 in
    ap (option_and_then (field_at scripts number)) (c.in-None.ensures ∙ ap (λ (x : List FieldPlace). slice_get x c.args.one.field) c.places.ensures) ∙ placed_at scripts number c.args.one.field
