use Rattle.std.proofs.Common.{List, slice_get, ap, ◌∙◌}
use Rattle.zk_scope.specs.declared.declared.Declared.{Declared}
use Rattle.zk_scope.proofs.CircleLaws.{circle_absent, circle_found}
use Rattle.zk_scope.proofs.circles.is_circle.Goals as goal

pub returns-in_ok-found-in-Some : goal.returns-in_ok-found-in-Some
returns-in_ok-found-in-Some c =
    circle_found c.args.table.now.names.items c.args.place c.in-Some.one.now c.steps_at.result.now c.as_slice.result.now c.in_ok-found-in-Some.found
    (c.in-Some.ensures ∙ ap (λ (x : List Declared). slice_get x c.args.place) c.deref.ensures.value) (c.steps_at.ensures ∙ c.requires.0 c.args.place) c.as_slice.ensures.value
    c.in_ok-found-in-Some.ensures

pub returns-in-None : goal.returns-in-None
returns-in-None c = circle_absent c.args.table.now.names.items c.args.place (c.in-None.ensures ∙ ap (λ (x : List Declared). slice_get x c.args.place) c.deref.ensures.value)
