use Rattle.std.proofs.Common.{List, slice_get, ap, sym, ◌∙◌}
use Rattle.zk_scope.specs.declared.field_places.RecordFields.{RecordFields}
use Rattle.zk_scope.proofs.scripts.Scripts.places.Goals as goal

pub returns-in-Some : goal.returns-in-Some
returns-in-Some c =
    c.deref-in-Some.ensures.value ∙ (c.args.self.now.placed.0 c.args.number.0 c.in-Some.one.now (sym (c.in-Some.ensures ∙ ap (λ (x : List RecordFields). slice_get x c.args.number.0) c.deref.ensures.value))).0

pub returns-in-None : goal.returns-in-None
returns-in-None c = sym (c.args.self.now.placed.1 c.args.number.0 (sym (c.in-None.ensures ∙ ap (λ (x : List RecordFields). slice_get x c.args.number.0) c.deref.ensures.value)))
