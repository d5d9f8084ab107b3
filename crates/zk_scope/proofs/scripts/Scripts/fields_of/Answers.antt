use Rattle.std.proofs.Common.{List, ◌++◌, flat_map, ap, ◌∙◌}
use Rattle.zk_typed.specs.Within.{maybe_one}
use Rattle.zk_scope.specs.declared.field.FieldInfo.{FieldInfo as LentField}
use Rattle.zk_scope.specs.FieldPlaces.{field_at}
use Rattle.zk_scope.specs.Fields.{fields_lent}
use Rattle.zk_scope.specs.Scripted.{scripts_in}
use Rattle.zk_scope.proofs.FieldPlaceLaws.{all_placed}
use Rattle.zk_scope.proofs.scripts.Scripts.fields_of.Goals as goal

pub returns : goal.returns
returns c =
    let scripts = scripts_in c.args.self.now.names in
    let here = flat_map (λ one. maybe_one (field_at scripts c.args.number.0 one)) in
    c.in_ok-add_placed.ensures ∙ ap (λ (x : List LentField). fields_lent x ++ here c.places.result.now) c.new-all.ensures.items ∙ ap here c.places.ensures ∙ all_placed scripts c.args.number.0
