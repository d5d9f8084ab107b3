use Rattle.std.proofs.Common.{List, slice_get, ap, sym, ◌∙◌}
use Rattle.std.specs.Option.{option_map}
use Rattle.zk_typed.specs.Making.{field_named}
use Rattle.zk_typed.specs.Resolving.{fields_of}
use Rattle.zk_scope.specs.declared.field_places.RecordFields.{RecordFields}
use Rattle.zk_scope.specs.FieldPlaces.{field_places, named}
use Rattle.zk_scope.specs.Fields.{field_of}
use Rattle.zk_scope.specs.Scripted.{scripts_in}
use Rattle.zk_scope.proofs.FieldPlaceLaws.{field_found_at, none_placed}
use Rattle.zk_scope.proofs.scripts.Scripts.field_named.Goals as goal

pub returns-in_default : goal.returns-in_default
returns-in_default c =
    let scripts = scripts_in c.args.self.now.names in
    let number = c.args.number.0 in
    sym (ap (field_named c.args.name.now 0) (none_placed scripts number (c.args.self.now.placed.1 number (sym (c.in_default.ensures ∙ ap (λ (x : List RecordFields). slice_get x number) c.deref.ensures.value)))))

pub returns : goal.returns
returns c =
    let scripts = scripts_in c.args.self.now.names in
    let number = c.args.number.0 in
    let has = c.args.self.now.placed.0 number c.in-Some.fields.now (sym (c.in-Some.ensures ∙ ap (λ (x : List RecordFields). slice_get x number) c.deref.ensures.value)) in
    c.numbered.ensures ∙
    field_found_at c.args.name.now (fields_of scripts number) c.in_ok-field.field (option_map field_of c.in_ok-found.found) (c.in_ok-field.ensures (field_places scripts number) (named (fields_of scripts number)) has)
    c.in_ok-found.ensures
