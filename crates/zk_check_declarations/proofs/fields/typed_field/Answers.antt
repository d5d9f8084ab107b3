use Rattle.std.proofs.Common.{List, [], subst}
use Rattle.zk_tree.specs.declared.types.Attr.{Attr}
use Rattle.zk_tree.specs.declared.types.Field.{out-Field}
use Rattle.zk_typed.specs.Checked.{Checked}
use Rattle.zk_typed.specs.Declarations.{attr_rules, env_at, field_attribute, field_default, with_value}
use Rattle.zk_typed.specs.Resolving.{type_of}
use Rattle.zk_typed.specs.Types.{ValueType}
use Rattle.zk_typed.specs.View as view
use Rattle.zk_scope.specs.Lent.{home_of}
use Rattle.zk_scope.specs.Scripted.{scripts_in}
use Rattle.zk_check_operators.proofs.BothLaws.{Rules}
use Rattle.zk_check_declarations.proofs.RuleLaws.{passes_on}
use Rattle.zk_check_declarations.proofs.fields.typed_field.Goals as goal

pub returns-in-Ok : goal.returns-in-Ok
returns-in-Ok c =
    let scripts = scripts_in c.args.ground.now.names.now in
    let home = home_of c.args.home in
    let attrs_of : ValueType → List Attr → Checked (Unit {0}) = λ type attrs. attr_rules home (field_attribute type) with_value (λ attr. field_default (env_at scripts home) type attr.value) [] attrs in
    passes_on (type_of scripts home (out-Field c.args.field.now).field_type) (λ type. attrs_of type (out-Field c.args.field.now).attrs) (view.type_of c.in-Ok.one) c.field_attrs.result c.in-Ok.ensures
    (subst (λ (attrs : List Attr). Rules c.field_attrs.result (attrs_of (view.type_of c.in-Ok.one) attrs)) c.as_slice.ensures c.field_attrs.ensures)
