use Rattle.std.proofs.Common.{◌-◌, ◌∷◌, ap, refl, sym, subst, ◌∙◌}
use Rattle.zk_tree.specs.declared.types.Field.{out-Field}
use Rattle.zk_typed.specs.Checked.{Checked}
use Rattle.zk_typed.specs.Declarations.{field_rules, fields_rules, is_one_of, nested_to}
use Rattle.zk_scope.specs.Lent.{home_of}
use Rattle.zk_scope.specs.Scripted.{scripts_in}
use Rattle.zk_check_operators.proofs.BothLaws.{Rules}
use Rattle.zk_check_declarations.specs.Nesting.{nested_field, nested_fields}
use Rattle.zk_check_declarations.specs.Seeing.{Sees}
use Rattle.zk_check_declarations.proofs.NestLaws.{nested_record}
use Rattle.zk_check_declarations.proofs.RuleLaws.{also_tells, walk_turn}
use Rattle.zk_check_declarations.proofs.fields.+nesting.Goals as goal

pub nested-returns-in-Record : goal.nested-returns-in-Record
nested-returns-in-Record t c =
    let scripts = scripts_in c.args.ground.now.names.now in
    let home = home_of c.args.home in
    subst (λ (given : Checked (Unit {0})). Rules c.nested_fields.result given)
    (ap (nested_fields (c.args.depth - 1) scripts home) c.as_slice.ensures ∙ sym (nested_record c.args.depth scripts home c.in-Record.place c.in-Record.fields c.if-depth-eq0.false) ∙ ap (nested_to c.args.depth scripts home) (sym c.in-Record.is))
    c.nested_fields.ensures

pub nested_fields-loop-field-preserved : goal.nested_fields-loop-field-preserved
nested_fields-loop-field-preserved t c =
    let scripts = scripts_in c.args.ground.now.names.now in
    let home = home_of c.args.home in
    let field = c.field-item.result in
    walk_turn Sees (fields_rules (nested_field c.args.depth scripts home) home) (nested_field c.args.depth scripts home home) (λ field. (out-Field field).name.text)
    c.loop-field.seen c.add.new.self c.loop-field.rules c.also.result c.also-rules.result c.args.fields.now c.loop-field.field-index field c.in_ok-twice.twice (nested_fields c.args.depth scripts home c.args.fields.now)
    (λ before x xs. refl) c.loop-field-test.true c.field-item.is c.loop-field.invariant
    (λ before met. c.in_ok-twice.ensures.was before met ∙ ap (is_one_of before) c.as_slice.ensures)
    (λ before met. subst (λ name. Sees c.add.new.self (name ∷ before)) c.as_slice.ensures (c.in_ok-twice.ensures.met before met))
    (λ before was. also_tells c.field_rules-own.result c.nested-inner.result c.also.result (field_rules scripts home before field) (nested_to c.args.depth scripts home (out-Field field).field_type)
    (c.field_rules-own.ensures before was) c.nested-inner.ensures c.also.ensures)
    c.also-rules.ensures
