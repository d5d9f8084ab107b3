use Rattle.std.proofs.Common.{refl, ap, ◌∙◌}
use Rattle.zk_tree.specs.declared.types.Field.{out-Field}
use Rattle.zk_typed.specs.Declarations.{fields_rules, is_one_of}
use Rattle.zk_scope.specs.Lent.{home_of}
use Rattle.zk_scope.specs.Scripted.{scripts_in}
use Rattle.zk_check_declarations.specs.Adding.{HasFields, added_field}
use Rattle.zk_check_declarations.proofs.AddedLaws.{more_names, now_has}
use Rattle.zk_check_declarations.proofs.RuleLaws.{walk_turn}
use Rattle.zk_check_declarations.proofs.ground.Ground.added_fields.Goals as goal

pub loop-field-preserved : goal.loop-field-preserved
loop-field-preserved c =
    let scripts = scripts_in c.args.self.now.names.now in
    let home = home_of c.args.home in
    let owner = c.args.owner in
    let field = c.field-item.result in
    record {
      rules = λ before met.
          walk_turn (HasFields owner) (fields_rules (added_field scripts owner) home) (added_field scripts owner home) (λ field. (out-Field field).name.text)
          c.loop-field.known c.add.new.self c.loop-field.rules c.added_field-one.result c.also-rules.result c.args.fields.now c.loop-field.field-index field c.in_ok-twice.twice (fields_rules (added_field scripts owner) home before c.args.fields.now)
          (λ before x xs. refl) c.loop-field-test.true c.field-item.is (c.loop-field.invariant.rules before met)
          (λ names has. c.in_ok-twice.ensures ∙ has.has c.as_slice-name.result.now ∙ ap (is_one_of names) c.as_slice-name.ensures)
          (λ names has. now_has owner c.loop-field.known c.add.new.self names c.as_slice-name.result.now (out-Field field).name.text c.as_slice-name.ensures has c.in_ok-add.ensures)
          c.added_field-one.ensures c.also-rules.ensures;
      known = λ number name.
          more_names owner number name c.args.known.now c.loop-field.known c.add.new.self c.args.fields.now c.loop-field.field-index field c.as_slice-name.result.now
          c.loop-field-test.true c.field-item.is c.as_slice-name.ensures (c.loop-field.invariant.known number name) (c.in_ok-add.ensures number name);
    }
