use Rattle.zk_tree.specs.declared.types.Field.{out-Field}
use Rattle.zk_typed.specs.Checked.{both}
use Rattle.zk_typed.specs.Declarations.{field_rules, nothing, parts_rules}
use Rattle.zk_typed.specs.Errors.{added_rules}
use Rattle.zk_typed.specs.Resolving.{deeper}
use Rattle.zk_scope.specs.Lent.{home_of}
use Rattle.zk_scope.specs.Scripted.{scripts_in}
use Rattle.zk_check_declarations.proofs.NestLaws.{inner_nothing}
use Rattle.zk_check_declarations.proofs.RuleLaws.{also_tells, same_rules}
use Rattle.zk_check_declarations.proofs.ground.Ground.added_field.Goals as goal

pub returns : goal.returns
returns c = λ before was.
    let scripts = scripts_in c.args.self.now.names.now in
    let home = home_of c.args.home in
    let field = c.args.field.now in
    let own = field_rules scripts home before field in
    let parts = parts_rules (deeper 199 scripts) scripts home (out-Field field).field_type in
    let added = added_rules scripts home c.args.owner field in
    same_rules c.also-2.result (inner_nothing own parts added)
    (also_tells c.also.result c.added_rules-added.result c.also-2.result (nothing (both own parts)) added
    (also_tells c.field_rules-own.result c.parts_rules-parts.result c.also.result own parts (c.field_rules-own.ensures before was) c.parts_rules-parts.ensures c.also.ensures)
    c.added_rules-added.ensures c.also-2.ensures)
