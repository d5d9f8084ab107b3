use Rattle.std.proofs.Common.{◌+◌, ◌*◌}
use Rattle.zk_tree.specs.declared.types.Field.{out-Field}
use Rattle.zk_typed.specs.Declarations.{fields_rules}
use Rattle.zk_scope.specs.Lent.{home_of}
use Rattle.zk_scope.specs.Scripted.{scripts_in}
use Rattle.zk_check_declarations.specs.Seeing.{Sees}
use Rattle.zk_check_declarations.specs.Nesting.{nested_field, nested_fields}
use Rattle.zk_check_declarations.proofs.RuleLaws.{WalksOn}
use Rattle.zk_check_declarations.proofs.fields.+nesting.Given as goal

abbrev pub decreases-nested : goal.decreases-nested
decreases-nested l = 2 * l.depth

abbrev pub decreases-nested_fields : goal.decreases-nested_fields
decreases-nested_fields l = 2 * l.depth + 1

abbrev pub invariant-nested_fields-loop-field : goal.invariant-nested_fields-loop-field
invariant-nested_fields-loop-field l =
    WalksOn Sees (fields_rules (nested_field l.depth (scripts_in l.ground.names.now) (home_of l.home)) (home_of l.home)) (nested_field l.depth (scripts_in l.ground.names.now) (home_of l.home) (home_of l.home)) (λ field. (out-Field field).name.text)
    l.seen l.rules l.fields l.field-index (nested_fields l.depth (scripts_in l.ground.names.now) (home_of l.home) l.fields)
