use Rattle.std.proofs.Common.{◌≡◌, ℕ, ◌==◌, ◌||◌, ◌&&◌, List, take}
use Rattle.zk_tree.specs.declared.types.Field.{out-Field}
use Rattle.zk_typed.specs.Declarations.{fields_rules, is_one_of}
use Rattle.zk_scope.specs.Lent.{home_of}
use Rattle.zk_scope.specs.Scripted.{scripts_in}
use Rattle.zk_check_declarations.specs.Adding.{HasFields, added_field, field_texts, has_field}
use Rattle.zk_check_declarations.proofs.RuleLaws.{WalksOn}
use Rattle.zk_check_declarations.proofs.ground.Ground.added_fields.Given as goal

abbrev pub invariant-loop-field : goal.invariant-loop-field
invariant-loop-field l = record {
  rules : (before : List (List ℕ)) → HasFields l.owner l.fn.known before →
      WalksOn (HasFields l.owner) (fields_rules (added_field (scripts_in l.self.names.now) l.owner) (home_of l.home)) (added_field (scripts_in l.self.names.now) l.owner (home_of l.home)) (λ field. (out-Field field).name.text)
      l.known l.rules l.fields l.field-index (fields_rules (added_field (scripts_in l.self.names.now) l.owner) (home_of l.home) before l.fields);
  known : (number : ℕ) (name : List ℕ) → has_field l.known number name ≡ has_field l.fn.known number name || (l.owner == number && is_one_of (field_texts (take l.field-index l.fields)) name);
}
