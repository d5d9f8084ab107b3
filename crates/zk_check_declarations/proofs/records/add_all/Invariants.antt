use Rattle.std.proofs.Common.{◌≡◌, ◌||◌, ◌&&◌, ◌==◌, ℕ, List, take}
use Rattle.zk_typed.specs.Declarations.{is_one_of}
use Rattle.zk_typed.specs.Errors.{field_names}
use Rattle.zk_scope.specs.Fields.{fields_lent}
use Rattle.zk_check_declarations.specs.Adding.{has_field}
use Rattle.zk_check_declarations.proofs.records.add_all.Given as goal

abbrev pub invariant-loop-field : goal.invariant-loop-field
invariant-loop-field l = (number : ℕ) (name : List ℕ) →
    has_field l.known number name ≡ has_field l.fn.known number name || (l.owner == number && is_one_of (field_names (fields_lent (take l.field-index l.fields))) name)
