use Rattle.std.proofs.Common.{◌≡◌, ◌&&◌, ℕ, List, nat_lt}
use Rattle.zk_typed.specs.Declarations.{is_one_of}
use Rattle.zk_typed.specs.Errors.{field_names}
use Rattle.zk_typed.specs.Resolving.{own_fields}
use Rattle.zk_scope.specs.Scripted.{scripts_in}
use Rattle.zk_check_declarations.specs.Adding.{has_field}
use Rattle.zk_check_declarations.proofs.records.own_names.Given as goal

abbrev pub invariant-loop-owner : goal.invariant-loop-owner
invariant-loop-owner l = (number : ℕ) (name : List ℕ) → has_field l.known number name ≡ (nat_lt number l.owner && is_one_of (field_names (own_fields (scripts_in l.names) number)) name)
