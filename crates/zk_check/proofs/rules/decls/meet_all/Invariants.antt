use Rattle.std.proofs.Common.{◌≡◌, ℕ, List, ◌||◌, map, take}
use Rattle.std.specs.HashSet.{contains}
use Rattle.std.specs.Str.{bytes_eq}
use Rattle.zk_typed.specs.Declarations.{is_one_of}
use Rattle.zk_scope.specs.Lent.{declared_lent}
use Rattle.zk_check.proofs.rules.decls.meet_all.Given as goal

abbrev pub invariant-loop-one : goal.invariant-loop-one
invariant-loop-one l = (name : List ℕ) → contains bytes_eq l.seen.names name ≡ contains bytes_eq l.fn.seen.names name || is_one_of (map (λ one. one.name) (declared_lent (take l.one-index l.declared))) name
