use Rattle.std.proofs.Common.{◌≡◌, ℕ, List, ◌++◌, [], drop, map}
use Rattle.zk_check_expressions.specs.Envs.{env_of}
use Rattle.zk_check_expressions.specs.Marks.{Marks}
use Rattle.zk_check_expressions.specs.Records.{given_of, twice_rules}
use Rattle.zk_check_expressions.proofs.records.given_again.Given as goal

abbrev pub invariant-loop-item : goal.invariant-loop-item
invariant-loop-item l = (before : List ℕ) × Marks l.marked before ×
    (l.rules ++ twice_rules (env_of l.env) before (drop l.item-index l.items) (map given_of l.others) ≡ twice_rules (env_of l.env) [] l.items (map given_of l.given))
