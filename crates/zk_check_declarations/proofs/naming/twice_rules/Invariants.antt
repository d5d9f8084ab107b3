use Rattle.std.proofs.Common.{ℕ, List, ◌++◌, map, take}
use Rattle.zk_typed.specs.Errors.{twice_rules}
use Rattle.zk_scope.specs.Lent.{home_of}
use Rattle.zk_check_declarations.specs.Naming.{all_named, named_of, one_twice}
use Rattle.zk_check_declarations.specs.Seeing.{Sees}
use Rattle.zk_check_declarations.specs.declared.naming.Named.{Named}
use Rattle.zk_check_declarations.proofs.RuleLaws.{WalksOn}
use Rattle.zk_check_declarations.proofs.naming.twice_rules.Given as goal

abbrev pub invariant-loop-one : goal.invariant-loop-one
invariant-loop-one l = record {
  rules : (before : List (List ℕ)) → Sees l.fn.seen before →
      WalksOn Sees (λ met names. twice_rules (home_of l.home) met (all_named names)) (λ met one. one_twice (home_of l.home) met (named_of one)) (λ (one : Named). one.name)
      l.seen l.rules l.names l.one-index (twice_rules (home_of l.home) before (all_named l.names));
  met : (before : List (List ℕ)) → Sees l.fn.seen before → Sees l.seen (before ++ map (λ one. one.0) (all_named (take l.one-index l.names)));
}
