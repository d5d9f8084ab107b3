use Rattle.std.proofs.Common.{◌≡◌, ℕ}
use Rattle.zk_typed.specs.Resolving.{Scripts, fields_of}
use Rattle.zk_check_declarations.specs.Edges.{edges_at, kinds}
use Rattle.zk_check_declarations.proofs.HeightLaws.{MeasuresTo}
use Rattle.zk_check_declarations.proofs.rising.heights.Given as goal

abbrev pub invariant-loop-round : goal.invariant-loop-round
invariant-loop-round l = (scripts : Scripts) → ((number : ℕ) → edges_at number l.edges ≡ kinds (fields_of scripts number)) → MeasuresTo l.round l.heights.heights.items scripts
