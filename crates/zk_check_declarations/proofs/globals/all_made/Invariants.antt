use Rattle.std.proofs.Common.{◌≡◌, drop}
use Rattle.std.specs.List.{list_all}
use Rattle.zk_check_declarations.specs.Attributing.{made_by}
use Rattle.zk_check_declarations.specs.Valuing.{given_of}
use Rattle.zk_check_declarations.proofs.globals.all_made.Given as goal

abbrev pub invariant-loop-one : goal.invariant-loop-one
invariant-loop-one l = list_all (λ one. made_by (given_of one)) (drop l.one-index l.given) ≡ list_all (λ one. made_by (given_of one)) l.given
