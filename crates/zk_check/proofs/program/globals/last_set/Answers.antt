use Rattle.std.proofs.Common.{◌≤◌, ◌+◌, ℕ, [], sym, subst, arith}
use Rattle.zk_typed.specs.Programs.{since_set}
use Rattle.zk_check_declarations.specs.Valuing.{given_lent, given_of}
use Rattle.zk_check.proofs.GivenLaws.{since_all, since_next, start_below}
use Rattle.zk_check.proofs.program.globals.last_set.Goals as goal

pub loop-index-preserved : goal.loop-index-preserved
loop-index-preserved c =
    let all = c.args.all.now in
    let item = c.index-all-index.result in
    record {
      below = subst (λ (next : ℕ). next ≤ c.loop-index.index + 1) (sym c.with_more-start.ensures) (start_below c.loop-index.start c.loop-index.index (given_of item) c.loop-index.invariant.below);
      same = since_next all c.loop-index.start c.loop-index.index c.with_more-start.result item (since_set [] (given_lent all)) c.loop-index.invariant.below (omega arith) c.index-all-index.is
          c.with_more-start.ensures c.loop-index.invariant.same;
    }

pub returns-clause-since : goal.returns-clause-since
returns-clause-since c = since_all c.args.all.now c.loop-index.start c.loop-index.index (since_set [] (given_lent c.args.all.now)) (omega arith) c.loop-index.invariant.same
