use Rattle.std.proofs.Common.{[], false, sym, subst}
use Rattle.zk_events.specs.Run.{New}
use Rattle.zk_outcome.proofs.Doing.{prefix_none}
use Rattle.zk_top.specs.Replay.{Comes}
use Rattle.zk_top.proofs.replay.Replay.new.Goals as goal

pub returns-clause-comes : goal.returns-clause-comes
returns-clause-comes c first program now is taken =
    subst (λ replay. Comes first (record { options = c.args.options; program = program; budget = c.args.budget }) [] [] false New replay now) (sym c.in_ok-new-3.ensures.ok)
    (record {
      link = c.args.link;
      traffic = c.in_ok-new.ensures.stands;
      begins = prefix_none _;
      plays = c.in_ok-new-2.ensures.plays first program now is taken;
    })
