use Rattle.std.proofs.Common.{ap, ◌∙◌}
use Rattle.zk_table.specs.Dues.{is_watched}
use Rattle.zk_table.proofs.DueLemmas.{watched-longer}
use Rattle.zk_table.proofs.watched.make_mark.Goals as goal

pub loop-unwatched-preserved : goal.loop-unwatched-preserved
loop-unwatched-preserved c = λ other.
    ap (λ marks. is_watched marks other) c.in_ok-push.ensures.items ∙ (watched-longer c.loop-unwatched.unwatched.items other ∙ c.loop-unwatched.invariant other)
