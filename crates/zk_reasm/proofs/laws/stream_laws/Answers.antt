use Rattle.zk_reasm.proofs.BelowLemmas.{stays_below, stays_ended}
use Rattle.zk_reasm.proofs.CutLemmas.{cut_freely}
use Rattle.zk_reasm.proofs.LawLemmas.{front_never_falls, first_stands, over_stays_so}
use Rattle.zk_reasm.proofs.laws.stream_laws.Goals as goal

pub returns : goal.returns
returns c = record { front = front_never_falls; first = first_stands; over = over_stays_so; below = stays_below; ended = stays_ended; cut = cut_freely }
