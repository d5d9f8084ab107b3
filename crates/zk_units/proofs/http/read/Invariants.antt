use Rattle.std.proofs.Common.{length, None}
use Rattle.zk_units.specs.HttpTurns.{ReadsOn}
use Rattle.zk_units.specs.Unread.{places_of}
use Rattle.zk_units.proofs.http.read.Given as goal

abbrev pub invariant-runs : goal.invariant-runs
invariant-runs l = ReadsOn l.side l.initial.http l.http l.initial.«unread» l.«unread» None

-- each turn but the last uses a place at least
abbrev pub decreases-runs : goal.decreases-runs
decreases-runs l = length (places_of l.«unread»)
