use Rattle.std.proofs.Common.{◌++◌, sym, subst}
use Rattle.zk_reasm.specs.Standing.{StandsFor}
use Rattle.zk_traffic.specs.Conversation.{stop_told}
use Rattle.zk_traffic.proofs.streams.stop_if.Goals as goal

pub returns-then-stop : goal.returns-then-stop
returns-then-stop c = λ base limit taken told stands.
    subst (λ b. StandsFor c.stop.new.self base limit (told ++ stop_told b) taken) (sym c.if-stop.true) (c.stop.ensures base limit taken told stands)
