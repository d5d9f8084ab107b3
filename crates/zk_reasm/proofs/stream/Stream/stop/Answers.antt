use Rattle.std.proofs.Common.{refl}
use Rattle.zk_reasm.specs.Told.{Stop}
use Rattle.zk_reasm.proofs.StandingLemmas.{stands_over, stands_stopped}
use Rattle.zk_reasm.proofs.stream.Stream.stop.Goals as goal

pub returns-then-not-self : goal.returns-then-not-self
returns-then-not-self c = λ base limit taken told stands.
    stands_stopped c.args.self.now c.finish.new.self base limit told taken c.finish.ensures.rest c.finish.ensures.over stands c.if-not-self.true

pub returns-else-not-self : goal.returns-else-not-self
returns-else-not-self c = λ base limit taken told stands.
    stands_over c.args.self.now c.args.self.now base limit told Stop taken stands c.if-not-self.false refl refl c.if-not-self.false refl refl
