use Rattle.std.proofs.Common.{refl, ap, ◌∙◌, Some}
use Rattle.std.specs.Option.{option_or}
use Rattle.zk_reasm.specs.Told.{Fin}
use Rattle.zk_reasm.proofs.StandingLemmas.{stands_over, stands_fin}
use Rattle.zk_reasm.proofs.stream.Stream.fin.Goals as goal

pub returns-then-self : goal.returns-then-self
returns-then-self c = λ base limit taken told stands.
    stands_over c.args.self.now c.args.self.now base limit told (Fin c.args.seq) taken stands c.if-self.true refl refl c.if-self.true refl refl

pub returns : goal.returns
returns c = λ base limit taken told stands.
    stands_fin c.args.self.now _ c.judge.new.self base limit told c.args.seq taken c.judge.ensures.rest c.judge.ensures.over stands c.if-self.false
    refl refl refl refl refl refl (c.or-self.ensures ∙ ap (λ n. option_or c.args.self.now.fin (Some n)) c.distance.ensures)
