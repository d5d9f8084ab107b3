use Rattle.std.proofs.Common.{length, sym, ap, ◌∙◌, arith}
use Rattle.zk_dns.specs.Stream.{step_of}
use Rattle.zk_units.proofs.DnsLemmas.{more_low, one_is, over_turn}
use Rattle.zk_units.proofs.UnreadLemmas.{bytes_within}
use Rattle.zk_units.proofs.dns.DnsSide.next.Goals as goal

pub returns-then-self : goal.returns-then-self
returns-then-self c = λ stream count stands. over_turn c.args.self.now stream count stands c.if-self.true (bytes_within c.args.self.now.«unread»)

pub message-requires-clause-step : goal.message-requires-clause-step
message-requires-clause-step c = ap step_of (sym c.run.ensures.bytes) ∙ sym c.step.ensures ∙ c.in-One.is

pub message-requires-clause-used : goal.message-requires-clause-used
message-requires-clause-used c =
    let one = one_is c.run.result.now c.in-One.used c.in-One.from c.in-One.to c.run.ensures.range (sym c.step.ensures ∙ c.in-One.is) in
    omega (arith, one.used_low, ap length c.run.ensures.bytes)

pub message-requires-clause-len : goal.message-requires-clause-len
message-requires-clause-len c = (one_is c.run.result.now c.in-One.used c.in-One.from c.in-One.to c.run.ensures.range (sym c.step.ensures ∙ c.in-One.is)).len

pub gap-requires-clause-step : goal.gap-requires-clause-step
gap-requires-clause-step c = ap step_of (sym c.run.ensures.bytes) ∙ sym c.step.ensures ∙ c.in-More.is

pub gap-requires-clause-few : goal.gap-requires-clause-few
gap-requires-clause-few c = omega (arith, more_low c.run.result.now c.run.ensures.range (sym c.step.ensures ∙ c.in-More.is), ap length c.run.ensures.bytes)

pub returns-in-More : goal.returns-in-More
returns-in-More c = λ stream count stands. c.gap.ensures stream count stands c.if-self.false
