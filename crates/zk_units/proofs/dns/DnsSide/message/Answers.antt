use Rattle.std.proofs.Common.{◌-◌, drop, ap, ◌∙◌, arith}
use Rattle.std.proofs.lemmas.List.{length-take}
use Rattle.std.specs.Prelude.{slice_range}
use Rattle.zk_units.specs.Units.{message_unit}
use Rattle.zk_units.proofs.DnsLemmas.{message_taken, taken_as}
use Rattle.zk_units.proofs.dns.DnsSide.message.Goals as goal

pub message_unit-requires : goal.message_unit-requires
message_unit-requires c = omega (arith, c.requires.len, length-take (c.args.to - c.args.from) (drop c.args.from c.run.result.now))

pub returns : goal.returns
returns c = λ stream count stands goes.
    taken_as _ c.in_ok-unit.«unit» _ stream count (c.in_ok-unit.ensures ∙ ap (λ l. message_unit (slice_range l c.args.from c.args.to)) c.run.ensures.bytes)
    (message_taken c.args.self.now _ stream count c.args.used c.args.from c.args.to stands goes goes c.requires.step c.requires.used c.pass.ensures.places)
