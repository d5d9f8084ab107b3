use Rattle.std.proofs.Common.{refl}
use Rattle.zk_machine.specs.Made.{given_of}
use Rattle.zk_events.specs.Dns.{message_fields}
use Rattle.zk_events.specs.Numbers as number
use Rattle.zk_events.specs.Raising.{numbered_from}
use Rattle.zk_events.proofs.MakingLemmas.{makes-fresh}
use Rattle.zk_events.proofs.dns.make_message.Goals as goal

pub returns : goal.returns
returns c =
    makes-fresh c.fresh_object.result c.args.machine.now c.fresh_object.new.self number.dns_msg (given_of c.in_ok-fields.fields.items) (numbered_from 0 (message_fields c.args.message.now))
    (rw (c.in_ok-fields.ensures.items, c.from.ensures, c.from-2.ensures, c.from-3.ensures, c.from-4.ensures, c.from-5.ensures, c.from-6.ensures, c.from-7.ensures) refl)
    c.fresh_object.ensures.number c.fresh_object.ensures.stands
