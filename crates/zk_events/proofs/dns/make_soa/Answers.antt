use Rattle.std.proofs.Common.{refl}
use Rattle.zk_machine.specs.Made.{given_of}
use Rattle.zk_events.specs.Dns.{soa_fields}
use Rattle.zk_events.specs.Numbers as number
use Rattle.zk_events.specs.Raising.{numbered_from}
use Rattle.zk_events.proofs.MakingLemmas.{makes-fresh}
use Rattle.zk_events.proofs.dns.make_soa.Goals as goal

pub returns : goal.returns
returns c =
    makes-fresh c.fresh_object.result c.args.machine.now c.fresh_object.new.self number.dns_soa (given_of c.in_ok-fields.fields.items) (numbered_from 0 (soa_fields c.args.mname.now c.args.rname.now c.args.serial c.args.times))
    (rw (c.in_ok-fields.ensures.items, c.in_ok-text.ensures, c.in_ok-text-2.ensures, c.as_slice.ensures, c.as_slice-2.ensures, c.from.ensures, c.seconds.ensures, c.seconds-2.ensures, c.seconds-3.ensures, c.seconds-4.ensures) refl)
    c.fresh_object.ensures.number c.fresh_object.ensures.stands
