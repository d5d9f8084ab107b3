-- Events that wait, as the machine holds them.
use Rattle.zk_typed.specs.World.{Queued, Scheduled}
use Rattle.zk_value.specs.Plain.{key_of}
use Rattle.zk_machine.specs.declared.queued.Queued as rust_queued
use Rattle.zk_machine.specs.declared.queued.Scheduled as rust_scheduled

abbrev pub queued_of : rust_queued.Queued → Queued
queued_of one = record { event = one.event; args = key_of one.args.items }

abbrev pub scheduled_of : rust_scheduled.Scheduled → Scheduled
scheduled_of one = record { due = one.due; order = one.order; what = queued_of one.what }
