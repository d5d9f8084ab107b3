use Rattle.std.proofs.Common.{OnOk, sym, subst}
use Rattle.zk_traffic.specs.declared.item.What.{What}
use Rattle.zk_events.specs.Becomes.{Becomes}
use Rattle.zk_events.specs.Turns.{what_raises}
use Rattle.zk_events.proofs.turns.raise_events.Goals as goal

pub returns-in-Dns : goal.returns-in-Dns
returns-in-Dns c =
    subst (λ (one : What). OnOk c.raise_message.result (Becomes c.args.machine.now c.raise_message.new.machine (λ program. what_raises program c.args.c one))) (sym c.in-Dns.is) c.raise_message.ensures
