-- What each item of a capture does before the queue is drained: the facts of its connection are renewed in the
-- connection's own objects, and then its events are queued in this order (Zeek manual, Events).
use Rattle.std.specs.Prelude.{[], ◌∷◌, Option, Some, None}
use Rattle.zk_base.specs.declared.numbers.ConnNo.{ConnNo}
use Rattle.zk_base.specs.declared.numbers.ObjectNo.{ObjectNo}
use Rattle.zk_conn.specs.declared.facts.Facts.{Facts}
use Rattle.zk_traffic.specs.declared.item.Item as traffic
use Rattle.zk_traffic.specs.declared.item.What.{What}
use Rattle.zk_traffic.specs.declared.item.What.TheVariants as what
use Rattle.zk_tree.specs.Value as plain
use Rattle.zk_typed.specs.Program.{Program}
use Rattle.zk_typed.specs.Running.{Item}
use Rattle.zk_typed.specs.State.{World}
use Rattle.zk_events.specs.Dns.{message_raises, fault_raises}
use Rattle.zk_events.specs.Facts.{connection_fields, end_fields, id_fields}
use Rattle.zk_machine.specs.Made.{fresh}
use Rattle.zk_events.specs.Http.{unit_raises}
use Rattle.zk_events.specs.Known.{Known, forgetting, knowing}
use Rattle.zk_events.specs.declared.connections.Objects.{Objects}
use Rattle.zk_events.specs.Numbers as number
use Rattle.zk_events.specs.Raising.{raised, object, is_orig, with_fields}

-- The objects of an instance ---------------------------------------------------------------------------------------

-- objects, and the world in which they are
pub record Held : Type 0 where
  pub objects : Objects
  pub world : World

-- Four new objects. Each field that scripts added begins as in a constructor.
abbrev pub new_objects : Program → World → Held
new_objects program world =
    let id = fresh program number.conn_id [] world in
    let orig = fresh program number.endpoint [] id.world in
    let resp = fresh program number.endpoint [] orig.world in
    let connection = fresh program number.connection [] resp.world in
    record {
      objects = record { connection = connection.number; id = id.number; orig = orig.number; resp = resp.number };
      world = connection.world;
    }

-- those that the instance has, or new ones
abbrev pub objects_of : Program → Option Objects → World → Held
objects_of program None world = new_objects program world
objects_of program (Some objects) world = record { objects = objects; world = world }

-- all facts are written anew; fields that scripts added stay
abbrev pub with_facts : ConnNo → Facts → Objects → World → World
with_facts conn facts objects world =
    with_fields objects.connection 0 (connection_fields conn objects facts)
    (with_fields objects.resp 0 (end_fields facts.resp) (with_fields objects.orig 0 (end_fields facts.orig) (with_fields objects.id 0 (id_fields facts) world)))

-- Events -----------------------------------------------------------------------------------------------------------

-- the events of an item, of whose connection this is the object
abbrev pub what_raises : Program → ObjectNo → What → World → World
what_raises program c (what.Seen own caplen len) world =
    raised number.packet_seen (plain.Time own ∷ plain.Count caplen ∷ plain.Count len ∷ []) world
what_raises program c (what.Opened conn facts) world = raised number.new_connection (object c ∷ []) world
what_raises program c (what.Established conn facts) world = raised number.connection_established (object c ∷ []) world
what_raises program c (what.Gap conn facts side from length) world =
    raised number.content_gap (object c ∷ is_orig side ∷ plain.Count from ∷ plain.Count length ∷ []) world
what_raises program c (what.Http conn facts side part) world = unit_raises program c side part.what world
what_raises program c (what.Dns conn facts side len message) world = message_raises program c side len message world
what_raises program c (what.DnsBad conn facts side fault len) world = fault_raises c side fault world
what_raises program c (what.Ended conn facts side) world = raised number.connection_eof (object c ∷ is_orig side ∷ []) world
what_raises program c (what.GaveUp conn facts side) world = raised number.stream_gave_up (object c ∷ is_orig side ∷ []) world
what_raises program c (what.Reset conn facts) world = raised number.connection_reset (object c ∷ []) world
what_raises program c (what.Removed conn facts) world = raised number.connection_state_remove (object c ∷ []) world

-- Items ------------------------------------------------------------------------------------------------------------

-- the connection of an item, with its facts
pub record Subject : Type 0 where
  pub conn : ConnNo
  pub facts : Facts

abbrev pub subject : ConnNo → Facts → Subject
subject conn facts = record { conn = conn; facts = facts }

abbrev pub subject_of : What → Option Subject
subject_of (what.Seen own caplen len) = None
subject_of (what.Opened conn facts) = Some (subject conn facts)
subject_of (what.Established conn facts) = Some (subject conn facts)
subject_of (what.Gap conn facts side from length) = Some (subject conn facts)
subject_of (what.Http conn facts side part) = Some (subject conn facts)
subject_of (what.Dns conn facts side len message) = Some (subject conn facts)
subject_of (what.DnsBad conn facts side fault len) = Some (subject conn facts)
subject_of (what.Ended conn facts side) = Some (subject conn facts)
subject_of (what.GaveUp conn facts side) = Some (subject conn facts)
subject_of (what.Reset conn facts) = Some (subject conn facts)
subject_of (what.Removed conn facts) = Some (subject conn facts)

-- no object, for an item without a connection
abbrev pub no_object : ObjectNo
no_object = record { 0 = 0 }

abbrev pub renews_and_raises : Program → What → Subject → Held → World
renews_and_raises program one subject held =
    what_raises program held.objects.connection one (with_facts subject.conn subject.facts held.objects held.world)

abbrev pub raises_with : Program → Known → What → Option Subject → World → World
raises_with program known one None world = what_raises program no_object one world
raises_with program known one (Some subject) world =
    renews_and_raises program one subject (objects_of program (known subject.conn.0) world)

-- what an item does in a world, where these objects are known
abbrev pub raises : Program → Known → What → World → World
raises program known one world = raises_with program known one (subject_of one) world

-- the connection that an item removes
abbrev pub removal : What → Option ConnNo
removal (what.Removed conn facts) = Some conn
removal other = None

-- which objects are known behind an item that comes in a world
abbrev pub learned : Program → Known → World → Option Subject → Known
learned program known world None = known
learned program known world (Some subject) = knowing subject.conn.0 (objects_of program (known subject.conn.0) world).objects known

abbrev pub forgotten : Option ConnNo → Known → Known
forgotten None known = known
forgotten (Some conn) known = forgetting conn.0 known

abbrev pub known_after : Program → Known → What → World → Known
known_after program known one world = forgotten (removal one) (learned program known world (subject_of one))

-- an item as the run of a program takes it
abbrev pub turn_of : Program → Known → traffic.Item → Item
turn_of program known item = record { moment = item.moment; raises = raises program known item.what }
