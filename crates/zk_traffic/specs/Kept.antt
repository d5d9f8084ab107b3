-- How many bytes are held: those above the front of a live stream, and those below it that its reader leaves.
use Rattle.std.specs.Prelude.{ℕ, ◌+◌, Bool, if◌then◌else◌, List, [], sum_by, Option, Some, None}
use Rattle.zk_base.specs.declared.network.Side.{Side}
use Rattle.zk_base.specs.declared.network.Side.TheVariants.{Orig, Resp}
use Rattle.zk_base.specs.Captured.{Captured}
use Rattle.zk_base.specs.NetworkTime.{now}
use Rattle.zk_reasm.specs.Histories.{front_of, kept_of}
use Rattle.zk_traffic.specs.declared.options.Options.{Options}
use Rattle.zk_traffic.specs.Conversation.{Conversation, Direction, protocol_of, streams_of}
use Rattle.zk_traffic.specs.Instances.{Instance, live_at}
use Rattle.zk_traffic.specs.Segments.{segments}
use Rattle.zk_units.specs.Units.{bytes_unread}

-- the bytes that a stream holds of which all below the front was taken
abbrev pub held_by : ℕ → Option Direction → ℕ
held_by limit None = 0
held_by limit (Some d) = kept_of d.base limit d.told (front_of d.base limit d.told)

-- the bytes of a side below its front that are not read yet: of a message that isn't whole, or that wait for the other side
abbrev pub unread_in : ℕ → Conversation → Side → ℕ
unread_in limit c side = bytes_unread (protocol_of c) side (streams_of limit c.orig c.resp) c.«units»

abbrev pub held_in : ℕ → Conversation → ℕ
held_in limit c = held_by limit c.orig + held_by limit c.resp + (unread_in limit c Orig + unread_in limit c Resp)

abbrev pub one_if : Option Direction → ℕ
one_if None = 0
one_if (Some d) = 1

abbrev pub streams_in : Conversation → ℕ
streams_in c = one_if c.orig + one_if c.resp

abbrev pub held_in_all : ℕ → List Instance → ℕ
held_in_all limit instances = sum_by (λ i. held_in limit i.conversation) instances

-- the instances that are live behind some records: none behind the end
abbrev pub live_behind : Options → List Captured → Bool → List Instance
live_behind options records ended =
    if ended then [] else live_at options.buffer (segments options records) (now records)

-- the bytes that live streams hold, each connection's by its own segments
unfoldable pub bytes_held : Options → List Captured → Bool → ℕ
bytes_held options records ended = held_in_all options.buffer (live_behind options records ended)

-- the number of live streams
unfoldable pub live_streams : Options → List Captured → Bool → ℕ
live_streams options records ended = sum_by (λ i. streams_in i.conversation) (live_behind options records ended)
