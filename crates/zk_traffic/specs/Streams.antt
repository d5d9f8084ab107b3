-- The streams of a connection's sides.
use Rattle.std.specs.Prelude.{ℕ, Option, None, Some}
use Rattle.zk_reasm.specs.declared.stream.Stream.{Stream}
use Rattle.zk_reasm.specs.Histories.{front_of}
use Rattle.zk_reasm.specs.Standing as stream
use Rattle.zk_traffic.specs.declared.streams.Streams.{Streams}
use Rattle.zk_traffic.specs.Conversation.{Direction}

-- a side's stream, of which all below the front was taken
abbrev pub IsStream : ℕ → Option Stream → Option Direction → Type 0
IsStream limit None None = Unit {0}
IsStream limit (Some s) (Some d) = stream.StandsFor s d.base limit d.told (front_of d.base limit d.told)
IsStream limit None (Some d) = ⊥
IsStream limit (Some s) None = ⊥

pub record AreStreams (limit : ℕ) (streams : Streams) (orig resp : Option Direction) : Type 0 where
  pub orig_is : IsStream limit streams.orig orig
  pub resp_is : IsStream limit streams.resp resp
