use Rattle.std.proofs.Common.{◌-◌, List, Option}
use Rattle.zk_http.specs.Places.{Both, Stream}
use Rattle.zk_units.specs.declared.protocol.Protocol.{Protocol}
use Rattle.zk_units.specs.declared.stream_unit.StreamUnit.{StreamUnit}
use Rattle.zk_units.specs.Standing.{StandsFor}
use Rattle.zk_units.specs.Units.{many}
use Rattle.zk_units.proofs.ReaderLemmas.{IsReading}
use Rattle.zk_units.proofs.readers.Readers.read.Given as goal

abbrev pub invariant-loop : goal.invariant-loop
invariant-loop l = (protocol : Option Protocol) (streams : Both Stream) (given : Both (List StreamUnit)) → StandsFor l.initial.self protocol streams given
    → IsReading l.initial.side l.side l.initial.self l.self l.initial.«units».items l.«units».items many (many - l.counter) protocol streams given
