-- The place in the file that a capture was refused at.
use Rattle.std.specs.Prelude.{ℕ}
use Rattle.zk_pcap.specs.declared.faults.CaptureFault.{CaptureFault}
use Rattle.zk_pcap.specs.declared.faults.CaptureFault.TheVariants.{Short, Magic, Version, Link, NoMemory}

abbrev pub place_of : CaptureFault → ℕ
place_of (Short place) = place
place_of Magic = 0
place_of Version = 4
place_of Link = 20
place_of NoMemory = 0
