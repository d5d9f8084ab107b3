-- What the bytes of a file are as a capture, and how a run over it ends.
use Rattle.std.specs.Prelude.{ℕ, List, map, Option, Some, None, Result, Ok, Err}
use Rattle.zk_base.specs.declared.endings.Ending.{Ending}
use Rattle.zk_base.specs.declared.endings.Ending.TheVariants.{Done, NoInput, CaptureRefused, CutShort}
use Rattle.zk_base.specs.Captured.{Captured}
use Rattle.zk_base.specs.declared.capture.CaptureEnding.{CaptureEnding}
use Rattle.zk_base.specs.declared.capture.CaptureEnding.TheVariants.{Whole, Cut}
use Rattle.zk_pcap.specs.declared.captures.Capture.{Capture}
use Rattle.zk_pcap.specs.declared.faults.CaptureFault.{CaptureFault}
use Rattle.zk_pcap.specs.declared.headers.Header.{Header}
use Rattle.zk_pcap.specs.CaptureFault.{place_of}
use Rattle.zk_pcap.specs.Header.{header_of}
use Rattle.zk_pcap.specs.Capture.{capture_of}
use Rattle.zk_pcap.specs.View.{recorded}
use Rattle.zk_outcome.specs.declared.found.Found.{Found}
use Rattle.zk_outcome.specs.declared.found.Found.TheVariants.{Accepted, Refused}

-- The packets that were captured in a file, each with its link type, and how the file ends.
pub record Recording : Type 0 where
  pub records : List Captured
  pub ending : CaptureEnding

-- those of a capture with this header, whose link type is that of each of its packets
abbrev pub recording_under : Header → Capture → Recording
recording_under header capture = record { records = map (recorded header) capture.packets; ending = capture.ending }

abbrev pub recording_after : Result Header CaptureFault → Result Capture CaptureFault → Result Recording CaptureFault
recording_after header (Err fault) = Err fault
recording_after (Err fault) (Ok capture) = Err fault
recording_after (Ok header) (Ok capture) = Ok (recording_under header capture)

-- what was captured in a file with these bytes, or what is wrong with its header
abbrev pub recording_of : List ℕ → Result Recording CaptureFault
recording_of bytes = recording_after (header_of bytes) (capture_of bytes)

-- what was captured in a file, or how a run ends for the fault in it
abbrev pub judged : List ℕ → Result Recording CaptureFault → Found Recording
judged file (Err fault) = Refused (CaptureRefused file (place_of fault))
judged file (Ok recording) = Accepted recording

-- what was captured in a file with these bytes, or how a run ends where there is no capture
abbrev pub opened : List ℕ → Option (List ℕ) → Found Recording
opened file None = Refused (NoInput file)
opened file (Some bytes) = judged file (recording_of bytes)

-- how a run ends behind the whole records of a capture
abbrev pub end_of_capture : List ℕ → CaptureEnding → Ending
end_of_capture file Whole = Done
end_of_capture file (Cut place) = CutShort file place
