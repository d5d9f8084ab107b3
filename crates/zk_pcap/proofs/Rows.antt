-- Small captures, computed.
use Rattle.std.specs.Prelude.{◌≡◌, ℕ, List, [], ◌∷◌, ◌++◌, map, pos, Ok, Err, refl}
use Rattle.zk_base.specs.declared.capture.CaptureEnding.TheVariants.{Whole, Cut}
use Rattle.zk_base.specs.NetworkTime.{now}
use Rattle.zk_pcap.specs.declared.headers.Header.{Header}
use Rattle.zk_pcap.specs.declared.records.Packet.{Packet}
use Rattle.zk_pcap.specs.declared.faults.CaptureFault.TheVariants.{Short, Version, Link}
use Rattle.zk_pcap.specs.Header.{header_of}
use Rattle.zk_pcap.specs.Capture.{capture_of}
use Rattle.zk_pcap.specs.View.{recorded}

-- a header of little-endian numbers, microseconds and Ethernet
abbrev header_alone : List ℕ
header_alone = 212 ∷ 195 ∷ 178 ∷ 161 ∷ 2 ∷ 0 ∷ 4 ∷ 0 ∷ 0 ∷ 0 ∷ 0 ∷ 0 ∷ 0 ∷ 0 ∷ 0 ∷ 0 ∷ 0 ∷ 0 ∷ 4 ∷ 0 ∷ 1 ∷ 0 ∷ 0 ∷ 0 ∷ []

-- a file without bytes
pub empty_file : capture_of [] ≡ Err (Short 0)
empty_file = refl

pub no_packet : capture_of header_alone ≡ Ok (record { packets = []; ending = Whole })
no_packet = refl

-- a record of two bytes, and three bytes of a second one
abbrev one_and_three_bytes : List ℕ
one_and_three_bytes = header_alone ++ 1 ∷ 0 ∷ 0 ∷ 0 ∷ 0 ∷ 0 ∷ 0 ∷ 0 ∷ 2 ∷ 0 ∷ 0 ∷ 0 ∷ 2 ∷ 0 ∷ 0 ∷ 0 ∷ 255 ∷ 255 ∷ 2 ∷ 0 ∷ 0 ∷ []

pub cut_record : capture_of one_and_three_bytes ≡ Ok (record {
  packets = record { moment = record { 0 = pos 1000000 }; orig_len = 2; bytes = 255 ∷ 255 ∷ []; place = 24 } ∷ [];
  ending = Cut 42;
})
cut_record = refl

-- a packet at 5 s and one at 3 s
abbrev time_falls : List Packet
time_falls =
    record { moment = record { 0 = pos 5000000 }; orig_len = 0; bytes = []; place = 24 }
    ∷ record { moment = record { 0 = pos 3000000 }; orig_len = 0; bytes = []; place = 40 } ∷ []

pub falling : capture_of (header_alone ++ 5 ∷ 0 ∷ 0 ∷ 0 ∷ 0 ∷ 0 ∷ 0 ∷ 0 ∷ 0 ∷ 0 ∷ 0 ∷ 0 ∷ 0 ∷ 0 ∷ 0 ∷ 0 ∷ 3 ∷ 0 ∷ 0 ∷ 0 ∷ 0 ∷ 0 ∷ 0 ∷ 0 ∷ 0 ∷ 0 ∷ 0 ∷ 0 ∷ 0 ∷ 0 ∷ 0 ∷ 0 ∷ [])
    ≡ Ok (record { packets = time_falls; ending = Whole })
falling = refl

-- network time stays at the greater moment
pub not_falling : (header : Header) → now (map (recorded header) time_falls) ≡ record { 0 = pos 5000000 }
not_falling header = refl

-- big-endian numbers and nanoseconds, which are floored
big_nanoseconds : capture_of (161 ∷ 178 ∷ 60 ∷ 77 ∷ 0 ∷ 2 ∷ 0 ∷ 4 ∷ 0 ∷ 0 ∷ 0 ∷ 0 ∷ 0 ∷ 0 ∷ 0 ∷ 0 ∷ 0 ∷ 4 ∷ 0 ∷ 0 ∷ 0 ∷ 0 ∷ 0 ∷ 1 ∷ 0 ∷ 0 ∷ 0 ∷ 1 ∷ 59 ∷ 154 ∷ 201 ∷ 255 ∷ 0 ∷ 0 ∷ 0 ∷ 0 ∷ 0 ∷ 0 ∷ 0 ∷ 60 ∷ [])
    ≡ Ok (record {
      packets = record { moment = record { 0 = pos 1999999 }; orig_len = 60; bytes = []; place = 24 } ∷ [];
      ending = Whole;
    })
big_nanoseconds = refl

-- raw IP with bits above the low 16 of its field, and a fraction of one second and a half
raw_ip : capture_of (212 ∷ 195 ∷ 178 ∷ 161 ∷ 2 ∷ 0 ∷ 4 ∷ 0 ∷ 0 ∷ 0 ∷ 0 ∷ 0 ∷ 0 ∷ 0 ∷ 0 ∷ 0 ∷ 0 ∷ 0 ∷ 4 ∷ 0 ∷ 101 ∷ 0 ∷ 0 ∷ 16 ∷ 1 ∷ 0 ∷ 0 ∷ 0 ∷ 96 ∷ 227 ∷ 22 ∷ 0 ∷ 0 ∷ 0 ∷ 0 ∷ 0 ∷ 60 ∷ 0 ∷ 0 ∷ 0 ∷ [])
    ≡ Ok (record {
      packets = record { moment = record { 0 = pos 2500000 }; orig_len = 60; bytes = []; place = 24 } ∷ [];
      ending = Whole;
    })
raw_ip = refl

-- another link type
linux_cooked : header_of (212 ∷ 195 ∷ 178 ∷ 161 ∷ 2 ∷ 0 ∷ 4 ∷ 0 ∷ 0 ∷ 0 ∷ 0 ∷ 0 ∷ 0 ∷ 0 ∷ 0 ∷ 0 ∷ 0 ∷ 0 ∷ 4 ∷ 0 ∷ 113 ∷ 0 ∷ 0 ∷ 0 ∷ []) ≡ Err Link
linux_cooked = refl

-- the version is judged before the length
old_and_short : header_of (212 ∷ 195 ∷ 178 ∷ 161 ∷ 2 ∷ 0 ∷ 3 ∷ 0 ∷ []) ≡ Err Version
old_and_short = refl
