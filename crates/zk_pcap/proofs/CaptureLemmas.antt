-- The capture that a file is, by the packets that stand in it.
use Rattle.std.proofs.Common.{◌≡◌, ℕ, zero, suc, ◌+◌, ◌*◌, ◌/◌, ◌<◌, ◌≤◌, ◌^◌, Bool, true, false, nat_le, if◌then◌else◌, List, [], ◌∷◌, length, map, take, drop, slice_index, Some, None, Result, Ok, Err, refl, sym, ap, subst, ◌∙◌, arith}
use Rattle.std.specs.List.{All}
use Rattle.std.proofs.lemmas.Bool.{and_parts, leb-true}
use Rattle.std.proofs.lemmas.Bool.Decides.{nat_tests}
use Rattle.std.proofs.lemmas.List.{get_or-drop, length-take}
use Rattle.std.proofs.lemmas.Option.{cond_some}
use Rattle.std.proofs.lemmas.List.Elements.{All-map, All-weaker}
use Rattle.byteorder.specs.Numbers.{big_from-lt, little_from-lt}
use Rattle.zk_base.specs.Captured.{IsBounded}
use Rattle.zk_base.specs.NetworkTime.{HasNetworkTime}
use Rattle.zk_base.proofs.TimeLemmas.{has_network_time}
use Rattle.zk_pcap.specs.declared.headers.Header.{Header}
use Rattle.zk_pcap.specs.declared.records.Packet.{Packet}
use Rattle.zk_pcap.specs.declared.captures.Capture.{Capture}
use Rattle.zk_pcap.specs.declared.faults.CaptureFault.{CaptureFault}
use Rattle.zk_pcap.specs.Header.{number_of, header_of, counted}
use Rattle.zk_pcap.specs.Record.{record_by, record_at, end_of, IsWithinLimits}
use Rattle.zk_pcap.specs.View.{recorded}
use Rattle.zk_pcap.specs.Capture.{packets_from, end_from, ending_at, capture_after, capture_of, StandBetween, HasPackets, IsRead, IsAlone}
use Rattle.zk_pcap.proofs.RecordLemmas.{packets_from-stand, packets_from-stands, packets_from-no_more, end_from-stand, stand_alone, length-stand, all-stand}

-- a record ends at a later place than it begins at
record_by-later : (number : ℕ → List ℕ → ℕ) (nano : Bool) (bytes : List ℕ) (place : ℕ) (p : Packet)
    → record_by number nano bytes place ≡ Some p → place < end_of p
record_by-later number nano bytes place p here =
    let found = cond_some _ _ _ here in
    let same : place ≡ p.place = ap (λ (q : Packet). q.place) found.1 in
    omega arith

-- the first bytes are bytes
pub bytes-take : (n : ℕ) (bytes : List ℕ) → ((k : ℕ) → slice_index bytes k < 256) → (k : ℕ) → slice_index (take n bytes) k < 256
bytes-take zero bytes small k = omega arith
bytes-take (suc n) [] small k = omega arith
bytes-take (suc n) (b ∷ bytes) small zero = small 0
bytes-take (suc n) (b ∷ bytes) small (suc k) = bytes-take n bytes (λ i. small (suc i)) k

-- a number of four bytes is below 2 ^ 32
number_of-lt : (big : Bool) (i : ℕ) (bytes : List ℕ) → ((k : ℕ) → slice_index bytes k < 256) → number_of big 4 (drop i bytes) < 2 ^ 32
number_of-lt true i bytes small = big_from-lt 0 4 (drop i bytes) (λ k. rw get_or-drop (small (i + k)))
number_of-lt false i bytes small = little_from-lt 0 4 (drop i bytes) (λ k. rw get_or-drop (small (i + k)))

-- two values that both were answered are the same
ok_same : {x y : Header} → ◌≡◌ {A = Result Header CaptureFault} (Ok x) (Ok y) → x ≡ y
ok_same e = cc

-- at most n elements are taken
length-take-bound : (n : ℕ) (bytes : List ℕ) → length (take n bytes) ≤ n
length-take-bound n bytes = omega (arith, length-take n bytes)

-- a fraction of a second, in microseconds
fraction-le : (nano : Bool) (fraction : ℕ) → (if nano then fraction / 1000 else fraction) ≤ fraction
fraction-le true fraction = omega arith
fraction-le false fraction = omega arith

-- what holds of a packet of a file
record_at-within : (header : Header) (bytes : List ℕ) → ((k : ℕ) → slice_index bytes k < 256) → length bytes ≤ 2 ^ 40
    → (place : ℕ) (p : Packet) → record_at header bytes place ≡ Some p → IsWithinLimits p
record_at-within header bytes small counted place p here =
    let seconds = number_of header.big 4 (drop place bytes) in
    let fraction = number_of header.big 4 (drop (place + 4) bytes) in
    let captured = number_of header.big 4 (drop (place + 8) bytes) in
    let found = cond_some _ _ _ here in
    let tests = and_parts (nat_le (place + 16 + captured) (length bytes)) (nat_le captured 262144) found.0 in
    let whole = leb-true (place + 16 + captured) (length bytes) tests.0 in
    let limit = leb-true captured 262144 tests.1 in
    let second_fits = number_of-lt header.big place bytes small in
    let fraction_fits = number_of-lt header.big (place + 4) bytes small in
    let microseconds = fraction-le header.nano fraction in
    let fits : seconds * 1000000 + (if header.nano then fraction / 1000 else fraction) < 2 ^ 62 = omega arith in
    let length-captured : length (take captured (drop (place + 16) bytes)) ≤ 262144 = omega (arith, length-take-bound captured (drop (place + 16) bytes)) in
    subst IsWithinLimits found.1 (record {
      moment = (seconds * 1000000 + (if header.nano then fraction / 1000 else fraction), fits, refl);
      captured = length-captured;
      place = omega arith;
    })

-- a file with this header is this capture
pub capture_after-stand : (bytes : List ℕ) (header : Header) (packets : List Packet) (place : ℕ)
    → header_of bytes ≡ Ok header → StandBetween (record_at header bytes) 24 packets place → record_at header bytes place ≡ None
    → place ≤ length bytes → Ok (record { packets = packets; ending = ending_at bytes place }) ≡ capture_after (header_of bytes) bytes
capture_after-stand bytes header packets place opens stand no_more inside =
    let enough = length-stand (record_at header bytes) (record_by-later (number_of header.big) header.nano bytes) 24 packets place stand in
    let all = packets_from-stand (length bytes) (record_at header bytes) 24 packets place stand no_more (omega arith) in
    let end = end_from-stand (record_at header bytes) 24 packets place stand in
    rw (opens, all, end) refl

-- it has no other packets
pub packets-alone : (bytes : List ℕ) (header : Header) (packets : List Packet) (place : ℕ) → HasPackets bytes header packets place
    → IsAlone bytes (record { packets = packets; ending = ending_at bytes place })
packets-alone bytes header packets place has other others end has_others =
    let same : header ≡ other = ok_same (sym has.opens ∙ has_others.opens) in
    let stand = subst (λ (h : Header). StandBetween (record_at h bytes) 24 packets place) same has.records in
    let no_more = subst (λ (h : Header). record_at h bytes place ≡ None) same has.no_more in
    let packets_same = stand_alone (record_at other bytes) 24 packets others place end stand no_more has_others.records has_others.no_more in
    let place_same = sym (end_from-stand (record_at other bytes) 24 packets place stand) ∙ ap (end_from 24) packets_same
    ∙ end_from-stand (record_at other bytes) 24 others end has_others.records in
    (packets_same, ap (ending_at bytes) place_same)

-- its packets are within the limits
pub packets-within : (bytes : List ℕ) (header : Header) (packets : List Packet) (place : ℕ)
    → ((k : ℕ) → slice_index bytes k < 256) → length bytes ≤ 2 ^ 40 → StandBetween (record_at header bytes) 24 packets place
    → All IsWithinLimits packets
packets-within bytes header packets place small counted stand =
    all-stand IsWithinLimits (record_at header bytes) (record_at-within header bytes small counted) 24 packets place stand

-- what is captured of a packet of a file is bounded, under whatever header
recorded_bounded : (header : Header) (packet : Packet) → IsWithinLimits packet → IsBounded (recorded header packet)
recorded_bounded header packet within = record { moment = within.moment; captured = within.captured }

-- so network time is the greatest moment so far
pub recorded_time : (header : Header) (packets : List Packet) → All IsWithinLimits packets → HasNetworkTime (map (recorded header) packets)
recorded_time header packets within =
    has_network_time (map (recorded header) packets) (All-map IsBounded (recorded header) packets
    (All-weaker IsWithinLimits (λ (p : Packet). IsBounded (recorded header p)) (recorded_bounded header) packets within))

-- no record begins behind the bytes
record_by-past : (number : ℕ → List ℕ → ℕ) (nano : Bool) (bytes : List ℕ) (place : ℕ) → length bytes ≤ place → record_by number nano bytes place ≡ None
record_by-past number nano bytes place past =
    let far : nat_le (place + 16 + number 4 (drop (place + 8) bytes)) (length bytes) ≡ false = grind (arith, nat_tests) in
    rw far refl

-- the capture that the definition gives for a file with this header is what the file has
capture_after-read : (bytes : List ℕ) (header : Header) (capture : Capture) → header_of bytes ≡ Ok header → capture_after (Ok header) bytes ≡ Ok capture
    → IsRead bytes capture × IsAlone bytes capture
capture_after-read bytes header capture opens is =
    let read = record_at header bytes in
    let packets = packets_from (length bytes) read 24 in
    let place = end_from 24 packets in
    let has : HasPackets bytes header packets place = record {
      opens = opens;
      records = packets_from-stands (length bytes) read 24;
      no_more = packets_from-no_more (length bytes) read (record_by-later (number_of header.big) header.nano bytes) (length bytes)
          (record_by-past (number_of header.big) header.nano bytes) 24 (omega arith);
    } in
    let same : record { packets = packets; ending = ending_at bytes place } ≡ capture = cc in
    (subst (IsRead bytes) same (header, place, has, refl), subst (IsAlone bytes) same (packets-alone bytes header packets place has))

-- a capture of the definition is what its file has, and nothing else
pub capture_of-read : (bytes : List ℕ) (capture : Capture) → capture_of bytes ≡ Ok capture → IsRead (counted bytes) capture × IsAlone (counted bytes) capture
capture_of-read bytes capture =
    elim (header_of (counted bytes)) as (λ found. header_of (counted bytes) ≡ found → capture_after found (counted bytes) ≡ Ok capture
    → IsRead (counted bytes) capture × IsAlone (counted bytes) capture) [
      | Err fault ↦ λ opens is. absurd cc
      | Ok header ↦ λ opens is. capture_after-read (counted bytes) header capture opens is
    ] refl
