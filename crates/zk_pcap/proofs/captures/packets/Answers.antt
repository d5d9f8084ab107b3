use Rattle.std.proofs.Common.{ℕ, ◌<◌, ◌≤◌, ◌^◌, length, slice_index, sym, arith}
use Rattle.std.proofs.lemmas.List.{length-take}
use Rattle.zk_pcap.proofs.CaptureLemmas.{capture_after-stand, capture_of-read, packets-within, recorded_time, bytes-take}
use Rattle.zk_pcap.proofs.captures.packets.Goals as goal

pub returns-clause-exact : goal.returns-clause-exact
returns-clause-exact c =
    let e = capture_after-stand c.first_bytes-file.result.now c.in_ok-header.header c.in_ok-packets.packets.items c.in_ok-packets.place
    (sym c.in_ok-header.ensures.exact) c.in_ok-packets.ensures.stand c.in_ok-packets.ensures.no_more c.in_ok-packets.ensures.within in
    rw (c.from.ensures, c.ending_at.ensures, ← c.first_bytes-file.ensures) e

pub returns-clause-read : goal.returns-clause-read
returns-clause-read c = capture_of-read c.args.bytes.now

pub returns-clause-limits : goal.returns-clause-limits
returns-clause-limits c =
    let short : length c.first_bytes-file.result.now ≤ 2 ^ 40 = rw c.first_bytes-file.ensures (omega (arith, length-take (2 ^ 40) c.args.bytes.now)) in
    let small : (k : ℕ) → slice_index c.first_bytes-file.result.now k < 256 = rw c.first_bytes-file.ensures (bytes-take (2 ^ 40) c.args.bytes.now (λ i. omega (arith, c.type_inv.bytes i))) in
    rw c.from.ensures (packets-within c.first_bytes-file.result.now c.in_ok-header.header c.in_ok-packets.packets.items c.in_ok-packets.place
    small short c.in_ok-packets.ensures.stand)

pub returns-clause-time : goal.returns-clause-time
returns-clause-time c header = recorded_time header c.from.result (returns-clause-limits c)

pub returns-in_err-packets-clause-read : goal.returns-in_err-packets-clause-read
returns-in_err-packets-clause-read c = capture_of-read c.args.bytes.now
