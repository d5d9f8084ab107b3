use Rattle.std.proofs.Common.{◌++◌, ◌∷◌, [], ◌≤◌, length, sym, subst}
use Rattle.zk_pcap.specs.Capture.{StandBetween}
use Rattle.zk_pcap.specs.Record.{record_by}
use Rattle.zk_pcap.specs.View.{packet_of}
use Rattle.zk_pcap.proofs.RecordLemmas.{stand_more}
use Rattle.zk_pcap.proofs.feed.records_end.Goals as goal

pub loop-record-preserved : goal.loop-record-preserved
loop-record-preserved g c =
    let read = record_by g.T.ByteOrder.number_of c.args.nano c.args.bytes.now in
    let before = c.loop-record.invariant.1 in (
      subst (λ n. n ≤ length c.args.bytes.now) (sym c.record_end-place.ensures) c.in-Some.ensures.within,
      (
        before.0 ++ packet_of c.in-Some.record ∷ [],
        subst (StandBetween read 0 (before.0 ++ packet_of c.in-Some.record ∷ [])) (sym c.record_end-place.ensures)
            (stand_more read 0 before.0 c.loop-record.place (packet_of c.in-Some.record) before.1 (sym c.in-Some.ensures.record)),
      ),
    )
