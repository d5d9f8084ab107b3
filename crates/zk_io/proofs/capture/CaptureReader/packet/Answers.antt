use Rattle.std.proofs.Common.{subst}
use Rattle.zk_pcap.specs.Capture.{end_from}
use Rattle.zk_pcap.specs.Standing.{IsNext}
use Rattle.zk_io.proofs.CaptureReading.{captured_next, lent_next}
use Rattle.zk_io.proofs.capture.CaptureReader.packet.Goals as goal

pub returns-clause-record : goal.returns-clause-record
returns-clause-record c whole bytes records now is =
    lent_next whole bytes records c.args.self.now now c.in-Packet.packet is
    (subst (IsNext is.header bytes (end_from 24 is.packets)) c.in-Packet.is (c.next.ensures.next is.header bytes is.packets is.behind.stands))

pub returns-clause-captured : goal.returns-clause-captured
returns-clause-captured c whole bytes records now is =
    captured_next bytes c.args.self.now c.in-Packet.packet (returns-clause-record c whole bytes records now is)
