use Rattle.std.proofs.Common.{refl}
use Rattle.zk_io.proofs.CaptureReading.{behind_packet, next_packet}
use Rattle.zk_io.proofs.capture.CaptureReader.advance.Goals as goal

pub returns-clause-goes_on : goal.returns-clause-goes_on
returns-clause-goes_on c whole bytes records next now is at =
    let (packet, here, joined) = next_packet whole bytes records next c.args.self.now now is at in
    record {
      header = is.header;
      packets = _;
      behind = behind_packet whole is.header bytes is.packets packet c.args.self.now _ now is.behind
          (c.advance.ensures is.header bytes is.packets packet is.behind.stands here) refl refl refl c.saturating_add-self.ensures;
      are = joined;
    }
