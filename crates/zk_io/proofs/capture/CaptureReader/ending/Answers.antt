use Rattle.zk_io.proofs.CaptureReading.{ends_cut, ends_whole}
use Rattle.zk_io.proofs.capture.CaptureReader.ending.Goals as goal

pub returns-in-Some : goal.returns-in-Some
returns-in-Some c whole bytes records now is through =
    ends_cut whole bytes records c.args.self.now now c.in-Some.place is through (c.in-Some.ensures is.header bytes is.packets is.behind.stands)

pub returns-in-None : goal.returns-in-None
returns-in-None c whole bytes records now is through =
    ends_whole whole bytes records c.args.self.now now is through (c.in-None.ensures is.header bytes is.packets is.behind.stands)
