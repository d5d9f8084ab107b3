use Rattle.zk_lower.specs.Code.{types_in}
use Rattle.zk_lower.specs.View.{code_of}
use Rattle.zk_machine.specs.Reports.{report_meant}
use Rattle.zk_machine.specs.State.{world_of}
use Rattle.zk_machine.proofs.OutLemmas.{row-told}
use Rattle.zk_machine.proofs.world.World.report.Goals as goal

pub returns : goal.returns
returns c =
    let world = world_of c.args.self.now in
    row-told world c.args.self.now.out.items _ c.in_ok-row.row (report_meant (types_in (code_of c.args.code.now)) c.args.message.now c.args.place world.time)
    c.in_ok-push_back.ensures.items c.in_ok-row.ensures.row c.in_ok-row.ensures.no_line
