use Rattle.std.proofs.Common.{sym, ap}
use Rattle.zk_lower.specs.Code.{types_in}
use Rattle.zk_lower.specs.View.{code_of}
use Rattle.zk_typed.specs.Does.{Gives}
use Rattle.zk_value.specs.Plain.{value_of}
use Rattle.zk_machine.specs.Rows.{row_meant}
use Rattle.zk_machine.specs.Running.{stream_in}
use Rattle.zk_machine.specs.State.{state_of}
use Rattle.zk_machine.proofs.OutLemmas.{row-told}
use Rattle.zk_machine.proofs.state.State.write_row.Goals as goal

pub returns : goal.returns
returns c = λ place.
    let state = state_of c.args.self.now in
    let types = types_in (code_of c.args.code.now) in
    let write = c.args.write.now in
    ap (λ world. Gives tt (record state { world = world }))
    (sym (row-told state.world c.args.self.now.world.out.items _ c.in_ok-row.row (row_meant types (stream_in write) c.args.filter.now (value_of write.row) state.world)
    c.in_ok-push_back.ensures.items (c.in_ok-row.ensures.row types c.leaves_of.ensures) c.in_ok-row.ensures.no_line))
