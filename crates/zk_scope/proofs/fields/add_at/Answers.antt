use Rattle.std.proofs.Common.{arith}
use Rattle.zk_scope.proofs.FieldPlaceLaws.{hold_set}
use Rattle.zk_scope.proofs.fields.add_at.Goals as goal

pub returns : goal.returns
returns c = λ places names held.
    hold_set c.args.all.now.items c.args.number c.index_mut.result.now c.add_written.new.self c.args.place c.args.fields.now places names (omega arith) c.index_mut.ensures.value c.in_ok-add_written.ensures held
