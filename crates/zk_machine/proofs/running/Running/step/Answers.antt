use Rattle.std.proofs.Common.{sym, ap}
use Rattle.zk_lower.specs.Steps.{at_op}
use Rattle.zk_lower.specs.View.{code_of, op_of}
use Rattle.zk_machine.specs.Running.{held_of, machine_of}
use Rattle.zk_machine.specs.State.{state_of}
use Rattle.zk_machine.proofs.JoinedLemmas.{alone_after}
use Rattle.zk_machine.proofs.running.Running.step.Goals as goal

pub returns-in-Some-joined : goal.returns-in-Some-joined
returns-in-Some-joined c = c.in-Some-joined.ensures (sym c.in-Some.ensures)

pub returns-in-None-joined : goal.returns-in-None-joined
returns-in-None-joined c =
    alone_after _ _ (machine_of c.args.self.now) (machine_of c.joined.new.self) (op_of c.in-Some.op.now) (c.in-None-joined.ensures (sym c.in-Some.ensures)) (sym c.in-Some.ensures) c.operate.ensures

pub returns-in-None : goal.returns-in-None
returns-in-None c = record {
  more = 0;
  such = ap (at_op (code_of c.args.code.now) c.args.self.now.at (held_of c.args.self.now) (state_of c.args.self.now.state)) (sym c.in-None.ensures);
}
