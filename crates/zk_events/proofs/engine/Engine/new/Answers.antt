use Rattle.std.proofs.Common.{refl, sym, ap}
use Rattle.zk_typed.specs.Running.{Goes, no_values}
use Rattle.zk_typed.specs.State.{first_world}
use Rattle.zk_events.proofs.engine.Engine.new.Goals as goal

pub returns : goal.returns
returns c = λ program code. record {
  works = refl;
  budget_is = refl;
  is_at = record {
    flows = record {
      world = first_world (no_values program);
      comes = ap (Goes (first_world (no_values program))) (sym c.dispatches_max-left.ensures);
      stands = c.in_ok-machine.ensures program code;
    };
    known = c.new-connections.ensures;
  };
}
