use Rattle.std.proofs.Common.{refl}
use Rattle.zk_machine.specs.Standing.{nothing}
use Rattle.zk_top.proofs.player.Player.new.Goals as goal

pub returns-clause-plays : goal.returns-clause-plays
returns-clause-plays c first program now is taken = record {
  told = nothing;
  gives = record { engine = c.in_ok-new.ensures program (rw c.into_inner.ensures is); given = taken };
  all = refl;
}
