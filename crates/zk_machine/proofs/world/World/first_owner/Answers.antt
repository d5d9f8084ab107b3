use Rattle.std.proofs.Common.{⊎_elim}
use Rattle.std.proofs.lemmas.Bool.{cases_lt}
use Rattle.zk_machine.proofs.OwnerLemmas.{none_some}
use Rattle.zk_machine.proofs.world.World.first_owner.Goals as goal

pub returns-then-is_among : goal.returns-then-is_among
returns-then-is_among c = record {
  among = c.is_among.ensures c.if-is_among.true;
  names = c.in_ok-global.ensures.names;
  first = λ place other here later turn is above due. ⊎_elim
      (λ below. c.in_ok-global.ensures.first place other here later is above below)
      (λ past. absurd (none_some (c.expiring_end.ensures.dues later.0 past) due))
      (cases_lt later.0 c.expiring_end.result.0);
}
