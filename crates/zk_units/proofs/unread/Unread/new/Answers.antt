use Rattle.std.proofs.Common.{refl, ap, ◌∙◌}
use Rattle.zk_units.specs.Cuts.{byte_places}
use Rattle.zk_units.proofs.UnreadLemmas.{places-uncut}
use Rattle.zk_units.proofs.unread.Unread.new.Goals as goal

pub returns-clause-places : goal.returns-clause-places
returns-clause-places c = places-uncut _ refl ∙ ap byte_places c.new.ensures
