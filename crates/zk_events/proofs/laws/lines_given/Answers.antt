use Rattle.zk_events.proofs.GivenLemmas.{given_begins}
use Rattle.zk_events.proofs.laws.lines_given.Goals as goal

pub returns : goal.returns
returns c = given_begins
