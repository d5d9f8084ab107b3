use Rattle.zk_http.proofs.StandingLaws.{look_within, stand_as_they_grow}
use Rattle.zk_http.proofs.UnreadLaws.{use_what_is_read}
use Rattle.zk_http.proofs.laws.readers_stand.Goals as goal

pub returns-clause-grows : goal.returns-clause-grows
returns-clause-grows c = stand_as_they_grow

pub returns-clause-within : goal.returns-clause-within
returns-clause-within c = look_within

pub returns-clause-uses : goal.returns-clause-uses
returns-clause-uses c = use_what_is_read
