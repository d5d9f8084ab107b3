use Rattle.zk_http.proofs.ElementLaws.{cut_at, cut_none}
use Rattle.zk_http.proofs.body.first_element.Goals as goal

pub returns-in-Some-clause-elements : goal.returns-in-Some-clause-elements
returns-in-Some-clause-elements c = cut_at c.args.value.now c.trim.result.now c.in-Some.at c.in-Some.ensures.0 c.in-Some.ensures.1 c.trim.ensures

pub returns-in-None-clause-elements : goal.returns-in-None-clause-elements
returns-in-None-clause-elements c = cut_none c.args.value.now c.trim-in-None.result.now c.in-None.ensures c.trim-in-None.ensures
