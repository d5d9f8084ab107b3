use Rattle.std.proofs.Common.{◌≡◌, [], take}
use Rattle.zk_http.specs.Bodies.{elements_of, last_element}
use Rattle.zk_http.proofs.body.last_of.Given as goal

abbrev pub invariant-loop-header : goal.invariant-loop-header
invariant-loop-header l = l.last ≡ last_element [] (elements_of l.name (take l.header-index l.headers))
