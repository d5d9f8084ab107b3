use Rattle.std.proofs.Common.{◌≡◌, [], take}
use Rattle.std.specs.Prelude.{codes}
use Rattle.zk_http.specs.Bodies.{elements_of}
use Rattle.zk_http.proofs.body.first_length.Given as goal

abbrev pub invariant-loop-header : goal.invariant-loop-header
invariant-loop-header l = elements_of (codes "Content-Length") (take l.header-index l.headers) ≡ []
