use Rattle.std.proofs.Common.{◌≡◌, true, take}
use Rattle.std.specs.Prelude.{codes}
use Rattle.std.specs.List.{list_all}
use Rattle.zk_http.specs.Bodies.{elements_of, has_length}
use Rattle.zk_http.proofs.body.are_length.Given as goal

abbrev pub invariant-loop-header : goal.invariant-loop-header
invariant-loop-header l = list_all (has_length l.number) (elements_of (codes "Content-Length") (take l.header-index l.headers)) ≡ true
