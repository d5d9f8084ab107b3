use Rattle.std.proofs.Common.{map, ap, ◌∙◌}
use Rattle.zk_typed.specs.View.{type_of}
use Rattle.zk_check_expressions.proofs.MemberLaws.{simple_are}
use Rattle.zk_check_expressions.proofs.rows.simple_types.Goals as goal

pub returns : goal.returns
returns c = ap (map type_of) c.in_ok-types.ensures ∙ simple_are c.args.simple.now
