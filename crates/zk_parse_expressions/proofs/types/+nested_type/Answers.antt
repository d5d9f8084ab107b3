use Rattle.std.proofs.Common.{arith}
use Rattle.zk_tree.specs.Rules.{AType}
use Rattle.zk_parse_core.proofs.Depth.{not_within, within_less}
use Rattle.zk_parse_expressions.proofs.types.+nested_type.Goals as goal

pub returns-then-depth-eq0 : goal.returns-then-depth-eq0
returns-then-depth-eq0 t c = not_within AType c.args.depth c.args.tokens.now (omega arith)

pub returns : goal.returns
returns t c = rw (within_less AType c.args.depth c.args.tokens.now (omega arith)) c.type_node.ensures
