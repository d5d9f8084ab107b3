use Rattle.std.proofs.Common.{refl, arith}
use Rattle.zk_conn.proofs.RemovalLemmas.{tree_longer}
use Rattle.zk_conn.proofs.removals.Removals.make_room.Goals as goal

pub returns-in_err-lengthen-clause-index : goal.returns-in_err-lengthen-clause-index
returns-in_err-lengthen-clause-index c = tree_longer _ _ _ _ c.lengthen.ensures.same (λ slot. refl) (omega arith)

pub returns-clause-index : goal.returns-clause-index
returns-clause-index c = tree_longer _ _ _ _ c.lengthen.ensures.same c.lengthen-2.ensures.same c.lengthen-2.ensures.kept
