use Rattle.std.proofs.Common.{length, sym, ◌∙◌, arith}
use Rattle.std.proofs.lemmas.Bool.{eqb-false}
use Rattle.zk_reasm.proofs.ToldLemmas.{greatest-range-some}
use Rattle.zk_reasm.proofs.piece.Piece.last_end.Goals as goal

pub returns-else-is_empty : goal.returns-else-is_empty
returns-else-is_empty c =
    let some = eqb-false (length c.args.self.now.bytes.now) 0 (sym c.is_empty.ensures ∙ c.if-is_empty.false) in
    c.end.ensures ∙ sym (greatest-range-some c.args.self.now.at (length c.args.self.now.bytes.now) (omega (arith, some)))
