use Rattle.std.proofs.Common.{sym, ◌∙◌, arith}
use Rattle.zk_conn.specs.declared.history.Letter.TheVariants.{Syn}
use Rattle.zk_conn.specs.History.{all_letters}
use Rattle.zk_conn.proofs.HistoryLemmas.{noted_yes, noted_no}
use Rattle.zk_conn.proofs.history.History.note.Goals as goal
use Rattle.zk_conn.proofs.history.History.note.Goals.{then-shown_by, else-shown_by}

pub loop-letter-preserved : goal.loop-letter-preserved
loop-letter-preserved c =
    elim c.if-shown_by.branch [
      | then-shown_by w ↦ w.self-is ∙ w.add.ensures
          ∙ noted_yes c.args.side c.args.p.now c.args.self.now all_letters c.loop-letter.letter-index Syn c.loop-letter.self w.code.result (omega arith)
          (sym c.shown_by.ensures ∙ w.if-shown_by.true) c.loop-letter.invariant w.code.ensures
      | else-shown_by w ↦ w.self-is
          ∙ noted_no c.args.side c.args.p.now c.args.self.now all_letters c.loop-letter.letter-index Syn c.loop-letter.self (omega arith)
          (sym c.shown_by.ensures ∙ w.if-shown_by.false) c.loop-letter.invariant
    ]
