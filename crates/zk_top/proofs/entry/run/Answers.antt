use Rattle.zk_top.proofs.EntryLemmas.{is_done, within_of_done, within_of_broken}
use Rattle.zk_top.proofs.entry.run.Goals as goal

pub returns-in-Ok-clause-done : goal.returns-in-Ok-clause-done
returns-in-Ok-clause-done g c = λ inputs told whole.
    is_done c.args.words.now inputs (g.S.Shelf.outside c.args.shelf.now) c.in-Ok.ending (g.S.Shelf.outside c.attempt.new.shelf) told c.in-Ok.ensures.done

pub returns-in-Ok-clause-within : goal.returns-in-Ok-clause-within
returns-in-Ok-clause-within g c = λ inputs told.
    within_of_done c.args.words.now inputs (g.S.Shelf.outside c.args.shelf.now) c.in-Ok.ending (g.S.Shelf.outside c.attempt.new.shelf) told c.in-Ok.ensures.done

pub returns-in-Ok-clause-usage : goal.returns-in-Ok-clause-usage
returns-in-Ok-clause-usage g c = λ word whole. c.in-Ok.ensures.usage word

pub returns-in-Err-clause-within : goal.returns-in-Err-clause-within
returns-in-Err-clause-within g c = λ inputs told.
    within_of_broken c.args.words.now inputs (g.S.Shelf.outside c.args.shelf.now) c.in-Err.stop (g.S.Shelf.outside c.attempt.new.shelf) told c.in-Err.ensures.stopped
