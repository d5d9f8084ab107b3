use Rattle.std.proofs.Common.{◌≡◌, Bool, true, sym, subst, arith}
use Rattle.std.specs.Prelude.{slice_set}
use Rattle.zk_table.specs.Dues.{is_watched}
use Rattle.zk_table.proofs.DueLemmas.{watched-other, watched-past, watched-same, watched-set}
use Rattle.zk_table.proofs.watched.mark.Goals as goal

pub returns-then-number-unwatched-clause-others : goal.returns-then-number-unwatched-clause-others
returns-then-number-unwatched-clause-others c = λ other apart. watched-other c.args.unwatched.now c.args.number other c.args.mark apart

pub returns-then-number-unwatched-clause-clear : goal.returns-then-number-unwatched-clause-clear
returns-then-number-unwatched-clause-clear c = λ is.
    subst (λ (mark : Bool). is_watched (slice_set c.args.unwatched.now c.args.number mark) c.args.number ≡ true) (sym is) (watched-same c.args.unwatched.now c.args.number)

pub returns-then-number-unwatched-clause-set : goal.returns-then-number-unwatched-clause-set
returns-then-number-unwatched-clause-set c = λ within. watched-set c.args.unwatched.now c.args.number c.args.mark within

-- there is no room for the mark
pub returns-else-number-unwatched-clause-clear : goal.returns-else-number-unwatched-clause-clear
returns-else-number-unwatched-clause-clear c = λ is. watched-past c.args.unwatched.now c.args.number (omega (arith, c.if-number-unwatched.false))
