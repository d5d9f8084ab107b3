use Rattle.std.proofs.Common.{None}
use Rattle.zk_base.specs.Sides.{other}
use Rattle.zk_units.proofs.ReaderLemmas.{both_second, turn_silent}
use Rattle.zk_units.proofs.readers.Readers.next_of_both.Goals as goal

pub returns-in-Silent : goal.returns-in-Silent
returns-in-Silent c = λ protocol streams units stands.
    let readers = c.args.self.now in
    both_second c.args.side readers readers readers None protocol streams units
    (turn_silent c.args.side readers readers c.in-Silent.is c.in-Silent.is protocol streams units stands)
    (turn_silent (other c.args.side) readers readers c.in-Silent.is c.in-Silent.is protocol streams units stands)
