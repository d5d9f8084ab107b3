-- What stops a run, and how it ends then.
use Rattle.std.specs.Prelude.{Result, Ok, Err}
use Rattle.zk_base.specs.declared.endings.Ending.{Ending}
use Rattle.zk_base.specs.declared.endings.Ending.TheVariants as ending
use Rattle.zk_base.specs.declared.shelf.Wrote.{Wrote}
use Rattle.zk_base.specs.declared.shelf.Wrote.TheVariants as wrote
use Rattle.zk_outcome.specs.declared.stop.Stop.{Stop}
use Rattle.zk_outcome.specs.declared.stop.Stop.TheVariants.{ReadFault, WriteFault, NoMemory}

abbrev pub ending_of : Stop → Ending
ending_of ReadFault = ending.ReadFault
ending_of WriteFault = ending.WriteFault
ending_of NoMemory = ending.NoMemory

-- a write is done, or stops the run
abbrev pub written_by : Wrote → Result (Unit {0}) Stop
written_by wrote.Done = Ok tt
written_by wrote.Failed = Err WriteFault
written_by wrote.NoMemory = Err NoMemory
