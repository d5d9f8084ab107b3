-- Where what a run gives out goes: to standard output and log files, or into counts alone.
use Rattle.std.specs.Prelude.{◌≡◌, []}
use Rattle.zk_base.specs.Shelf.{Outside}
use Rattle.zk_outcome.specs.declared.stop.Stop.{Stop}
use Rattle.zk_outcome.specs.Parts.{DoesAll}
use Rattle.zk_top.specs.declared.sink.Sink.{Sink}
use Rattle.zk_top.specs.declared.sink.Sink.TheVariants as sink
use Rattle.zk_top.specs.declared.summary.RowCounts.{RowCounts}
use Rattle.zk_top.specs.Summary.{counts_of}
use Rattle.zk_top.specs.Writing.{Output, HasGiven, IsReady, GivesSome}

-- what becomes of the output of a run
pub data Target : Type 0 where
  -- lines are said, and rows are written to log files
  Written : Target
  -- rows are counted
  Counted : Target

-- What a run begins with: the outside as it stands, and what is to become of its output.
pub record Beginning : Type 0 where
  pub outside : Outside
  pub target : Target

-- The rows were counted, and nothing was done outside.
pub record HasCounted (first : Outside) (output : Output) (counts : RowCounts) (now : Outside) : Type 0 where
  pub counts_are : counts ≡ counts_of output.rows
  pub does : DoesAll [] [] [] first now

-- since its beginning a run has given this output to a sink
abbrev pub HasTaken : Beginning → Output → Sink → Outside → Type 0
HasTaken first output (sink.Written writer) now = (first.target ≡ Written) × HasGiven first.outside output writer now
HasTaken first output (sink.Counted counts) now = (first.target ≡ Counted) × HasCounted first.outside output counts now

-- a sink can take more
abbrev pub CanTake : Sink → Outside → Type 0
CanTake (sink.Written writer) now = IsReady writer now
CanTake (sink.Counted counts) now = Unit {0}

-- it is stopped, and of this output a part was given out
abbrev pub TakesSome : Output → Beginning → Stop → Outside → Type 0
TakesSome output first stop now = GivesSome output first.outside stop now
