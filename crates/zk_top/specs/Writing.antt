-- What is given out of a run, and what was said and written of it.
use Rattle.std.specs.Prelude.{◌≡◌, ℕ, List, [], ◌∷◌, ◌++◌, map, Option}
use Rattle.std.specs.Option.{option_map}
use Rattle.zk_base.specs.declared.time.Moment.{Moment}
use Rattle.zk_base.specs.Shelf.{Files, Outside}
use Rattle.zk_logs.specs.Logs.{Row, log_files}
use Rattle.zk_logs.specs.Outputs.{files_over, OutputsBegun}
use Rattle.zk_logs.specs.Written as logs
use Rattle.zk_lower.specs.Told.{Told}
use Rattle.zk_typed.specs.State.{World}
use Rattle.zk_value.specs.declared.out.Out.{Out}
use Rattle.zk_value.specs.declared.out.Out.TheVariants as out
use Rattle.zk_outcome.specs.declared.stop.Stop.{Stop}
use Rattle.zk_outcome.specs.Parts.{DoesAll, DoesPart}
use Rattle.zk_outcome.specs.Prefix.{IsPrefix}
use Rattle.zk_top.specs.declared.writer.Writer.{Writer}
use Rattle.zk_io.specs.Said.{line_end, HasSaid}
use Rattle.zk_top.specs.Logged.{dated, shown_row}
use Rattle.zk_top.specs.Parts.{but_outputs}
use Rattle.zk_top.specs.Printed.{with_line_ends}

-- text on standard output, and rows of logs
pub record Output : Type 0 where
  pub text : List ℕ
  pub rows : List Row

-- nothing
abbrev pub no_output : Output
no_output = record { text = []; rows = [] }

-- a line or a row more
abbrev pub and_out : Output → Out → Output
and_out output (out.Line line) = record { text = output.text ++ (line ++ line_end); rows = output.rows }
and_out output (out.Row path columns cells at) = record {
  text = output.text;
  rows = output.rows ++ (record { path = path; columns = columns; cells = cells; at = dated at } ∷ []);
}

-- what was told, as it is given out
abbrev pub output_of : Told → Output
output_of told = record { text = with_line_ends told.lines; rows = map shown_row told.rows }

-- what a world told
abbrev pub told_by : World → Told
told_by world = record { lines = world.lines; rows = world.rows }

-- what is given out begins another
pub record Begins (part whole : Output) : Type 0 where
  pub text : IsPrefix part.text whole.text
  pub rows : IsPrefix part.rows whole.rows

-- the files of rows are begun, whatever rows come and whenever they are closed
abbrev pub AreBegun : List Row → Option Files → Option Files → Type 0
AreBegun rows before now = (more : List Row) (end : Moment) → OutputsBegun (log_files (rows ++ more) end) before now

-- Since the first outside the text was said and the rows were written, but for what waits.
pub record HasGiven (first : Outside) (output : Output) (writer : Writer) (now : Outside) : Type 0 where
  pub says : HasSaid first output.text writer.piece.items (but_outputs first now)
  pub writes : logs.HasWritten first.outputs output.rows writer.logs now.outputs
  pub begun : AreBegun output.rows first.outputs now.outputs

-- the files for which something waits, or has waited, are created
abbrev pub IsReady : Writer → Outside → Type 0
IsReady writer now = logs.AreCreated writer.logs now

-- It is stopped, and a prefix of the text was said, and of the rows, and perhaps more of them, files are begun.
pub record GivesSome (output : Output) (first : Outside) (stop : Stop) (now : Outside) : Type 0 where
  pub says : DoesPart [] output.text [] first stop (but_outputs first now)
  pub begun : AreBegun output.rows first.outputs now.outputs

-- All of the text was said, and these files were written.
pub record GivesAll (text : List ℕ) (files : Files) (old new : Outside) : Type 0 where
  pub says : DoesAll [] text [] old (but_outputs old new)
  pub outputs : new.outputs ≡ option_map (files_over files) old.outputs

-- It is stopped, and a prefix of the text was said, and each file is as before or begun.
pub record GivesPart (text : List ℕ) (files : Files) (old : Outside) (stop : Stop) (new : Outside) : Type 0 where
  pub says : DoesPart [] text [] old stop (but_outputs old new)
  pub begun : OutputsBegun files old.outputs new.outputs
