-- What a run gives out: text on standard output, and rows for its log files (Zeek manual, Logging Framework).
use Rattle.std.specs.Prelude.{map, pos, int_lt, if◌then◌else◌}
use Rattle.zk_base.specs.declared.time.Moment.{Moment}
use Rattle.zk_base.specs.Shelf.{Files}
use Rattle.zk_logs.specs.Logs.{Row, log_files}
use Rattle.zk_typed.specs.Log as log
use Rattle.zk_typed.specs.Running.{Progress, Goes, Floods, world_in}
use Rattle.zk_value.specs.declared.cell.Atom.{Atom}
use Rattle.zk_value.specs.declared.cell.Atom.TheVariants as atom
use Rattle.zk_value.specs.declared.cell.Cell.{Cell}
use Rattle.zk_value.specs.declared.cell.Cell.TheVariants as cell
use Rattle.zk_value.specs.declared.cell.Column.{Column}

-- The lines `#open` and `#close` have the moments from 1970 to 22:00 on December 30 of 9999: any other is shown as the nearest of them.
-- No record of a capture has such a moment.
abbrev pub dated : Moment → Moment
dated at =
    if int_lt at.0 (pos 0) then record { 0 = pos 0 }
    else if int_lt (pos 253_402_207_200_000_000) at.0 then record { 0 = pos 253_402_207_200_000_000 }
    else at

-- Rows as log files have them -----------------------------------------------------------------------------------------

abbrev pub shown_atom : log.Atom → Atom
shown_atom (log.Text bytes) = atom.Text bytes
shown_atom (log.Plain bytes) = atom.Plain bytes

abbrev pub shown_cell : log.Cell → Cell
shown_cell log.Unset = cell.Unset
shown_cell (log.One atom) = cell.One (shown_atom atom)
shown_cell (log.Many atoms) = cell.Many (map shown_atom atoms)

abbrev pub shown_column : log.Column → Column
shown_column column = record { name = column.name; kind = column.kind; wire = column.wire }

abbrev pub shown_row : log.Row → Row
shown_row row = record { path = row.path; columns = map shown_column row.columns; cells = map shown_cell row.cells; at = dated row.at }

-- The files of a run ---------------------------------------------------------------------------------------------------

-- a run ends at the last network time, and in a flood at that of the flood
abbrev pub end_time : Moment → Progress → Moment
end_time last (Goes world left) = last
end_time last (Floods world) = world.time

-- the log files that a run has written that came so far, closed at its end
abbrev pub files_of_run : Moment → Progress → Files
files_of_run last progress = log_files (map shown_row (world_in progress).rows) (dated (end_time last progress))
