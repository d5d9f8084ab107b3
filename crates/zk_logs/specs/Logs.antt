-- The log files that rows make (Zeek manual, Logging Framework).
use Rattle.std.specs.Prelude.{ℕ, List, [], ◌∷◌, ◌++◌, map, filter, codes, Option, Some, None}
use Rattle.std.specs.List.{flat_map}
use Rattle.std.specs.Str.{bytes_eq}
use Rattle.zk_base.specs.declared.time.Moment.{Moment}
use Rattle.zk_base.specs.Shelf.{Files}
use Rattle.zk_value.specs.declared.cell.Cell.{Cell}
use Rattle.zk_value.specs.declared.cell.Column.{Column}
use Rattle.zk_ascii.specs.Text as text
use Rattle.zk_ascii.specs.Text.{header_text, row_text, log_text}

-- a row for the log of a path, at its network time
pub record Row : Type 0 where
  pub path : List ℕ
  pub columns : List Column
  pub cells : List Cell
  pub at : Moment

-- the row as the log of its path has it
abbrev pub row_in_log : Row → text.Row
row_in_log row = record { columns = row.columns; cells = row.cells; at = row.at }

-- the name of the file in which the log of a path lies
abbrev pub file_name : List ℕ → List ℕ
file_name path = path ++ codes ".log"

-- the rows of the file of this name, in order
unfoldable pub rows_in : List ℕ → List Row → List Row
rows_in name rows = filter (λ row. bytes_eq (file_name row.path) name) rows

-- Closed logs ------------------------------------------------------------------------------------------------------

-- the file of these rows, closed at a moment, and none where there is no row
abbrev pub closed_file : Moment → List Row → Option (List ℕ)
closed_file end [] = None
closed_file end (row ∷ rows) = Some (log_text row.path (map row_in_log (row ∷ rows)) end)

-- The files of all rows, closed at a moment: under each name the log of the rows of one path. There is no file without a row.
unfoldable pub log_files : List Row → Moment → Files
log_files rows end name = closed_file end (rows_in name rows)

-- the log of a path with these rows, and none where there is no row
abbrev pub log_by : List ℕ → Moment → List Row → Option (List ℕ)
log_by path end [] = None
log_by path end (row ∷ rows) = Some (log_text path (map row_in_log (row ∷ rows)) end)

-- the log of a path, from the rows of that path in order
abbrev pub log_of : List ℕ → List Row → Moment → Option (List ℕ)
log_of path rows end = log_by path end (filter (λ row. bytes_eq path row.path) rows)

-- Open logs --------------------------------------------------------------------------------------------------------

-- the file of these rows, before it is closed: the first row says its columns and when it was opened
abbrev pub open_file : List Row → Option (List ℕ)
open_file [] = None
open_file (row ∷ rows) = Some (header_text row.path row.columns row.at ++ flat_map (λ one. row_text one.cells) (row ∷ rows))

-- the files of all rows so far, of which none is closed
unfoldable pub open_files : List Row → Files
open_files rows name = open_file (rows_in name rows)
