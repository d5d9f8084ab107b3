-- What is said of a run over a capture that is made by rule.
use Rattle.std.specs.Prelude.{ℕ, ◌+◌, List, [], ◌++◌, codes, decimal, filter, length, map, if◌then◌else◌}
use Rattle.std.specs.Str.{bytes_eq}
use Rattle.zk_logs.specs.Logs.{Row}
use Rattle.zk_typed.specs.Running.{Progress, Goes, Floods}
use Rattle.zk_top.specs.declared.summary.RowCounts.{RowCounts}
use Rattle.zk_io.specs.Said.{line_end}
use Rattle.zk_top.specs.Logged.{shown_row}

-- Rows --------------------------------------------------------------------------------------------------------------

-- how many rows have a path
abbrev pub rows_at : List ℕ → List Row → ℕ
rows_at path rows = length (filter (λ row. bytes_eq row.path path) rows)

-- how many rows the logs of the default scripts get
abbrev pub counts_of : List Row → RowCounts
counts_of rows = record { conn = rows_at (codes "conn") rows; dns = rows_at (codes "dns") rows; http = rows_at (codes "http") rows }

abbrev pub no_rows : RowCounts
no_rows = record { conn = 0; dns = 0; http = 0 }

-- a count of the rows of one path, after a row
abbrev pub and_one : List ℕ → ℕ → List ℕ → ℕ
and_one counted count path = if bytes_eq path counted then count + 1 else count

-- the counts after a row of a path
abbrev pub and_row : RowCounts → List ℕ → RowCounts
and_row counts path = record {
  conn = and_one (codes "conn") counts.conn path;
  dns = and_one (codes "dns") counts.dns path;
  http = and_one (codes "http") counts.http path;
}

-- Text --------------------------------------------------------------------------------------------------------------

-- a word with a blank behind it, and a number
abbrev pub summary_line : List ℕ → ℕ → List ℕ
summary_line word number = word ++ decimal number ++ line_end

abbrev pub summary_text : ℕ → ℕ → RowCounts → List ℕ
summary_text packets bytes rows =
    summary_line (codes "packets ") packets ++ summary_line (codes "bytes ") bytes ++ summary_line (codes "conn ") rows.conn
    ++ summary_line (codes "dns ") rows.dns ++ summary_line (codes "http ") rows.http

-- of a run over so many packets in so many bytes that came so far: nothing where a flood ended it
abbrev pub summary_of : ℕ → ℕ → Progress → List ℕ
summary_of packets bytes (Goes world left) = summary_text packets bytes (counts_of (map shown_row world.rows))
summary_of packets bytes (Floods world) = []
