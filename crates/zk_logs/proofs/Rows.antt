-- A worked example of log files, computed.
use Rattle.std.proofs.Common.{◌≡◌, List, [], ◌∷◌, ◌++◌, ℕ, codes, refl, pos, false, Some, None}
use Rattle.zk_base.specs.declared.time.Moment.{Moment}
use Rattle.zk_value.specs.declared.cell.Atom.TheVariants.{Plain}
use Rattle.zk_value.specs.declared.cell.Cell.TheVariants.{One}
use Rattle.zk_ascii.specs.Dates.{clock_of}
use Rattle.zk_logs.specs.Logs.{Row, rows_in, log_files, open_files}

-- 2023-11-14 22:13:20 UTC, and a minute later
abbrev first : Moment
first = record { 0 = pos 1_700_000_000_000_000 }

abbrev last : Moment
last = record { 0 = pos 1_700_000_060_000_000 }

abbrev row_of : List ℕ → List ℕ → Moment → Row
row_of path text at = record {
  path = path;
  columns = record { name = codes "n"; kind = codes "count"; wire = false } ∷ [];
  cells = One (Plain text) ∷ [];
  at = at;
}

-- rows of two paths, in the order in which they are written
abbrev rows : List Row
rows = row_of (codes "dns") (codes "1") first ∷ row_of (codes "http") (codes "2") last ∷ row_of (codes "dns") (codes "3") last ∷ []

abbrev heading : List ℕ
heading = codes "#separator \\x09\n#set_separator\t,\n#empty_field\t(empty)\n#unset_field\t-\n"

log_of_two_rows : log_files rows last (codes "dns.log")
    ≡ Some (heading ++ codes "#path\tdns\n#open\t2023-11-14-22-13-20\n#fields\tn\n#types\tcount\n1\n3\n#close\t2023-11-14-22-14-20\n")
unfolding log_files rows_in clock_of
log_of_two_rows = refl

open_log_of_a_row : open_files rows (codes "http.log") ≡ Some (heading ++ codes "#path\thttp\n#open\t2023-11-14-22-14-20\n#fields\tn\n#types\tcount\n2\n")
unfolding open_files rows_in clock_of
open_log_of_a_row = refl

no_log_without_a_row : log_files rows last (codes "conn.log") ≡ None
unfolding log_files rows_in
no_log_without_a_row = refl
