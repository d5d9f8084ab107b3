-- How far log files are written.
use Rattle.std.specs.Prelude.{◌≡◌, ℕ, List, ◌++◌, Option, Some, None, IsSome}
use Rattle.std.specs.Option.{option_map}
use Rattle.std.specs.HashMap.{get_by}
use Rattle.std.specs.Str.{bytes_eq}
use Rattle.zk_base.specs.Shelf.{Files, Outside, IsCreated}
use Rattle.zk_logs.specs.declared.logs.LogFiles.{LogFiles}
use Rattle.zk_logs.specs.Logs.{Row, file_name, open_files}
use Rattle.zk_logs.specs.Outputs.{files_over}

-- what waits to be handed over to each file that was created
abbrev pub pieces_of : LogFiles → Files
pieces_of logs name = get_by (λ path. bytes_eq (file_name path.items) name) logs.pieces

-- the text of a file is what was handed over and what waits, and both are there exactly where the file is
abbrev pub IsJoined : Option (List ℕ) → Option (List ℕ) → Option (List ℕ) → Type 0
IsJoined None None None = Unit {0}
IsJoined None None (Some waiting) = ⊥
IsJoined None (Some handed) waiting = ⊥
IsJoined (Some text) None waiting = ⊥
IsJoined (Some text) (Some handed) None = ⊥
IsJoined (Some text) (Some handed) (Some waiting) = text ≡ handed ++ waiting

-- Over the outputs as they were before, these texts are written but for what waits.
pub record AreWritten (before : Option Files) (texts waiting : Files) (now : Option Files) : Type 0 where
  pub handed : Files
  pub joined : (name : List ℕ) → IsJoined (texts name) (handed name) (waiting name)
  pub outputs : now ≡ option_map (files_over handed) before

-- the rows so far are written to open logs, or wait
abbrev pub HasWritten : Option Files → List Row → LogFiles → Option Files → Type 0
HasWritten before rows logs now = AreWritten before (open_files rows) (pieces_of logs) now

-- the files for which something waits, or has waited, are created
abbrev pub AreCreated : LogFiles → Outside → Type 0
AreCreated logs outside = (name : List ℕ) → IsSome (pieces_of logs name) → IsCreated outside name
