-- What a shelf of real files shows of the outside.
use Rattle.std.specs.Prelude.{◌≡◌, ℕ, List, ⊤, take, Bool, Option, Some, None, Result, Ok, Err, if◌then◌else◌}
use Rattle.std.specs.declared.io.Error.{Error}
use Rattle.std.specs.declared.io.ErrorKind.{ErrorKind}
use Rattle.std.specs.declared.io.ErrorKind.TheVariants.{NotFound}
use Rattle.std.specs.IoError.{error_kind}
use Rattle.std.specs.Io.KnownBytes.{Consumes, Keeps, IsAtEnd}
use Rattle.zk_base.specs.declared.shelf.Started.{Started}
use Rattle.zk_base.specs.declared.shelf.Started.TheVariants as started
use Rattle.zk_base.specs.declared.shelf.Got.{Got}
use Rattle.zk_base.specs.declared.shelf.Got.TheVariants as got
use Rattle.zk_base.specs.declared.shelf.Wrote.{Wrote}
use Rattle.zk_base.specs.declared.shelf.Wrote.TheVariants as wrote
use Rattle.zk_base.specs.declared.counts.Counts.{Counts}
use Rattle.zk_base.specs.Counts.{with_absence, with_read_fault, with_write_fault, without_fault}
use Rattle.zk_base.specs.Shelf.{Outside, Closed, Untold, HasRisen}

-- whether an input is open, the counts and the last fault; nothing of what files hold
abbrev pub untold : Bool → Counts → Outside
untold is_open counts = record {
  inputs = None;
  outputs = None;
  said = None;
  complained = None;
  started = None;
  reading = if is_open then Untold else Closed;
  read_faults = counts.read_faults;
  write_faults = counts.write_faults;
  absences = counts.absences;
  last = counts.last;
}

-- what comes of a start where the file can't be opened: only one that isn't found is absent
abbrev pub started_on_error : ErrorKind → Started
started_on_error NotFound = started.Absent
started_on_error _ = started.Failed

-- what comes of a start, by what the opening of its file gave
abbrev pub started_of : {File : Type 0} → Result File Error → Started
started_of (Ok file) = started.Open
started_of (Err error) = started_on_error (error_kind error)

-- what a start counts; it takes no memory, so it never wants any
abbrev pub CountsStart : Counts → Started → Counts → Type 0
CountsStart old started.Open new = new ≡ without_fault old
CountsStart old started.Absent new = (new ≡ with_absence old) × HasRisen old.absences new.absences
CountsStart old started.Failed new = (new ≡ with_read_fault old) × HasRisen old.read_faults new.read_faults
CountsStart old started.NoMemory new = ⊥

-- what a write counts; it takes no memory, so it never wants any
abbrev pub CountsWrite : Counts → Wrote → Counts → Type 0
CountsWrite old wrote.Done new = new ≡ without_fault old
CountsWrite old wrote.Failed new = (new ≡ with_write_fault old) × HasRisen old.write_faults new.write_faults
CountsWrite old wrote.NoMemory new = ⊥

-- what a read took of a file whose bytes are known: those that it gave, and nothing where it gave none
abbrev pub TakesBytes : Option (List ℕ) → Got → List ℕ → Option (List ℕ) → Type 0
TakesBytes old (got.Bytes n) buf new = Consumes old new (take n buf)
TakesBytes old got.End buf new = IsAtEnd new
TakesBytes old got.Failed buf new = Keeps old new

-- the same of the open input
abbrev pub Takes : {File : Type 0} → (File → Option (List ℕ)) → Option File → Got → List ℕ → Option File → Type 0
Takes remaining None got buf new = ⊤
Takes remaining (Some old) got buf None = ⊥
Takes remaining (Some old) got buf (Some new) = TakesBytes (remaining old) got buf (remaining new)
