-- A shelf in memory whose calls fail where it is told to, and what each call leaves.
use Rattle.std.specs.Prelude.{◌≡◌, ℕ, ◌==◌, List, Bool, true, false, IfSome, IsNone}
use Rattle.std.specs.List.{list_any}
use Rattle.zk_base.specs.declared.shelf.Started.{Started}
use Rattle.zk_base.specs.declared.shelf.Started.TheVariants as started
use Rattle.zk_base.specs.declared.shelf.Got.{Got}
use Rattle.zk_base.specs.declared.shelf.Got.TheVariants as got
use Rattle.zk_base.specs.declared.shelf.Wrote.{Wrote}
use Rattle.zk_base.specs.declared.shelf.Wrote.TheVariants as wrote
use Rattle.zk_base.specs.declared.mem_shelf.MemShelf.{MemShelf}
use Rattle.zk_base.specs.Shelf.{Outside, OpensInput, GivesBytes, IsReadOut, created, without_fault}
use Rattle.zk_base.specs.Contents.{outside_of}
use Rattle.zk_base.specs.Faults.{one_more, after_absence, after_failed_start, after_failed_read, after_failed_create, with_write_fault, first_half}

-- What is seen of the shelf.
pub record MemState : Type 0 where
  -- what it shows of the outside
  pub outside : Outside
  -- the numbers of the calls that fail
  pub fails : List ℕ
  -- the number of the last call, and 0 before the first
  pub calls : ℕ

abbrev pub state_of : MemShelf → MemState
state_of shelf = record { outside = outside_of shelf.contents; fails = shelf.fails.items; calls = shelf.calls }

abbrev pub mem_outside : MemShelf → Outside
mem_outside shelf = outside_of shelf.contents

-- Calls are numbered from 1. All from 2^64 - 1 on have that number.
abbrev pub next_number : MemState → ℕ
next_number s = one_more s.calls

abbrev pub fails_next : MemState → Bool
fails_next s = list_any (λ number. number == next_number s) s.fails

-- a call has the next number, doesn't fail, and leaves the outside so
pub record Succeeds (old : MemState) (outside : Outside) (new : MemState) : Type 0 where
  pub not_due : fails_next old ≡ false
  pub after : new ≡ record old { outside = outside; calls = next_number old }

-- a call has the next number, fails, and leaves the outside so
pub record Fails (old : MemState) (outside : Outside) (new : MemState) : Type 0 where
  pub due : fails_next old ≡ true
  pub after : new ≡ record old { outside = outside; calls = next_number old }

-- a call that found no memory has no number, and takes the last fault away alone
abbrev pub FindsNoMemory : MemState → MemState → Type 0
FindsNoMemory old new = new ≡ record old { outside = without_fault old.outside }

-- Starting and reading an input ----------------------------------------------------------------------------

-- what a start leaves
abbrev pub MemStarts : MemState → List ℕ → Started → MemState → Type 0
MemStarts old name started.Open new = Succeeds old new.outside new × OpensInput old.outside name new.outside
MemStarts old name started.Absent new = Succeeds old (after_absence old.outside name) new × IfSome old.outside.inputs (λ files. IsNone (files name))
MemStarts old name started.Failed new = Fails old (after_failed_start old.outside name) new
MemStarts old name started.NoMemory new = FindsNoMemory old new

-- what a read into a buffer leaves
abbrev pub MemReads : MemState → List ℕ → Got → List ℕ → MemState → Type 0
MemReads old before (got.Bytes n) after new = Succeeds old new.outside new × GivesBytes old.outside before n after new.outside
MemReads old before got.End after new = Succeeds old new.outside new × IsReadOut old.outside new.outside
MemReads old before got.Failed after new = Fails old (after_failed_read old.outside) new

-- Making and writing outputs -------------------------------------------------------------------------------

-- what the making of an output leaves
abbrev pub MemCreates : MemState → List ℕ → Wrote → MemState → Type 0
MemCreates old name wrote.Done new = Succeeds old (created old.outside name) new
MemCreates old name wrote.Failed new = Fails old (after_failed_create old.outside name) new
MemCreates old name wrote.NoMemory new = FindsNoMemory old new

-- what a write of a piece leaves, where after says how the outside is after a piece
abbrev pub MemPuts : (List ℕ → Outside) → MemState → List ℕ → Wrote → MemState → Type 0
MemPuts after old piece wrote.Done new = Succeeds old (after piece) new
MemPuts after old piece wrote.Failed new = Fails old (with_write_fault (after (first_half piece))) new
MemPuts after old piece wrote.NoMemory new = FindsNoMemory old new

-- how a write ends that has done its work or found no memory for it
abbrev pub EndsWrite : MemState → Wrote → MemState → Type 0
EndsWrite old wrote.Done new = Succeeds old old.outside new
EndsWrite old wrote.Failed new = Fails old (with_write_fault old.outside) new
EndsWrite old wrote.NoMemory new = new ≡ old
