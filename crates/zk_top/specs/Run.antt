-- What a run leaves of the outside, beside what was there before.
use Rattle.std.specs.Prelude.{◌≡◌, ◌⊎◌, ℕ, List, []}
use Rattle.std.specs.Option.{option_map}
use Rattle.zk_base.specs.declared.endings.Ending.{Ending}
use Rattle.zk_base.specs.declared.endings.Ending.TheVariants.{Done, Usage, ScriptRefused, NoInput, CaptureRefused, CutShort, ReadFault, WriteFault, NoMemory, Flood}
use Rattle.zk_base.specs.Shelf.{Outside, appended}
use Rattle.zk_outcome.specs.Prefix.{IsPrefix}
use Rattle.zk_logs.specs.Outputs.{files_over, OutputsBegun}
use Rattle.zk_top.specs.Outcome.{Outcome}

-- neither the outside nor want of memory has stopped the run
abbrev pub IsNotStopped : Ending → Type 0
IsNotStopped Done = Unit {0}
IsNotStopped (Usage word) = Unit {0}
IsNotStopped (ScriptRefused file place kind) = Unit {0}
IsNotStopped (NoInput name) = Unit {0}
IsNotStopped (CaptureRefused name place) = Unit {0}
IsNotStopped (CutShort name place) = Unit {0}
IsNotStopped ReadFault = ⊥
IsNotStopped WriteFault = ⊥
IsNotStopped NoMemory = ⊥
IsNotStopped (Flood moment) = Unit {0}

-- A whole run ends as wanted, and has done to the outside what was wanted and nothing else.
pub record IsDone (wanted : Outcome) (old : Outside) (ending : Ending) (new : Outside) : Type 0 where
  pub ends : ending ≡ wanted.ending
  pub files : new.outputs ≡ option_map (files_over wanted.files) old.outputs
  pub said : new.said ≡ appended old.said wanted.said
  pub complained : new.complained ≡ appended old.complained wanted.complained
  pub started : new.started ≡ appended old.started wanted.asked

-- all of what was wanted is done, but for the complaint
pub record IsDoneButComplaint (wanted : Outcome) (old new : Outside) : Type 0 where
  pub files : new.outputs ≡ option_map (files_over wanted.files) old.outputs
  pub said : new.said ≡ appended old.said wanted.said
  pub started : new.started ≡ appended old.started wanted.asked

-- A run has done a prefix of each thing that was wanted, and nothing else. The complaint comes last.
pub record StaysWithin (wanted : Outcome) (old new : Outside) : Type 0 where
  pub files : OutputsBegun wanted.files old.outputs new.outputs
  pub said : List ℕ
  pub said_prefix : IsPrefix said wanted.said
  pub said_is : new.said ≡ appended old.said said
  pub complained : List ℕ
  pub complained_prefix : IsPrefix complained wanted.complained
  pub complained_is : new.complained ≡ appended old.complained complained
  pub started : List (List ℕ)
  pub started_prefix : IsPrefix started wanted.asked
  pub started_is : new.started ≡ appended old.started started
  pub complaint_last : (complained ≡ []) ⊎ IsDoneButComplaint wanted old new

-- nothing more was complained
abbrev pub SameComplaints : Outside → Outside → Type 0
SameComplaints old new = new.complained ≡ old.complained
