-- What a part of a run does to the outside, up to its end or to where it is stopped.
use Rattle.std.specs.Prelude.{◌≡◌, ℕ, List, [], Some}
use Rattle.zk_base.specs.declared.shelf.Fault.TheVariants as fault
use Rattle.zk_base.specs.Shelf.{Outside, HasRisen, appended}
use Rattle.zk_outcome.specs.declared.stop.Stop.{Stop}
use Rattle.zk_outcome.specs.declared.stop.Stop.TheVariants as stop
use Rattle.zk_outcome.specs.Prefix.{IsPrefix}

-- no fault was counted
pub record SameFaults (old new : Outside) : Type 0 where
  pub read : new.read_faults ≡ old.read_faults
  pub write : new.write_faults ≡ old.write_faults

-- no input was absent
abbrev pub SameAbsences : Outside → Outside → Type 0
SameAbsences old new = new.absences ≡ old.absences

-- What was counted where a run is stopped. The call that failed was the last one, so nothing was done behind it.
abbrev pub HasCause : Outside → Stop → Outside → Type 0
HasCause old stop.ReadFault new = HasRisen old.read_faults new.read_faults × (new.write_faults ≡ old.write_faults) × (new.last ≡ Some fault.Read)
HasCause old stop.WriteFault new = HasRisen old.write_faults new.write_faults × (new.read_faults ≡ old.read_faults) × (new.last ≡ Some fault.Write)
HasCause old stop.NoMemory new = SameFaults old new

-- A run that is stopped leaves a part of its complaint only where an output failed.
abbrev pub IsQuiet : Stop → List ℕ → Type 0
IsQuiet stop.ReadFault complained = complained ≡ []
IsQuiet stop.WriteFault complained = Unit {0}
IsQuiet stop.NoMemory complained = complained ≡ []

-- A part of a run starts these names, and says and complains these bytes.
pub record Does (names : List (List ℕ)) (said complained : List ℕ) (old new : Outside) : Type 0 where
  pub inputs_stay : new.inputs ≡ old.inputs
  pub outputs_stay : new.outputs ≡ old.outputs
  pub says : new.said ≡ appended old.said said
  pub complains : new.complained ≡ appended old.complained complained
  pub starts : new.started ≡ appended old.started names

-- It does so wholly, and counts no fault.
pub record DoesWithoutFault (names : List (List ℕ)) (said complained : List ℕ) (old new : Outside) : Type 0 where
  pub does : Does names said complained old new
  pub faults : SameFaults old new

-- It does so wholly, and counts nothing.
pub record DoesAll (names : List (List ℕ)) (said complained : List ℕ) (old new : Outside) : Type 0 where
  pub all : DoesWithoutFault names said complained old new
  pub present : SameAbsences old new

-- It is stopped, and does a prefix of each.
pub record DoesPart (names : List (List ℕ)) (said complained : List ℕ) (old : Outside) (stop : Stop) (new : Outside) : Type 0 where
  pub names_part : List (List ℕ)
  pub names_prefix : IsPrefix names_part names
  pub said_part : List ℕ
  pub said_prefix : IsPrefix said_part said
  pub complained_part : List ℕ
  pub complained_prefix : IsPrefix complained_part complained
  pub does : Does names_part said_part complained_part old new
  pub cause : HasCause old stop new
  pub quiet : IsQuiet stop complained_part
