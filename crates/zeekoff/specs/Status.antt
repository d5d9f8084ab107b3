-- What the exit status tells of a run.
use Rattle.std.specs.Prelude.{◌≡◌, ◌≢◌, ◌⊎◌, ◌↔◌, ℕ, List, Some, Err}
use Rattle.zk_base.specs.Ending.{exit_status}
use Rattle.zk_base.specs.Shelf.{Files, Outside, HasRisen, appended}
use Rattle.zk_base.specs.declared.endings.Ending.{Ending}
use Rattle.zk_base.specs.declared.endings.Ending.TheVariants.{Usage, NoInput, ReadFault, WriteFault, NoMemory}
use Rattle.zk_base.specs.declared.shelf.Fault.TheVariants as fault
use Rattle.zk_command.specs.Command.{understand}
use Rattle.zk_command.specs.Complaint.{complaint_of}
use Rattle.zk_outcome.specs.Parts.{SameFaults, SameAbsences}
use Rattle.zk_top.specs.Outcome.{outcome}
use Rattle.zk_top.specs.Run.{IsNotStopped, IsDone, StaysWithin, SameComplaints}

-- A run with these words has ended with this status: that of an ending of which all holds that `run` promises.
pub record HasEnded (words : List (List ℕ)) (old new : Outside) (status : ℕ) : Type 0 where
  pub ending : Ending
  pub told : status ≡ exit_status ending
  pub done : (inputs : Files) → old.inputs ≡ Some inputs → IsNotStopped ending → IsDone (outcome words inputs) old ending new
  pub within : (inputs : Files) → old.inputs ≡ Some inputs → StaysWithin (outcome words inputs) old new
  pub usage : (word : ℕ) → IsNotStopped ending → (ending ≡ Usage word) ↔ (understand words ≡ Err word)
  pub complained : IsNotStopped ending → new.complained ≡ appended old.complained (complaint_of ending)
  pub silent : (ending ≡ ReadFault) ⊎ (ending ≡ NoMemory) → SameComplaints old new
  pub faults : IsNotStopped ending → SameFaults old new
  pub read_fault : ending ≡ ReadFault → HasRisen old.read_faults new.read_faults × (new.write_faults ≡ old.write_faults)
  pub write_fault : ending ≡ WriteFault → HasRisen old.write_faults new.write_faults × (new.read_faults ≡ old.read_faults)
  pub read_last : ending ≡ ReadFault → new.last ≡ Some fault.Read
  pub write_last : ending ≡ WriteFault → new.last ≡ Some fault.Write
  pub no_memory : ending ≡ NoMemory → SameFaults old new
  pub absent : (name : List ℕ) → ending ≡ NoInput name → HasRisen old.absences new.absences
  pub present : IsNotStopped ending → ((name : List ℕ) → ending ≢ NoInput name) → SameAbsences old new
  pub inputs : new.inputs ≡ old.inputs
