-- What a part of a run does to the outside, up to its end or to where it is stopped.
use Rattle.std.specs.Prelude.{◌≡◌, ◌≢◌, ◌⊎◌, ℕ, List, [], Option, Some}
use Rattle.std.specs.Option.{option_map}
use Rattle.zk_base.specs.declared.endings.Ending.{Ending}
use Rattle.zk_base.specs.declared.endings.Ending.TheVariants.{Done, Usage, ScriptRefused, NoInput, CaptureRefused, CutShort, ReadFault, WriteFault, NoMemory, Flood}
use Rattle.zk_base.specs.Shelf.{Files, Outside, HasRisen}
use Rattle.zk_outcome.specs.declared.stop.Stop.{Stop}
use Rattle.zk_outcome.specs.Parts.{HasCause, IsQuiet, Does, DoesWithoutFault, SameAbsences}
use Rattle.zk_outcome.specs.Prefix.{IsPrefix}
use Rattle.zk_logs.specs.Outputs.{files_over, OutputsBegun}
use Rattle.zk_top.specs.Outcome.{Outcome}
use Rattle.zk_top.specs.Run.{IsNotStopped}

-- a command that is carried out may end so
abbrev pub IsOfCommand : Ending → Type 0
IsOfCommand Done = Unit {0}
IsOfCommand (Usage word) = ⊥
IsOfCommand (ScriptRefused file place kind) = Unit {0}
IsOfCommand (NoInput name) = Unit {0}
IsOfCommand (CaptureRefused name place) = Unit {0}
IsOfCommand (CutShort name place) = Unit {0}
IsOfCommand ReadFault = ⊥
IsOfCommand WriteFault = ⊥
IsOfCommand NoMemory = ⊥
IsOfCommand (Flood moment) = Unit {0}

-- what stands outside now, but for the outputs, which are those of before
abbrev pub but_outputs : Outside → Outside → Outside
but_outputs before now = record now { outputs = before.outputs }

-- what part of a run does that ends by itself, over told inputs what is wanted
pub record Fulfils (wanted : Files → Outcome) (complained : List ℕ) (old : Outside) (ending : Ending) (new : Outside) : Type 0 where
  pub names : List (List ℕ)
  pub said : List ℕ
  pub does : DoesWithoutFault names said complained old (but_outputs old new)
  pub whole : IsNotStopped ending
  pub absent : (name : List ℕ) → ending ≡ NoInput name → HasRisen old.absences new.absences
  pub present : ((name : List ℕ) → ending ≢ NoInput name) → SameAbsences old new
  pub ends : (inputs : Files) → old.inputs ≡ Some inputs → ending ≡ (wanted inputs).ending
  pub names_are : (inputs : Files) → old.inputs ≡ Some inputs → names ≡ (wanted inputs).asked
  pub said_is : (inputs : Files) → old.inputs ≡ Some inputs → said ≡ (wanted inputs).said
  pub files_are : (inputs : Files) → old.inputs ≡ Some inputs → new.outputs ≡ option_map (files_over (wanted inputs).files) old.outputs

-- all of what is wanted was asked for, said and written
pub record IsAllButComplaint (wanted : Outcome) (names : List (List ℕ)) (said : List ℕ) (before now : Option Files) : Type 0 where
  pub asked : names ≡ wanted.asked
  pub all_said : said ≡ wanted.said
  pub files : now ≡ option_map (files_over wanted.files) before

-- what part of a run does that is stopped, over told inputs a prefix of what is wanted, the complaint last
pub record BreaksOff (wanted : Files → Outcome) (old : Outside) (stop : Stop) (new : Outside) : Type 0 where
  pub names : List (List ℕ)
  pub said : List ℕ
  pub complained : List ℕ
  pub does : Does names said complained old (but_outputs old new)
  pub cause : HasCause old stop new
  pub quiet : IsQuiet stop complained
  pub names_prefix : (inputs : Files) → old.inputs ≡ Some inputs → IsPrefix names (wanted inputs).asked
  pub said_prefix : (inputs : Files) → old.inputs ≡ Some inputs → IsPrefix said (wanted inputs).said
  pub files_begun : (inputs : Files) → old.inputs ≡ Some inputs → OutputsBegun (wanted inputs).files old.outputs new.outputs
  pub complained_prefix : (inputs : Files) → old.inputs ≡ Some inputs → IsPrefix complained (wanted inputs).complained
  pub complaint_last : (inputs : Files) → old.inputs ≡ Some inputs
      → (complained ≡ []) ⊎ IsAllButComplaint (wanted inputs) names said old.outputs new.outputs
