-- What a run finds in an input that it asks for.
use Rattle.std.specs.Prelude.{◌≡◌, ◌≢◌, ℕ, List, [], ◌∷◌, Option, Some}
use Rattle.zk_base.specs.declared.endings.Ending.{Ending}
use Rattle.zk_base.specs.declared.endings.Ending.TheVariants.{Done, Usage, ScriptRefused, NoInput, CaptureRefused, CutShort, ReadFault, WriteFault, NoMemory, Flood}
use Rattle.zk_base.specs.Shelf.{Files, Outside, HasRisen}
use Rattle.zk_outcome.specs.declared.found.Found.{Found}
use Rattle.zk_outcome.specs.declared.found.Found.TheVariants.{Refused}
use Rattle.zk_outcome.specs.Parts.{DoesWithoutFault, SameAbsences}

-- an input is absent or refused
abbrev pub IsRefusal : Ending → Type 0
IsRefusal Done = ⊥
IsRefusal (Usage word) = ⊥
IsRefusal (ScriptRefused file place kind) = Unit {0}
IsRefusal (NoInput name) = Unit {0}
IsRefusal (CaptureRefused name place) = Unit {0}
IsRefusal (CutShort name place) = ⊥
IsRefusal ReadFault = ⊥
IsRefusal WriteFault = ⊥
IsRefusal NoMemory = ⊥
IsRefusal (Flood moment) = ⊥

-- What is found in the input of a name, which is started and read. Where inputs are told, judge says what it is.
pub record Finds {X : Type 0} (name : List ℕ) (judge : Option (List ℕ) → Found X) (old : Outside) (found : Found X) (new : Outside) : Type 0 where
  pub does : DoesWithoutFault (name ∷ []) [] [] old new
  pub told : (inputs : Files) → old.inputs ≡ Some inputs → found ≡ judge (inputs name)
  pub refusal : (ending : Ending) → found ≡ Refused ending → IsRefusal ending
  pub absent : (absentee : List ℕ) → found ≡ Refused (NoInput absentee) → HasRisen old.absences new.absences
  pub present : ((absentee : List ℕ) → found ≢ Refused (NoInput absentee)) → SameAbsences old new
