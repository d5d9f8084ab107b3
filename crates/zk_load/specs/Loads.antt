-- What the loading of scripts does to the outside.
use Rattle.std.specs.Prelude.{◌≡◌, ◌≢◌, ℕ, List, [], Some}
use Rattle.zk_base.specs.declared.endings.Ending.{Ending}
use Rattle.zk_base.specs.declared.endings.Ending.TheVariants.{NoInput}
use Rattle.zk_base.specs.Shelf.{Files, Outside, HasRisen}
use Rattle.zk_outcome.specs.declared.found.Found.{Found}
use Rattle.zk_outcome.specs.declared.found.Found.TheVariants.{Refused}
use Rattle.zk_outcome.specs.declared.stop.Stop.{Stop}
use Rattle.zk_load.specs.Loading.{Scripts, loading}
use Rattle.zk_outcome.specs.Found.{IsRefusal}
use Rattle.zk_outcome.specs.Parts.{Does, DoesWithoutFault, HasCause, SameAbsences}
use Rattle.zk_outcome.specs.Prefix.{IsPrefix}

-- Behind some scripts those of these names are read, or the run ends. Where inputs are told, they say what is found and asked for.
pub record LoadsAll (before : Scripts) (names : List (List ℕ)) (old : Outside) (found : Found Scripts) (new : Outside) : Type 0 where
  pub asked : List (List ℕ)
  pub does : DoesWithoutFault asked [] [] old new
  pub told : (inputs : Files) → old.inputs ≡ Some inputs → loading before names inputs ≡ record { asked = asked; found = found }
  pub refusal : (ending : Ending) → found ≡ Refused ending → IsRefusal ending
  pub absent : (absentee : List ℕ) → found ≡ Refused (NoInput absentee) → HasRisen old.absences new.absences
  pub present : ((absentee : List ℕ) → found ≢ Refused (NoInput absentee)) → SameAbsences old new

-- It is stopped, and the first of the names were asked for.
pub record LoadsPart (before : Scripts) (names : List (List ℕ)) (old : Outside) (stop : Stop) (new : Outside) : Type 0 where
  pub asked : List (List ℕ)
  pub does : Does asked [] [] old new
  pub cause : HasCause old stop new
  pub told : (inputs : Files) → old.inputs ≡ Some inputs → IsPrefix asked (loading before names inputs).asked
