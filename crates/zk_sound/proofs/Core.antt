-- Computations one after another keep the types of a world where each does.
use Rattle.std.proofs.Common.{◌≡◌, ℕ, zero, suc, Bool, true, false, List, Option, Some, None, refl}
use Rattle.std.specs.Prelude.{if◌then◌else◌}
use Rattle.zk_tree.specs.declared.place.Place.{Place}
use Rattle.zk_tree.specs.Value.{Value}
use Rattle.zk_typed.specs.declared.ends.FaultKind.{FaultKind}
use Rattle.zk_typed.specs.Does.{Does, Ran, Gives, Faults, Spent, and_then, ◌>>=◌, ◌>>◌, pure, fault, or_fault, spend, tick, read, change}
use Rattle.zk_typed.specs.Program.{Program}
use Rattle.zk_typed.specs.State.{State, World}
use Rattle.zk_typed.specs.Types.{ValueType}
use Rattle.zk_sound.specs.Holding.{Kinds, MayHaveType, HaveTypes}
use Rattle.zk_sound.specs.Worlds.{WorldFits}
use Rattle.zk_sound.specs.Keeping.{Setting, Grows, Fits, Stopped, MayFault, Ends, Keeps, Any}
use Rattle.zk_sound.proofs.Growth.{grows_no, grows_on}

abbrev pub MayBe : ValueType → Kinds → Option Value → Type 0
MayBe of kinds one = MayHaveType kinds of one

abbrev pub AllOf : List ValueType → Kinds → List Value → Type 0
AllOf types kinds ones = HaveTypes kinds types ones

stopped_before : {program : Program} {kinds later : Kinds} {world : World} → Grows kinds later → Stopped program later world → Stopped program kinds world
stopped_before grows h = record { later = h.later; grows = grows_on grows h.grows; fits = h.fits }

ends_before : {A : Type 0} (setting : Setting) (Q : Kinds → A → Type 0) {kinds later : Kinds} → Grows kinds later → (ran : Ran A) → Ends setting Q later ran → Ends setting Q kinds ran
ends_before setting Q grows (Gives a state) h = record { later = h.later; grows = grows_on grows h.grows; fits = h.fits; of = h.of }
ends_before setting Q grows (Faults why place world units) (may, h) = (may, stopped_before grows h)
ends_before setting Q grows (Spent place world) h = stopped_before grows h

module _ {A B : Type 0} (setting : Setting) (P : Kinds → A → Type 0) (Q : Kinds → B → Type 0) (kinds : Kinds) where
  ends_then : (ran : Ran A) (next : A → Does B) → Ends setting P kinds ran
      → ((later : Kinds) → Grows kinds later → (a : A) → P later a → Keeps setting Q later (next a)) → Ends setting Q kinds (and_then ran next)
  ends_then (Gives a state) next h keeps = ends_before setting Q h.grows (next a state) ((keeps h.later h.grows a h.of).by state h.fits)
  ends_then (Faults why place world units) next h keeps = h
  ends_then (Spent place world) next h keeps = h

pub keeps_bind : {A B : Type 0} {setting : Setting} {P : Kinds → A → Type 0} {Q : Kinds → B → Type 0} {kinds : Kinds} {m : Does A} {next : A → Does B} → Keeps setting P kinds m
    → ((later : Kinds) → Grows kinds later → (a : A) → P later a → Keeps setting Q later (next a)) → Keeps setting Q kinds (m >>= next)
keeps_bind {setting = setting} {P = P} {Q = Q} {kinds = kinds} {m = m} {next = next} first keeps = record { by = λ state fits. ends_then setting P Q kinds (m state) next (first.by state fits) keeps }

pub keeps_then : {A B : Type 0} {setting : Setting} {P : Kinds → A → Type 0} {Q : Kinds → B → Type 0} {kinds : Kinds} {m : Does A} {next : Does B} → Keeps setting P kinds m
    → ((later : Kinds) → Grows kinds later → Keeps setting Q later next) → Keeps setting Q kinds (m >> next)
keeps_then first keeps = keeps_bind first (λ later grows a of. keeps later grows)

pub keeps_pure : {A : Type 0} {setting : Setting} {Q : Kinds → A → Type 0} {kinds : Kinds} (a : A) → Q kinds a → Keeps setting Q kinds (pure a)
keeps_pure {kinds = kinds} a of = record { by = λ state fits. record { later = kinds; grows = grows_no kinds; fits = fits; of = of } }

pub keeps_fault : {A : Type 0} {setting : Setting} {Q : Kinds → A → Type 0} {kinds : Kinds} (why : FaultKind) (place : Place) → MayFault setting.strict why → Keeps setting Q kinds (fault why place)
keeps_fault {kinds = kinds} why place may = record { by = λ state fits. (may, record { later = kinds; grows = grows_no kinds; fits = fits.world }) }

pub keeps_or_fault : {A : Type 0} {setting : Setting} {Q : Kinds → A → Type 0} {kinds : Kinds} (why : FaultKind) (place : Place) (one : Option A) → MayFault setting.strict why
    → ((a : A) → one ≡ Some a → Q kinds a) → Keeps setting Q kinds (or_fault why place one)
keeps_or_fault why place (Some a) may of = keeps_pure a (of a refl)
keeps_or_fault why place None may of = keeps_fault why place may

spend_ends : (setting : Setting) (kinds : Kinds) (place : Place) (state : State) (units : ℕ) → Fits setting kinds state → Ends setting Any kinds (spend place state units)
spend_ends setting kinds place state zero fits = record { later = kinds; grows = grows_no kinds; fits = fits.world }
spend_ends setting kinds place state (suc units) fits = record { later = kinds; grows = grows_no kinds; fits = record { world = fits.world; locals = fits.locals }; of = tt }

pub keeps_tick : {setting : Setting} {kinds : Kinds} (place : Place) → Keeps setting Any kinds (tick place)
keeps_tick place = record { by = λ state fits. spend_ends _ _ place state state.units fits }

-- what is read first decides the rest
pub keeps_read : {A B : Type 0} {setting : Setting} {Q : Kinds → B → Type 0} {kinds : Kinds} (part : World → A) (next : A → Does B)
    → ((world : World) → WorldFits setting.program kinds world → Keeps setting Q kinds (next (part world))) → Keeps setting Q kinds (read part >>= next)
keeps_read part next keeps = record { by = λ state fits. (keeps state.world fits.world).by state fits }

-- the world is changed, and new objects may come
pub keeps_change : {setting : Setting} {kinds : Kinds} (changed : World → World)
    → ((world : World) → WorldFits setting.program kinds world → WorldFits setting.program kinds (changed world)) → Keeps setting Any kinds (change changed)
keeps_change {kinds = kinds} changed keeps = record {
  by = λ state fits.
      record { later = kinds; grows = grows_no kinds; fits = record { world = keeps state.world fits.world; locals = fits.locals }; of = tt };
}

pub keeps_if : {A : Type 0} {setting : Setting} {Q : Kinds → A → Type 0} {kinds : Kinds} {a b : Does A} (test : Bool) → Keeps setting Q kinds a → Keeps setting Q kinds b → Keeps setting Q kinds (if test then a else b)
keeps_if true met otherwise = met
keeps_if false met otherwise = otherwise

-- what comes is more than was asked
pub keeps_more : {A : Type 0} {setting : Setting} {P Q : Kinds → A → Type 0} {kinds : Kinds} {m : Does A} → ((later : Kinds) (a : A) → P later a → Q later a) → Keeps setting P kinds m → Keeps setting Q kinds m
keeps_more {setting = setting} {P = P} {Q = Q} {kinds = kinds} {m = m} more keeps = record { by = λ state fits. ended (m state) (keeps.by state fits) }
  where
    ended : (ran : Ran _) → Ends setting P kinds ran → Ends setting Q kinds ran
    ended (Gives a state) h = record { later = h.later; grows = h.grows; fits = h.fits; of = more h.later a h.of }
    ended (Faults why place world units) h = h
    ended (Spent place world) h = h
