-- Computations one after another.
use Rattle.std.proofs.Common.{◌≡◌, List, [], ◌∷◌, ◌++◌, Result, Err, refl, sym, ap, subst, ◌∙◌, append_assoc}
use Rattle.zk_tree.specs.declared.place.Place.{Place}
use Rattle.zk_typed.specs.Does.{Ran, Gives, Faults, Spent, and_then}
use Rattle.zk_typed.specs.State.{State}
use Rattle.zk_machine.specs.Comes.{Comes}
use Rattle.zk_machine.specs.declared.halt.Halt.{Halt}
use Rattle.zk_machine.specs.declared.halt.Halt.TheVariants as halt

-- three computations, one after another
pub then_assoc : {A B C : Type 0} (ran : Ran A) (next : A → State → Ran B) (last : B → State → Ran C)
    → and_then (and_then ran next) last ≡ and_then ran (λ a state. and_then (next a state) last)
then_assoc (Gives a state) next last = refl
then_assoc (Faults kind place world units) next last = refl
then_assoc (Spent place world) next last = refl

-- what goes on alike
pub then_alike : {A B : Type 0} (ran : Ran A) (next other : A → State → Ran B) → ((a : A) (state : State) → next a state ≡ other a state)
    → and_then ran next ≡ and_then ran other
then_alike (Gives a state) next other alike = alike a state
then_alike (Faults kind place world units) next other alike = refl
then_alike (Spent place world) next other alike = refl

-- what goes on from a value
pub goes_on : {A C D : Type 0} (view : C → D) (place : Place) (call : Result C Halt) (ran : Ran A) (next : A → State → Ran D) (a : A) (mid now : State)
    → ran ≡ Gives a mid → Comes view place call (next a mid) now → Comes view place call (and_then ran next) now
goes_on {A = A} view place call ran next a mid now is comes =
    let P : Ran A → Type 0 = λ one. Comes view place call (and_then one next) now in subst P (sym is) comes

-- where no value comes nothing goes on
pub stops : {A B C D : Type 0} (view : A → B) (other : C → D) (place : Place) (why : Halt) (ran : Ran B) (next : B → State → Ran D) (now : State)
    → Comes view place (Err why) ran now → Comes other place (Err why) (and_then ran next) now
stops view other place (halt.Fault kind) ran next now e = ap (λ one. and_then one next) e
stops view other place halt.Spent ran next now e = ap (λ one. and_then one next) e
stops view other place halt.NoMemory ran next now e = tt

-- an equal computation
pub comes_as : {A B : Type 0} (view : A → B) (place : Place) (call : Result A Halt) (ran other : Ran B) (now : State)
    → other ≡ ran → Comes view place call ran now → Comes view place call other now
comes_as {B = B} view place call ran other now is comes = let P : Ran B → Type 0 = λ one. Comes view place call one now in subst P (sym is) comes

-- Lists that are made item by item ---------------------------------------------------------------------------------

-- what is made behind items that were made before
abbrev pub gathered : {A : Type 0} → List A → Ran (List A) → Ran (List A)
gathered before ran = and_then ran (λ others state. Gives (before ++ others) state)

pub gathered-more : {A : Type 0} (before : List A) (one : A) (ran : Ran (List A))
    → gathered before (and_then ran (λ others state. Gives (one ∷ others) state)) ≡ gathered (before ++ one ∷ []) ran
gathered-more before one (Gives others state) = ap (λ all. Gives all state) (sym (append_assoc before (one ∷ []) others))
gathered-more before one (Faults kind place world units) = refl
gathered-more before one (Spent place world) = refl

pub gathered-none : {A : Type 0} (ran : Ran (List A)) → gathered [] ran ≡ ran
gathered-none (Gives others state) = refl
gathered-none (Faults kind place world units) = refl
gathered-none (Spent place world) = refl

-- a step of such a list
pub gathered-step : {A : Type 0} (before : List A) (first : Ran A) (rest : State → Ran (List A)) (one : A) (mid : State) → first ≡ Gives one mid
    → gathered before (and_then first (λ one state. and_then (rest state) (λ others state. Gives (one ∷ others) state))) ≡ gathered (before ++ one ∷ []) (rest mid)
gathered-step before first rest one mid is =
    ap (λ ran. gathered before (and_then ran (λ one state. and_then (rest state) (λ others state. Gives (one ∷ others) state)))) is
    ∙ gathered-more before one (rest mid)
