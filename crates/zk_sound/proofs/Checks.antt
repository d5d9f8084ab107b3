-- What holds of all that checking gives.
use Rattle.std.proofs.Common.{◌≡◌, Bool, true, false, List, [], ◌∷◌, Option, Some, None, Ok, Err, refl}
use Rattle.std.specs.List.{AllByRecursion}
use Rattle.zk_tree.specs.declared.place.Place.{Place}
use Rattle.zk_typed.specs.declared.rule.Rule.{Rule}
use Rattle.zk_typed.specs.Checked.{Checked, along, broken_anyway, with_rule, ◌>>=◌, ◌>>◌, both, each, require, or_broken}

-- it holds of what was checked, where no rule is broken
abbrev pub Sound : {A : Type 0} → (A → Type 0) → Checked A → Type 0
Sound P (Ok a) = P a
Sound P (Err rules) = Unit {0}

pub sound_bind : {A B : Type 0} (P : A → Type 0) (Q : B → Type 0) (m : Checked A) (rule : A → Checked B) → Sound P m → ((a : A) → P a → Sound Q (rule a)) → Sound Q (m >>= rule)
sound_bind P Q (Ok a) rule h next = next a h
sound_bind P Q (Err rules) rule h next = tt

-- what came before says nothing
pub sound_after : {A B : Type 0} (Q : B → Type 0) (m : Checked A) (next : Checked B) → Sound Q next → Sound Q (m >> next)
sound_after Q (Ok a) next h = h
sound_after Q (Err rules) next h = tt

-- nothing comes of it
pub never_ok : {A B : Type 0} (Q : B → Type 0) (m : Checked A) (rule : Rule) (place : Place) → Sound Q (broken_anyway m rule place)
never_ok Q (Ok a) rule place = tt
never_ok Q (Err rules) rule place = tt

pub sound_require : {B : Type 0} (Q : B → Type 0) (holds : Bool) (rule : Rule) (place : Place) (next : Checked B) → (holds ≡ true → Sound Q next) → Sound Q (require holds rule place >> next)
sound_require Q true rule place next h = h refl
sound_require Q false rule place next h = tt

-- a part, with what is judged beside it
pub sound_along : {A B : Type 0} (P : A → Type 0) (m : Checked A) (other : Checked B) → Sound P m → Sound P (along m other)
sound_along P (Ok a) (Ok b) h = h
sound_along P (Ok a) (Err rules) h = tt
sound_along P (Err rules) other h = tt

-- a part under a rule of the whole
pub sound_held : {A : Type 0} (P : A → Type 0) (m : Checked A) (holds : Bool) (rule : Rule) (place : Place) → Sound (λ a. holds ≡ true → P a) m → Sound P (with_rule m (require holds rule place))
sound_held P (Ok a) true rule place h = h refl
sound_held P (Ok a) false rule place h = tt
sound_held P (Err rules) holds rule place h = tt

pub sound_both : {A B : Type 0} (P : A → Type 0) (Q : B → Type 0) (a : Checked A) (b : Checked B) → Sound P a → Sound Q b → Sound (λ pair. P pair.0 × Q pair.1) (both a b)
sound_both P Q (Ok a) (Ok b) h k = (h, k)
sound_both P Q (Ok a) (Err rules) h k = tt
sound_both P Q (Err rules) second h k = tt

pub sound_each : {A B : Type 0} (P : B → Type 0) (check : A → Checked B) → ((a : A) → Sound P (check a)) → (xs : List A) → Sound (AllByRecursion P) (each check xs)
sound_each P check h [] = tt
sound_each P check h (x ∷ xs) = sound_bind (λ pair. P pair.0 × AllByRecursion P pair.1) (AllByRecursion P) (both (check x) (each check xs)) (λ parts. Ok (parts.0 ∷ parts.1))
    (sound_both P (AllByRecursion P) (check x) (each check xs) (h x) (sound_each P check h xs)) (λ parts all. all)

pub sound_or : {A : Type 0} (P : A → Type 0) (one : Option A) (rule : Rule) (place : Place) → ((a : A) → one ≡ Some a → P a) → Sound P (or_broken one rule place)
sound_or P (Some a) rule place h = h a refl
sound_or P None rule place h = tt

pub sound_any : {A : Type 0} (m : Checked A) → Sound (λ a. Unit {0}) m
sound_any (Ok a) = tt
sound_any (Err rules) = tt

-- what was checked, as it was
pub sound_is : {A : Type 0} (m : Checked A) → Sound (λ a. m ≡ Ok a) m
sound_is (Ok a) = refl
sound_is (Err rules) = tt

pub sound_more : {A : Type 0} (P Q : A → Type 0) (m : Checked A) → ((a : A) → P a → Q a) → Sound P m → Sound Q m
sound_more P Q (Ok a) more h = more a h
sound_more P Q (Err rules) more h = tt

-- what came of checking
pub sound_ok : {A : Type 0} (P : A → Type 0) (m : Checked A) (a : A) → m ≡ Ok a → Sound P m → P a
sound_ok P (Ok b) a is h = let same : b ≡ a = cc in rw same at h
sound_ok P (Err rules) a is h = absurd cc
