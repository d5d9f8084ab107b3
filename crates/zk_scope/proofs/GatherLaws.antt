-- The parts of a list are checked one after another.
use Rattle.std.proofs.Common.{◌≡◌, ℕ, ◌+◌, ◌<◌, List, [], ◌∷◌, ◌++◌, Result, Ok, Err, refl, ap, sym, ◌∙◌, append-nil, append_assoc, subst, take, get_or, length, map}
use Rattle.std.proofs.lemmas.List.{take_more}
use Rattle.zk_typed.specs.declared.refusal.Refusal.{Refusal}
use Rattle.zk_typed.specs.declared.refusal.Refusal.TheVariants.{Broken, NoMemory}
use Rattle.zk_typed.specs.Checked.{Checked, ◌>>=◌, both, each}
use Rattle.zk_typed.specs.Tells.{Tells}
use Rattle.zk_scope.specs.Gathering.{Appends}

-- what was checked with one more part
abbrev pub with_one : {B : Type 0} → Checked (List B) → Checked B → Checked (List B)
with_one (Ok all) (Ok one) = Ok (all ++ one ∷ [])
with_one (Ok all) (Err rules) = Err rules
with_one (Err rules) (Ok one) = Err rules
with_one (Err rules) (Err more) = Err (rules ++ more)

alone : {B : Type 0} (one : Checked B) → (both one (Ok []) >>= (λ parts. Ok (parts.0 ∷ parts.1))) ≡ with_one (Ok []) one
alone (Ok one) = refl
alone (Err rules) = ap Err (append-nil rules)

before_all : {B : Type 0} (first : Checked B) (all : Checked (List B)) (one : Checked B) →
    (both first (with_one all one) >>= (λ parts. Ok (parts.0 ∷ parts.1))) ≡ with_one (both first all >>= (λ parts. Ok (parts.0 ∷ parts.1))) one
before_all (Ok first) (Ok all) (Ok one) = refl
before_all (Ok first) (Ok all) (Err rules) = refl
before_all (Ok first) (Err rules) (Ok one) = refl
before_all (Ok first) (Err rules) (Err more) = refl
before_all (Err told) (Ok all) (Ok one) = refl
before_all (Err told) (Ok all) (Err rules) = ap (λ x. Err (x ++ rules)) (sym (append-nil told))
before_all (Err told) (Err rules) (Ok one) = refl
before_all (Err told) (Err rules) (Err more) = ap Err (sym (append_assoc told rules more))

pub each_more : {A B : Type 0} (check : A → Checked B) (xs : List A) (y : A) → each check (xs ++ y ∷ []) ≡ with_one (each check xs) (check y)
each_more check [] y = alone (check y)
each_more check (x ∷ xs) y = ap (λ more. both (check x) more >>= (λ parts. Ok (parts.0 ∷ parts.1))) (each_more check xs y) ∙ before_all (check x) (each check xs) (check y)

-- what tells of all and of one more tells of both
pub told_more : {A B : Type 0} (view : A → B) (views : List A → List B) → ((xs : List A) (x : A) → views (xs ++ x ∷ []) ≡ views xs ++ view x ∷ []) →
    (all : Result (List A) Refusal) (one : Result A Refusal) (more : Result (List A) Refusal) (before : Checked (List B)) (next : Checked B) →
    Tells views all before → Tells view one next → Appends all one more → Tells views more (with_one before next)
told_more view views law all one (Err NoMemory) before next p q h = tt
told_more view views law (Ok all) (Ok one) (Ok more) before next p q h = ap (λ x. with_one x next) p ∙ ap (with_one (Ok (views all))) q ∙ ap Ok (sym (law all one) ∙ ap views (sym h))
told_more view views law (Err (Broken rules)) (Ok one) (Err (Broken told)) before next p q h = ap (λ x. with_one x next) p ∙ ap (with_one (Err rules)) q ∙ ap Err (sym h)
told_more view views law (Ok all) (Err (Broken rules)) (Err (Broken told)) before next p q h = ap (λ x. with_one x next) p ∙ ap (with_one (Ok (views all))) q ∙ ap Err (sym h)
told_more view views law (Err (Broken first)) (Err (Broken second)) (Err (Broken told)) before next p q h = ap (λ x. with_one x next) p ∙ ap (with_one (Err first)) q ∙ ap Err (sym h)
told_more view views law (Err NoMemory) one (Ok more) before next p q h = absurd h
told_more view views law (Err NoMemory) one (Err (Broken told)) before next p q h = absurd h
told_more view views law (Ok all) (Err NoMemory) (Ok more) before next p q h = absurd h
told_more view views law (Ok all) (Err NoMemory) (Err (Broken told)) before next p q h = absurd h
told_more view views law (Ok all) (Ok one) (Err (Broken told)) before next p q h = absurd h
told_more view views law (Ok all) (Err (Broken rules)) (Ok more) before next p q h = absurd h
told_more view views law (Err (Broken rules)) (Ok one) (Ok more) before next p q h = absurd h
told_more view views law (Err (Broken rules)) (Err NoMemory) (Ok more) before next p q h = absurd h
told_more view views law (Err (Broken rules)) (Err NoMemory) (Err (Broken told)) before next p q h = absurd h
told_more view views law (Err (Broken first)) (Err (Broken second)) (Ok more) before next p q h = absurd h

-- a part of a list more
pub told_on : {A V B : Type 0} (view : V → B) (views : List V → List B) → ((xs : List V) (x : V) → views (xs ++ x ∷ []) ≡ views xs ++ view x ∷ []) →
    (check : A → Checked B) (xs : List A) (at : ℕ) (x : A) (all : Result (List V) Refusal) (one : Result V Refusal) (more : Result (List V) Refusal) →
    at < length xs → x ≡ get_or xs at x → Tells views all (each check (take at xs)) → Tells view one (check x) → Appends all one more → Tells views more (each check (take (at + 1) xs))
told_on {B = B} view views law check xs at x all one more within is p q h =
    let e : take (at + 1) xs ≡ take at xs ++ x ∷ [] = take_more xs at x within ∙ ap (λ y. take at xs ++ y ∷ []) (sym is) in
    subst (λ (w : Checked (List B)). Tells views more w) (sym (ap (each check) e ∙ each_more check (take at xs) x))
    (told_more view views law all one more (each check (take at xs)) (check x) p q h)

pub map_more : {A B : Type 0} (f : A → B) (xs : List A) (x : A) → map f (xs ++ x ∷ []) ≡ map f xs ++ f x ∷ []
map_more f [] x = refl
map_more f (y ∷ ys) x = ap (λ more. f y ∷ more) (map_more f ys x)
