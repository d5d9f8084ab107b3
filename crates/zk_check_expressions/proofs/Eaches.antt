-- The parts of a list that are checked one after another.
use Rattle.std.proofs.Common.{◌≡◌, ℕ, ◌+◌, ◌<◌, Result, Ok, Err, List, [], ◌∷◌, ◌++◌, length, map, take, get_or, refl, ap, sym, ◌∙◌, append_assoc, append-nil}
use Rattle.std.proofs.lemmas.List.{take_more}
use Rattle.std.specs.Borrow.{Bor}
use Rattle.std.specs.declared.alloc.Global.{Global}
use Rattle.std.specs.declared.vec.Vec.{Vec}
use Rattle.zk_typed.specs.declared.refusal.Refusal.{Refusal}
use Rattle.zk_typed.specs.declared.refusal.Refusal.TheVariants.{Broken, NoMemory}
use Rattle.zk_typed.specs.Checked.{Checked, ◌>>=◌, both, each}
use Rattle.zk_typed.specs.Tells.{Tells}
use Rattle.zk_check_operators.specs.declared.operands.Typed.{Typed as RustTyped}
use Rattle.zk_check_operators.specs.Gathering.{IsNext}
use Rattle.zk_check_operators.specs.Views.{typed_of, typed_all, all_typed}
use Rattle.zk_typed.specs.declared.script.types.SimpleType.{SimpleType}
use Rattle.zk_typed.specs.Making.{GivenField}
use Rattle.zk_typed.specs.Typing.{Typed}
use Rattle.zk_check_expressions.specs.declared.records.GivenField.{GivenField as RustGiven}
use Rattle.zk_check_expressions.specs.LogSettings.{all_texts, texts_lent}
use Rattle.zk_check_expressions.specs.Members.{all_members}
use Rattle.zk_check_expressions.specs.Parts.{with_last}
use Rattle.zk_check_expressions.specs.Records.{given_of, all_given_of}

abbrev pub with_first : {B : Type 0} → Checked B → Checked (List B) → Checked (List B)
with_first part all = both part all >>= (λ parts. Ok (parts.0 ∷ parts.1))

first_and_last : {B : Type 0} (a : Checked B) (b : Checked (List B)) (c : Checked B) → with_first a (with_last b c) ≡ with_last (with_first a b) c
first_and_last (Ok a) (Ok b) (Ok c) = refl
first_and_last (Ok a) (Ok b) (Err s) = refl
first_and_last (Ok a) (Err r) (Ok c) = refl
first_and_last (Ok a) (Err r) (Err s) = refl
first_and_last (Err q) (Ok b) (Ok c) = ap Err (sym (append-nil (q ++ [])))
first_and_last (Err q) (Ok b) (Err s) = ap (λ front. Err (front ++ s)) (sym (append-nil q))
first_and_last (Err q) (Err r) (Ok c) = ap Err (sym (append_assoc q r []))
first_and_last (Err q) (Err r) (Err s) = ap Err (sym (append_assoc q r s))

of_one : {B : Type 0} (a : Checked B) → with_first a (Ok []) ≡ with_last (Ok []) a
of_one (Ok a) = refl
of_one (Err rules) = ap Err (append-nil rules)

pub each_last : {A B : Type 0} (f : A → Checked B) (before : List A) (one : A) → each f (before ++ one ∷ []) ≡ with_last (each f before) (f one)
each_last f [] one = of_one (f one)
each_last f (first ∷ before) one = ap (with_first (f first)) (each_last f before one) ∙ first_and_last (f first) (each f before) (f one)

-- what takes the items of a list to what they stand for, one by one
abbrev pub OneByOne : {A B : Type 0} → (A → B) → (List A → List B) → Type 0
OneByOne {A} view views = (before : List A) (one : A) → views (before ++ one ∷ []) ≡ views before ++ view one ∷ []

pub typed_last : OneByOne typed_of typed_all
typed_last [] one = refl
typed_last (first ∷ all) one = ap (λ more. typed_of first ∷ more) (typed_last all one)

pub map_last : {A B : Type 0} (view : A → B) → OneByOne view (map view)
map_last view [] one = refl
map_last view (first ∷ all) one = ap (λ more. view first ∷ more) (map_last view all one)

-- what is made of parts and one more
pub next_is : {A B : Type 0} (view : A → B) (views : List A → List B) → OneByOne view views →
    (all : Result (Vec A Global) Refusal) (part : Result A Refusal) (next : Result (Vec A Global) Refusal) (wa : Checked (List B)) (wb : Checked B) →
    Tells (λ (made : Vec A Global). views made.items) all wa → Tells view part wb → IsNext all part next → Tells (λ (made : Vec A Global). views made.items) next (with_last wa wb)
next_is view views last (Ok v) (Ok one) (Ok n) wa wb h k e = let items : v.items ++ one ∷ [] ≡ n.items = cc in rw (h, k) (ap Ok (sym (last v.items one) ∙ ap views items))
next_is view views last (Ok v) (Ok one) (Err (Broken rules)) wa wb h k e = absurd (cc)
next_is view views last (Ok v) (Err (Broken more)) (Ok n) wa wb h k e = absurd (cc)
next_is view views last (Ok v) (Err (Broken more)) (Err (Broken rules)) wa wb h k e = let same : more ≡ rules = cc in rw (h, k) (ap Err same)
next_is view views last (Ok v) (Err NoMemory) (Ok n) wa wb h k e = absurd (cc)
next_is view views last (Ok v) (Err NoMemory) (Err (Broken rules)) wa wb h k e = absurd (cc)
next_is view views last (Err (Broken before)) (Ok one) (Ok n) wa wb h k e = absurd (cc)
next_is view views last (Err (Broken before)) (Ok one) (Err (Broken rules)) wa wb h k e = let same : before ≡ rules = cc in rw (h, k) (ap Err (append-nil before ∙ same))
next_is view views last (Err (Broken before)) (Err (Broken more)) (Ok n) wa wb h k e = absurd (cc)
next_is view views last (Err (Broken before)) (Err (Broken more)) (Err (Broken rules)) wa wb h k e = let same : before ++ more ≡ rules = cc in rw (h, k) (ap Err same)
next_is view views last (Err (Broken before)) (Err NoMemory) (Ok n) wa wb h k e = absurd (cc)
next_is view views last (Err (Broken before)) (Err NoMemory) (Err (Broken rules)) wa wb h k e = absurd (cc)
next_is view views last (Err NoMemory) part (Ok n) wa wb h k e = absurd (cc)
next_is view views last (Err NoMemory) part (Err (Broken rules)) wa wb h k e = absurd (cc)
next_is view views last all part (Err NoMemory) wa wb h k e = tt

pub next_tells : (all : Result (Vec RustTyped Global) Refusal) (part : Result RustTyped Refusal) (next : Result (Vec RustTyped Global) Refusal)
    (wa : Checked (List Typed)) (wb : Checked Typed) → Tells all_typed all wa → Tells typed_of part wb → IsNext all part next → Tells all_typed next (with_last wa wb)
next_tells = next_is typed_of typed_all typed_last

-- a turn of a loop over what is checked
turn_is : {A B X : Type 0} (view : A → B) (views : List A → List B) → OneByOne view views → (f : X → Checked B) (xs : List X) (i : ℕ) (one : X)
    (all : Result (Vec A Global) Refusal) (part : Result A Refusal) (next : Result (Vec A Global) Refusal) →
    i < length xs → one ≡ get_or xs i one → Tells (λ (made : Vec A Global). views made.items) all (each f (take i xs)) → Tells view part (f one) → IsNext all part next →
    Tells (λ (made : Vec A Global). views made.items) next (each f (take (i + 1) xs))
turn_is view views last_view f xs i one all part next within is h k e =
    let last : each f (take (i + 1) xs) ≡ with_last (each f (take i xs)) (f one) =
    ap (each f) (take_more xs i one within ∙ ap (λ x. take i xs ++ x ∷ []) (sym is)) ∙ each_last f (take i xs) one in
    rw last (next_is view views last_view all part next (each f (take i xs)) (f one) h k e)

pub each_turn : {A : Type 0} (f : A → Checked Typed) (xs : List A) (i : ℕ) (one : A) (all : Result (Vec RustTyped Global) Refusal) (part : Result RustTyped Refusal) (next : Result (Vec RustTyped Global) Refusal) →
    i < length xs → one ≡ get_or xs i one → Tells all_typed all (each f (take i xs)) → Tells typed_of part (f one) → IsNext all part next → Tells all_typed next (each f (take (i + 1) xs))
each_turn = turn_is typed_of typed_all typed_last

pub member_turn : {A : Type 0} (f : A → Checked (List Typed)) (xs : List A) (i : ℕ) (one : A) (all : Result (Vec (Vec RustTyped Global) Global) Refusal) (part : Result (Vec RustTyped Global) Refusal) (next : Result (Vec (Vec RustTyped Global) Global) Refusal) →
    i < length xs → one ≡ get_or xs i one → Tells all_members all (each f (take i xs)) → Tells all_typed part (f one) → IsNext all part next → Tells all_members next (each f (take (i + 1) xs))
member_turn = turn_is all_typed (map all_typed) (map_last all_typed)

pub given_turn : {A : Type 0} (f : A → Checked GivenField) (xs : List A) (i : ℕ) (one : A) (all : Result (Vec RustGiven Global) Refusal) (part : Result RustGiven Refusal) (next : Result (Vec RustGiven Global) Refusal) →
    i < length xs → one ≡ get_or xs i one → Tells all_given_of all (each f (take i xs)) → Tells given_of part (f one) → IsNext all part next → Tells all_given_of next (each f (take (i + 1) xs))
given_turn = turn_is given_of (map given_of) (map_last given_of)

pub text_turn : {A : Type 0} (f : A → Checked (List ℕ)) (xs : List A) (i : ℕ) (one : A) (all : Result (Vec (Bor (List ℕ)) Global) Refusal) (part : Result (Bor (List ℕ)) Refusal) (next : Result (Vec (Bor (List ℕ)) Global) Refusal) →
    i < length xs → one ≡ get_or xs i one → Tells all_texts all (each f (take i xs)) → Tells (λ (text : Bor (List ℕ)). text.now) part (f one) → IsNext all part next → Tells all_texts next (each f (take (i + 1) xs))
text_turn = turn_is (λ text. text.now) texts_lent (map_last (λ text. text.now))

-- a value without parts is what it stands for
abbrev same_keys : List SimpleType → List SimpleType
same_keys keys = keys

pub key_turn : {A : Type 0} (f : A → Checked SimpleType) (xs : List A) (i : ℕ) (one : A) (all : Result (Vec SimpleType Global) Refusal) (part : Result SimpleType Refusal) (next : Result (Vec SimpleType Global) Refusal) →
    i < length xs → one ≡ get_or xs i one → Tells (λ (keys : Vec SimpleType Global). keys.items) all (each f (take i xs)) → Tells (λ (key : SimpleType). key) part (f one) → IsNext all part next →
    Tells (λ (keys : Vec SimpleType Global). keys.items) next (each f (take (i + 1) xs))
key_turn = turn_is (λ key. key) same_keys (λ before one. refl)

-- parts, and others behind them
abbrev pub with_rest : {B : Type 0} → Checked (List B) → Checked (List B) → Checked (List B)
with_rest all more = both all more >>= (λ parts. Ok (parts.0 ++ parts.1))

pub rest_turn : {B : Type 0} (a : Checked (List B)) (b : Checked B) (c : Checked (List B)) → with_rest (with_last a b) c ≡ with_rest a (with_first b c)
rest_turn (Ok a) (Ok b) (Ok c) = ap Ok (append_assoc a (b ∷ []) c)
rest_turn (Ok a) (Ok b) (Err s) = refl
rest_turn (Ok a) (Err r) (Ok c) = refl
rest_turn (Ok a) (Err r) (Err s) = refl
rest_turn (Err q) (Ok b) (Ok c) = ap Err (append-nil (q ++ []))
rest_turn (Err q) (Ok b) (Err s) = ap (λ front. Err (front ++ s)) (append-nil q)
rest_turn (Err q) (Err r) (Ok c) = ap Err (append_assoc q r [])
rest_turn (Err q) (Err r) (Err s) = ap Err (append_assoc q r s)

pub rest_of_none : {B : Type 0} (all : Checked (List B)) → with_rest (Ok []) all ≡ all
rest_of_none (Ok all) = refl
rest_of_none (Err rules) = refl

pub no_rest : {B : Type 0} (all : Checked (List B)) → with_rest all (Ok []) ≡ all
no_rest (Ok all) = ap Ok (append-nil all)
no_rest (Err rules) = ap Err (append-nil rules)
