-- Rules that are told one after another.
use Rattle.std.proofs.Common.{◌≡◌, ℕ, ◌+◌, ◌<◌, ◌≤◌, Bool, Option, map, List, [], ◌∷◌, Result, Ok, Err, length, drop, get_or, refl, ap, sym, subst, ◌∙◌}
use Rattle.std.specs.Option.{option_map}
use Rattle.std.proofs.lemmas.List.{drop_all}
use Rattle.zk_typed.specs.declared.refusal.Refusal.{Refusal}
use Rattle.zk_typed.specs.declared.refusal.Refusal.TheVariants.{Broken, NoMemory}
use Rattle.zk_typed.specs.declared.script.types.ValueType as declared
use Rattle.zk_typed.specs.Checked.{Checked, both, ◌>>=◌}
use Rattle.zk_typed.specs.Declarations.{nothing, is_one_of}
use Rattle.zk_typed.specs.Tells.{Tells}
use Rattle.zk_typed.specs.Types.{ValueType}
use Rattle.zk_typed.specs.View.{type_of}
use Rattle.zk_check_operators.specs.Gather.{told, Told, Adds}
use Rattle.zk_check_operators.proofs.BothLaws.{Rules, one_more, all_told}
use Rattle.zk_check_declarations.specs.Telling.{dropped}
use Rattle.zk_check_declarations.proofs.ListLaws.{front_of}

-- what is broken in a type is broken in what has it
pub type_passed : (ca : Checked ValueType) (k : ValueType → Checked (Unit {0})) (refusal : Refusal) →
    Tells type_of (Err refusal) ca → Rules (Err refusal) (ca >>= k)
type_passed ca k (Broken rules) h = rw h refl
type_passed ca k NoMemory h = tt

pub dropped_tells : {A B : Type 0} (view : A → B) (one : Result A Refusal) (given : Checked B) → Tells view one given → Rules (dropped one) (nothing given)
dropped_tells view (Ok one) given h = rw h refl
dropped_tells view (Err (Broken rules)) given h = rw h refl
dropped_tells view (Err NoMemory) given h = tt

-- two parts that are told
pub also_tells : (first second result : Result (Unit {0}) Refusal) (a b : Checked (Unit {0})) → Rules first a → Rules second b → Adds first second result →
    Rules result (nothing (both a b))
also_tells first second (Err NoMemory) a b h k adds = tt
also_tells (Err NoMemory) second (Ok n) a b h k adds = absurd adds.0
also_tells (Err NoMemory) second (Err (Broken rules)) a b h k adds = absurd adds.0
also_tells first (Err NoMemory) (Ok n) a b h k adds = absurd adds.1
also_tells first (Err NoMemory) (Err (Broken rules)) a b h k adds = absurd adds.1
also_tells (Ok x) (Ok y) (Ok n) a b h k adds = rw (h, k) adds.2
also_tells (Ok x) (Err (Broken more)) (Ok n) a b h k adds = rw (h, k) adds.2
also_tells (Err (Broken own)) (Ok y) (Ok n) a b h k adds = rw (h, k) adds.2
also_tells (Err (Broken own)) (Err (Broken more)) (Ok n) a b h k adds = rw (h, k) adds.2
also_tells (Ok x) (Ok y) (Err (Broken rules)) a b h k adds = rw (h, k) adds.2
also_tells (Ok x) (Err (Broken more)) (Err (Broken rules)) a b h k adds = rw (h, k) adds.2
also_tells (Err (Broken own)) (Ok y) (Err (Broken rules)) a b h k adds = rw (h, k) adds.2
also_tells (Err (Broken own)) (Err (Broken more)) (Err (Broken rules)) a b h k adds = rw (h, k) adds.2

-- rules of a list's items, told as far as an index: what is told of the whole is that and the rules of what is left
abbrev pub GoesOn : Result (Unit {0}) Refusal → Checked (Unit {0}) → Checked (Unit {0}) → Type 0
GoesOn rules rest whole = Told rules → nothing (both (told rules) rest) ≡ whole

pub begun : (whole : Checked (Unit {0})) → GoesOn (Ok tt) whole whole
begun (Ok tt) known = refl
begun (Err rules) known = refl

-- Rules that look at the names before an item, which are met one by one.
module _ {A State : Type 0} (Met : State → List (List ℕ) → Type 0) (walk : List (List ℕ) → List A → Checked (Unit {0})) (one : List (List ℕ) → A → Checked (Unit {0})) (name : A → List ℕ) where
  abbrev pub IsWalk : Type 0
  IsWalk = (before : List (List ℕ)) (x : A) (xs : List A) → walk before (x ∷ xs) ≡ nothing (both (one before x) (walk (name x ∷ before) xs))

  -- the names that were met are those before an item
  pub record WalksOn (met : State) (rules : Result (Unit {0}) Refusal) (xs : List A) (i : ℕ) (whole : Checked (Unit {0})) : Type 0 where
    pub before : List (List ℕ)
    pub sees : Met met before
    pub goes_on : GoesOn rules (walk before (drop i xs)) whole

  pub walk_turn : (met next : State) (rules part more : Result (Unit {0}) Refusal) (xs : List A) (i : ℕ) (x : A) (was : Bool) (whole : Checked (Unit {0})) →
      IsWalk → i < length xs → x ≡ get_or xs i x → WalksOn met rules xs i whole →
      ((before : List (List ℕ)) → Met met before → was ≡ is_one_of before (name x)) → ((before : List (List ℕ)) → Met met before → Met next (name x ∷ before)) →
      ((before : List (List ℕ)) → was ≡ is_one_of before (name x) → Rules part (one before x)) → Adds rules part more → WalksOn next more xs (i + 1) whole
  walk_turn met next rules part more xs i x was whole law within is on known meets judged adds = record {
    before = name x ∷ on.before;
    sees = meets on.before on.sees;
    goes_on =
        let here : walk on.before (drop i xs) ≡ nothing (both (one on.before x) (walk (name x ∷ on.before) (drop (i + 1) xs))) =
        ap (walk on.before) (front_of xs i x within is) ∙ law on.before x (drop (i + 1) xs) in
        one_more rules part more (one on.before x) (walk (name x ∷ on.before) (drop (i + 1) xs)) whole
        (λ told_before. ap (λ given. nothing (both (told rules) given)) (sym here) ∙ on.goes_on told_before) (judged on.before (known on.before on.sees)) adds;
  }

  pub walk_end : (met : State) (rules : Result (Unit {0}) Refusal) (xs : List A) (i : ℕ) (whole : Checked (Unit {0})) →
      ((before : List (List ℕ)) → walk before [] ≡ Ok tt) → length xs ≤ i → WalksOn met rules xs i whole → Rules rules whole
  walk_end met rules xs i whole none past on =
      all_told rules whole (λ known. ap (λ given. nothing (both (told rules) given)) (sym (ap (walk on.before) (drop_all i xs past) ∙ none on.before)) ∙ on.goes_on known)

-- Rules that look at an item alone.
module _ {A : Type 0} (walk : List A → Checked (Unit {0})) (one : A → Checked (Unit {0})) where
  pub each_turn : (rules part more : Result (Unit {0}) Refusal) (xs : List A) (i : ℕ) (x : A) (whole : Checked (Unit {0})) →
      ((x : A) (xs : List A) → walk (x ∷ xs) ≡ nothing (both (one x) (walk xs))) → i < length xs → x ≡ get_or xs i x → GoesOn rules (walk (drop i xs)) whole →
      Rules part (one x) → Adds rules part more → GoesOn more (walk (drop (i + 1) xs)) whole
  each_turn rules part more xs i x whole law within is on judged adds =
      let here : walk (drop i xs) ≡ nothing (both (one x) (walk (drop (i + 1) xs))) = ap walk (front_of xs i x within is) ∙ law x (drop (i + 1) xs) in
      one_more rules part more (one x) (walk (drop (i + 1) xs)) whole
      (λ known. ap (λ given. nothing (both (told rules) given)) (sym here) ∙ on known) judged adds

  pub each_end : (rules : Result (Unit {0}) Refusal) (xs : List A) (i : ℕ) (whole : Checked (Unit {0})) →
      walk [] ≡ Ok tt → length xs ≤ i → GoesOn rules (walk (drop i xs)) whole → Rules rules whole
  each_end rules xs i whole none past on =
      all_told rules whole (λ known. ap (λ given. nothing (both (told rules) given)) (sym (ap walk (drop_all i xs past) ∙ none)) ∙ on known)

-- what is broken in a signature is broken in what has it
pub signed_passed : (ca : Checked (List ValueType × Option ValueType)) (k : List ValueType × Option ValueType → Checked (Unit {0})) (refusal : Refusal) →
    Tells (λ (one : List declared.ValueType × Option declared.ValueType). (map type_of one.0, option_map type_of one.1)) (Err refusal) ca → Rules (Err refusal) (ca >>= k)
signed_passed ca k (Broken rules) h = rw h refl
signed_passed ca k NoMemory h = tt

-- a part that is right
pub passes_on : {A : Type 0} (ca : Checked A) (k : A → Checked (Unit {0})) (x : A) (result : Result (Unit {0}) Refusal) → ca ≡ Ok x → Rules result (k x) → Rules result (ca >>= k)
passes_on {A} ca k x result e h = subst (λ (given : Checked A). Rules result (given >>= k)) (sym e) h

-- a part whose value is dropped
pub dropped_first : {A B : Type 0} (a : Checked A) (b : Checked B) → nothing (both (nothing a) b) ≡ nothing (both a b)
dropped_first (Ok a) (Ok b) = refl
dropped_first (Ok a) (Err rules) = refl
dropped_first (Err rules) b = refl

-- the same rules, told in another way
pub same_rules : (result : Result (Unit {0}) Refusal) {a b : Checked (Unit {0})} → a ≡ b → Rules result b → Rules result a
same_rules result e h = subst (λ (whole : Checked (Unit {0})). Rules result whole) (sym e) h

pub dropped_last : {A B : Type 0} (a : Checked A) (b : Checked B) → nothing (both a (nothing b)) ≡ nothing (both a b)
dropped_last (Ok a) (Ok b) = refl
dropped_last (Ok a) (Err rules) = refl
dropped_last (Err rules) (Ok b) = refl
dropped_last (Err rules) (Err more) = refl

-- five parts
pub five_parts : {A B C D E : Type 0} (a : Checked A) (b : Checked B) (c : Checked C) (d : Checked D) (e : Checked E) →
    nothing (both (nothing (both a b)) (nothing (both c (nothing (both d (nothing e)))))) ≡ nothing (both (both a b) (both c (both d e)))
five_parts a b c d e =
    ap (λ rest. nothing (both (nothing (both a b)) rest)) (ap (λ rest. nothing (both c rest)) (dropped_last d e) ∙ dropped_last c (both d e)) ∙
    dropped_first (both a b) (nothing (both c (both d e))) ∙ dropped_last (both a b) (both c (both d e))

-- parts of what is told are told
pub adds_told : (first second result : Result (Unit {0}) Refusal) → Adds first second result → Told result → Told first × Told second
adds_told first second (Ok n) adds told_all = (adds.0, adds.1)
adds_told first second (Err (Broken rules)) adds told_all = (adds.0, adds.1)
adds_told first second (Err NoMemory) adds told_all = absurd told_all
