-- The types of globals, round after round: once there were as many rounds as there are globals, none changes any more.
use Rattle.std.proofs.Common.{◌≡◌, ℕ, zero, suc, ◌+◌, ◌<◌, ◌≤◌, Bool, true, false, if◌then◌else◌, List, [], ◌∷◌, length, map, Option, Some, None, Ok, Err, slice_get, ◌⊎◌, inl, inr, refl, ap, sym, subst, ◌∙◌, arith}
use Rattle.std.specs.Option.{option_map}
use Rattle.std.proofs.lemmas.List.{length-map}
use Rattle.zk_typed.specs.Checked.{Checked, elsewhere, rules_of}
use Rattle.zk_typed.specs.Declarations.{bodiless, circular, global_type_to, is_circular, marked, told_type, variable_type, variables}
use Rattle.zk_typed.specs.Names.{Declared, Meant, Variable}
use Rattle.zk_typed.specs.Resolving.{Scripts, hushed, type_of}
use Rattle.zk_typed.specs.Statements.{init_typed}
use Rattle.zk_typed.specs.Types.{ValueType}
use Rattle.zk_typed.specs.Typing.{Typed, Nothing}
use Rattle.zk_check_declarations.specs.Rounds.{filled, type_in, types_at}
use Rattle.zk_check_declarations.specs.Staying.{IsMarked, Stays}
use Rattle.zk_check_declarations.proofs.StayingRounds.{variable_stays}

pub ext : {A B : Type 0} {f g : A → B} → ((x : A) → f x ≡ g x) → f ≡ g
ext h = λ i x. h x i

-- Types by their numbers --------------------------------------------------------------------------------------------

pub get_map : {A B : Type 0} (f : A → B) (xs : List A) (n : ℕ) → slice_get (map f xs) n ≡ option_map f (slice_get xs n)
get_map f [] n = refl
get_map f (x ∷ xs) zero = refl
get_map f (x ∷ xs) (suc n) = get_map f xs n

filled_by : (scripts : Scripts) (others : ℕ → Checked ValueType) (found : Option Declared) →
    type_in (option_map (λ one. variable_type scripts others (Some one)) found) ≡ variable_type scripts others found
filled_by scripts others None = refl
filled_by scripts others (Some one) = refl

pub filled_at : (scripts : Scripts) (others : ℕ → Checked ValueType) (number : ℕ) →
    types_at (filled scripts others (variables scripts)) number ≡ variable_type scripts others (slice_get (variables scripts) number)
filled_at scripts others number =
    ap type_in (get_map (λ one. variable_type scripts others (Some one)) (variables scripts) number) ∙ filled_by scripts others (slice_get (variables scripts) number)

-- What rests on a circle has one type -------------------------------------------------------------------------------

-- what a name is declared as
abbrev pub meant_type : Scripts → (ℕ → Checked ValueType) → Meant → Checked ValueType
meant_type scripts others (Variable home lasting (Some tree) init attrs) = hushed (type_of scripts home tree)
meant_type scripts others (Variable home lasting None (Some init) attrs) = marked (init_typed (bodiless scripts home others) Nothing init)
meant_type scripts others other = elsewhere

pub meant_is : (scripts : Scripts) (others : ℕ → Checked ValueType) (one : Declared) → variable_type scripts others (Some one) ≡ meant_type scripts others one.meant
meant_is scripts others one = refl

hushed_told : (one : Checked ValueType) → IsMarked (hushed one) → ⊥
hushed_told (Ok one) e = cc
hushed_told (Err rules) e = cc

marked_circular : (one : Checked Typed) → IsMarked (marked one) → marked one ≡ circular
marked_circular (Ok one) e = absurd cc
marked_circular (Err rules) e = by (is_circular rules) e
  where
    by : (mark : Bool) → IsMarked (if mark then circular else elsewhere) → (if mark then circular else elsewhere) ≡ circular
    by true e = refl
    by false e = absurd cc

meant_circular : (scripts : Scripts) (others : ℕ → Checked ValueType) (meant : Meant) → IsMarked (meant_type scripts others meant) → meant_type scripts others meant ≡ circular
meant_circular scripts others (Variable home lasting (Some tree) init attrs) e = absurd (hushed_told (type_of scripts home tree) e)
meant_circular scripts others (Variable home lasting None (Some init) attrs) e = marked_circular (init_typed (bodiless scripts home others) Nothing init) e
meant_circular scripts others other e = absurd cc

pub variable_circular : (scripts : Scripts) (others : ℕ → Checked ValueType) (one : Option Declared) → IsMarked (variable_type scripts others one) → variable_type scripts others one ≡ circular
variable_circular scripts others None e = absurd cc
variable_circular scripts others (Some one) e = meant_circular scripts others one.meant e

-- Each round tells more, or the same ---------------------------------------------------------------------------------

pub stays_then : (m n p : Checked ValueType) → Stays m n → Stays n p → Stays m p
stays_then m n p (inl e) k = inl e
stays_then m n p (inr e) k = subst (λ (x : Checked ValueType). Stays x p) (sym e) k

pub round_stays : (scripts : Scripts) (most number : ℕ) → Stays (global_type_to most scripts number) (global_type_to (suc most) scripts number)
round_stays scripts zero number = inl refl
round_stays scripts (suc most) number =
    variable_stays scripts (global_type_to most scripts) (global_type_to (suc most) scripts) (round_stays scripts most) (slice_get (variables scripts) number)

pub later_stays : (scripts : Scripts) (more most later number : ℕ) → later ≡ most + more → Stays (global_type_to most scripts number) (global_type_to later scripts number)
later_stays scripts zero most later number e =
    let here : most ≡ later = omega arith in
    inr (ap (λ at. global_type_to at scripts number) here)
later_stays scripts (suc more) most later number e =
    stays_then (global_type_to most scripts number) (global_type_to (suc most) scripts number) (global_type_to later scripts number) (round_stays scripts most number) (later_stays scripts more (suc most) later number (omega arith))

-- how many types are told
abbrev counted : Checked ValueType → ℕ
counted one = if is_circular (rules_of one) then 0 else 1

abbrev count_told : List (Checked ValueType) → ℕ
count_told [] = 0
count_told (one ∷ ones) = counted one + count_told ones

count_within : (ones : List (Checked ValueType)) → count_told ones ≤ length ones
count_within [] = omega arith
count_within (one ∷ ones) = by (is_circular (rules_of one)) (count_told ones) (count_within ones)
  where
    by : (mark : Bool) (others : ℕ) → others ≤ length ones → (if mark then 0 else 1) + others ≤ suc (length ones)
    by true others h = omega arith
    by false others h = omega arith

more_counted : (a b x y : ℕ) → a ≡ b → x < y → a + x < b + y
more_counted a b x y e h = omega arith

one_counted : (a b x y : ℕ) → a ≡ 0 → b ≡ 1 → x ≤ y → a + x < b + y
one_counted a b x y e f h = omega arith

module _ (scripts : Scripts) (some known : ℕ → Checked ValueType) (more : (number : ℕ) → Stays (some number) (known number)) where
  -- a type is the same as before, or told now
  told_anew : (one : Option Declared) → (variable_type scripts some one ≡ variable_type scripts known one) ⊎ (IsMarked (variable_type scripts some one) × (is_circular (rules_of (variable_type scripts known one)) ≡ false))
  told_anew one = by (variable_stays scripts some known more one) (is_circular (rules_of (variable_type scripts known one))) refl
    where
      by : Stays (variable_type scripts some one) (variable_type scripts known one) → (mark : Bool) → is_circular (rules_of (variable_type scripts known one)) ≡ mark →
          (variable_type scripts some one ≡ variable_type scripts known one) ⊎ (IsMarked (variable_type scripts some one) × (is_circular (rules_of (variable_type scripts known one)) ≡ false))
      by (inr e) mark is = inl e
      by (inl e) true is = inl (variable_circular scripts some one e ∙ sym (variable_circular scripts known one is))
      by (inl e) false is = inr (e, is)

  joined : (a b : Checked ValueType) (xs ys : List (Checked ValueType)) → (a ≡ b) ⊎ (IsMarked a × (is_circular (rules_of b) ≡ false)) → (xs ≡ ys) ⊎ (count_told xs < count_told ys) →
      (a ∷ xs ≡ b ∷ ys) ⊎ (count_told (a ∷ xs) < count_told (b ∷ ys))
  joined a b xs ys (inl e) (inl f) = inl (ap (λ one. one ∷ xs) e ∙ ap (λ ones. b ∷ ones) f)
  joined a b xs ys (inl e) (inr h) = inr (more_counted (counted a) (counted b) (count_told xs) (count_told ys) (ap counted e) h)
  joined a b xs ys (inr e) (inl f) =
      let same : count_told xs ≡ count_told ys = ap count_told f in
      inr (one_counted (counted a) (counted b) (count_told xs) (count_told ys) (ap (λ mark. if mark then 0 else 1) e.0) (ap (λ mark. if mark then 0 else 1) e.1) (omega arith))
  joined a b xs ys (inr e) (inr h) =
      inr (one_counted (counted a) (counted b) (count_told xs) (count_told ys) (ap (λ mark. if mark then 0 else 1) e.0) (ap (λ mark. if mark then 0 else 1) e.1) (omega arith))

  -- all types are the same as before, or more are told
  more_told : (ones : List Declared) → (filled scripts some ones ≡ filled scripts known ones) ⊎ (count_told (filled scripts some ones) < count_told (filled scripts known ones))
  more_told [] = inl refl
  more_told (one ∷ ones) =
      joined (variable_type scripts some (Some one)) (variable_type scripts known (Some one)) (filled scripts some ones) (filled scripts known ones) (told_anew (Some one)) (more_told ones)

-- The last round -----------------------------------------------------------------------------------------------------

module _ (scripts : Scripts) where
  abbrev many : ℕ
  many = length (variables scripts)

  -- what a round more than these tells of all globals
  abbrev all_told : ℕ → List (Checked ValueType)
  all_told most = filled scripts (global_type_to most scripts) (variables scripts)

  told_same : (most : ℕ) → all_told most ≡ all_told (suc most) → global_type_to (suc most) scripts ≡ global_type_to (suc (suc most)) scripts
  told_same most e =
      sym (ext (filled_at scripts (global_type_to most scripts))) ∙ ap types_at e ∙ ext (filled_at scripts (global_type_to (suc most) scripts))

  next_same : (most : ℕ) → all_told most ≡ all_told (suc most) → all_told (suc most) ≡ all_told (suc (suc most))
  next_same most e = ap (λ (others : ℕ → Checked ValueType). filled scripts others (variables scripts)) (told_same most e)

  turn : (most : ℕ) → (all_told most ≡ all_told (suc most)) ⊎ (count_told (all_told most) < count_told (all_told (suc most)))
  turn most = more_told scripts (global_type_to most scripts) (global_type_to (suc most) scripts) (round_stays scripts most) (variables scripts)

  -- each round but the last tells a type more
  reached : (most : ℕ) → (all_told most ≡ all_told (suc most)) ⊎ (most ≤ count_told (all_told most))
  reached zero = inr (omega arith)
  reached (suc most) = by (reached most) (turn most)
    where
      by : (all_told most ≡ all_told (suc most)) ⊎ (most ≤ count_told (all_told most)) → (all_told most ≡ all_told (suc most)) ⊎ (count_told (all_told most) < count_told (all_told (suc most))) →
          (all_told (suc most) ≡ all_told (suc (suc most))) ⊎ (suc most ≤ count_told (all_told (suc most)))
      by (inl e) h = inl (next_same most e)
      by (inr k) (inl e) = inl (next_same most e)
      by (inr k) (inr h) = inr (omega arith)

  last_same : all_told many ≡ all_told (suc many)
  last_same = by (reached many) (turn many)
    where
      by : (all_told many ≡ all_told (suc many)) ⊎ (many ≤ count_told (all_told many)) → (all_told many ≡ all_told (suc many)) ⊎ (count_told (all_told many) < count_told (all_told (suc many))) → all_told many ≡ all_told (suc many)
      by (inl e) h = e
      by (inr k) (inl e) = e
      by (inr k) (inr h) =
          let within : count_told (all_told (suc many)) ≤ length (all_told (suc many)) = count_within (all_told (suc many)) in
          let long : length (all_told (suc many)) ≡ many = length-map (variables scripts) (λ one. variable_type scripts (global_type_to (suc many) scripts) (Some one)) in
          absurd (omega arith)

  pub told_fixed : told_type scripts ≡ global_type_to (suc (suc many)) scripts
  told_fixed = told_same many last_same

  -- what is told by types of which nothing else is told at last, nor is of it
  pub told_at_last : (known : ℕ → Checked ValueType) → ((number : ℕ) → Stays (known number) (told_type scripts number)) → (number : ℕ) →
      Stays (variable_type scripts known (slice_get (variables scripts) number)) (told_type scripts number)
  told_at_last known more number =
      subst (λ (types : ℕ → Checked ValueType). Stays (variable_type scripts known (slice_get (variables scripts) number)) (types number)) (sym told_fixed)
      (variable_stays scripts known (told_type scripts) more (slice_get (variables scripts) number))

  -- where a round changes nothing, no less is told than by any number of rounds
  pub still_told : (known : ℕ → Checked ValueType) → ((number : ℕ) → known number ≡ variable_type scripts known (slice_get (variables scripts) number)) → (most number : ℕ) →
      Stays (global_type_to most scripts number) (known number)
  still_told known still zero number = inl refl
  still_told known still (suc most) number =
      subst (λ (type : Checked ValueType). Stays (global_type_to (suc most) scripts number) type) (sym (still number))
      (variable_stays scripts (global_type_to most scripts) known (still_told known still most) (slice_get (variables scripts) number))

  -- no less and nothing else is the same
  pub told_alike : (known : ℕ → Checked ValueType) (number : ℕ) → (IsMarked (known number) → known number ≡ circular) →
      Stays (told_type scripts number) (known number) → Stays (known number) (told_type scripts number) → known number ≡ told_type scripts number
  told_alike known number one (inr e) k = sym e
  told_alike known number one (inl e) (inr f) = f
  told_alike known number one (inl e) (inl f) = one f ∙ sym (variable_circular scripts (global_type_to many scripts) (slice_get (variables scripts) number) e)
