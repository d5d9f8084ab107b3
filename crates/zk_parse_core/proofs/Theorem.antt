-- Where one token tells what is read next at each place of a grammar, reading by it gives just the values that tokens spell.
use Rattle.std.proofs.Common.{◌≡◌, ℕ, ◌<◌, ◌≤◌, Bool, true, false, not, ◌&&◌, ◌||◌, cond, List, [], ◌∷◌, ◌++◌, length, Option, Some, None, refl, sym, ap, ◌∙◌, append_assoc, arith, ◌⊎◌, inl, inr}
use Rattle.std.specs.Option.{is_some}
use Rattle.std.proofs.lemmas.Bool.{and_parts}
use Rattle.zk_tree.specs.declared.token.Token.{Token}
use Rattle.zk_tree.specs.declared.keyword.Mark.{Mark}
use Rattle.zk_tree.specs.Classes.{Class}
use Rattle.zk_tree.specs.Rules.{Grammar, Alone, OneOf, Of, Nested, Placed, After, Before, Then, Made, Either, Optional, Nearest, Many, Listed, Enclosed, Until, Trailing, Nest, Rule, Spells, StandsAt, Repeated, Separated, IsListed, MayBeListed, IsBetween, Ends, MayFollow, FollowsNearest, place_of}
use Rattle.zk_parse_core.specs.Reading.{◌>>=◌, Reader, begins, behind, mark_at, meant_at, value_at, repeated, with_front, separated, goes_past, ends_at, listed_at, enclosed_at, until_at, trailing_at, opens, read}
use Rattle.zk_parse_core.proofs.FirstTokens.{mark_code, code_at, stands_coded, has, disjoint, or_left, or_right, has_left, has_right, has_none, apart, has_one, codes_of, meant_coded, class_codes, value_coded, nest_first, nest_blocked, first, blocked, is_told, is_sure}
use Rattle.zk_parse_core.proofs.Exact.{bind_some, settle, cond_some, must_be, mark_taken, begins_stands, mark_again, begins_has, mark_in_set, mark_apart, begins_not, set_not, not_at, at_none, stands_short, meant_taken, meant_again, behind_stands, value_taken, repeated_short, repeated_start, repeated_taken, repeated_again, separated_taken, separated_again, separated_short, listed_taken, enclosed_taken, until_taken, trailing_taken}

-- the rest is what stands behind a front of the tokens
pub record EndsIn (tokens rest : List Token) : Type 0 where
  pub front : List Token
  pub all : tokens ≡ front ++ rest

at_once : (tokens rest : List Token) → tokens ≡ rest → EndsIn tokens rest
at_once tokens rest e = record { front = []; all = e }

pub ends_in_itself : (tokens : List Token) → EndsIn tokens tokens
ends_in_itself tokens = at_once tokens tokens refl

pub ends_later : (tokens mid rest : List Token) → EndsIn tokens mid → EndsIn mid rest → EndsIn tokens rest
ends_later tokens mid rest p q =
    record { front = p.front ++ q.front; all = p.all ∙ ap (λ (ts : List Token). p.front ++ ts) q.all ∙ sym (append_assoc p.front q.front rest) }

stands_ends : (m : Mark) (tokens rest : List Token) → StandsAt m tokens rest → EndsIn tokens rest
stands_ends m tokens rest at = record { front = at.first ∷ []; all = at.all }

-- Nodes that nest are read just where they are spelled.
pub record IsExact (Inner : (A : Type 0) → Nest A → Rule A) (inner : (A : Type 0) → Nest A → Reader A) : Type 1 where
  pub taken : (A : Type 0) (nest : Nest A) (tokens : List Token) (x : A × List Token) → inner A nest tokens ≡ Some x → Inner A nest x.0 tokens x.1
  pub again : (A : Type 0) (nest : Nest A) (a : A) (tokens rest : List Token) → Inner A nest a tokens rest → has (nest_blocked nest) (code_at rest) ≡ false → inner A nest tokens ≡ Some (a, rest)
  pub begun : (A : Type 0) (nest : Nest A) (a : A) (tokens rest : List Token) → Inner A nest a tokens rest → has (nest_first nest) (code_at tokens) ≡ true
  pub short : (A : Type 0) (nest : Nest A) (a : A) (tokens rest : List Token) → Inner A nest a tokens rest → length rest < length tokens
  pub ends : (A : Type 0) (nest : Nest A) (a : A) (tokens rest : List Token) → Inner A nest a tokens rest → EndsIn tokens rest

-- ---- parts that may be left out

may_follow_short : {B : Type 0} (rule : Rule B) → ((b : B) (tokens rest : List Token) → rule b tokens rest → length rest < length tokens)
    → (o : Option B) (tokens rest : List Token) → MayFollow rule o tokens rest → length rest ≤ length tokens
may_follow_short rule one None tokens rest p = omega (arith, ap length p)
may_follow_short rule one (Some b) tokens rest p = omega (arith, one b tokens rest p)

nearest_short : {B : Type 0} (m : Mark) (rule : Rule B) → ((b : B) (tokens rest : List Token) → rule b tokens rest → length rest < length tokens)
    → (o : Option B) (tokens rest : List Token) → FollowsNearest m rule o tokens rest → length rest ≤ length tokens
nearest_short m rule one None tokens rest p = omega (arith, ap length p.0)
nearest_short m rule one (Some b) tokens rest p = omega (arith, stands_short m tokens p.0 p.1, one b p.0 rest p.2)

listed_short : {A : Type 0} (m : Mark) (rule : Rule A) → ((a : A) (tokens rest : List Token) → rule a tokens rest → length rest < length tokens)
    → (list : List A) (tokens rest : List Token) → IsListed m rule list tokens rest → length rest < length tokens
listed_short m rule one [] tokens rest p = absurd p
listed_short m rule one (a ∷ more) tokens rest p =
    omega (arith, one a tokens p.0 p.1, repeated_short (Separated m rule) (separated_short m rule one) more p.0 rest p.2)

may_be_listed_short : {A : Type 0} (m : Mark) (rule : Rule A) → ((a : A) (tokens rest : List Token) → rule a tokens rest → length rest < length tokens)
    → (list : List A) (tokens rest : List Token) → MayBeListed m rule list tokens rest → length rest ≤ length tokens
may_be_listed_short m rule one [] tokens rest p = omega (arith, ap length p)
may_be_listed_short m rule one (a ∷ more) tokens rest p = omega (arith, listed_short m rule one (a ∷ more) tokens rest p)

ends_short : (separator m : Mark) (comma : Bool) (tokens rest : List Token) → Ends separator m comma tokens rest → length rest < length tokens
ends_short separator m false tokens rest p = stands_short m tokens rest p
ends_short separator m true tokens rest p = omega (arith, stands_short separator tokens p.0 p.1, stands_short m p.0 rest p.2)

-- ---- what they leave is the end of the tokens

pub repeated_ends : {A : Type 0} (rule : Rule A) → ((a : A) (tokens rest : List Token) → rule a tokens rest → EndsIn tokens rest)
    → (list : List A) (tokens rest : List Token) → Repeated rule list tokens rest → EndsIn tokens rest
repeated_ends rule one [] tokens rest p = at_once tokens rest p
repeated_ends rule one (a ∷ more) tokens rest p = ends_later tokens p.0 rest (one a tokens p.0 p.1) (repeated_ends rule one more p.0 rest p.2)

separated_ends : {A : Type 0} (m : Mark) (rule : Rule A) → ((a : A) (tokens rest : List Token) → rule a tokens rest → EndsIn tokens rest)
    → (a : A) (tokens rest : List Token) → Separated m rule a tokens rest → EndsIn tokens rest
separated_ends m rule one a tokens rest p = ends_later tokens p.0 rest (stands_ends m tokens p.0 p.1) (one a p.0 rest p.2)

may_follow_ends : {B : Type 0} (rule : Rule B) → ((b : B) (tokens rest : List Token) → rule b tokens rest → EndsIn tokens rest)
    → (o : Option B) (tokens rest : List Token) → MayFollow rule o tokens rest → EndsIn tokens rest
may_follow_ends rule one None tokens rest p = at_once tokens rest p
may_follow_ends rule one (Some b) tokens rest p = one b tokens rest p

nearest_ends : {B : Type 0} (m : Mark) (rule : Rule B) → ((b : B) (tokens rest : List Token) → rule b tokens rest → EndsIn tokens rest)
    → (o : Option B) (tokens rest : List Token) → FollowsNearest m rule o tokens rest → EndsIn tokens rest
nearest_ends m rule one None tokens rest p = at_once tokens rest p.0
nearest_ends m rule one (Some b) tokens rest p = separated_ends m rule one b tokens rest p

listed_ends : {A : Type 0} (m : Mark) (rule : Rule A) → ((a : A) (tokens rest : List Token) → rule a tokens rest → EndsIn tokens rest)
    → (list : List A) (tokens rest : List Token) → IsListed m rule list tokens rest → EndsIn tokens rest
listed_ends m rule one [] tokens rest p = absurd p
listed_ends m rule one (a ∷ more) tokens rest p =
    ends_later tokens p.0 rest (one a tokens p.0 p.1) (repeated_ends (Separated m rule) (separated_ends m rule one) more p.0 rest p.2)

may_be_listed_ends : {A : Type 0} (m : Mark) (rule : Rule A) → ((a : A) (tokens rest : List Token) → rule a tokens rest → EndsIn tokens rest)
    → (list : List A) (tokens rest : List Token) → MayBeListed m rule list tokens rest → EndsIn tokens rest
may_be_listed_ends m rule one [] tokens rest p = at_once tokens rest p
may_be_listed_ends m rule one (a ∷ more) tokens rest p = listed_ends m rule one (a ∷ more) tokens rest p

comma_ends : (separator m : Mark) (comma : Bool) (tokens rest : List Token) → Ends separator m comma tokens rest → EndsIn tokens rest
comma_ends separator m false tokens rest p = stands_ends m tokens rest p
comma_ends separator m true tokens rest p = ends_later tokens p.0 rest (stands_ends separator tokens p.0 p.1) (stands_ends m p.0 rest p.2)

-- what holds where the first begins holds where the list does
listed_start : {A : Type 0} (m : Mark) (rule : Rule A) (P : List Token → Type 0) → ((a : A) (tokens rest : List Token) → rule a tokens rest → P tokens)
    → (list : List A) (tokens rest : List Token) → IsListed m rule list tokens rest → P tokens
listed_start m rule P one [] tokens rest p = absurd p
listed_start m rule P one (a ∷ more) tokens rest p = one a tokens p.0 p.1

-- ---- what is spelled is read

-- what may not follow does not, where it follows neither what is there nor the rest
may_follow_calm : {B : Type 0} (rule : Rule B) (set : List ℕ) → ((b : B) (tokens rest : List Token) → rule b tokens rest → has set (code_at tokens) ≡ false)
    → (o : Option B) (tokens rest : List Token) → MayFollow rule o tokens rest → has set (code_at rest) ≡ false → has set (code_at tokens) ≡ false
may_follow_calm rule set one None tokens rest p calm = ap (λ (ts : List Token). has set (code_at ts)) p ∙ calm
may_follow_calm rule set one (Some b) tokens rest p calm = one b tokens rest p

nearest_calm : {B : Type 0} (m : Mark) (rule : Rule B) (set : List ℕ) → not (has set (mark_code m)) ≡ true
    → (o : Option B) (tokens rest : List Token) → FollowsNearest m rule o tokens rest → has set (code_at rest) ≡ false → has set (code_at tokens) ≡ false
nearest_calm m rule set off None tokens rest p calm = ap (λ (ts : List Token). has set (code_at ts)) p.0 ∙ calm
nearest_calm m rule set off (Some b) tokens rest p calm = mark_apart m set tokens p.0 p.1 off

-- what may be left out, as it is read behind a value
abbrev may_read : {A B : Type 0} → A → (List Token → Bool) → Reader B → Reader (A × Option B)
may_read a goes one tokens = cond (goes tokens) (one tokens >>= λ b. Some ((a, Some b.0), b.1)) (Some ((a, None), tokens))

may_follow_again : {A B : Type 0} (a : A) (goes : List Token → Bool) (one : Reader B) (rule : Rule B) (o : Option B) (tokens rest : List Token) → MayFollow rule o tokens rest
    → ((b : B) → rule b tokens rest → (goes tokens ≡ true) × (one tokens ≡ Some (b, rest))) → goes rest ≡ false → may_read a goes one tokens ≡ Some ((a, o), rest)
may_follow_again {A} {B} a goes one rule None tokens rest p here stop =
    let off : goes tokens ≡ false = ap goes p ∙ stop in
    let left : ◌≡◌ {A = Option ((A × Option B) × List Token)} (Some ((a, None), tokens)) (Some ((a, None), rest)) = cc in
    rw off left
may_follow_again a goes one rule (Some b) tokens rest p here stop = let both = here b p in rw (both.0, both.1) refl

nearest_again : {A B : Type 0} (a : A) (m : Mark) (one : Reader B) (rule : Rule B) (o : Option B) (tokens rest : List Token) → FollowsNearest m rule o tokens rest
    → ((b : B) → Separated m rule b tokens rest → separated m one tokens ≡ Some (b, rest)) → may_read a (begins m) (separated m one) tokens ≡ Some ((a, o), rest)
nearest_again {A} {B} a m one rule None tokens rest p here =
    let off = at_none m tokens p.1 in
    let same = p.0 in
    let left : ◌≡◌ {A = Option ((A × Option B) × List Token)} (Some ((a, None), tokens)) (Some ((a, None), rest)) = cc in
    rw off left
nearest_again {A} {B} a m one rule (Some b) tokens rest p here =
    let read_on : Option (B × List Token) → Option ((A × Option B) × List Token) = λ r. r >>= λ c. Some ((a, Some c.0), c.1) in
    let skipped : Option ((A × Option B) × List Token) = Some ((a, None), tokens) in
    ap (λ t. cond t (read_on (separated m one tokens)) skipped) (begins_stands m tokens p.0 p.1) ∙ ap read_on (here b p)

module _ {A : Type 0} (read : Reader A) (rule : Rule A) (starting blocking : List ℕ)
    (one : (a : A) (tokens rest : List Token) → rule a tokens rest → has blocking (code_at rest) ≡ false → read tokens ≡ Some (a, rest))
    (starts : (a : A) (tokens rest : List Token) → rule a tokens rest → has starting (code_at tokens) ≡ true)
    (shorter : (a : A) (tokens rest : List Token) → rule a tokens rest → length rest < length tokens) where
  abbrev Calm : List Token → Type 0
  Calm tokens = has blocking (code_at tokens) ≡ false

  -- one and others behind separators, for as long as these go on
  more_again : (separator : Mark) (goes : List Token → Bool) → not (has blocking (mark_code separator)) ≡ true
      → ((a : A) (tokens rest : List Token) → Separated separator rule a tokens rest → goes tokens ≡ true)
      → (list : List A) (tokens rest : List Token) → IsListed separator rule list tokens rest → Calm rest → goes rest ≡ false
      → (read tokens >>= λ first. with_front (first.0 ∷ []) (repeated goes (separated separator read) (length first.1) first.1)) ≡ Some (list, rest)
  more_again separator goes off on [] tokens rest p calm stop = absurd p
  more_again separator goes off on (a ∷ more) tokens rest p calm stop =
      let mid = p.0 in
      let calm_mid = repeated_start (Separated separator rule) Calm (λ b ts after q. mark_apart separator blocking ts q.0 q.1 off) more mid rest p.2 calm in
      let here = one a tokens mid p.1 calm_mid in
      let others = repeated_again goes (separated separator read) (Separated separator rule) Calm
      (λ b ts after q quiet. separated_again separator read rule Calm one b ts after q quiet)
      (λ b ts after q. (on b ts after q, mark_apart separator blocking ts q.0 q.1 off, separated_short separator rule shorter b ts after q))
      (length mid) more mid rest (omega arith) p.2 calm stop in
      rw (here, others) refl

  pub listed_again : (separator : Mark) → not (has blocking (mark_code separator)) ≡ true
      → (list : List A) (tokens rest : List Token) → IsListed separator rule list tokens rest → has (mark_code separator ∷ blocking) (code_at rest) ≡ false
      → listed_at separator read tokens ≡ Some (list, rest)
  unfolding listed_at
  listed_again separator off list tokens rest p calm =
      let both = has_none (mark_code separator ∷ []) blocking (code_at rest) calm in
      more_again separator (begins separator) off (λ a ts after q. begins_stands separator ts q.0 q.1) list tokens rest p both.1 (begins_not separator rest both.0)

  pub enclosed_again : (opening separator closing : Mark) → not (has blocking (mark_code separator)) ≡ true → not (has (mark_code separator ∷ blocking) (mark_code closing)) ≡ true
      → not (has starting (mark_code closing)) ≡ true → (list : List A) (tokens rest : List Token) → IsBetween opening closing (MayBeListed separator rule) list tokens rest
      → enclosed_at opening separator closing read tokens ≡ Some (list, rest)
  unfolding enclosed_at
  enclosed_again opening separator closing off apart_from other [] tokens rest p =
      let on : begins closing p.0 ≡ true = ap (begins closing) p.3 ∙ begins_stands closing p.1 rest p.4 in
      let last : mark_at closing p.0 ≡ Some (tt, rest) = ap (mark_at closing) p.3 ∙ mark_again closing p.1 rest p.4 in
      rw (mark_again opening tokens p.0 p.2, on, last) refl
  enclosed_again opening separator closing off apart_from other (a ∷ more) tokens rest p =
      let begun = listed_start separator rule (λ ts. has starting (code_at ts) ≡ true) starts (a ∷ more) p.0 p.1 p.3 in
      let not_yet = set_not closing starting p.0 other begun in
      let all = listed_again separator off (a ∷ more) p.0 p.1 p.3 (mark_apart closing (mark_code separator ∷ blocking) p.1 rest p.4 apart_from) in
      rw (mark_again opening tokens p.0 p.2, not_yet, all, mark_again closing p.1 rest p.4) refl

  pub until_again : (m : Mark) → not (has blocking (mark_code m)) ≡ true → not (has starting (mark_code m)) ≡ true → disjoint starting blocking ≡ true
      → (list : List A) (tokens mid rest : List Token) → Repeated rule list tokens mid → StandsAt m mid rest → until_at m read tokens ≡ Some (list, rest)
  unfolding until_at
  until_again m off other apart_from list tokens mid rest p at =
      let all = repeated_again (λ ts. not (begins m ts)) read rule Calm one
      (λ a ts after q. (ap not (set_not m starting ts other (starts a ts after q)), apart starting blocking (code_at ts) apart_from (starts a ts after q), shorter a ts after q))
      (length tokens) list tokens mid (omega arith) p (mark_apart m blocking mid rest at off) (ap not (begins_stands m mid rest at)) in
      rw (all, mark_again m mid rest at) refl

  ends_not : (separator m : Mark) → not (has (mark_code separator ∷ blocking) (mark_code m)) ≡ true → (comma : Bool) (tokens rest : List Token) → Ends separator m comma tokens rest
      → (goes_past separator m tokens ≡ false) × (ends_at separator m tokens ≡ Some (comma, rest))
  ends_not separator m off false tokens rest p =
      let both = has_none (mark_code separator ∷ []) blocking (code_at tokens) (mark_apart m (mark_code separator ∷ blocking) tokens rest p off) in
      let none = begins_not separator tokens both.0 in
      (rw none refl, rw (none, mark_again m tokens rest p) refl)
  ends_not separator m off true tokens rest p =
      let on = begins_stands separator tokens p.0 p.1 in
      let behind_it : begins m (behind tokens) ≡ true = ap (begins m) (behind_stands separator tokens p.0 p.1) ∙ begins_stands m p.0 rest p.2 in
      (rw (on, behind_it) refl, rw (on, mark_again separator tokens p.0 p.1, mark_again m p.0 rest p.2) refl)

  ends_calm : (separator m : Mark) → not (has blocking (mark_code separator)) ≡ true → not (has (mark_code separator ∷ blocking) (mark_code m)) ≡ true
      → (comma : Bool) (tokens rest : List Token) → Ends separator m comma tokens rest → Calm tokens
  ends_calm separator m off apart_from false tokens rest p =
      (has_none (mark_code separator ∷ []) blocking (code_at tokens) (mark_apart m (mark_code separator ∷ blocking) tokens rest p apart_from)).1
  ends_calm separator m off apart_from true tokens rest p = mark_apart separator blocking tokens p.0 p.1 off

  pub trailing_again : (separator m : Mark) → not (has blocking (mark_code separator)) ≡ true → not (has (mark_code separator ∷ blocking) (mark_code m)) ≡ true
      → not (has starting (mark_code m)) ≡ true → (x : List A × Bool) (tokens mid rest : List Token) → IsListed separator rule x.0 tokens mid → Ends separator m x.1 mid rest
      → trailing_at separator m read tokens ≡ Some (x, rest)
  unfolding trailing_at
  trailing_again separator m off apart_from other x tokens mid rest p ends =
      let end = ends_not separator m apart_from x.1 mid rest ends in
      let goes = λ (a : A) (ts after : List Token) (q : Separated separator rule a ts after).
      let on : begins separator ts ≡ true = begins_stands separator ts q.0 q.1 in
      let then : begins m (behind ts) ≡ false = ap (begins m) (behind_stands separator ts q.0 q.1) ∙ set_not m starting q.0 other (starts a q.0 after q.2) in
      let both : goes_past separator m ts ≡ true = rw (on, then) refl in both in
      let all = more_again separator (goes_past separator m) off goes x.0 tokens mid p (ends_calm separator m off apart_from x.1 mid rest ends) end.0 in
      front_then (read tokens) (λ first. with_front (first.0 ∷ []) (repeated (goes_past separator m) (separated separator read) (length first.1) first.1))
      (λ found. ends_at separator m found.1 >>= λ end. Some ((found.0, end.0), end.1)) (x.0, mid) (x, rest) all (rw end.1 refl)
    where
      front_then : {X Y Z : Type 0} (o : Option X) (f : X → Option Y) (g : Y → Option Z) (y : Y) (z : Z) → (o >>= f) ≡ Some y → g y ≡ Some z → (o >>= λ a. f a >>= g) ≡ Some z
      front_then (Some a) f g y z e h = rw e h
      front_then None f g y z e h = absurd cc

module _ (Inner : (A : Type 0) → Nest A → Rule A) (inner : (A : Type 0) → Nest A → Reader A) (nests : IsExact Inner inner) where
  -- ---- what is spelled takes tokens, and begins with one of the first

  pub short : {A : Type 0} (g : Grammar A) (x : A) (tokens rest : List Token) → Spells Inner g x tokens rest → length rest < length tokens
  short (Alone m) x tokens rest p = stands_short m tokens rest p
  short (OneOf meant) x tokens rest p = stands_short p.0 tokens rest p.1
  short (Of class) x tokens rest p = omega (arith, ap length p.1)
  short (Nested nest) x tokens rest p = nests.short _ nest x tokens rest p
  short (Placed g) x tokens rest p = short g x.1 tokens rest p.1
  short (After m g) x tokens rest p = omega (arith, stands_short m tokens p.0 p.1, short g x p.0 rest p.2)
  short (Before g m) x tokens rest p = omega (arith, short g x tokens p.0 p.1, stands_short m p.0 rest p.2)
  short (Then g h) x tokens rest p = omega (arith, short g x.0 tokens p.0 p.1, short h x.1 p.0 rest p.2)
  short (Made make g) x tokens rest p = short g p.0 tokens rest p.2
  short (Either g h) x tokens rest p = elim p [ inl q ↦ short g x tokens rest q | inr q ↦ short h x tokens rest q ]
  short (Optional g h) x tokens rest p =
      omega (arith, short g x.0 tokens p.0 p.1, may_follow_short (Spells Inner h) (λ b ts after q. short h b ts after q) x.1 p.0 rest p.2)
  short (Nearest g m h) x tokens rest p =
      omega (arith, short g x.0 tokens p.0 p.1, nearest_short m (Spells Inner h) (λ b ts after q. short h b ts after q) x.1 p.0 rest p.2)
  short (Many g h) x tokens rest p =
      omega (arith, short g x.0 tokens p.0 p.1, repeated_short (Spells Inner h) (λ b ts after q. short h b ts after q) x.1 p.0 rest p.2)
  short (Listed g separator) x tokens rest p = listed_short separator (Spells Inner g) (λ b ts after q. short g b ts after q) x tokens rest p
  short (Enclosed opening g separator closing) x tokens rest p =
      omega (arith, stands_short opening tokens p.0 p.2, may_be_listed_short separator (Spells Inner g) (λ b ts after q. short g b ts after q) x p.0 p.1 p.3, stands_short closing p.1 rest p.4)
  short (Until g m) x tokens rest p =
      omega (arith, repeated_short (Spells Inner g) (λ b ts after q. short g b ts after q) x tokens p.0 p.1, stands_short m p.0 rest p.2)
  short (Trailing g separator m) x tokens rest p =
      omega (arith, listed_short separator (Spells Inner g) (λ b ts after q. short g b ts after q) x.0 tokens p.0 p.1, ends_short separator m x.1 p.0 rest p.2)

  pub ends : {A : Type 0} (g : Grammar A) (x : A) (tokens rest : List Token) → Spells Inner g x tokens rest → EndsIn tokens rest
  ends (Alone m) x tokens rest p = stands_ends m tokens rest p
  ends (OneOf meant) x tokens rest p = stands_ends p.0 tokens rest p.1
  ends (Of class) x tokens rest p = record { front = p.0 ∷ []; all = p.1 }
  ends (Nested nest) x tokens rest p = nests.ends _ nest x tokens rest p
  ends (Placed g) x tokens rest p = ends g x.1 tokens rest p.1
  ends (After m g) x tokens rest p = ends_later tokens p.0 rest (stands_ends m tokens p.0 p.1) (ends g x p.0 rest p.2)
  ends (Before g m) x tokens rest p = ends_later tokens p.0 rest (ends g x tokens p.0 p.1) (stands_ends m p.0 rest p.2)
  ends (Then g h) x tokens rest p = ends_later tokens p.0 rest (ends g x.0 tokens p.0 p.1) (ends h x.1 p.0 rest p.2)
  ends (Made make g) x tokens rest p = ends g p.0 tokens rest p.2
  ends (Either g h) x tokens rest p = elim p [ inl q ↦ ends g x tokens rest q | inr q ↦ ends h x tokens rest q ]
  ends (Optional g h) x tokens rest p =
      ends_later tokens p.0 rest (ends g x.0 tokens p.0 p.1) (may_follow_ends (Spells Inner h) (λ b ts after q. ends h b ts after q) x.1 p.0 rest p.2)
  ends (Nearest g m h) x tokens rest p =
      ends_later tokens p.0 rest (ends g x.0 tokens p.0 p.1) (nearest_ends m (Spells Inner h) (λ b ts after q. ends h b ts after q) x.1 p.0 rest p.2)
  ends (Many g h) x tokens rest p =
      ends_later tokens p.0 rest (ends g x.0 tokens p.0 p.1) (repeated_ends (Spells Inner h) (λ b ts after q. ends h b ts after q) x.1 p.0 rest p.2)
  ends (Listed g separator) x tokens rest p = listed_ends separator (Spells Inner g) (λ b ts after q. ends g b ts after q) x tokens rest p
  ends (Enclosed opening g separator closing) x tokens rest p =
      ends_later tokens p.0 rest (stands_ends opening tokens p.0 p.2)
      (ends_later p.0 p.1 rest (may_be_listed_ends separator (Spells Inner g) (λ b ts after q. ends g b ts after q) x p.0 p.1 p.3) (stands_ends closing p.1 rest p.4))
  ends (Until g m) x tokens rest p =
      ends_later tokens p.0 rest (repeated_ends (Spells Inner g) (λ b ts after q. ends g b ts after q) x tokens p.0 p.1) (stands_ends m p.0 rest p.2)
  ends (Trailing g separator m) x tokens rest p =
      ends_later tokens p.0 rest (listed_ends separator (Spells Inner g) (λ b ts after q. ends g b ts after q) x.0 tokens p.0 p.1) (comma_ends separator m x.1 p.0 rest p.2)

  stands_first : (m : Mark) (tokens rest : List Token) → StandsAt m tokens rest → has (mark_code m ∷ []) (code_at tokens) ≡ true
  stands_first m tokens rest at = has_one (mark_code m) (code_at tokens) (stands_coded m tokens rest at)

  pub begun : {A : Type 0} (g : Grammar A) (x : A) (tokens rest : List Token) → Spells Inner g x tokens rest → has (first g) (code_at tokens) ≡ true
  begun (Alone m) x tokens rest p = stands_first m tokens rest p
  begun (OneOf meant) x tokens rest p = mark_in_set p.0 (codes_of meant) tokens rest p.1 (meant_coded meant p.0 x p.2)
  begun (Of class) x tokens rest p = ap (λ (ts : List Token). has (class_codes class) (code_at ts)) p.1 ∙ value_coded class p.0.kind x p.2
  begun (Nested nest) x tokens rest p = nests.begun _ nest x tokens rest p
  begun (Placed g) x tokens rest p = begun g x.1 tokens rest p.1
  begun (After m g) x tokens rest p = stands_first m tokens p.0 p.1
  begun (Before g m) x tokens rest p = begun g x tokens p.0 p.1
  begun (Then g h) x tokens rest p = begun g x.0 tokens p.0 p.1
  begun (Made make g) x tokens rest p = begun g p.0 tokens rest p.2
  begun (Either g h) x tokens rest p = elim p [
    | inl q ↦ has_left (first g) (first h) (code_at tokens) (begun g x tokens rest q)
    | inr q ↦ has_right (first g) (first h) (code_at tokens) (begun h x tokens rest q)
  ]
  begun (Optional g h) x tokens rest p = begun g x.0 tokens p.0 p.1
  begun (Nearest g m h) x tokens rest p = begun g x.0 tokens p.0 p.1
  begun (Many g h) x tokens rest p = begun g x.0 tokens p.0 p.1
  begun (Listed g separator) x tokens rest p =
      listed_start separator (Spells Inner g) (λ ts. has (first g) (code_at ts) ≡ true) (λ b ts after q. begun g b ts after q) x tokens rest p
  begun (Enclosed opening g separator closing) x tokens rest p = stands_first opening tokens p.0 p.2
  begun (Until g m) x tokens rest p =
      repeated_start (Spells Inner g) (λ ts. has (mark_code m ∷ first g) (code_at ts) ≡ true)
      (λ b ts after q. has_right (mark_code m ∷ []) (first g) (code_at ts) (begun g b ts after q)) x tokens p.0 p.1
      (has_left (mark_code m ∷ []) (first g) (code_at p.0) (stands_first m p.0 rest p.2))
  begun (Trailing g separator m) x tokens rest p =
      listed_start separator (Spells Inner g) (λ ts. has (first g) (code_at ts) ≡ true) (λ b ts after q. begun g b ts after q) x.0 tokens p.0 p.1

  -- ---- the test that tells

  some_value : {A : Type 0} (o : Option A) → is_some o ≡ true → (a : A) × (o ≡ Some a)
  some_value (Some a) e = (a, refl)
  some_value None e = absurd cc

  is_some-some : {A : Type 0} (o : Option A) (a : A) → o ≡ Some a → is_some o ≡ true
  is_some-some o a e = ap is_some e

  value_first : {A : Type 0} (class : Class A) (tokens : List Token) (a : A) → value_at class tokens ≡ Some a → has (class_codes class) (code_at tokens) ≡ true
  value_first class tokens a e =
      let found = value_taken class tokens a e in
      ap (λ (ts : List Token). has (class_codes class) (code_at ts)) found.1 ∙ value_coded class found.0.kind a found.2

  meant_first : {A : Type 0} (meant : Mark → Option A) (tokens : List Token) (a : A) → meant_at meant tokens ≡ Some a → has (codes_of meant) (code_at tokens) ≡ true
  meant_first meant tokens a e =
      let found = meant_taken meant tokens a e in
      mark_in_set found.0 (codes_of meant) tokens (behind tokens) found.1 (meant_coded meant found.0 a found.2)

  or_cases : (a b : Bool) → (a || b) ≡ true → (a ≡ true) ⊎ (b ≡ true)
  or_cases true b e = inl refl
  or_cases false b e = inr e

  pub opens_first : {A : Type 0} (g : Grammar A) (tokens : List Token) → opens g tokens ≡ true → has (first g) (code_at tokens) ≡ true
  opens_first (Alone m) tokens o = begins_has m tokens o
  opens_first (OneOf meant) tokens o = let found = some_value (meant_at meant tokens) o in meant_first meant tokens found.0 found.1
  opens_first (Of class) tokens o = let found = some_value (value_at class tokens) o in value_first class tokens found.0 found.1
  opens_first (Nested nest) tokens o = absurd cc
  opens_first (Placed g) tokens o = opens_first g tokens o
  opens_first (After m g) tokens o = begins_has m tokens o
  opens_first (Before g m) tokens o = opens_first g tokens o
  opens_first (Then g h) tokens o = opens_first g tokens o
  opens_first (Made make g) tokens o = opens_first g tokens o
  opens_first (Either g h) tokens o = elim (or_cases (opens g tokens) (opens h tokens) o) [
    | inl q ↦ has_left (first g) (first h) (code_at tokens) (opens_first g tokens q)
    | inr q ↦ has_right (first g) (first h) (code_at tokens) (opens_first h tokens q)
  ]
  opens_first (Optional g h) tokens o = opens_first g tokens o
  opens_first (Nearest g m h) tokens o = opens_first g tokens o
  opens_first (Many g h) tokens o = opens_first g tokens o
  opens_first (Listed g separator) tokens o = opens_first g tokens o
  opens_first (Enclosed opening g separator closing) tokens o = begins_has opening tokens o
  opens_first (Until g m) tokens o = absurd cc
  opens_first (Trailing g separator m) tokens o = opens_first g tokens o

  not_opens : {A : Type 0} (g : Grammar A) (tokens : List Token) → has (first g) (code_at tokens) ≡ false → opens g tokens ≡ false
  not_opens g tokens off = must_be (opens g tokens) (λ o. sym off ∙ opens_first g tokens o)

  pub told : {A : Type 0} (g : Grammar A) → is_told g ≡ true → (x : A) (tokens rest : List Token) → Spells Inner g x tokens rest → opens g tokens ≡ true
  told (Alone m) is x tokens rest p = begins_stands m tokens rest p
  told (OneOf meant) is x tokens rest p = is_some-some (meant_at meant tokens) x (meant_again meant p.0 tokens rest x p.1 p.2)
  told (Of class) is x tokens rest p = is_some-some (value_at class tokens) x (ap (value_at class) p.1 ∙ p.2)
  told (Nested nest) is x tokens rest p = absurd cc
  told (Placed g) is x tokens rest p = told g is x.1 tokens rest p.1
  told (After m g) is x tokens rest p = begins_stands m tokens p.0 p.1
  told (Before g m) is x tokens rest p = told g is x tokens p.0 p.1
  told (Then g h) is x tokens rest p = told g is x.0 tokens p.0 p.1
  told (Made make g) is x tokens rest p = told g is p.0 tokens rest p.2
  told (Either g h) is x tokens rest p =
      let both = and_parts (is_told g) (is_told h) is in
      elim p [
        | inl q ↦ or_left (opens g tokens) (opens h tokens) (told g both.0 x tokens rest q)
        | inr q ↦ or_right (opens g tokens) (opens h tokens) (told h both.1 x tokens rest q)
      ]
  told (Optional g h) is x tokens rest p = told g is x.0 tokens p.0 p.1
  told (Nearest g m h) is x tokens rest p = told g is x.0 tokens p.0 p.1
  told (Many g h) is x tokens rest p = told g is x.0 tokens p.0 p.1
  told (Listed g separator) is x tokens rest p =
      listed_start separator (Spells Inner g) (λ ts. opens g ts ≡ true) (λ b ts after q. told g is b ts after q) x tokens rest p
  told (Enclosed opening g separator closing) is x tokens rest p = begins_stands opening tokens p.0 p.2
  told (Until g m) is x tokens rest p = absurd cc
  told (Trailing g separator m) is x tokens rest p =
      listed_start separator (Spells Inner g) (λ ts. opens g ts ≡ true) (λ b ts after q. told g is b ts after q) x.0 tokens p.0 p.1

  -- ---- what is read is spelled

  pub taken : {A : Type 0} (g : Grammar A) (tokens : List Token) (x : A × List Token) → read inner g tokens ≡ Some x → Spells Inner g x.0 tokens x.1
  taken (Alone m) tokens x e = mark_taken m tokens x e
  taken {A} (OneOf meant) tokens x e =
      let p = bind_some (meant_at meant tokens) (λ a. Some (a, behind tokens)) x e in
      settle (λ (y : A × List Token). Spells Inner (OneOf meant) y.0 tokens y.1) (p.0, behind tokens) x p.2 (meant_taken meant tokens p.0 p.1)
  taken {A} (Of class) tokens x e =
      let p = bind_some (value_at class tokens) (λ a. Some (a, behind tokens)) x e in
      settle (λ (y : A × List Token). Spells Inner (Of class) y.0 tokens y.1) (p.0, behind tokens) x p.2 (value_taken class tokens p.0 p.1)
  taken (Nested nest) tokens x e = nests.taken _ nest tokens x e
  taken {A} (Placed g) tokens x e =
      let p = bind_some (read inner g tokens) (λ a. Some ((place_of tokens, a.0), a.1)) x e in
      settle (λ (y : A × List Token). Spells Inner (Placed g) y.0 tokens y.1) ((place_of tokens, p.0.0), p.0.1) x p.2 (refl, taken g tokens p.0 p.1)
  taken (After m g) tokens x e = separated_taken m (read inner g) (Spells Inner g) (λ ts y q. taken g ts y q) tokens x e
  taken {A} (Before g m) tokens x e =
      let p = bind_some (read inner g tokens) (λ a. mark_at m a.1 >>= λ last. Some (a.0, last.1)) x e in
      let q = bind_some (mark_at m p.0.1) (λ last. Some (p.0.0, last.1)) x p.2 in
      settle (λ (y : A × List Token). Spells Inner (Before g m) y.0 tokens y.1) (p.0.0, q.0.1) x q.2 (p.0.1, taken g tokens p.0 p.1, mark_taken m p.0.1 q.0 q.1)
  taken {A} (Then g h) tokens x e =
      let p = bind_some (read inner g tokens) (λ a. read inner h a.1 >>= λ b. Some ((a.0, b.0), b.1)) x e in
      let q = bind_some (read inner h p.0.1) (λ b. Some ((p.0.0, b.0), b.1)) x p.2 in
      settle (λ (y : A × List Token). Spells Inner (Then g h) y.0 tokens y.1) ((p.0.0, q.0.0), q.0.1) x q.2 (p.0.1, taken g tokens p.0 p.1, taken h p.0.1 q.0 q.1)
  taken {A} (Made make g) tokens x e =
      let p = bind_some (read inner g tokens) (λ a. Some (make a.0, a.1)) x e in
      settle (λ (y : A × List Token). Spells Inner (Made make g) y.0 tokens y.1) (make p.0.0, p.0.1) x p.2 (p.0.0, refl, taken g tokens p.0 p.1)
  taken (Either g h) tokens x e = elim (cond_some (opens g tokens) (read inner g tokens) (read inner h tokens) x e) [
    | inl on ↦ inl (taken g tokens x on.1)
    | inr off ↦ inr (taken h tokens x off.1)
  ]
  taken {A} (Optional g h) tokens x e =
      let p = bind_some (read inner g tokens) (λ a. cond (opens h a.1) (read inner h a.1 >>= λ b. Some ((a.0, Some b.0), b.1)) (Some ((a.0, None), a.1))) x e in
      let F = λ (y : A × List Token). Spells Inner (Optional g h) y.0 tokens y.1 in
      elim (cond_some (opens h p.0.1) (read inner h p.0.1 >>= λ b. Some ((p.0.0, Some b.0), b.1)) (Some ((p.0.0, None), p.0.1)) x p.2) [
        | inl on ↦
            let q = bind_some (read inner h p.0.1) (λ b. Some ((p.0.0, Some b.0), b.1)) x on.1 in
            settle F ((p.0.0, Some q.0.0), q.0.1) x q.2 (p.0.1, taken g tokens p.0 p.1, taken h p.0.1 q.0 q.1)
        | inr off ↦ settle F ((p.0.0, None), p.0.1) x off.1 (p.0.1, taken g tokens p.0 p.1, refl)
      ]
  taken {A} (Nearest g m h) tokens x e =
      let p = bind_some (read inner g tokens) (λ a. cond (begins m a.1) (separated m (read inner h) a.1 >>= λ b. Some ((a.0, Some b.0), b.1)) (Some ((a.0, None), a.1))) x e in
      let F = λ (y : A × List Token). Spells Inner (Nearest g m h) y.0 tokens y.1 in
      elim (cond_some (begins m p.0.1) (separated m (read inner h) p.0.1 >>= λ b. Some ((p.0.0, Some b.0), b.1)) (Some ((p.0.0, None), p.0.1)) x p.2) [
        | inl on ↦
            let q = bind_some (separated m (read inner h) p.0.1) (λ b. Some ((p.0.0, Some b.0), b.1)) x on.1 in
            settle F ((p.0.0, Some q.0.0), q.0.1) x q.2 (p.0.1, taken g tokens p.0 p.1, separated_taken m (read inner h) (Spells Inner h) (λ ts y r. taken h ts y r) p.0.1 q.0 q.1)
        | inr off ↦ settle F ((p.0.0, None), p.0.1) x off.1 (p.0.1, taken g tokens p.0 p.1, (refl, not_at m p.0.1 off.0))
      ]
  taken {A} (Many g h) tokens x e =
      let p = bind_some (read inner g tokens) (λ a. repeated (opens h) (read inner h) (length a.1) a.1 >>= λ more. Some ((a.0, more.0), more.1)) x e in
      let q = bind_some (repeated (opens h) (read inner h) (length p.0.1) p.0.1) (λ more. Some ((p.0.0, more.0), more.1)) x p.2 in
      settle (λ (y : A × List Token). Spells Inner (Many g h) y.0 tokens y.1) ((p.0.0, q.0.0), q.0.1) x q.2
      (p.0.1, taken g tokens p.0 p.1, repeated_taken (opens h) (read inner h) (Spells Inner h) (λ ts y r. taken h ts y r) (length p.0.1) p.0.1 q.0 q.1)
  taken (Listed g separator) tokens x e = listed_taken (read inner g) (Spells Inner g) (λ ts y q. taken g ts y q) separator tokens x e
  taken (Enclosed opening g separator closing) tokens x e = enclosed_taken (read inner g) (Spells Inner g) (λ ts y q. taken g ts y q) opening separator closing tokens x e
  taken (Until g m) tokens x e = until_taken (read inner g) (Spells Inner g) (λ ts y q. taken g ts y q) m tokens x e
  taken (Trailing g separator m) tokens x e = trailing_taken (read inner g) (Spells Inner g) (λ ts y q. taken g ts y q) separator m tokens x e

  pub again : {A : Type 0} (g : Grammar A) → is_sure g ≡ true → (x : A) (tokens rest : List Token) → Spells Inner g x tokens rest → has (blocked g) (code_at rest) ≡ false
      → read inner g tokens ≡ Some (x, rest)
  again (Alone m) sure x tokens rest p calm = mark_again m tokens rest p
  again (OneOf meant) sure x tokens rest p calm =
      ap (λ o. o >>= λ a. Some (a, behind tokens)) (meant_again meant p.0 tokens rest x p.1 p.2) ∙ ap (λ (ts : List Token). Some (x, ts)) (behind_stands p.0 tokens rest p.1)
  again (Of class) sure x tokens rest p calm =
      ap (λ o. o >>= λ a. Some (a, behind tokens)) (ap (value_at class) p.1 ∙ p.2) ∙ ap (λ (ts : List Token). Some (x, ts)) (ap behind p.1)
  again (Nested nest) sure x tokens rest p calm = nests.again _ nest x tokens rest p calm
  again {A} (Placed g) sure x tokens rest p calm =
      ap (λ o. o >>= λ a. Some ((place_of tokens, a.0), a.1)) (again g sure x.1 tokens rest p.1 calm) ∙ ap (λ (n : ℕ). Some ((n, x.1), rest)) (sym p.0)
  again (After m g) sure x tokens rest p calm = rw (mark_again m tokens p.0 p.1) (again g sure x p.0 rest p.2 calm)
  again (Before g m) sure x tokens rest p calm =
      let both = and_parts (is_sure g) (not (has (blocked g) (mark_code m))) sure in
      rw (again g both.0 x tokens p.0 p.1 (mark_apart m (blocked g) p.0 rest p.2 both.1), mark_again m p.0 rest p.2) refl
  again (Then g h) sure x tokens rest p calm =
      let both = and_parts (is_sure g) (is_sure h && disjoint (first h) (blocked g)) sure in
      let more = and_parts (is_sure h) (disjoint (first h) (blocked g)) both.1 in
      let quiet = apart (first h) (blocked g) (code_at p.0) more.1 (begun h x.1 p.0 rest p.2) in
      rw (again g both.0 x.0 tokens p.0 p.1 quiet, again h more.0 x.1 p.0 rest p.2 calm) refl
  again {A} (Made make g) sure x tokens rest p calm =
      ap (λ o. o >>= λ a. Some (make a.0, a.1)) (again g sure p.0 tokens rest p.2 calm) ∙ ap (λ (y : A). Some (y, rest)) (sym p.1)
  again (Either g h) sure x tokens rest p calm =
      let both = and_parts (is_sure g) (is_sure h && (is_told g && disjoint (first h) (first g))) sure in
      let more = and_parts (is_sure h) (is_told g && disjoint (first h) (first g)) both.1 in
      let last = and_parts (is_told g) (disjoint (first h) (first g)) more.1 in
      let calms = has_none (blocked g) (blocked h) (code_at rest) calm in
      elim p [
        | inl q ↦ ap (λ b. cond b (read inner g tokens) (read inner h tokens)) (told g last.0 x tokens rest q) ∙ again g both.0 x tokens rest q calms.0
        | inr q ↦
            ap (λ b. cond b (read inner g tokens) (read inner h tokens)) (not_opens g tokens (apart (first h) (first g) (code_at tokens) last.1 (begun h x tokens rest q)))
            ∙ again h more.0 x tokens rest q calms.1
      ]
  again (Optional g h) sure x tokens rest p calm =
      let both = and_parts (is_sure g) (is_sure h && (is_told h && disjoint (first h) (blocked g))) sure in
      let more = and_parts (is_sure h) (is_told h && disjoint (first h) (blocked g)) both.1 in
      let last = and_parts (is_told h) (disjoint (first h) (blocked g)) more.1 in
      let calms = has_none (blocked g) (blocked h ++ first h) (code_at rest) calm in
      let behind_it = has_none (blocked h) (first h) (code_at rest) calms.1 in
      let quiet = may_follow_calm (Spells Inner h) (blocked g) (λ b ts after q. apart (first h) (blocked g) (code_at ts) last.1 (begun h b ts after q)) x.1 p.0 rest p.2 calms.0 in
      rw (again g both.0 x.0 tokens p.0 p.1 quiet) (may_follow_again x.0 (opens h) (read inner h) (Spells Inner h) x.1 p.0 rest p.2
      (λ b q. (told h last.0 b p.0 rest q, again h more.0 b p.0 rest q behind_it.0)) (not_opens h rest behind_it.1))
  again (Nearest g m h) sure x tokens rest p calm =
      let both = and_parts (is_sure g) (is_sure h && not (has (blocked g) (mark_code m))) sure in
      let more = and_parts (is_sure h) (not (has (blocked g) (mark_code m))) both.1 in
      let calms = has_none (blocked g) (blocked h) (code_at rest) calm in
      let quiet = nearest_calm m (Spells Inner h) (blocked g) more.1 x.1 p.0 rest p.2 calms.0 in
      rw (again g both.0 x.0 tokens p.0 p.1 quiet) (nearest_again x.0 m (read inner h) (Spells Inner h) x.1 p.0 rest p.2
      (λ b q. rw (mark_again m p.0 q.0 q.1) (again h more.0 b q.0 rest q.2 calms.1)))
  again (Many g h) sure x tokens rest p calm =
      let both = and_parts (is_sure g) (is_sure h && (is_told h && (disjoint (first h) (blocked g) && disjoint (first h) (blocked h)))) sure in
      let more = and_parts (is_sure h) (is_told h && (disjoint (first h) (blocked g) && disjoint (first h) (blocked h))) both.1 in
      let last = and_parts (is_told h) (disjoint (first h) (blocked g) && disjoint (first h) (blocked h)) more.1 in
      let parts = and_parts (disjoint (first h) (blocked g)) (disjoint (first h) (blocked h)) last.1 in
      let calms = has_none (blocked g) (blocked h ++ first h) (code_at rest) calm in
      let behind_it = has_none (blocked h) (first h) (code_at rest) calms.1 in
      let quiet = repeated_start (Spells Inner h) (λ ts. has (blocked g) (code_at ts) ≡ false)
      (λ b ts after q. apart (first h) (blocked g) (code_at ts) parts.0 (begun h b ts after q)) x.1 p.0 rest p.2 calms.0 in
      let others = repeated_again (opens h) (read inner h) (Spells Inner h) (λ ts. has (blocked h) (code_at ts) ≡ false)
      (λ b ts after q off. again h more.0 b ts after q off)
      (λ b ts after q. (told h last.0 b ts after q, apart (first h) (blocked h) (code_at ts) parts.1 (begun h b ts after q), short h b ts after q))
      (length p.0) x.1 p.0 rest (omega arith) p.2 behind_it.0 (not_opens h rest behind_it.1) in
      rw (again g both.0 x.0 tokens p.0 p.1 quiet, others) refl
  again (Listed g separator) sure x tokens rest p calm =
      let both = and_parts (is_sure g) (not (has (blocked g) (mark_code separator))) sure in
      listed_again (read inner g) (Spells Inner g) (first g) (blocked g) (λ a ts after q off. again g both.0 a ts after q off) (λ a ts after q. begun g a ts after q)
      (λ a ts after q. short g a ts after q) separator both.1 x tokens rest p calm
  again (Enclosed opening g separator closing) sure x tokens rest p calm =
      let both = and_parts (is_sure g) (not (has (blocked g) (mark_code separator)) && (not (has (mark_code separator ∷ blocked g) (mark_code closing)) && not (has (first g) (mark_code closing)))) sure in
      let more = and_parts (not (has (blocked g) (mark_code separator))) (not (has (mark_code separator ∷ blocked g) (mark_code closing)) && not (has (first g) (mark_code closing))) both.1 in
      let last = and_parts (not (has (mark_code separator ∷ blocked g) (mark_code closing))) (not (has (first g) (mark_code closing))) more.1 in
      enclosed_again (read inner g) (Spells Inner g) (first g) (blocked g) (λ a ts after q off. again g both.0 a ts after q off) (λ a ts after q. begun g a ts after q)
      (λ a ts after q. short g a ts after q) opening separator closing more.0 last.0 last.1 x tokens rest p
  again (Until g m) sure x tokens rest p calm =
      let both = and_parts (is_sure g) (not (has (blocked g) (mark_code m)) && (not (has (first g) (mark_code m)) && disjoint (first g) (blocked g))) sure in
      let more = and_parts (not (has (blocked g) (mark_code m))) (not (has (first g) (mark_code m)) && disjoint (first g) (blocked g)) both.1 in
      let last = and_parts (not (has (first g) (mark_code m))) (disjoint (first g) (blocked g)) more.1 in
      until_again (read inner g) (Spells Inner g) (first g) (blocked g) (λ a ts after q off. again g both.0 a ts after q off) (λ a ts after q. begun g a ts after q)
      (λ a ts after q. short g a ts after q) m more.0 last.0 last.1 x tokens p.0 rest p.1 p.2
  again (Trailing g separator m) sure x tokens rest p calm =
      let both = and_parts (is_sure g) (not (has (blocked g) (mark_code separator)) && (not (has (mark_code separator ∷ blocked g) (mark_code m)) && not (has (first g) (mark_code m)))) sure in
      let more = and_parts (not (has (blocked g) (mark_code separator))) (not (has (mark_code separator ∷ blocked g) (mark_code m)) && not (has (first g) (mark_code m))) both.1 in
      let last = and_parts (not (has (mark_code separator ∷ blocked g) (mark_code m))) (not (has (first g) (mark_code m))) more.1 in
      trailing_again (read inner g) (Spells Inner g) (first g) (blocked g) (λ a ts after q off. again g both.0 a ts after q off) (λ a ts after q. begun g a ts after q)
      (λ a ts after q. short g a ts after q) separator m more.0 last.0 last.1 x tokens p.0 rest p.1 p.2
