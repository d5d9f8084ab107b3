-- Reading by a grammar gives just the values that tokens spell.
use Rattle.std.proofs.Common.{◌≡◌, ℕ, zero, suc, ◌<◌, ◌≤◌, Bool, true, false, not, cond, List, [], ◌∷◌, ◌++◌, length, Option, Some, None, refl, sym, ap, subst, ◌∙◌, arith, ◌⊎◌, inl, inr}
use Rattle.zk_tree.specs.declared.token.Token.{Token}
use Rattle.zk_tree.specs.declared.keyword.Mark.{Mark}
use Rattle.zk_tree.specs.Classes.{Class, value_in}
use Rattle.zk_tree.specs.Rules.{Rule, StandsAt, Repeated, Separated, IsListed, MayBeListed, IsBetween, Ends, IsNotAt}
use Rattle.zk_parse_core.specs.Reading.{◌>>=◌, Reader, begins, behind, mark_at, mark_in, meant_at, value_at, repeated, with_front, separated, goes_past, ends_at, listed_at, enclosed_at, until_at, trailing_at}
use Rattle.zk_parse_core.proofs.Codes.{is_mark-true, true-is_mark, mark_in-again, mark_in-tells}
use Rattle.zk_parse_core.proofs.FirstTokens.{mark_code, code_at, stands_coded, has, not_false}

-- the value of a step that reads
pub bind_some : {A B : Type 0} (o : Option A) (f : A → Option B) (y : B) → (o >>= f) ≡ Some y → (x : A) × (o ≡ Some x) × (f x ≡ Some y)
bind_some (Some x) f y e = (x, refl, e)
bind_some None f y e = absurd cc

pub settle : {A : Type 0} (F : A → Type 0) (v x : A) → ◌≡◌ {A = Option A} (Some v) (Some x) → F v → F x
settle F v x e p = let same : v ≡ x = cc in subst F same p

-- what an `if` gave
pub cond_some : {A : Type 0} (b : Bool) (o p : Option A) (x : A) → cond b o p ≡ Some x → ((b ≡ true) × (o ≡ Some x)) ⊎ ((b ≡ false) × (p ≡ Some x))
cond_some true o p x e = inl (refl, e)
cond_some false o p x e = inr (refl, e)

pub must_be : (a : Bool) → (a ≡ true → false ≡ true) → a ≡ false
must_be true h = sym (h refl)
must_be false h = refl

-- ---- marks

mark_found : (m : Mark) (tokens : List Token) (rest : List Token) → begins m tokens ≡ true → ◌≡◌ {A = Option (Unit {0} × List Token)} (Some (tt, behind tokens)) (Some (tt, rest)) → StandsAt m tokens rest
mark_found m [] rest b e = absurd cc
mark_found m (t ∷ tokens) rest b e = let same : tokens ≡ rest = settle (λ (y : Unit {0} × List Token). tokens ≡ y.1) (tt, tokens) (tt, rest) e refl in record { first = t; all = ap (λ (ts : List Token). t ∷ ts) same; is = is_mark-true m t.kind b }

pub mark_taken : (m : Mark) (tokens : List Token) (x : Unit {0} × List Token) → mark_at m tokens ≡ Some x → StandsAt m tokens x.1
unfolding mark_at
mark_taken m tokens x e = elim (cond_some (begins m tokens) (Some (tt, behind tokens)) None x e) [
  | inl found ↦ mark_found m tokens x.1 found.0 found.1
  | inr other ↦ absurd (let none = other.1 in cc)
]

pub begins_stands : (m : Mark) (tokens rest : List Token) → StandsAt m tokens rest → begins m tokens ≡ true
begins_stands m tokens rest at = ap (begins m) at.all ∙ true-is_mark m at.first.kind at.is

pub mark_again : (m : Mark) (tokens rest : List Token) → StandsAt m tokens rest → mark_at m tokens ≡ Some (tt, rest)
unfolding mark_at
mark_again m tokens rest at =
    ap (λ b. cond b (Some (tt, behind tokens)) None) (begins_stands m tokens rest at) ∙ ap (λ (ts : List Token). Some (tt, behind ts)) at.all

begins_coded : (m : Mark) (tokens : List Token) → begins m tokens ≡ true → code_at tokens ≡ mark_code m
begins_coded m [] b = absurd cc
begins_coded m (t ∷ tokens) b = stands_coded m (t ∷ tokens) tokens (record { first = t; all = refl; is = is_mark-true m t.kind b })

pub begins_has : (m : Mark) (tokens : List Token) → begins m tokens ≡ true → has (mark_code m ∷ []) (code_at tokens) ≡ true
begins_has m tokens b = ap (has (mark_code m ∷ [])) (begins_coded m tokens b) ∙ has_itself (mark_code m)
  where
    has_itself : (k : ℕ) → has (k ∷ []) k ≡ true
    has_itself k = Rattle.zk_parse_core.proofs.FirstTokens.has_one k k refl

-- a set that a mark is in, and another that it is not in
pub mark_in_set : (m : Mark) (set : List ℕ) (tokens rest : List Token) → StandsAt m tokens rest → has set (mark_code m) ≡ true → has set (code_at tokens) ≡ true
mark_in_set m set tokens rest at is = ap (has set) (stands_coded m tokens rest at) ∙ is

pub mark_apart : (m : Mark) (set : List ℕ) (tokens rest : List Token) → StandsAt m tokens rest → not (has set (mark_code m)) ≡ true → has set (code_at tokens) ≡ false
mark_apart m set tokens rest at is = ap (has set) (stands_coded m tokens rest at) ∙ not_false (has set (mark_code m)) is

-- the tokens are not those that begin so
pub begins_not : (m : Mark) (tokens : List Token) → has (mark_code m ∷ []) (code_at tokens) ≡ false → begins m tokens ≡ false
begins_not m tokens off = must_be (begins m tokens) (λ b. sym off ∙ begins_has m tokens b)

-- where a set without a mark begins, off such mark stands
pub set_not : (m : Mark) (set : List ℕ) (tokens : List Token) → not (has set (mark_code m)) ≡ true → has set (code_at tokens) ≡ true → begins m tokens ≡ false
set_not m set tokens off is = must_be (begins m tokens) (λ b. sym (not_false (has set (mark_code m)) off) ∙ ap (has set) (sym (begins_coded m tokens b)) ∙ is)

pub not_at : (m : Mark) (tokens : List Token) → begins m tokens ≡ false → IsNotAt m tokens
not_at m tokens off rest at = let both : true ≡ false = sym (begins_stands m tokens rest at) ∙ off in absurd cc

stands_here : (m : Mark) (tokens : List Token) → begins m tokens ≡ true → StandsAt m tokens (behind tokens)
stands_here m [] b = absurd cc
stands_here m (t ∷ tokens) b = record { first = t; all = refl; is = is_mark-true m t.kind b }

pub at_none : (m : Mark) (tokens : List Token) → IsNotAt m tokens → begins m tokens ≡ false
at_none m tokens off = must_be (begins m tokens) (λ b. absurd (off (behind tokens) (stands_here m tokens b)))

pub stands_short : (m : Mark) (tokens rest : List Token) → StandsAt m tokens rest → length rest < length tokens
stands_short m tokens rest at = omega (arith, ap length at.all)

-- ---- what a token stands for, and its value

meant_here : {A : Type 0} (meant : Mark → Option A) (t : Token) (tokens : List Token) (found : Option Mark) (a : A) → mark_in t.kind ≡ found → (found >>= meant) ≡ Some a
    → (m : Mark) × StandsAt m (t ∷ tokens) tokens × (meant m ≡ Some a)
meant_here meant t tokens (Some m) a is e = (m, record { first = t; all = refl; is = mark_in-tells m t.kind is }, e)
meant_here meant t tokens None a is e = absurd cc

pub meant_taken : {A : Type 0} (meant : Mark → Option A) (tokens : List Token) (a : A) → meant_at meant tokens ≡ Some a → (m : Mark) × StandsAt m tokens (behind tokens) × (meant m ≡ Some a)
meant_taken meant [] a e = absurd cc
meant_taken meant (t ∷ tokens) a e = meant_here meant t tokens (mark_in t.kind) a refl e

pub meant_again : {A : Type 0} (meant : Mark → Option A) (m : Mark) (tokens rest : List Token) (a : A) → StandsAt m tokens rest → meant m ≡ Some a → meant_at meant tokens ≡ Some a
meant_again meant m tokens rest a at is =
    ap (meant_at meant) at.all ∙ ap (λ o. o >>= meant) (mark_in-again m at.first.kind at.is) ∙ is

pub behind_stands : (m : Mark) (tokens rest : List Token) → StandsAt m tokens rest → behind tokens ≡ rest
behind_stands m tokens rest at = ap behind at.all

pub value_taken : {A : Type 0} (class : Class A) (tokens : List Token) (a : A) → value_at class tokens ≡ Some a → (first : Token) × (tokens ≡ first ∷ behind tokens) × (value_in class first.kind ≡ Some a)
value_taken class [] a e = absurd cc
value_taken class (t ∷ tokens) a e = (t, refl, e)

-- ---- one after another

pub repeated_short : {A : Type 0} (rule : Rule A) → ((a : A) (tokens rest : List Token) → rule a tokens rest → length rest < length tokens)
    → (list : List A) (tokens rest : List Token) → Repeated rule list tokens rest → length rest ≤ length tokens
repeated_short rule one [] tokens rest p = omega (arith, ap length p)
repeated_short rule one (a ∷ more) tokens rest p = omega (arith, one a tokens p.0 p.1, repeated_short rule one more p.0 rest p.2)

-- what holds where one begins, and of the rest, holds of what they begin with
pub repeated_start : {A : Type 0} (rule : Rule A) (P : List Token → Type 0) → ((a : A) (tokens rest : List Token) → rule a tokens rest → P tokens)
    → (list : List A) (tokens rest : List Token) → Repeated rule list tokens rest → P rest → P tokens
repeated_start rule P one [] tokens rest p here = subst P (sym p) here
repeated_start rule P one (a ∷ more) tokens rest p here = one a tokens p.0 p.1

pub repeated_taken : {A : Type 0} (goes : List Token → Bool) (read : Reader A) (rule : Rule A) → ((tokens : List Token) (x : A × List Token) → read tokens ≡ Some x → rule x.0 tokens x.1)
    → (n : ℕ) (tokens : List Token) (x : List A × List Token) → repeated goes read n tokens ≡ Some x → Repeated rule x.0 tokens x.1
unfolding repeated
repeated_taken {A} goes read rule one zero tokens x e = elim (cond_some (goes tokens) None (Some ([], tokens)) x e) [
  | inl on ↦ absurd (let none = on.1 in cc)
  | inr off ↦ settle (λ (y : List A × List Token). Repeated rule y.0 tokens y.1) ([], tokens) x off.1 refl
]
repeated_taken {A} goes read rule one (suc n) tokens x e =
    elim (cond_some (goes tokens) (read tokens >>= λ first. repeated goes read n first.1 >>= λ others. Some (first.0 ∷ others.0, others.1)) (Some ([], tokens)) x e) [
      | inl on ↦
          let p = bind_some (read tokens) (λ first. repeated goes read n first.1 >>= λ others. Some (first.0 ∷ others.0, others.1)) x on.1 in
          let q = bind_some (repeated goes read n p.0.1) (λ others. Some (p.0.0 ∷ others.0, others.1)) x p.2 in
          settle (λ (y : List A × List Token). Repeated rule y.0 tokens y.1) (p.0.0 ∷ q.0.0, q.0.1) x q.2
          (p.0.1, one tokens p.0 p.1, repeated_taken goes read rule one n p.0.1 q.0 q.1)
      | inr off ↦ settle (λ (y : List A × List Token). Repeated rule y.0 tokens y.1) ([], tokens) x off.1 refl
    ]

stopped : {A : Type 0} (goes : List Token → Bool) (read : Reader A) (n : ℕ) (tokens : List Token) → goes tokens ≡ false → repeated goes read n tokens ≡ Some ([], tokens)
unfolding repeated
stopped goes read zero tokens off = rw off refl
stopped goes read (suc n) tokens off = rw off refl

-- Each is read where what follows it lets it end, as what begins another does, and the rest.
pub repeated_again : {A : Type 0} (goes : List Token → Bool) (read : Reader A) (rule : Rule A) (Calm : List Token → Type 0)
    → ((a : A) (tokens rest : List Token) → rule a tokens rest → Calm rest → read tokens ≡ Some (a, rest))
    → ((a : A) (tokens rest : List Token) → rule a tokens rest → (goes tokens ≡ true) × Calm tokens × (length rest < length tokens))
    → (n : ℕ) (list : List A) (tokens rest : List Token) → length tokens ≤ n → Repeated rule list tokens rest → Calm rest → goes rest ≡ false
    → repeated goes read n tokens ≡ Some (list, rest)
unfolding repeated
repeated_again {A} goes read rule Calm one on n [] tokens rest le p calm off =
    ap (repeated goes read n) p ∙ stopped goes read n rest off
repeated_again {A} goes read rule Calm one on zero (a ∷ more) tokens rest le p calm off = absurd (omega (arith, (on a tokens p.0 p.1).2))
repeated_again {A} goes read rule Calm one on (suc n) (a ∷ more) tokens rest le p calm off =
    let starts = on a tokens p.0 p.1 in
    let mid = repeated_start rule Calm (λ b ts after q. (on b ts after q).1) more p.0 rest p.2 calm in
    let here = one a tokens p.0 p.1 mid in
    let later = repeated_again goes read rule Calm one on n more p.0 rest (omega (arith, starts.2)) p.2 calm off in
    rw (starts.0, here, later) refl

with_front-some : {A : Type 0} (front : List A) (read : Option (List A × List Token)) (x : List A × List Token) → with_front front read ≡ Some x
    → (y : List A × List Token) × (read ≡ Some y) × (◌≡◌ {A = Option (List A × List Token)} (Some (front ++ y.0, y.1)) (Some x))
with_front-some front (Some y) x e = (y, refl, e)
with_front-some front None x e = absurd cc

-- ---- behind a separator

pub separated_taken : {A : Type 0} (m : Mark) (read : Reader A) (rule : Rule A) → ((tokens : List Token) (x : A × List Token) → read tokens ≡ Some x → rule x.0 tokens x.1)
    → (tokens : List Token) (x : A × List Token) → separated m read tokens ≡ Some x → Separated m rule x.0 tokens x.1
separated_taken m read rule one tokens x e =
    let p = bind_some (mark_at m tokens) (λ next. read next.1) x e in
    (p.0.1, mark_taken m tokens p.0 p.1, one p.0.1 x p.2)

pub separated_again : {A : Type 0} (m : Mark) (read : Reader A) (rule : Rule A) (Calm : List Token → Type 0)
    → ((a : A) (tokens rest : List Token) → rule a tokens rest → Calm rest → read tokens ≡ Some (a, rest))
    → (a : A) (tokens rest : List Token) → Separated m rule a tokens rest → Calm rest → separated m read tokens ≡ Some (a, rest)
separated_again m read rule Calm one a tokens rest p calm = rw (mark_again m tokens p.0 p.1) (one a p.0 rest p.2 calm)

pub separated_short : {A : Type 0} (m : Mark) (rule : Rule A) → ((a : A) (tokens rest : List Token) → rule a tokens rest → length rest < length tokens)
    → (a : A) (tokens rest : List Token) → Separated m rule a tokens rest → length rest < length tokens
separated_short m rule one a tokens rest p = omega (arith, stands_short m tokens p.0 p.1, one a p.0 rest p.2)

-- ---- lists

module _ {A : Type 0} (read : Reader A) (rule : Rule A) (taken : (tokens : List Token) (x : A × List Token) → read tokens ≡ Some x → rule x.0 tokens x.1) where
  more_taken : (separator : Mark) (goes : List Token → Bool) (n : ℕ) (tokens : List Token) (first : A × List Token) (x : List A × List Token) → read tokens ≡ Some first
      → with_front (first.0 ∷ []) (repeated goes (separated separator read) n first.1) ≡ Some x → IsListed separator rule x.0 tokens x.1
  more_taken separator goes n tokens first x here e =
      let q = with_front-some (first.0 ∷ []) (repeated goes (separated separator read) n first.1) x e in
      settle (λ (y : List A × List Token). IsListed separator rule y.0 tokens y.1) (first.0 ∷ q.0.0, q.0.1) x q.2
      (first.1, taken tokens first here, repeated_taken goes (separated separator read) (Separated separator rule) (separated_taken separator read rule taken) n first.1 q.0 q.1)

  pub listed_taken : (separator : Mark) (tokens : List Token) (x : List A × List Token) → listed_at separator read tokens ≡ Some x → IsListed separator rule x.0 tokens x.1
  unfolding listed_at
  listed_taken separator tokens x e =
      let p = bind_some (read tokens) (λ first. with_front (first.0 ∷ []) (repeated (begins separator) (separated separator read) (length first.1) first.1)) x e in
      more_taken separator (begins separator) (length p.0.1) tokens p.0 x p.1 p.2

  may_be_listed : (separator : Mark) (list : List A) (tokens rest : List Token) → IsListed separator rule list tokens rest → MayBeListed separator rule list tokens rest
  may_be_listed separator [] tokens rest p = absurd p
  may_be_listed separator (a ∷ more) tokens rest p = p

  pub enclosed_taken : (opening separator closing : Mark) (tokens : List Token) (x : List A × List Token) → enclosed_at opening separator closing read tokens ≡ Some x
      → IsBetween opening closing (MayBeListed separator rule) x.0 tokens x.1
  unfolding enclosed_at
  enclosed_taken opening separator closing tokens x e =
      let p = bind_some (mark_at opening tokens) (λ next. cond (begins closing next.1) (mark_at closing next.1 >>= λ last. Some ([], last.1))
      (listed_at separator read next.1 >>= λ all. mark_at closing all.1 >>= λ last. Some (all.0, last.1))) x e in
      let F = λ (y : List A × List Token). IsBetween opening closing (MayBeListed separator rule) y.0 tokens y.1 in
      elim (cond_some (begins closing p.0.1) (mark_at closing p.0.1 >>= λ last. Some ([], last.1))
      (listed_at separator read p.0.1 >>= λ all. mark_at closing all.1 >>= λ last. Some (all.0, last.1)) x p.2) [
        | inl on ↦
            let q = bind_some (mark_at closing p.0.1) (λ last. Some ([], last.1)) x on.1 in
            settle F ([], q.0.1) x q.2 (p.0.1, p.0.1, mark_taken opening tokens p.0 p.1, refl, mark_taken closing p.0.1 q.0 q.1)
        | inr off ↦
            let q = bind_some (listed_at separator read p.0.1) (λ all. mark_at closing all.1 >>= λ last. Some (all.0, last.1)) x off.1 in
            let r = bind_some (mark_at closing q.0.1) (λ last. Some (q.0.0, last.1)) x q.2 in
            settle F (q.0.0, r.0.1) x r.2
            (p.0.1, q.0.1, mark_taken opening tokens p.0 p.1, may_be_listed separator q.0.0 p.0.1 q.0.1 (listed_taken separator p.0.1 q.0 q.1), mark_taken closing q.0.1 r.0 r.1)
      ]

  pub until_taken : (m : Mark) (tokens : List Token) (x : List A × List Token) → until_at m read tokens ≡ Some x
      → (mid : List Token) × Repeated rule x.0 tokens mid × StandsAt m mid x.1
  unfolding until_at
  until_taken m tokens x e =
      let p = bind_some (repeated (λ rest. not (begins m rest)) read (length tokens) tokens) (λ all. mark_at m all.1 >>= λ last. Some (all.0, last.1)) x e in
      let q = bind_some (mark_at m p.0.1) (λ last. Some (p.0.0, last.1)) x p.2 in
      settle (λ (y : List A × List Token). (mid : List Token) × Repeated rule y.0 tokens mid × StandsAt m mid y.1) (p.0.0, q.0.1) x q.2
      (p.0.1, repeated_taken (λ rest. not (begins m rest)) read rule taken (length tokens) tokens p.0 p.1, mark_taken m p.0.1 q.0 q.1)

ends_taken : (separator m : Mark) (tokens : List Token) (x : Bool × List Token) → ends_at separator m tokens ≡ Some x → Ends separator m x.0 tokens x.1
ends_taken separator m tokens x e =
    elim (cond_some (begins separator tokens) (mark_at separator tokens >>= λ next. mark_at m next.1 >>= λ last. Some (true, last.1)) (mark_at m tokens >>= λ last. Some (false, last.1)) x e) [
      | inl on ↦
          let p = bind_some (mark_at separator tokens) (λ next. mark_at m next.1 >>= λ last. Some (true, last.1)) x on.1 in
          let q = bind_some (mark_at m p.0.1) (λ last. Some (true, last.1)) x p.2 in
          settle (λ (y : Bool × List Token). Ends separator m y.0 tokens y.1) (true, q.0.1) x q.2 (p.0.1, mark_taken separator tokens p.0 p.1, mark_taken m p.0.1 q.0 q.1)
      | inr off ↦
          let p = bind_some (mark_at m tokens) (λ last. Some (false, last.1)) x off.1 in
          settle (λ (y : Bool × List Token). Ends separator m y.0 tokens y.1) (false, p.0.1) x p.2 (mark_taken m tokens p.0 p.1)
    ]

module _ {A : Type 0} (read : Reader A) (rule : Rule A) (taken : (tokens : List Token) (x : A × List Token) → read tokens ≡ Some x → rule x.0 tokens x.1) where
  pub trailing_taken : (separator m : Mark) (tokens : List Token) (x : (List A × Bool) × List Token) → trailing_at separator m read tokens ≡ Some x
      → (mid : List Token) × IsListed separator rule x.0.0 tokens mid × Ends separator m x.0.1 mid x.1
  unfolding trailing_at
  trailing_taken separator m tokens x e =
      let rest_of = λ (first : A × List Token). with_front (first.0 ∷ []) (repeated (goes_past separator m) (separated separator read) (length first.1) first.1) in
      let p = bind_some (read tokens) (λ first. rest_of first >>= λ all. ends_at separator m all.1 >>= λ end. Some ((all.0, end.0), end.1)) x e in
      let q = bind_some (rest_of p.0) (λ all. ends_at separator m all.1 >>= λ end. Some ((all.0, end.0), end.1)) x p.2 in
      let r = bind_some (ends_at separator m q.0.1) (λ end. Some ((q.0.0, end.0), end.1)) x q.2 in
      settle (λ (y : (List A × Bool) × List Token). (mid : List Token) × IsListed separator rule y.0.0 tokens mid × Ends separator m y.0.1 mid y.1) ((q.0.0, r.0.0), r.0.1) x r.2
      (q.0.1, more_taken read rule taken separator (goes_past separator m) (length p.0.1) tokens p.0 q.0 p.1 q.1, ends_taken separator m q.0.1 r.0 r.1)
