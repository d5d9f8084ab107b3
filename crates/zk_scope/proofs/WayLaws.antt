-- Where names lead.
use Rattle.std.proofs.Common.{◌≡◌, ℕ, zero, suc, ◌+◌, ◌<◌, ◌≤◌, ◌⊎◌, inl, inr, Bool, true, false, ◌&&◌, ◌||◌, List, [], ◌∷◌, ◌++◌, length, get_or, nat_lt, Option, Some, None, slice_get, unwrap_or, refl, ap, sym, ◌∙◌, subst, arith, length-append}
use Rattle.std.proofs.lemmas.Bool.{lt-ltb, ltb-true}
use Rattle.std.specs.declared.alloc.Global.{Global}
use Rattle.std.specs.declared.vec.Vec.{Vec}
use Rattle.std.specs.List.{list_all, list_any}
use Rattle.std.specs.Option.{option_map}
use Rattle.std.specs.Str.{bytes_eq}
use Rattle.zk_typed.specs.Names.{Declared}
use Rattle.zk_scope.specs.declared.declared.Declared.{Declared as LentDeclared}
use Rattle.zk_scope.specs.Indexing.{items_at, items_of}
use Rattle.zk_scope.specs.Grouping.{AreFirsts, first_of}
use Rattle.zk_scope.specs.Leading.{AreSteps, declared_steps, steps}
use Rattle.zk_scope.specs.Lent.{declared_lent, declared_of}
use Rattle.zk_scope.proofs.IndexLaws.{get_of_map}
use Rattle.zk_scope.proofs.LeadLaws.{lent_length}

nowhere : {A : Type 0} {P : Type 0} (place : ℕ) (item : A) → slice_get {X = A} [] place ≡ Some item → P
nowhere zero item found = cc
nowhere (suc place) item found = cc

-- what holds of each item at its place holds with one more
pub all_more : {A : Type 0} (P : ℕ → A → Type 0) (items : List A) (one : A) → ((place : ℕ) (item : A) → slice_get items place ≡ Some item → P place item) → P (length items) one →
    (place : ℕ) (item : A) → slice_get (items ++ one ∷ []) place ≡ Some item → P place item
all_more P [] one held here zero item found = let same : one ≡ item = cc in subst (P 0) same here
all_more P [] one held here (suc place) item found = nowhere place item found
all_more P (first ∷ others) one held here zero item found = held 0 item found
all_more P (first ∷ others) one held here (suc place) item found =
    all_more (λ at x. P (suc at) x) others one (λ at x is. held (suc at) x is) here place item found

pub longer : {A : Type 0} (old new : List A) (one : A) (place : ℕ) → length old ≡ place → new ≡ old ++ one ∷ [] → length new ≡ place + 1
longer old new one place long pushed = ap length pushed ∙ omega (arith, long, length-append old (one ∷ []))

-- past the end there is nothing
pub none_past : {A : Type 0} (xs : List A) (at : ℕ) → length xs ≤ at → slice_get xs at ≡ None
none_past [] zero past = refl
none_past [] (suc at) past = refl
none_past (x ∷ xs) zero past = absurd (omega (arith, past))
none_past (x ∷ xs) (suc at) past = none_past xs at (omega (arith, past))

pub past_end : {A : Type 0} (xs : List A) (at : ℕ) → slice_get xs at ≡ None → length xs ≤ at
past_end [] at none = omega arith
past_end (x ∷ xs) zero none = cc
past_end (x ∷ xs) (suc at) none = omega (arith, past_end xs at none)

-- an item that is read is there
pub some_at : {A : Type 0} (xs : List A) (at : ℕ) (x : A) → at < length xs → x ≡ get_or xs at x → slice_get xs at ≡ Some x
some_at [] at x within is = absurd (omega (arith, within))
some_at (y ∷ ys) zero x within is = ap Some (sym is)
some_at (y ∷ ys) (suc at) x within is = some_at ys at x (omega (arith, within)) is

-- Steps ----------------------------------------------------------------------------------------------------------------

pub first_steps : (names : List Declared) (all : List (Vec ℕ Global)) → all ≡ [] → (length all ≡ 0) × AreSteps all names
first_steps names all none = (ap length none, subst (λ (x : List (Vec ℕ Global)). AreSteps x names) (sym none) (λ place more found. nowhere place more found))

pub more_steps : (names : List Declared) (old new : List (Vec ℕ Global)) (more : Vec ℕ Global) (place : ℕ) → (length old ≡ place) × AreSteps old names → more.items ≡ steps names place → new ≡ old ++ more ∷ [] →
    (length new ≡ place + 1) × AreSteps new names
more_steps names old new more place before here pushed = (
  longer old new more place before.0 pushed,
  subst (λ (x : List (Vec ℕ Global)). AreSteps x names) (sym pushed)
      (all_more (λ (at : ℕ) (one : Vec ℕ Global). one.items ≡ steps names at) old more before.1 (here ∙ ap (steps names) (sym before.0))),
)

-- of all names
pub whole_steps : (items : List LentDeclared) (all : List (Vec ℕ Global)) → length all ≡ length items → AreSteps all (declared_lent items) → (place : ℕ) → items_at all place ≡ steps (declared_lent items) place
whole_steps items all long are place = by_found (slice_get all place) refl
  where
    by_found : (found : Option (Vec ℕ Global)) → slice_get all place ≡ found → items_at all place ≡ steps (declared_lent items) place
    by_found (Some more) e = ap items_of e ∙ are place more e
    by_found None e =
        let past : length (declared_lent items) ≤ place = omega (arith, past_end all place e, long, lent_length items) in
        ap items_of e ∙ sym (ap (declared_steps (declared_lent items)) (none_past (declared_lent items) place past))

-- Where each name stands first -----------------------------------------------------------------------------------------

pub first_firsts : (names : List Declared) (all : List ℕ) → all ≡ [] → (length all ≡ 0) × AreFirsts all names
first_firsts names all none = (ap length none, subst (λ (x : List ℕ). AreFirsts x names) (sym none) (λ place first found. nowhere place first found))

pub more_firsts : (names : List Declared) (old new : List ℕ) (first place : ℕ) → (length old ≡ place) × AreFirsts old names → first ≡ first_of names (slice_get names place) → new ≡ old ++ first ∷ [] →
    (length new ≡ place + 1) × AreFirsts new names
more_firsts names old new first place before here pushed = (
  longer old new first place before.0 pushed,
  subst (λ (x : List ℕ). AreFirsts x names) (sym pushed)
      (all_more (λ (at : ℕ) (one : ℕ). one ≡ first_of names (slice_get names at)) old first before.1 (here ∙ ap (λ (at : ℕ). first_of names (slice_get names at)) (sym before.0))),
)

-- where the name at a place stands first, by what is lent
pub first_lent : (items : List LentDeclared) (place : ℕ) (found : Option LentDeclared) → found ≡ slice_get items place → first_of (declared_lent items) (option_map declared_of found) ≡ first_of (declared_lent items) (slice_get (declared_lent items) place)
first_lent items place found at = ap (λ (x : Option LentDeclared). first_of (declared_lent items) (option_map declared_of x)) at ∙ sym (ap (first_of (declared_lent items)) (get_of_map declared_of items place))
