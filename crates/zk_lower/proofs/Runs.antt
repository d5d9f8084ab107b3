-- How a computation and a run of code are one, and how such facts are put together.
use Rattle.std.proofs.Common.{◌≡◌, ℕ, List, [], ◌∷◌, ◌++◌, length, reverse, take, drop, Option, refl, sym, ap, ◌∙◌, append_assoc}
use Rattle.std.proofs.lemmas.List.{reverse-append, length-reverse, reverse-reverse}
use Rattle.std.proofs.Math.Seq.{take-append_seam, drop-append_seam}
use Rattle.zk_tree.specs.Value.{Value}
use Rattle.zk_typed.specs.Does.{Does, Ran, Gives, Faults, Spent, and_then, ◌>>=◌, ◌>>◌, pure}
use Rattle.zk_typed.specs.Meaning.{enter, first_locals}
use Rattle.zk_typed.specs.State.{State}
use Rattle.zk_lower.specs.Code.{Op, Code}
use Rattle.zk_lower.specs.Frames.{Held, Machine, pushed, with_stack}
use Rattle.zk_lower.specs.Run.{after, run}
use Rattle.zk_lower.specs.Steps.{Step, by, operands, without, operate, at_op}
use Rattle.zk_lower.proofs.Standing.{At}
use Rattle.zk_lower.proofs.Weight.{machine, run_steps}

abbrev pub Start : Type 0
Start = State → Ran (Option Value)

-- the run from here is the computation, and then the run from there
pub record Runs {A : Type 0} (m : Does A) (start : Start) (end : A → Start) : Type 0 where
  pub by : (state : State) → start state ≡ and_then (m state) end

pub then_then : {A B C : Type 0} (ran : Ran A) (k : A → State → Ran B) (end : B → State → Ran C) → and_then (and_then ran k) end ≡ and_then ran (λ a state. and_then (k a state) end)
then_then (Gives a state) k end = refl
then_then (Faults kind place world units) k end = refl
then_then (Spent place world) k end = refl

pub then_same : {A B : Type 0} (ran : Ran A) (f g : A → State → Ran B) → ((a : A) (state : State) → f a state ≡ g a state) → and_then ran f ≡ and_then ran g
then_same (Gives a state) f g h = h a state
then_same (Faults kind place world units) f g h = refl
then_same (Spent place world) f g h = refl

pub after_by : {A : Type 0} (ran : Ran A) (next : A → State → Step) (rest : Machine → Ran (Option Value)) → after (by ran next) rest ≡ and_then ran (λ a state. after (next a state) rest)
after_by (Gives a state) next rest = refl
after_by (Faults kind place world units) next rest = refl
after_by (Spent place world) next rest = refl

pub runs_bind : {A B : Type 0} {m : Does A} {k : A → Does B} {start : Start} {mid : A → Start} {end : B → Start} → Runs m start mid → ((a : A) → Runs (k a) (mid a) end) → Runs (m >>= k) start end
runs_bind {m = m} {k = k} {mid = mid} {end = end} first next = record {
  by = λ state. first.by state ∙ (then_same (m state) mid (λ a now. and_then (k a now) end) (λ a now. (next a).by now) ∙ sym (then_then (m state) k end));
}

pub runs_then : {A B : Type 0} {m : Does A} {k : Does B} {start : Start} {mid : A → Start} {end : B → Start} → Runs m start mid → ((a : A) → Runs k (mid a) end) → Runs (m >> k) start end
runs_then first next = runs_bind first next

pub runs_pure : {A : Type 0} (a : A) (end : A → Start) → Runs (pure a) (end a) end
runs_pure a end = record { by = λ state. refl }

pub runs_from : {A : Type 0} {m : Does A} {start other : Start} {end : A → Start} → ((state : State) → other state ≡ start state) → Runs m start end → Runs m other end
runs_from same one = record { by = λ state. same state ∙ one.by state }

pub runs_to : {A : Type 0} {m : Does A} {start : Start} {end other : A → Start} → Runs m start end → ((a : A) (state : State) → end a state ≡ other a state) → Runs m start other
runs_to {m = m} {end = end} {other = other} one same = record { by = λ state. one.by state ∙ then_same (m state) end other same }

-- a value that is so whatever the state
abbrev pub So : {A : Type 0} → (A → Type 0) → Ran A → Type 0
So P (Gives a state) = P a
So P (Faults kind place world units) = Unit {0}
So P (Spent place world) = Unit {0}

-- the value is so, whatever the state
pub record Always {A : Type 0} (P : A → Type 0) (m : Does A) : Type 0 where
  pub by : (state : State) → So P (m state)

so_then : {A B : Type 0} (P : A → Type 0) (Q : B → Type 0) (ran : Ran A) (k : A → State → Ran B) → ((a : A) (state : State) → P a → So Q (k a state)) → So P ran → So Q (and_then ran k)
so_then P Q (Gives a state) k h p = h a state p
so_then P Q (Faults kind place world units) k h p = tt
so_then P Q (Spent place world) k h p = tt

so_any : {A : Type 0} (ran : Ran A) → So (λ a. Unit {0}) ran
so_any (Gives a state) = tt
so_any (Faults kind place world units) = tt
so_any (Spent place world) = tt

pub always_bind : {A B : Type 0} (P : A → Type 0) (Q : B → Type 0) {m : Does A} {k : A → Does B} → Always P m → ((a : A) → P a → Always Q (k a)) → Always Q (m >>= k)
always_bind P Q {m = m} {k = k} first next = record { by = λ state. so_then P Q (m state) k (λ a now p. (next a p).by now) (first.by state) }

-- whatever comes first
pub always_after : {A B : Type 0} (Q : B → Type 0) (m : Does A) {k : A → Does B} → ((a : A) → Always Q (k a)) → Always Q (m >>= k)
always_after Q m {k = k} next = record { by = λ state. so_then (λ a. Unit {0}) Q (m state) k (λ a now p. (next a).by now) (so_any (m state)) }

pub always_pure : {A : Type 0} (P : A → Type 0) (a : A) → P a → Always P (pure a)
always_pure P a p = record { by = λ state. p }

so_same : {A B : Type 0} (P : A → Type 0) (ran : Ran A) (f g : A → State → Ran B) → So P ran → ((a : A) (state : State) → P a → f a state ≡ g a state) → and_then ran f ≡ and_then ran g
so_same P (Gives a state) f g p h = h a state p
so_same P (Faults kind place world units) f g p h = refl
so_same P (Spent place world) f g p h = refl

-- where it is known what the value is like
pub runs_knowing : {A B : Type 0} (P : A → Type 0) {m : Does A} {k : A → Does B} {start : Start} {mid : A → Start} {end : B → Start} → Always P m → Runs m start mid → ((a : A) → P a → Runs (k a) (mid a) end) → Runs (m >>= k) start end
runs_knowing P {m = m} {k = k} {mid = mid} {end = end} known first next = record {
  by = λ state. first.by state ∙ (so_same P (m state) mid (λ a now. and_then (k a now) end) (known.by state) (λ a now p. (next a p).by now) ∙ sym (then_then (m state) k end));
}

-- a body with names of its own
pub runs_enter : {A : Type 0} (locals : ℕ) (args : List Value) (body : Does A) {start : Start} {end : A → Start} → ((state : State) → start state ≡ and_then (body (record state { locals = first_locals locals args })) (λ a now. end a (record now { locals = state.locals }))) → Runs (enter locals args body) start end
runs_enter locals args body {end = end} same = record {
  by = λ state. same state ∙ sym (then_then (body (record state { locals = first_locals locals args })) (λ a now. Gives a (record now { locals = state.locals })) end);
}

-- Operations -------------------------------------------------------------------------------------------------------

module _ (code : Code) where
  -- the run from a place
  abbrev pub here : ℕ → Held → Start
  here at held = λ state. run code (machine at held state)

  abbrev pub rest : Step → Ran (Option Value)
  rest step = after step (run code)

  -- the first step of a run is that of the operation at its place
  pub first_step : (one : Op) (at : ℕ) (held : Held) (state : State) → At code.ops one at → here at held state ≡ rest (operate code one at held state)
  first_step one at held state e = run_steps code (machine at held state) ∙ ap (λ found. after (at_op code at held state found) (run code)) e

  pub runs_by : {A : Type 0} (m : Does A) (next : A → State → Step) (end : A → Start) → ((a : A) (state : State) → rest (next a state) ≡ end a state) → Runs m (λ state. rest (by (m state) next)) end
  runs_by m next end same = record { by = λ state. after_by (m state) next (run code) ∙ then_same (m state) (λ a now. rest (next a now)) end same }

  -- what comes first of a computation that decides the step
  pub runs_part : {A B : Type 0} (m : Does A) (k : A → Does B) (next : B → State → Step) → Runs m (λ state. rest (by ((m >>= k) state) next)) (λ a state. rest (by (k a state) next))
  runs_part m k next = record { by = λ state. after_by (and_then (m state) k) next (run code) ∙ (then_then (m state) k (λ b now. rest (next b now)) ∙ then_same (m state) _ _ (λ a now. sym (after_by (k a now) next (run code)))) }

  -- an operation that does what a computation does
  pub runs_op : {A : Type 0} (one : Op) (at : ℕ) (held : Held) (m : Does A) (next : A → State → Step) (end : A → Start) → At code.ops one at → ((state : State) → operate code one at held state ≡ by (m state) next) → ((a : A) (state : State) → rest (next a state) ≡ end a state) → Runs m (here at held) end
  runs_op one at held m next end e same goes_on =
      runs_from (λ state. first_step one at held state e ∙ ap (λ step. after step (run code)) (same state)) (runs_by m next end goes_on)

  -- the same place under another name
  pub at_place : (held : Held) (state : State) {at to : ℕ} → at ≡ to → here at held state ≡ here to held state
  at_place held state e = ap (λ n. here n held state) e

-- Operands ---------------------------------------------------------------------------------------------------------

abbrev pub all_pushed : List Value → Held → Held
all_pushed [] held = held
all_pushed (value ∷ values) held = all_pushed values (pushed value held)

stacked : (value : Value) (values stack : List Value) → reverse values ++ (value ∷ stack) ≡ reverse (value ∷ values) ++ stack
stacked value values stack = sym (append_assoc (reverse values) (value ∷ []) stack) ∙ ap (λ list. list ++ stack) (sym (reverse-append (value ∷ []) values))

-- the last one lies first
pub all_stacked : (values : List Value) (held : Held) → all_pushed values held ≡ with_stack (reverse values ++ held.stack) held
all_stacked [] held = refl
all_stacked (value ∷ values) held = all_stacked values (pushed value held) ∙ ap (λ stack. with_stack stack held) (stacked value values held.stack)

taken_off : (n : ℕ) (values stack : List Value) → length values ≡ n → reverse (take n (reverse values ++ stack)) ≡ values
taken_off n values stack e =
    let same : length (reverse values) ≡ n = length-reverse values ∙ e in
    ap reverse (ap (λ k. take k (reverse values ++ stack)) (sym same) ∙ take-append_seam (reverse values) stack) ∙ reverse-reverse values

left_over : (n : ℕ) (values stack : List Value) → length values ≡ n → drop n (reverse values ++ stack) ≡ stack
left_over n values stack e =
    let same : length (reverse values) ≡ n = length-reverse values ∙ e in
    ap (λ k. drop k (reverse values ++ stack)) (sym same) ∙ drop-append_seam (reverse values) stack

-- the operands that were pushed are taken
pub popped : {X : Type 0} (F : List Value → Held → X) (n : ℕ) (values : List Value) (held : Held) → length values ≡ n → F (operands n (all_pushed values held)) (without n (all_pushed values held)) ≡ F values held
popped F n values held e =
    ap (λ under. F (operands n under) (without n under)) (all_stacked values held) ∙
    (ap (λ one. F one (with_stack (drop n (reverse values ++ held.stack)) held)) (taken_off n values held.stack e) ∙
    ap (λ stack. F values (with_stack stack held)) (left_over n values held.stack e))
