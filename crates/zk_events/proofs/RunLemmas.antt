-- The queue and the agenda, a dispatch and a turn at a time.
use Rattle.std.proofs.Common.{◌≡◌, ℕ, zero, suc, ◌+◌, ◌<◌, ◌≤◌, Bool, true, false, List, [], ◌∷◌, length, drop, Option, Some, None, slice_get, refl, sym, ap, ◌∙◌, arith, add-one}
use Rattle.zk_base.specs.declared.time.Moment.{Moment}
use Rattle.zk_lower.specs.Code.{Code}
use Rattle.zk_lower.specs.Lowering.{globals_at, globals_found, initial_code}
use Rattle.zk_lower.specs.Told.{Told}
use Rattle.zk_events.specs.declared.sealed.SealedMachine.{SealedMachine}
use Rattle.zk_machine.specs.Agenda.{due_of}
use Rattle.zk_machine.specs.declared.due.Due as rust
use Rattle.zk_machine.specs.Schedule.{event_numbered}
use Rattle.zk_events.specs.Sealed.{StandsFor, code_of}
use Rattle.zk_typed.specs.Dispatch.{dispatch, initial_body, world_after}
use Rattle.zk_typed.specs.Program.{Program, Global}
use Rattle.zk_typed.specs.Running.{Due, EntryDue, EventDue, Progress, Goes, Floods, Turn, drained, goes_on, happens, initialised, next_turn, none_left, one_more, one_turn, turn_if, turns_from}
use Rattle.zk_typed.specs.State.{World, with_queue, with_time}
use Rattle.zk_typed.specs.World.{Queued, Scheduled}
use Rattle.zk_events.specs.declared.dispatcher.Until.{Until}
use Rattle.zk_events.specs.Flowing.{IsTold, time_at}
use Rattle.std.specs.Option.{option_map}
use Rattle.std.proofs.lemmas.List.{drop_all}

-- The queue --------------------------------------------------------------------------------------------------------

pub drained-none : (program : Program) (budget left : ℕ) (world : World) → world.queue ≡ [] → drained program budget left world ≡ Goes world left
drained-none program budget zero world none = ap (none_left world) none
drained-none program budget (suc left) world none = ap (one_more program budget left (drained program budget left) world) none

pub drained-flood : (program : Program) (budget left : ℕ) (world : World) (first : Queued) (others : List Queued)
    → left ≡ 0 → world.queue ≡ first ∷ others → drained program budget left world ≡ Floods world
drained-flood program budget left world first others none full =
    ap (λ n. drained program budget n world) none ∙ ap (none_left world) full

pub drained-more : (program : Program) (budget more left : ℕ) (world : World) (first : Queued) (others : List Queued)
    → more ≡ left + 1 → world.queue ≡ first ∷ others
    → drained program budget more world ≡ drained program budget left (dispatch program budget (with_queue others world) first)
drained-more program budget more left world first others is full =
    ap (λ n. drained program budget n world) (is ∙ add-one left)
    ∙ ap (one_more program budget left (drained program budget left) world) full

pub drained-along : (program : Program) (spent budget left more : ℕ) (world : World) (progress : Progress) → spent ≡ budget → left ≡ more
    → drained program budget more world ≡ progress → drained program spent left world ≡ progress
drained-along program spent budget left more world progress paid same comes =
    ap (λ b. drained program b left world) paid ∙ (ap (λ n. drained program budget n world) same ∙ comes)

-- The agenda -------------------------------------------------------------------------------------------------------

-- the turns that come from this world on come to what all come to
pub record IsTurning (program : Program) (budget : ℕ) (at : Moment → Moment) (is_due : Turn → Bool) (world : World) (more : ℕ) (progress : Progress) : Type 0 where
  pub most : ℕ
  pub enough : more < most
  pub same : turns_from most program budget at is_due world more ≡ progress

module _ (program : Program) (budget : ℕ) (at : Moment → Moment) (is_due : Turn → Bool) where
  abbrev turned : ℕ → World → ℕ → Turn → Progress
  turned most world more one = goes_on (turns_from most program budget at is_due) (one_turn program budget at world one more)

  abbrev chosen : ℕ → World → ℕ → Turn → Bool → Progress
  chosen most world more one met = elim met [ true ↦ turned most world more one | false ↦ Goes world more ]

  from-none : (most : ℕ) (world : World) (more : ℕ) → more < most → next_turn program world ≡ None
      → turns_from most program budget at is_due world more ≡ Goes world more
  from-none zero world more enough none = absurd (omega (arith, enough))
  from-none (suc most) world more enough none = ap (turn_if is_due world more (turned most world more)) none

  from-over : (most : ℕ) (world : World) (more : ℕ) (one : Turn) → more < most → next_turn program world ≡ Some one → is_due one ≡ false
      → turns_from most program budget at is_due world more ≡ Goes world more
  from-over zero world more one enough next over = absurd (omega (arith, enough))
  from-over (suc most) world more one enough next over =
      ap (turn_if is_due world more (turned most world more)) next ∙ ap (chosen most world more one) over

  from-due : (most : ℕ) (world : World) (more : ℕ) (one : Turn) → more < most → next_turn program world ≡ Some one → is_due one ≡ true
      → (rest : ℕ) × (most ≡ suc rest) × (turns_from most program budget at is_due world more ≡ turned rest world more one)
  from-due zero world more one enough next due = absurd (omega (arith, enough))
  from-due (suc most) world more one enough next due =
      (most, refl, ap (turn_if is_due world more (turned most world more)) next ∙ ap (chosen most world more one) due)

  pub turning-none : (world : World) (more : ℕ) (progress : Progress) → IsTurning program budget at is_due world more progress
      → next_turn program world ≡ None → progress ≡ Goes world more
  turning-none world more progress turning none = sym turning.same ∙ from-none turning.most world more turning.enough none

  pub turning-over : (world : World) (more : ℕ) (progress : Progress) (one : Turn) → IsTurning program budget at is_due world more progress
      → next_turn program world ≡ Some one → is_due one ≡ false → progress ≡ Goes world more
  turning-over world more progress one turning next over = sym turning.same ∙ from-over turning.most world more one turning.enough next over

  pub turning-goes : (world : World) (more : ℕ) (progress : Progress) (one : Turn) (after : World) (left : ℕ) → IsTurning program budget at is_due world more progress
      → next_turn program world ≡ Some one → is_due one ≡ true → one_turn program budget at world one more ≡ Goes after left → left < more
      → IsTurning program budget at is_due after left progress
  turning-goes world more progress one after left turning next due goes fewer =
      let (rest, is, same) = from-due turning.most world more one turning.enough next due in
      let enough = turning.enough in
      record {
        most = rest;
        enough = omega arith;
        same = sym (ap (goes_on (turns_from rest program budget at is_due)) goes) ∙ (sym same ∙ turning.same);
      }

  pub turning-floods : (world : World) (more : ℕ) (progress : Progress) (one : Turn) (after : World) → IsTurning program budget at is_due world more progress
      → next_turn program world ≡ Some one → is_due one ≡ true → one_turn program budget at world one more ≡ Floods after → progress ≡ Floods after
  turning-floods world more progress one after turning next due floods =
      let (rest, is, same) = from-due turning.most world more one turning.enough next due in
      sym turning.same ∙ (same ∙ ap (goes_on (turns_from rest program budget at is_due)) floods)

-- what is due next, as the machine tells it
pub next_of : (program : Program) (world : World) (due : rust.Due) → Some due ≡ option_map due_of (next_turn program world)
    → (one : Turn) × (next_turn program world ≡ Some one) × (due ≡ due_of one)
next_of program world due is = by_next (next_turn program world) refl is
  where
    by_next : (next : Option Turn) → next_turn program world ≡ next → Some due ≡ option_map due_of next
        → (one : Turn) × (next_turn program world ≡ Some one) × (due ≡ due_of one)
    by_next None next is = absurd (let no : ⊥ = cc in no)
    by_next (Some one) next is = (one, next, (let same : due ≡ due_of one = cc in same))

pub none_next : (program : Program) (world : World) → None ≡ option_map due_of (next_turn program world) → next_turn program world ≡ None
none_next program world is = by_next (next_turn program world) refl is
  where
    by_next : (next : Option Turn) → next_turn program world ≡ next → None ≡ option_map due_of next → next_turn program world ≡ None
    by_next None next is = next
    by_next (Some one) next is = absurd (let no : ⊥ = cc in no)

-- an event that is due is the one of its number
pub told_of : (program : Program) (world : World) (due : rust.Due) (one : Turn) → next_turn program world ≡ Some one → due ≡ due_of one
    → ((at : Moment) (event : Scheduled) → next_turn program world ≡ Some (record { at = at; what = EventDue event }) → event_numbered event.order world.scheduled ≡ Some event)
    → IsTold due.what one.what world
told_of program world due one next is events = by_what one.at one.what next is
  where
    by_what : (at : Moment) (what : Due) → next_turn program world ≡ Some (record { at = at; what = what }) → due ≡ due_of (record { at = at; what = what }) → IsTold due.what what world
    by_what at (EntryDue table order) next is = ap (λ (d : rust.Due). d.what) is
    by_what at (EventDue event) next is = (ap (λ (d : rust.Due). d.what) is, events at event next)

-- a turn is a dispatch, and then the queue is drained
pub turn-more : (program : Program) (budget : ℕ) (until : Until) (world : World) (one : Turn) (more left : ℕ) (at : Moment)
    → more ≡ left + 1 → at ≡ time_at until one.at
    → drained program budget left (happens program budget (with_time at world) one.what) ≡ one_turn program budget (time_at until) world one more
turn-more program budget until world one more left at is now =
    ap (λ (a : Moment). drained program budget left (happens program budget (with_time a world) one.what)) now
    ∙ sym (ap (one_turn program budget (time_at until) world one) (is ∙ add-one left))

-- Initial values ---------------------------------------------------------------------------------------------------

-- a program has as many globals as its code
pub as_many : (at number : ℕ) (globals : List Global) → length (globals_found at number globals) ≡ length globals
as_many at number [] = refl
as_many at number (one ∷ others) = ap suc (as_many (at + length (initial_code number one one.initial)) (number + 1) others)

-- the item at a place, and what stands from it on
there_at : {A : Type 0} (list : List A) (place : ℕ) → place < length list
    → (one : A) × (slice_get list place ≡ Some one) × (drop place list ≡ one ∷ drop (place + 1) list)
there_at [] place within = absurd (omega (arith, within))
there_at (first ∷ others) zero within = (first, refl, refl)
there_at (first ∷ others) (suc place) within =
    let inside : place < length others = omega (arith, within) in
    let (one, there, from_it) = there_at others place inside in
    (one, there, from_it ∙ ap (λ n. one ∷ drop n (first ∷ others)) (let e : suc (place + 1) ≡ suc place + 1 = omega arith in e))

-- one initial value more
pub initialised-more : (program : Program) (budget number : ℕ) (world : World) → number < length program.globals
    → (one : Global) × (slice_get program.globals number ≡ Some one)
    × (initialised program budget number world (drop number program.globals)
    ≡ initialised program budget (number + 1) (world_after program (initial_body program number one world budget)) (drop (number + 1) program.globals))
initialised-more program budget number world within =
    let (one, there, from_it) = there_at program.globals number within in
    (one, there, ap (initialised program budget number world) from_it)

-- as many as the code has that a machine runs
pub count_of : (machine : SealedMachine) (program : Program) (given : Told) (world : World) → StandsFor machine program given world
    → length (code_of machine).globals ≡ length program.globals
unfolding StandsFor
count_of machine program given world stands = ap (λ (code : Code). length code.globals) stands.code ∙ as_many (globals_at program) 0 program.globals

-- all initial values were computed
pub initialised-all : (program : Program) (budget number : ℕ) (world whole : World) → length program.globals ≤ number
    → initialised program budget number world (drop number program.globals) ≡ whole → world ≡ whole
initialised-all program budget number world whole all same =
    sym (ap (initialised program budget number world) (drop_all number program.globals all)) ∙ same
