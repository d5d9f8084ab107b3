-- What is due first.
use Rattle.std.proofs.Common.{◌≡◌, ℕ, ◌+◌, List, [], ◌∷◌, ◌++◌, length, map, Bool, true, false, cond, Option, Some, None, is_some, refl, sym, ap, subst, ◌∙◌}
use Rattle.std.specs.Prelude.{◌&&◌, ◌||◌, int_lt, int_le, IsSome, if◌then◌else◌}
use Rattle.std.specs.Option.{option_map}
use Rattle.std.proofs.lemmas.List.{map-append}
use Rattle.std.proofs.lemmas.Option.{same_Some}
use Rattle.zk_base.specs.declared.time.Moment.{Moment}
use Rattle.zk_tree.specs.Table as table
use Rattle.zk_tree.specs.Table.{Table, first_due}
use Rattle.zk_tree.specs.Value as plain
use Rattle.zk_tree.specs.Value.{Value}
use Rattle.zk_machine.specs.Handling.{expiring_from}
use Rattle.zk_lower.specs.Lowering.{lowered, globals_found, globals_at, initial_code}
use Rattle.zk_lower.specs.Told.{Told, behind}
use Rattle.zk_typed.specs.Does.{named}
use Rattle.zk_typed.specs.Program.{Program, Global}
use Rattle.zk_typed.specs.Running as typed
use Rattle.zk_typed.specs.Running.{Turn, EntryDue, EventDue, due_entries, entry_turns, event_turns, first_turn, next_turn, table_behind}
use Rattle.zk_typed.specs.State.{World}
use Rattle.zk_typed.specs.World.{Scheduled}
use Rattle.zk_machine.specs.Agenda as agenda
use Rattle.zk_machine.specs.Agenda.{due_of, kind_of, kind_before, first_of, entry_due, entry_dues, event_due, event_dues, due_in}
use Rattle.zk_machine.specs.Entries.{object_named, turn_in, turn_of}
use Rattle.zk_machine.specs.Schedule.{Each, IsFound, entry_for, event_numbered}
use Rattle.zk_machine.specs.declared.due.Due.{Due}
use Rattle.zk_machine.specs.declared.due.DueKind.{DueKind}
use Rattle.zk_machine.specs.declared.due.DueKind.TheVariants as kind
use Rattle.zk_machine.proofs.ListLemmas.{map-made}

-- the order of turns
kinds_alike : (a b : typed.Due) → kind_before (kind_of a) (kind_of b) ≡ typed.due_before a b
kinds_alike (EntryDue table order) (EntryDue other more) = refl
kinds_alike (EntryDue table order) (EventDue one) = refl
kinds_alike (EventDue one) (EntryDue table order) = refl
kinds_alike (EventDue one) (EventDue other) = refl

before_alike : (a b : Turn) → agenda.is_before (due_of a) (due_of b) ≡ typed.is_before a b
before_alike a b = ap (λ before. int_lt a.at.0 b.at.0 || (int_le a.at.0 b.at.0 && before)) (kinds_alike a.what b.what)

earlier_alike : (one : Turn) (other : Option Turn) → agenda.earlier (due_of one) (option_map due_of other) ≡ due_of (typed.earlier one other)
earlier_alike one None = refl
earlier_alike one (Some other) =
    ap (λ before. cond before (due_of other) (due_of one)) (before_alike other one)
    ∙ elim (typed.is_before other one) as (λ before. cond before (due_of other) (due_of one) ≡ due_of (cond before other one)) [ true ↦ refl | false ↦ refl ]

first_alike : (turns : List Turn) → first_of (map due_of turns) ≡ option_map due_of (first_turn turns)
first_alike [] = refl
first_alike (one ∷ others) = ap Some (ap (agenda.earlier (due_of one)) (first_alike others) ∙ earlier_alike one (first_turn others))

-- the entries of a global's table
due_entry : (global : ℕ) (one : Option Table) → map due_of (due_entries global one) ≡ entry_due global (turn_of one)
due_entry global None = refl
due_entry global (Some one) = from (first_due one.entries) refl
  where
    from : (first : Option (Moment × ℕ)) → first_due one.entries ≡ first → map due_of (due_entries global (Some one)) ≡ entry_due global (first_due one.entries)
    from None is = rw is refl
    from (Some turn) is = rw is refl

entry_behind : (global : ℕ) (world : World) (given : Option Value) → map due_of (due_entries global (table_behind world given)) ≡ entry_due global (turn_in world.store (object_named given))
entry_behind global world None = refl
entry_behind global world (Some (plain.Object number)) = due_entry global (table_behind world (Some (plain.Object number)))
entry_behind global world (Some other) = refl

entries_alike : (world : World) (n at number : ℕ) (globals : List Global) → map due_of (entry_turns world n globals) ≡ entry_dues world (expiring_from n (globals_found at number globals))
entries_alike world n at number [] = refl
entries_alike world n at number (one ∷ others) =
    let next : ℕ = at + length (initial_code number one one.initial) in
    let rest : map due_of (entry_turns world (n + 1) others) ≡ entry_dues world (expiring_from (n + 1) (globals_found next (number + 1) others)) = entries_alike world (n + 1) next (number + 1) others in
    elim (is_some one.expiry) as (λ expires. map due_of (cond expires (due_entries n (table_behind world (named world.globals n))) [] ++ entry_turns world (n + 1) others)
    ≡ entry_dues world (cond expires (n ∷ []) [] ++ expiring_from (n + 1) (globals_found next (number + 1) others))) [
      | true ↦ map-append due_of (due_entries n (table_behind world (named world.globals n))) (entry_turns world (n + 1) others)
          ∙ (ap (λ first. first ++ map due_of (entry_turns world (n + 1) others)) (entry_behind n world (named world.globals n))
          ∙ ap (λ others. entry_due n (turn_in world.store (object_named (named world.globals n))) ++ others) rest)
      | false ↦ rest
    ]

pub next_alike : (program : Program) (world : World) → due_in world (expiring_from 0 (lowered program).globals) ≡ option_map due_of (next_turn program world)
next_alike program world =
    let events : event_dues world ≡ map due_of (event_turns world) = sym (map-made (λ (one : Scheduled). record { at = one.due; what = EventDue one }) due_of world.scheduled) in
    elim world.is_ending as (λ ends. first_of (cond ends [] (entry_dues world (expiring_from 0 (lowered program).globals)) ++ event_dues world)
    ≡ option_map due_of (first_turn (cond ends [] (entry_turns world 0 program.globals) ++ event_turns world))) [
      | true ↦ ap first_of events ∙ first_alike (event_turns world)
      | false ↦ ap first_of (ap (λ first. first ++ event_dues world) (sym (entries_alike world 0 (globals_at program) 0 program.globals))
          ∙ (ap (λ others. map due_of (entry_turns world 0 program.globals) ++ others) events ∙ sym (map-append due_of (entry_turns world 0 program.globals) (event_turns world))))
          ∙ first_alike (entry_turns world 0 program.globals ++ event_turns world)
    ]

-- The index of events ----------------------------------------------------------------------------------------------

-- when an event is due, and its order number
abbrev pub turn_due : Moment × ℕ → Due
turn_due turn = record { at = turn.0; what = kind.Scheduled turn.1 }

later_alike : (one : Scheduled) (other : Option (Moment × ℕ)) → option_map turn_due (table.earlier (Some (one.due, one.order)) other) ≡ Some (agenda.earlier (event_due one) (option_map turn_due other))
later_alike one None = refl
later_alike one (Some other) = elim (table.is_before other (one.due, one.order)) as (λ before. option_map turn_due (cond before (Some other) (Some (one.due, one.order))) ≡ Some (cond before (turn_due other) (event_due one))) [ true ↦ refl | false ↦ refl ]

-- what the index gives is the first event
pub index_alike : (events : List Scheduled) → option_map turn_due (first_due (map entry_for events)) ≡ first_of (map event_due events)
unfolding first_due
index_alike [] = refl
index_alike (one ∷ others) = later_alike one (first_due (map entry_for others)) ∙ ap (λ (rest : Option Due). Some (agenda.earlier (event_due one) rest)) (index_alike others)

-- What holds of each holds of the first --------------------------------------------------------------------------

each-made : {A B : Type 0} (make : A → B) (P : B → Type 0) (xs : List A) → Each (λ x. P (make x)) xs → Each P (map make xs)
each-made make P [] h = tt
each-made make P (x ∷ xs) h = (h.0, each-made make P xs h.1)

pub each-append : {A : Type 0} (P : A → Type 0) (xs ys : List A) → Each P xs → Each P ys → Each P (xs ++ ys)
each-append P [] ys h g = g
each-append P (x ∷ xs) ys h g = (h.0, each-append P xs ys h.1 g)

each-if : {A : Type 0} (P : A → Type 0) (test : Bool) (xs ys : List A) → Each P xs → Each P ys → Each P (cond test xs ys)
each-if P true xs ys h g = h
each-if P false xs ys h g = g

earlier_holds : (P : Due → Type 0) (one : Due) (first : Option Due) → P one → ((due : Due) → first ≡ Some due → P due) → P (agenda.earlier one first)
earlier_holds P one None is from = is
earlier_holds P one (Some other) is from = elim (agenda.is_before other one) as (λ before. P (cond before other one)) [ true ↦ from other refl | false ↦ is ]

first_holds : (P : Due → Type 0) (dues : List Due) (due : Due) → Each P dues → first_of dues ≡ Some due → P due
first_holds P [] due h is = cc
first_holds P (one ∷ others) due h is =
    subst P (same_Some _ _ is) (earlier_holds P one (first_of others) h.0 (λ other there. first_holds P others other h.1 there))

earlier_turn_holds : (P : Turn → Type 0) (one : Turn) (first : Option Turn) → P one → ((turn : Turn) → first ≡ Some turn → P turn) → P (typed.earlier one first)
earlier_turn_holds P one None is from = is
earlier_turn_holds P one (Some other) is from = elim (typed.is_before other one) as (λ before. P (cond before other one)) [ true ↦ from other refl | false ↦ is ]

first_turn_holds : (P : Turn → Type 0) (turns : List Turn) (turn : Turn) → Each P turns → first_turn turns ≡ Some turn → P turn
first_turn_holds P [] turn h is = cc
first_turn_holds P (one ∷ others) turn h is =
    subst P (same_Some _ _ is) (earlier_turn_holds P one (first_turn others) h.0 (λ other there. first_turn_holds P others other h.1 there))

-- an event that is due is found by its number
abbrev IsThere : List Scheduled → typed.Due → Type 0
IsThere events (EntryDue table order) = Unit {0}
IsThere events (EventDue one) = event_numbered one.order events ≡ Some one

entries_there : (events : List Scheduled) (world : World) (n : ℕ) (globals : List Global) → Each (λ (turn : Turn). IsThere events turn.what) (entry_turns world n globals)
entries_there events world n [] = tt
entries_there events world n (one ∷ others) =
    each-append (λ (turn : Turn). IsThere events turn.what) (cond (is_some one.expiry) (due_entries n (table_behind world (named world.globals n))) []) (entry_turns world (n + 1) others)
    (each-if (λ (turn : Turn). IsThere events turn.what) (is_some one.expiry) (due_entries n (table_behind world (named world.globals n))) [] (of_table (table_behind world (named world.globals n))) tt)
    (entries_there events world (n + 1) others)
  where
    of_table : (table : Option Table) → Each (λ (turn : Turn). IsThere events turn.what) (due_entries n table)
    of_table None = tt
    of_table (Some table) = from (first_due table.entries) refl
      where
        from : (first : Option (Moment × ℕ)) → first_due table.entries ≡ first → Each (λ (turn : Turn). IsThere events turn.what) (due_entries n (Some table))
        from None is = rw is tt
        from (Some turn) is = rw is (tt, tt)

pub next_found : (program : Program) (world : World) (at : Moment) (one : Scheduled) → IsFound world.scheduled → next_turn program world ≡ Some (record { at = at; what = EventDue one })
    → event_numbered one.order world.scheduled ≡ Some one
next_found program world at one found is =
    first_turn_holds (λ turn. IsThere world.scheduled turn.what) ((if world.is_ending then [] else entry_turns world 0 program.globals) ++ event_turns world) (record { at = at; what = EventDue one })
    (each-append (λ (turn : Turn). IsThere world.scheduled turn.what) (cond world.is_ending [] (entry_turns world 0 program.globals)) (event_turns world)
    (each-if (λ (turn : Turn). IsThere world.scheduled turn.what) world.is_ending [] (entry_turns world 0 program.globals) tt (entries_there world.scheduled world 0 program.globals))
    (each-made (λ (one : Scheduled). record { at = one.due; what = EventDue one }) (λ (turn : Turn). IsThere world.scheduled turn.what) world.scheduled found))
    is

-- what is due can be taken
abbrev pub CanTake : List Scheduled → DueKind → Type 0
CanTake events (kind.Entry table order) = Unit {0}
CanTake events (kind.Scheduled order) = IsSome (event_numbered order events)

pub due_ready : (world : World) (globals : List ℕ) (due : Due) → IsFound world.scheduled → due_in world globals ≡ Some due → CanTake world.scheduled due.what
due_ready world globals due found is =
    first_holds (λ due. CanTake world.scheduled due.what) ((if world.is_ending then [] else entry_dues world globals) ++ event_dues world) due
    (each-append (λ (due : Due). CanTake world.scheduled due.what) (cond world.is_ending [] (entry_dues world globals)) (event_dues world)
    (each-if (λ (due : Due). CanTake world.scheduled due.what) world.is_ending [] (entry_dues world globals) tt (of_entries globals))
    (each-made event_due (λ (due : Due). CanTake world.scheduled due.what) world.scheduled (of_events world.scheduled found)))
    is
  where
    of_entries : (globals : List ℕ) → Each (λ (due : Due). CanTake world.scheduled due.what) (entry_dues world globals)
    of_entries [] = tt
    of_entries (global ∷ globals) =
        each-append (λ (due : Due). CanTake world.scheduled due.what) (entry_due global (turn_in world.store (object_named (named world.globals global)))) (entry_dues world globals)
        (of_turn global (turn_in world.store (object_named (named world.globals global)))) (of_entries globals)
      where
        of_turn : (global : ℕ) (turn : Option (Moment × ℕ)) → Each (λ (due : Due). CanTake world.scheduled due.what) (entry_due global turn)
        of_turn global None = tt
        of_turn global (Some turn) = (tt, tt)

    of_events : (events : List Scheduled) → Each (λ one. event_numbered one.order world.scheduled ≡ Some one) events → Each (λ one. CanTake world.scheduled (event_due one).what) events
    of_events [] h = tt
    of_events (one ∷ others) h = (there (event_numbered one.order world.scheduled) h.0, of_events others h.1)
      where
        there : (found : Option Scheduled) → found ≡ Some one → IsSome found
        there None is = cc
        there (Some other) is = refl

-- What was told before -----------------------------------------------------------------------------------------------

entries_told : (given : Told) (world : World) (n : ℕ) (globals : List Global) → entry_turns (behind given world) n globals ≡ entry_turns world n globals
entries_told given world n [] = refl
entries_told given world n (one ∷ others) =
    ap (λ rest. (if is_some one.expiry then due_entries n (table_behind (behind given world) (named world.globals n)) else []) ++ rest) (entries_told given world (n + 1) others)
    ∙ ap (λ table. (if is_some one.expiry then due_entries n table else []) ++ entry_turns world (n + 1) others) (same_table (named world.globals n))
  where
    same_table : (value : Option Value) → table_behind (behind given world) value ≡ table_behind world value
    same_table None = refl
    same_table (Some (plain.Object number)) = refl
    same_table (Some other) = refl

-- decides nothing of what is due
pub next_told : (program : Program) (given : Told) (world : World) → next_turn program (behind given world) ≡ next_turn program world
next_told program given world =
    ap (λ (entries : List Turn). first_turn ((if world.is_ending then [] else entries) ++ event_turns world)) (entries_told given world 0 program.globals)
