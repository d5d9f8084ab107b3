-- Numbers that rise, and the first of the turns.
use Rattle.std.proofs.Common.{◌≡◌, ℕ, ◌+◌, Bool, true, false, cond, List, [], ◌∷◌, ◌++◌, map, filter, Option, Some, None, refl, sym, ap, subst, ◌∙◌, arith}
use Rattle.std.specs.Option.{option_map}
use Rattle.std.specs.Prelude.{◌≤ℤ◌, ℤ, is_some, nat_lt, int_lt, int_le, if◌then◌else◌, ◌&&◌, ◌||◌}
use Rattle.std.proofs.lemmas.Int.{ints}
use Rattle.std.proofs.lemmas.Bool.Decides.{nat_tests}
use Rattle.zk_typed.specs.Program.{Program, Global}
use Rattle.zk_base.specs.declared.time.Moment.{Moment}
use Rattle.zk_tree.specs.Table as table
use Rattle.zk_tree.specs.Table.{Entry, Table, first_due, turn_of}
use Rattle.zk_typed.specs.Does.{named}
use Rattle.zk_typed.specs.Running.{EventDue, Turn, due_before, due_entries, earlier, entry_turns, table_behind, event_turns, first_turn, is_before, next_turn}
use Rattle.zk_typed.specs.State.{World}
use Rattle.zk_typed.specs.World.{Scheduled}
use Rattle.zk_agenda.specs.Laws.{AtLeast, IsAscending}
use Rattle.zk_agenda.specs.Onward.{EntriesFrom, IsFrom}

-- Numbers --------------------------------------------------------------------------------------------------------------------

-- they rise from one number on, up to another one
abbrev pub Ascends : ℤ → List ℤ → ℤ → Type 0
Ascends low [] high = low ≤ℤ high
Ascends low (first ∷ others) high = (low ≤ℤ first) × Ascends first others high

pub le-trans : (a b c : ℤ) → a ≤ℤ b → b ≤ℤ c → a ≤ℤ c
le-trans a b c first second = grind (arith, ints)

pub le-refl : (a : ℤ) → a ≤ℤ a
le-refl a = grind (arith, ints)

pub lower : (low a : ℤ) (list : List ℤ) (high : ℤ) → low ≤ℤ a → Ascends a list high → Ascends low list high
lower low a [] high le ascends = le-trans low a high le ascends
lower low a (first ∷ others) high le ascends = (le-trans low a first le ascends.0, ascends.1)

pub join : (low : ℤ) (first : List ℤ) (between : ℤ) (second : List ℤ) (high : ℤ) → Ascends low first between → Ascends between second high → Ascends low (first ++ second) high
join low [] between second high one other = lower low between second high one other
join low (n ∷ first) between second high one other = (one.0, join n first between second high one.1 other)

at-least : (low : ℤ) (list : List ℤ) (high : ℤ) → Ascends low list high → AtLeast low list
at-least low [] high ascends = tt
at-least low (first ∷ others) high ascends = (ascends.0, at-least low others high (lower low first others high ascends.0 ascends.1))

pub is-ascending : (low : ℤ) (list : List ℤ) (high : ℤ) → Ascends low list high → IsAscending list
is-ascending low [] high ascends = tt
is-ascending low (first ∷ others) high ascends = (at-least first others high ascends.1, is-ascending first others high ascends.1)

-- Events -----------------------------------------------------------------------------------------------------------------------

-- no event is due before this
abbrev pub DueFrom : ℤ → List Scheduled → Type 0
DueFrom low [] = Unit {0}
DueFrom low (one ∷ others) = (low ≤ℤ one.due.0) × DueFrom low others

pub due-both : (low : ℤ) (first second : List Scheduled) → DueFrom low first → DueFrom low second → DueFrom low (first ++ second)
due-both low [] second one other = other
due-both low (event ∷ first) second one other = (one.0, due-both low first second one.1 other)

pub due-filter : (low : ℤ) (test : Scheduled → Bool) (list : List Scheduled) → DueFrom low list → DueFrom low (filter test list)
due-filter low test [] from = tt
due-filter low test (one ∷ others) from = by_test (test one) refl (due-filter low test others from.1)
  where
    by_test : (kept : Bool) → test one ≡ kept → DueFrom low (filter test others) → DueFrom low (filter test (one ∷ others))
    by_test true is rest = rw is (from.0, rest)
    by_test false is rest = rw is rest

pub due-lower : (low a : ℤ) (list : List Scheduled) → low ≤ℤ a → DueFrom a list → DueFrom low list
due-lower low a [] le from = tt
due-lower low a (one ∷ others) le from = (le-trans low a one.due.0 le from.0, due-lower low a others le from.1)

-- The first turn -----------------------------------------------------------------------------------------------------------

abbrev pub TurnsFrom : ℤ → List Turn → Type 0
TurnsFrom low [] = Unit {0}
TurnsFrom low (one ∷ others) = (low ≤ℤ one.at.0) × TurnsFrom low others

pub turns-lower : (low a : ℤ) (list : List Turn) → low ≤ℤ a → TurnsFrom a list → TurnsFrom low list
turns-lower low a [] le from = tt
turns-lower low a (one ∷ others) le from = (le-trans low a one.at.0 le from.0, turns-lower low a others le from.1)

before-first : (a b : ℤ) (test : Bool) → (int_lt a b || (int_le a b && test)) ≡ true → a ≤ℤ b
before-first a b true is = grind (arith, ints, nat_tests)
before-first a b false is = grind (arith, ints, nat_tests)

not-before : (a b : ℤ) (test : Bool) → (int_lt a b || (int_le a b && test)) ≡ false → b ≤ℤ a
not-before a b true is = grind (arith, ints, nat_tests)
not-before a b false is = grind (arith, ints, nat_tests)

-- the first turn is one of them, and none is due before it
record IsFirst (list : List Turn) (one : Turn) : Type 0 where
  least : TurnsFrom one.at.0 list
  among : (low : ℤ) → TurnsFrom low list → low ≤ℤ one.at.0

first-alone : (turn : Turn) (others : List Turn) → first_turn others ≡ None → IsFirst (turn ∷ others) turn
first-alone turn [] none = record { least = (le-refl turn.at.0, tt); among = λ low from. from.0 }
first-alone turn (other ∷ others) none = absurd (let no : ⊥ = cc in no)

is-first : (list : List Turn) (one : Turn) → first_turn list ≡ Some one → IsFirst list one
is-first [] one is = absurd (let no : ⊥ = cc in no)
is-first (turn ∷ others) one is = by_first (first_turn others) refl (λ other there. is-first others other there)
  where
    by_before : (other : Turn) → IsFirst others other → earlier turn (Some other) ≡ one → (before : Bool) → is_before other turn ≡ before → IsFirst (turn ∷ others) one
    by_before other first same true before =
        let here : other ≡ one = sym (ap (λ b. if b then other else turn) before) ∙ same in
        subst (IsFirst (turn ∷ others)) here (record {
          least = (before-first other.at.0 turn.at.0 (due_before other.what turn.what) before, first.least);
          among = λ low from. first.among low from.1;
        })
    by_before other first same false before =
        let here : turn ≡ one = sym (ap (λ b. if b then other else turn) before) ∙ same in
        subst (IsFirst (turn ∷ others)) here (record {
          least = (le-refl turn.at.0, turns-lower turn.at.0 other.at.0 others (not-before other.at.0 turn.at.0 (due_before other.what turn.what) before) first.least);
          among = λ low from. from.0;
        })

    by_first : (first : Option Turn) → first_turn others ≡ first → ((other : Turn) → first_turn others ≡ Some other → IsFirst others other) → IsFirst (turn ∷ others) one
    by_first None none behind = subst (IsFirst (turn ∷ others)) (let e : turn ≡ one = cc in e) (first-alone turn others none)
    by_first (Some other) there behind = by_before other (behind other there) (let e : earlier turn (Some other) ≡ one = cc in e) (is_before other turn) refl

-- The next turn --------------------------------------------------------------------------------------------------------------

pub next-at-end : (program : Program) (world : World) → world.is_ending ≡ true → next_turn program world ≡ first_turn (event_turns world)
next-at-end program world is = rw is refl

events-from : (low : ℤ) (list : List Scheduled) → DueFrom low list → TurnsFrom low (map (λ one. record { at = one.due; what = EventDue one }) list)
events-from low [] from = tt
events-from low (one ∷ others) from = (from.0, events-from low others from.1)

from-events : (low : ℤ) (list : List Scheduled) → TurnsFrom low (map (λ one. record { at = one.due; what = EventDue one }) list) → DueFrom low list
from-events low [] from = tt
from-events low (one ∷ others) from = (from.0, from-events low others from.1)

-- no event is due before the next turn, which is due as one of them is
pub next-first : (world : World) (one : Turn) → first_turn (event_turns world) ≡ Some one
    → DueFrom one.at.0 world.scheduled × ((low : ℤ) → DueFrom low world.scheduled → low ≤ℤ one.at.0)
next-first world one is =
    let first = is-first (event_turns world) one is in
    (from-events one.at.0 world.scheduled first.least, λ low from. first.among low (events-from low world.scheduled from))

-- where there is no first turn there is none
first-none : (low : ℤ) (list : List Turn) → first_turn list ≡ None → TurnsFrom low list
first-none low [] is = tt
first-none low (one ∷ others) is = absurd (let no : ⊥ = cc in no)

turns-both : (low : ℤ) (first second : List Turn) → TurnsFrom low first → TurnsFrom low second → TurnsFrom low (first ++ second)
turns-both low [] second one other = other
turns-both low (turn ∷ first) second one other = (one.0, turns-both low first second one.1 other)

turns-parts : (low : ℤ) (first second : List Turn) → TurnsFrom low (first ++ second) → TurnsFrom low first × TurnsFrom low second
turns-parts low [] second both = (tt, both)
turns-parts low (turn ∷ first) second both = let rest = turns-parts low first second both.1 in ((both.0, rest.0), rest.1)

-- The first due of a table -------------------------------------------------------------------------------------------------------

abbrev FirstFrom : ℤ → Option (Moment × ℕ) → Type 0
FirstFrom low None = Unit {0}
FirstFrom low (Some turn) = low ≤ℤ turn.0.0

earlier-from : (low : ℤ) (a b : Option (Moment × ℕ)) → FirstFrom low a → FirstFrom low b → FirstFrom low (table.earlier a b)
earlier-from low None b here there = there
earlier-from low (Some a) None here there = here
earlier-from low (Some a) (Some b) here there = elim (table.is_before b a) as (λ before. FirstFrom low (cond before (Some b) (Some a))) [ true ↦ there | false ↦ here ]

earlier-parts : (low : ℤ) (a b : Option (Moment × ℕ)) → FirstFrom low (table.earlier a b) → FirstFrom low a × FirstFrom low b
earlier-parts low None b both = (tt, both)
earlier-parts low (Some a) None both = (both, tt)
earlier-parts low (Some a) (Some b) both = by_before (table.is_before b a) refl both
  where
    by_before : (before : Bool) → table.is_before b a ≡ before → FirstFrom low (cond before (Some b) (Some a)) → FirstFrom low (Some a) × FirstFrom low (Some b)
    by_before true is from = (le-trans low b.0.0 a.0.0 from (before-first b.0.0 a.0.0 (nat_lt b.1 a.1) is), from)
    by_before false is from = (from, le-trans low a.0.0 b.0.0 from (not-before b.0.0 a.0.0 (nat_lt b.1 a.1) is))

entry-first : (low : ℤ) (order : ℕ) (due : Option Moment) → IsFrom low due → FirstFrom low (option_map (λ due. (due, order)) due)
entry-first low order None from = tt
entry-first low order (Some due) from = from

first-entry : (low : ℤ) (order : ℕ) (due : Option Moment) → FirstFrom low (option_map (λ due. (due, order)) due) → IsFrom low due
first-entry low order None from = tt
first-entry low order (Some due) from = from

entries-first : (low : ℤ) (entries : List Entry) → EntriesFrom low entries → FirstFrom low (first_due entries)
unfolding first_due
entries-first low [] from = tt
entries-first low (entry ∷ entries) from = earlier-from low (turn_of entry) (first_due entries) (entry-first low entry.order entry.due from.0) (entries-first low entries from.1)

first-entries : (low : ℤ) (entries : List Entry) → FirstFrom low (first_due entries) → EntriesFrom low entries
unfolding first_due
first-entries low [] from = tt
first-entries low (entry ∷ entries) from =
    let both = earlier-parts low (turn_of entry) (first_due entries) from in
    (first-entry low entry.order entry.due both.0, first-entries low entries both.1)

-- The tables of globals ----------------------------------------------------------------------------------------------------------

abbrev pub TableFrom : ℤ → Option Table → Type 0
TableFrom low None = Unit {0}
TableFrom low (Some table) = EntriesFrom low table.entries

-- no entry of a global's table is due before this, from one global on
abbrev pub TablesFrom : ℤ → World → ℕ → List Global → Type 0
TablesFrom low world number [] = Unit {0}
TablesFrom low world number (one ∷ others) =
    (is_some one.expiry ≡ true → TableFrom low (table_behind world (named world.globals number))) × TablesFrom low world (number + 1) others

table-lower : (low a : ℤ) (table : Option Table) → low ≤ℤ a → TableFrom a table → TableFrom low table
table-lower low a None le from = tt
table-lower low a (Some table) le from = first-entries low table.entries (by_first (first_due table.entries) (entries-first a table.entries from))
  where
    by_first : (first : Option (Moment × ℕ)) → FirstFrom a first → FirstFrom low first
    by_first None from = tt
    by_first (Some turn) from = le-trans low a turn.0.0 le from

pub tables-lower : (low a : ℤ) (world : World) (number : ℕ) (globals : List Global) → low ≤ℤ a → TablesFrom a world number globals → TablesFrom low world number globals
tables-lower low a world number [] le from = tt
tables-lower low a world number (one ∷ others) le from =
    (λ expires. table-lower low a (table_behind world (named world.globals number)) le (from.0 expires), tables-lower low a world (number + 1) others le from.1)

table-turns : (low : ℤ) (number : ℕ) (one : Option Table) → TableFrom low one → TurnsFrom low (due_entries number one)
table-turns low number None from = tt
table-turns low number (Some one) from = by_first (first_due one.entries) refl (entries-first low one.entries from)
  where
    by_first : (first : Option (Moment × ℕ)) → first_due one.entries ≡ first → FirstFrom low (first_due one.entries) → TurnsFrom low (due_entries number (Some one))
    by_first None is from = rw is tt
    by_first (Some turn) is from = rw is (subst (FirstFrom low) is from, tt)

turns-table : (low : ℤ) (number : ℕ) (one : Option Table) → TurnsFrom low (due_entries number one) → TableFrom low one
turns-table low number None from = tt
turns-table low number (Some one) from = first-entries low one.entries (by_first (first_due one.entries) refl from)
  where
    by_first : (first : Option (Moment × ℕ)) → first_due one.entries ≡ first → TurnsFrom low (due_entries number (Some one)) → FirstFrom low (first_due one.entries)
    by_first None is from = rw is tt
    by_first (Some turn) is from = rw is (let here = rw is at from in here.0)

tables-turns : (low : ℤ) (world : World) (number : ℕ) (globals : List Global) → TablesFrom low world number globals → TurnsFrom low (entry_turns world number globals)
tables-turns low world number [] from = tt
tables-turns low world number (one ∷ others) from =
    turns-both low (if is_some one.expiry then due_entries number (table_behind world (named world.globals number)) else []) (entry_turns world (number + 1) others)
    (by_expiry (is_some one.expiry) from.0) (tables-turns low world (number + 1) others from.1)
  where
    by_expiry : (expires : Bool) → (expires ≡ true → TableFrom low (table_behind world (named world.globals number)))
        → TurnsFrom low (if expires then due_entries number (table_behind world (named world.globals number)) else [])
    by_expiry true from = table-turns low number (table_behind world (named world.globals number)) (from refl)
    by_expiry false from = tt

turns-tables : (low : ℤ) (world : World) (number : ℕ) (globals : List Global) → TurnsFrom low (entry_turns world number globals) → TablesFrom low world number globals
turns-tables low world number [] from = tt
turns-tables low world number (one ∷ others) from =
    let parts = turns-parts low (if is_some one.expiry then due_entries number (table_behind world (named world.globals number)) else []) (entry_turns world (number + 1) others) from in
    (by_expiry (is_some one.expiry) parts.0, turns-tables low world (number + 1) others parts.1)
  where
    by_expiry : (expires : Bool) → TurnsFrom low (if expires then due_entries number (table_behind world (named world.globals number)) else [])
        → expires ≡ true → TableFrom low (table_behind world (named world.globals number))
    by_expiry true from is = turns-table low number (table_behind world (named world.globals number)) from
    by_expiry false from is = absurd (let no : ⊥ = cc in no)

-- The turn that comes next -------------------------------------------------------------------------------------------------------

-- before this neither an event nor an entry is due
pub record Waits (program : Program) (low : ℤ) (world : World) : Type 0 where
  pub events : DueFrom low world.scheduled
  pub tables : TablesFrom low world 0 program.globals

pub waits-lower : (program : Program) (low a : ℤ) (world : World) → low ≤ℤ a → Waits program a world → Waits program low world
waits-lower program low a world le waits = record {
  events = due-lower low a world.scheduled le waits.events;
  tables = tables-lower low a world 0 program.globals le waits.tables;
}

waits-turns : (program : Program) (low : ℤ) (world : World) → Waits program low world → TurnsFrom low (entry_turns world 0 program.globals ++ event_turns world)
waits-turns program low world waits =
    turns-both low (entry_turns world 0 program.globals) (event_turns world) (tables-turns low world 0 program.globals waits.tables) (events-from low world.scheduled waits.events)

turns-wait : (program : Program) (low : ℤ) (world : World) → TurnsFrom low (entry_turns world 0 program.globals ++ event_turns world) → Waits program low world
turns-wait program low world from =
    let parts = turns-parts low (entry_turns world 0 program.globals) (event_turns world) from in
    record { events = from-events low world.scheduled parts.1; tables = turns-tables low world 0 program.globals parts.0 }

going-turns : (program : Program) (world : World) → world.is_ending ≡ false → next_turn program world ≡ first_turn (entry_turns world 0 program.globals ++ event_turns world)
going-turns program world is = rw is refl

-- nothing is due before the turn that comes next, which is due as one of them is
pub next-waits : (program : Program) (world : World) (one : Turn) → world.is_ending ≡ false → next_turn program world ≡ Some one
    → Waits program one.at.0 world × ((low : ℤ) → Waits program low world → low ≤ℤ one.at.0)
next-waits program world one going is =
    let first = is-first (entry_turns world 0 program.globals ++ event_turns world) one (sym (going-turns program world going) ∙ is) in
    (turns-wait program one.at.0 world first.least, λ low waits. first.among low (waits-turns program low world waits))

-- where no turn comes next, nothing is due
pub none-waits : (program : Program) (low : ℤ) (world : World) → world.is_ending ≡ false → next_turn program world ≡ None → Waits program low world
none-waits program low world going is =
    turns-wait program low world (first-none low (entry_turns world 0 program.globals ++ event_turns world) (sym (going-turns program world going) ∙ is))
