-- Changes of tables and of objects make no entry due before network time.
use Rattle.std.proofs.Common.{◌≡◌, ℕ, zero, suc, Bool, true, false, List, [], ◌∷◌, ◌++◌, cond, filter, find, fold, not, Option, Some, None, refl, sym, ap, subst, arith}
use Rattle.std.proofs.Math.ListN.{set}
use Rattle.std.specs.Prelude.{◌≤ℤ◌, ◌==◌, ℤ, pos, int_lt, if◌then◌else◌, slice_get, slice_set}
use Rattle.std.specs.Option.{option_map}
use Rattle.std.proofs.lemmas.Bool.Decides.{nat_tests}
use Rattle.std.proofs.lemmas.Option.{same_Some}
use Rattle.zk_base.specs.declared.numbers.EventNo.{EventNo}
use Rattle.zk_base.specs.declared.numbers.RecordNo.{RecordNo}
use Rattle.zk_base.specs.declared.time.Moment.{Moment}
use Rattle.zk_base.specs.declared.time.Span.{Span}
use Rattle.zk_tree.specs.declared.expiry.Expiry.{Expiry}
use Rattle.zk_tree.specs.Store.{Object, Store}
use Rattle.zk_tree.specs.Store as object
use Rattle.zk_tree.specs.Table.{Entry, Table, assign_at, put_off, with_entries, moment_after, assigned, due_from, entry_at, entry_numbered, expire, insert, last_moment, lasting, new_entry, remove, renew, renewed, renews, with_entry, without}
use Rattle.zk_tree.specs.Value.{Value, same_key}
use Rattle.zk_typed.specs.Primitives.{schedule}
use Rattle.zk_typed.specs.State.{World, scheduled_for, with_store}
use Rattle.zk_typed.specs.World.{queued}
use Rattle.zk_agenda.specs.Onward.{EntriesFrom, IsFrom, KeepsTable, ObjectFrom, Onward, Raises, Step}
use Rattle.zk_agenda.proofs.Ascending.{le-trans}
use Rattle.zk_agenda.proofs.Numbers.{Among, Each, KeepsNumbers, Past, Sound, each-found, insert-keeps, remove-keeps, renew-keeps, renewed-now}
use Rattle.zk_agenda.proofs.OnwardLemmas.{not_before, onward_alike, onward_both, scheduled_onward}

-- Entries --------------------------------------------------------------------------------------------------------------------

from-append : (low : ℤ) (first second : List Entry) → EntriesFrom low first → EntriesFrom low second → EntriesFrom low (first ++ second)
from-append low [] second one other = other
from-append low (entry ∷ first) second one other = (one.0, from-append low first second one.1 other)

from-filter : (low : ℤ) (test : Entry → Bool) (entries : List Entry) → EntriesFrom low entries → EntriesFrom low (filter test entries)
from-filter low test [] from = tt
from-filter low test (one ∷ others) from = by_test (test one) refl (from-filter low test others from.1)
  where
    by_test : (kept : Bool) → test one ≡ kept → EntriesFrom low (filter test others) → EntriesFrom low (filter test (one ∷ others))
    by_test true is rest = rw is (from.0, rest)
    by_test false is rest = rw is rest

from-found : (low : ℤ) (test : Entry → Bool) (entries : List Entry) (one : Entry) → find test entries ≡ Some one → EntriesFrom low entries → IsFrom low one.due
from-found low test [] one is from = absurd (let no : ⊥ = cc in no)
from-found low test (first ∷ others) one is from = by_test (test first) is (λ rest. from-found low test others one rest from.1)
  where
    by_test : (met : Bool) → cond met (Some first) (find test others) ≡ Some one → (find test others ≡ Some one → IsFrom low one.due) → IsFrom low one.due
    by_test true is rest = subst (λ (e : Entry). IsFrom low e.due) (same_Some first one is) from.0
    by_test false is rest = rest is

from-if : (low : ℤ) (test : Bool) (one other : Entry) → IsFrom low one.due → IsFrom low other.due → IsFrom low (if test then one else other).due
from-if low true one other here there = here
from-if low false one other here there = there

from-with : (low : ℤ) (one : Entry) (entries : List Entry) → IsFrom low one.due → EntriesFrom low entries → EntriesFrom low (with_entry one entries)
unfolding with_entry
from-with low one [] here from = tt
from-with low one (other ∷ others) here from = (from-if low (one.order == other.order) one other here from.0, from-with low one others here from.1)

-- Changes of a table ---------------------------------------------------------------------------------------------------------

-- a change at a moment makes no entry due before it, and keeps numbers and keys apart
pub record Delays (now : Moment) (change : Table → Table) : Type 0 where
  pub keeps : KeepsNumbers change
  pub by : (low : ℤ) → low ≤ℤ now.0 → now.0 ≤ℤ last_moment → (table : Table) → EntriesFrom low table.entries → EntriesFrom low (change table).entries

due-after : (low : ℤ) (now : Moment) → low ≤ℤ now.0 → now.0 ≤ℤ last_moment → (expiry : Option Expiry) → IsFrom low (due_from expiry now)
due-after low now le within None = tt
due-after low now le within (Some expiry) = le-trans low now.0 _ le (not_before now (lasting expiry) within)

assigned-after : (low : ℤ) (now : Moment) → low ≤ℤ now.0 → now.0 ≤ℤ last_moment → (expiry : Option Expiry) (value : Value) (entry : Entry) → IsFrom low entry.due
    → IsFrom low (assigned expiry now value entry).due
assigned-after low now le within expiry value entry from =
    from-if low (renews expiry) (renewed expiry now (record entry { value = value })) (record entry { value = value }) (due-after low now le within expiry) from

pub insert-delays : (now : Moment) (key : List Value) (value : Value) → Delays now (insert now key value)
unfolding entry_at
insert-delays now key value = record { keeps = insert-keeps now key value; by = λ low le within table from. by_entry low le within table from (entry_at key table.entries) refl }
  where
    by_entry : (low : ℤ) → low ≤ℤ now.0 → now.0 ≤ℤ last_moment → (table : Table) → EntriesFrom low table.entries → (entry : Option Entry) → entry_at key table.entries ≡ entry
        → EntriesFrom low (insert now key value table).entries
    by_entry low le within table from None is = rw is (from-append low table.entries (new_entry now key value table ∷ []) from (due-after low now le within table.expiry, tt))
    by_entry low le within table from (Some entry) is =
        rw is (from-with low (assigned table.expiry now value entry) table.entries
        (assigned-after low now le within table.expiry value entry (from-found low (λ entry. same_key key entry.key) table.entries entry is from)) from)

pub remove-delays : (now : Moment) (key : List Value) → Delays now (remove key)
unfolding without
remove-delays now key = record { keeps = remove-keeps key; by = λ low le within table from. by_entry low table from (entry_at key table.entries) refl }
  where
    by_entry : (low : ℤ) (table : Table) → EntriesFrom low table.entries → (entry : Option Entry) → entry_at key table.entries ≡ entry → EntriesFrom low (remove key table).entries
    by_entry low table from None is = rw is from
    by_entry low table from (Some entry) is = rw is (from-filter low (λ other. not (entry.order == other.order)) table.entries from)

pub renew-delays : (now : Moment) (key : List Value) → Delays now (renew now key)
renew-delays now key = record { keeps = renew-keeps now key; by = λ low le within table from. by_entry low le within table from (entry_at key table.entries) refl }
  where
    by_entry : (low : ℤ) → low ≤ℤ now.0 → now.0 ≤ℤ last_moment → (table : Table) → EntriesFrom low table.entries → (entry : Option Entry) → entry_at key table.entries ≡ entry
        → EntriesFrom low (renew now key table).entries
    by_entry low le within table from None is = rw is from
    by_entry low le within table from (Some entry) is =
        rw is (from-with low (renewed table.expiry now entry) table.entries (due-after low now le within table.expiry) from)

pub if-delays : (now : Moment) (test : Table → Bool) (change : Table → Table) → Delays now change → Delays now (λ table. if test table then change table else table)
if-delays now test change delays = record {
  keeps = record {
    sound = λ table sound. sound_if table sound (test table);
    past = λ order key table past. past_if order key table past (test table);
  };
  by = λ low le within table from. by_test low le within table from (test table);
}
  where
    sound_if : (table : Table) → Sound table → (met : Bool) → Sound (if met then change table else table)
    sound_if table sound true = delays.keeps.sound table sound
    sound_if table sound false = sound

    past_if : (order : ℕ) (key : List Value) (table : Table) → Past order key table → (met : Bool) → Past order key (if met then change table else table)
    past_if order key table past true = delays.keeps.past order key table past
    past_if order key table past false = past

    by_test : (low : ℤ) → low ≤ℤ now.0 → now.0 ≤ℤ last_moment → (table : Table) → EntriesFrom low table.entries → (met : Bool) → EntriesFrom low (if met then change table else table).entries
    by_test low le within table from true = delays.by low le within table from
    by_test low le within table from false = from

-- one change after another
pub fold-delays : {A : Type 0} (now : Moment) (step : Table → A → Table) → ((one : A) → Delays now (λ table. step table one)) → (list : List A) → Delays now (λ table. fold step table list)
fold-delays {A} now step delays list = record {
  keeps = record { sound = λ table sound. sound_along list table sound; past = λ order key table past. past_along order key list table past };
  by = λ low le within table from. along low le within list table from;
}
  where
    sound_along : (list : List A) (table : Table) → Sound table → Sound (fold step table list)
    sound_along [] table sound = sound
    sound_along (one ∷ others) table sound = sound_along others (step table one) ((delays one).keeps.sound table sound)

    past_along : (order : ℕ) (key : List Value) (list : List A) (table : Table) → Past order key table → Past order key (fold step table list)
    past_along order key [] table past = past
    past_along order key (one ∷ others) table past = past_along order key others (step table one) ((delays one).keeps.past order key table past)

    along : (low : ℤ) → low ≤ℤ now.0 → now.0 ≤ℤ last_moment → (list : List A) (table : Table) → EntriesFrom low table.entries → EntriesFrom low (fold step table list).entries
    along low le within [] table from = from
    along low le within (one ∷ others) table from = along low le within others (step table one) ((delays one).by low le within table from)

-- a table of which no entry ever is due
pub record IsUndue (table : Table) : Type 0 where
  pub sound : Sound table
  pub expiry : table.expiry ≡ None
  pub dues : (low : ℤ) → EntriesFrom low table.entries

assigned-undue : (low : ℤ) (now : Moment) (expiry : Option Expiry) (value : Value) (entry : Entry) → expiry ≡ None → IsFrom low entry.due → IsFrom low (assigned expiry now value entry).due
assigned-undue low now None value entry is from = from
assigned-undue low now (Some expiry) value entry is from = absurd (let no : ⊥ = cc in no)

none-due : (low : ℤ) (now : Moment) (expiry : Option Expiry) → expiry ≡ None → IsFrom low (due_from expiry now)
none-due low now None is = tt
none-due low now (Some expiry) is = absurd (let no : ⊥ = cc in no)

pub insert-undue : (now : Moment) (key : List Value) (value : Value) (table : Table) → IsUndue table → IsUndue (insert now key value table)
unfolding entry_at
insert-undue now key value table undue = by_entry (entry_at key table.entries) refl
  where
    by_entry : (entry : Option Entry) → entry_at key table.entries ≡ entry → IsUndue (insert now key value table)
    by_entry None is = rw is (record {
      sound = subst Sound (ap (assign_at now key value table) is) ((insert-keeps now key value).sound table undue.sound);
      expiry = undue.expiry;
      dues = λ low. from-append low table.entries (new_entry now key value table ∷ []) (undue.dues low) (none-due low now table.expiry undue.expiry, tt);
    })
    by_entry (Some entry) is = rw is (record {
      sound = subst Sound (ap (assign_at now key value table) is) ((insert-keeps now key value).sound table undue.sound);
      expiry = undue.expiry;
      dues = λ low. from-with low (assigned table.expiry now value entry) table.entries
          (assigned-undue low now table.expiry value entry undue.expiry (from-found low (λ entry. same_key key entry.key) table.entries entry is (undue.dues low))) (undue.dues low);
    })

-- an entry whose function was asked is renewed, and goes or waits
pub expired-from : (now : Moment) (order : ℕ) (key : List Value) (wait : Span) (low : ℤ) → low ≤ℤ now.0 → now.0 ≤ℤ last_moment → (table : Table) → Sound table → Past order key table
    → EntriesFrom low table.entries → EntriesFrom low (expire order wait (renew now key table)).entries
unfolding entry_numbered without
expired-from now order key wait low le within table sound past from =
    by_entry (renew now key table) ((renew-delays now key).by low le within table from) (renewed-now now order key table sound past) (entry_numbered order (renew now key table).entries) refl
  where
    by_due : (entry : Entry) → entry.since ≡ now → (due : Option Moment) → IsFrom low (option_map (λ due. moment_after entry.since wait) due)
    by_due entry same None = tt
    by_due entry same (Some due) = subst (λ (m : Moment). low ≤ℤ (moment_after m wait).0) (sym same) (le-trans low now.0 _ le (not_before now wait within))

    by_entry : (renewed : Table) → EntriesFrom low renewed.entries → Each (λ entry. entry.order ≡ order → entry.since ≡ now) renewed.entries → (entry : Option Entry)
        → entry_numbered order renewed.entries ≡ entry → EntriesFrom low (expire order wait renewed).entries
    by_entry renewed from late None is = rw is from
    by_entry renewed from late (Some entry) is =
        let found = each-found (λ entry. entry.order ≡ order → entry.since ≡ now) (λ other. order == other.order) renewed.entries entry is late in
        let same : entry.order ≡ order = grind (arith, nat_tests, found.1) in
        rw is (elim (int_lt (pos 0) wait.0) as (λ waits.
        EntriesFrom low (if waits then with_entries (with_entry (put_off wait entry) renewed.entries) renewed else with_entries (without entry.order renewed.entries) renewed).entries) [
          | true ↦ from-with low (put_off wait entry) renewed.entries (by_due entry (found.0 same) entry.due) from
          | false ↦ from-filter low (λ other. not (entry.order == other.order)) renewed.entries from
        ])

-- Objects --------------------------------------------------------------------------------------------------------------------

-- numbers and keys are apart, where it is a table
abbrev pub ObjectSound : Option Object → Type 0
ObjectSound None = Unit {0}
ObjectSound (Some (object.Table table)) = Sound table
ObjectSound (Some (object.Vector items)) = Unit {0}
ObjectSound (Some (object.Record of fields)) = Unit {0}

-- it was there before, and where it is a table an order number was given
abbrev pub ObjectPast : ℕ → List Value → Option Object → Type 0
ObjectPast order key None = ⊥
ObjectPast order key (Some (object.Table table)) = Past order key table
ObjectPast order key (Some (object.Vector items)) = Unit {0}
ObjectPast order key (Some (object.Record of fields)) = Unit {0}

-- what an object becomes at a moment
pub record Becomes (now : Moment) (before after : Option Object) : Type 0 where
  pub dues : (low : ℤ) → low ≤ℤ now.0 → now.0 ≤ℤ last_moment → ObjectFrom low before → ObjectFrom low after
  pub sound : ObjectSound before → ObjectSound after
  pub past : (order : ℕ) (key : List Value) → ObjectPast order key before → ObjectPast order key after

pub becomes-same : (now : Moment) (one : Option Object) → Becomes now one one
becomes-same now one = record { dues = λ low le within from. from; sound = λ sound. sound; past = λ order key past. past }

pub becomes-both : (now : Moment) (a b c : Option Object) → Becomes now a b → Becomes now b c → Becomes now a c
becomes-both now a b c first second = record {
  dues = λ low le within from. second.dues low le within (first.dues low le within from);
  sound = λ sound. second.sound (first.sound sound);
  past = λ order key past. second.past order key (first.past order key past);
}

-- a step, of which each object becomes what it may at the network time
pub record Moves (before after : World) : Type 0 where
  pub onward : Onward before after
  pub becomes : (number : ℕ) → Becomes before.time (slice_get before.store number) (slice_get after.store number)

pub moves-step : (before after : World) → Moves before after → Step before after
moves-step before after moves = record {
  onward = moves.onward;
  dues = record { by = λ low number le within from. (moves.becomes number).dues low le within from };
}

pub moves_both : (a b c : World) → Moves a b → Moves b c → Moves a c
moves_both a b c first second = record {
  onward = onward_both a b c first.onward second.onward;
  becomes = λ number. becomes-both a.time (slice_get a.store number) (slice_get b.store number) (slice_get c.store number) (first.becomes number)
      (subst (λ (now : Moment). Becomes now (slice_get b.store number) (slice_get c.store number)) first.onward.time (second.becomes number));
}

-- a change of other parts
pub alike : (before after : World) → after.time ≡ before.time → after.is_ending ≡ before.is_ending → after.scheduled ≡ before.scheduled → after.schedulings ≡ before.schedulings
    → after.store ≡ before.store → Moves before after
alike before after time ending scheduled schedulings same = record {
  onward = onward_alike before after time ending scheduled schedulings;
  becomes = λ number. subst (λ (store : Store). Becomes before.time (slice_get before.store number) (slice_get store number)) (sym same) (becomes-same before.time (slice_get before.store number));
}

pub scheduled_moves : (event : EventNo) (delay : Span) (args : List Value) (world : World) → Moves world (schedule event delay args world)
scheduled_moves event delay args world = record {
  onward = scheduled_onward event delay args world;
  becomes = λ number. by_ending number world.is_ending;
}
  where
    by_ending : (number : ℕ) (ending : Bool)
        → Becomes world.time (slice_get world.store number) (slice_get (if ending then world else scheduled_for (moment_after world.time delay) (queued event args) world).store number)
    by_ending number true = becomes-same world.time (slice_get world.store number)
    by_ending number false = becomes-same world.time (slice_get world.store number)

becomes-set : (now : Moment) (one : Object) (store : Store) (number place : ℕ) → Becomes now (slice_get store number) (Some one) → Becomes now (slice_get store place) (slice_get (slice_set store number one) place)
becomes-set now one [] number place here = becomes-same now None
becomes-set now one (first ∷ store) zero zero here = here
becomes-set now one (first ∷ store) zero (suc place) here = becomes-same now (slice_get store place)
becomes-set now one (first ∷ store) (suc number) zero here = becomes-same now (Some first)
becomes-set now one (first ∷ store) (suc number) (suc place) here = becomes-set now one store number place here

becomes-add : (now : Moment) (one : Object) (store : Store) (place : ℕ) → Becomes now None (Some one) → Becomes now (slice_get store place) (slice_get (store ++ one ∷ []) place)
becomes-add now one [] zero here = here
becomes-add now one [] (suc place) here = becomes-same now None
becomes-add now one (first ∷ store) zero here = becomes-same now (Some first)
becomes-add now one (first ∷ store) (suc place) here = becomes-add now one store place here

-- an object in the place of another
pub set-moves : (before : World) (number : ℕ) (one : Object) → Becomes before.time (slice_get before.store number) (Some one) → Moves before (with_store (slice_set before.store number one) before)
set-moves before number one here = record {
  onward = onward_alike before _ refl refl refl refl;
  becomes = λ place. becomes-set before.time one before.store number place here;
}

-- a new object
pub add-moves : (before : World) (one : Object) → Becomes before.time None (Some one) → Moves before (with_store (before.store ++ one ∷ []) before)
add-moves before one here = record {
  onward = onward_alike before _ refl refl refl refl;
  becomes = λ place. becomes-add before.time one before.store place here;
}

-- a table that is changed
pub becomes-changed : (now : Moment) (change : Table → Table) (table : Table) → Delays now change → Becomes now (Some (object.Table table)) (Some (object.Table (change table)))
becomes-changed now change table delays = record {
  dues = λ low le within from. delays.by low le within table from;
  sound = λ sound. delays.keeps.sound table sound;
  past = λ order key past. delays.keeps.past order key table past;
}

-- a vector in the place of any object
pub becomes-vector : (now : Moment) (one : Option Object) (items : List Value) → Becomes now one (Some (object.Vector items))
becomes-vector now one items = record { dues = λ low le within from. tt; sound = λ sound. tt; past = λ order key past. tt }

-- a new table
pub becomes-new : (now : Moment) (table : Table) → Sound table → ((low : ℤ) → low ≤ℤ now.0 → now.0 ≤ℤ last_moment → EntriesFrom low table.entries) → Becomes now None (Some (object.Table table))
becomes-new now table sound dues = record { dues = λ low le within from. dues low le within; sound = λ none. sound; past = λ order key none. absurd none }

-- a new record
pub becomes-record : (now : Moment) (of : RecordNo) (fields : List (Option Value)) → Becomes now None (Some (object.Record of fields))
becomes-record now of fields = record { dues = λ low le within from. tt; sound = λ none. tt; past = λ order key none. absurd none }

-- what an item does is such a step
becomes-kept : (now : Moment) (before after : Option Object) → KeepsTable before after → Becomes now before after
becomes-kept now None None keeps = becomes-same now None
becomes-kept now None (Some (object.Table table)) keeps = becomes-new now table (record { among = subst (Each (Among table.insertions table.entries)) (sym keeps) tt }) (λ low le within. subst (EntriesFrom low) (sym keeps) tt)
becomes-kept now None (Some (object.Vector items)) keeps = becomes-vector now None items
becomes-kept now None (Some (object.Record of fields)) keeps = becomes-record now of fields
becomes-kept now (Some (object.Table table)) after keeps = subst (Becomes now (Some (object.Table table))) (sym keeps) (becomes-same now (Some (object.Table table)))
becomes-kept now (Some (object.Vector items)) (Some (object.Vector others)) keeps = becomes-vector now _ others
becomes-kept now (Some (object.Vector items)) (Some (object.Record of fields)) keeps = record { dues = λ low le within from. tt; sound = λ none. tt; past = λ order key none. tt }
becomes-kept now (Some (object.Vector items)) (Some (object.Table table)) keeps = absurd keeps
becomes-kept now (Some (object.Vector items)) None keeps = absurd keeps
becomes-kept now (Some (object.Record of fields)) (Some (object.Vector others)) keeps = becomes-vector now _ others
becomes-kept now (Some (object.Record of fields)) (Some (object.Record kind others)) keeps = record { dues = λ low le within from. tt; sound = λ none. tt; past = λ order key none. tt }
becomes-kept now (Some (object.Record of fields)) (Some (object.Table table)) keeps = absurd keeps
becomes-kept now (Some (object.Record of fields)) None keeps = absurd keeps

pub raised-moves : (before after : World) → Raises before after → Moves before after
raised-moves before after raises = record {
  onward = raises.onward;
  becomes = λ number. becomes-kept before.time (slice_get before.store number) (slice_get after.store number) (raises.tables number);
}
