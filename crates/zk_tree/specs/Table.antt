-- Tables and sets: their entries, and what each call does with them (Zeek manual, Types, table, and Attributes,
-- &create_expire, &read_expire and &write_expire).
use Rattle.std.specs.Prelude.{ℕ, ◌+◌, ◌-◌, ◌^◌, ℤ, pos, ◌+ℤ◌, int_lt, int_le, nat_lt, Bool, true, false, not, ◌&&◌, ◌||◌, ◌==◌, if◌then◌else◌, List, [], ◌∷◌, ◌++◌, map, filter, find, Option, Some, None}
use Rattle.std.specs.Int.{int_min, int_max}
use Rattle.std.specs.Option.{option_map}
use Rattle.zk_base.specs.declared.time.Moment.{Moment}
use Rattle.zk_base.specs.declared.time.Span.{Span}
use Rattle.zk_tree.specs.declared.expiry.Expiry.{Expiry}
use Rattle.zk_tree.specs.declared.expiry.Expiry.TheVariants.{Create, Read, Write}
use Rattle.zk_tree.specs.Value.{Value, same_key}

-- an entry of a table, and of a set, where the value is `T`
pub record Entry : Type 0 where
  -- its number among the insertions into the table, from 0
  pub order : ℕ
  pub key : List Value
  pub value : Value
  -- when it was inserted, or renewed last
  pub since : Moment
  -- when it expires, where the entries of its table do
  pub due : Option Moment

-- a table or a set: when its entries expire, how many insertions there were, and the entries that are there, in the
-- order of insertion
pub record Table : Type 0 where
  pub expiry : Option Expiry
  pub insertions : ℕ
  pub entries : List Entry

-- Entries ----------------------------------------------------------------------------------------------------------

-- the entry of a key
unfoldable pub entry_at : List Value → List Entry → Option Entry
entry_at key entries = find (λ entry. same_key key entry.key) entries

-- the entry of an order number
unfoldable pub entry_numbered : ℕ → List Entry → Option Entry
entry_numbered order entries = find (λ entry. order == entry.order) entries

-- the entries with this one in the place of the one that has its order number
unfoldable pub with_entry : Entry → List Entry → List Entry
with_entry entry entries = map (λ other. if entry.order == other.order then entry else other) entries

-- the entries but the one of this order number
unfoldable pub without : ℕ → List Entry → List Entry
without order entries = filter (λ entry. not (order == entry.order)) entries

-- the table with these entries
abbrev pub with_entries : List Entry → Table → Table
with_entries entries table = record table { entries = entries }

-- Expiry -----------------------------------------------------------------------------------------------------------

-- the last moment that there is
abbrev pub last_moment : ℤ
last_moment = pos (2 ^ 63 - 1)

-- a moment so long after another, or the last one; a length below 0 counts as 0
unfoldable pub moment_after : Moment → Span → Moment
moment_after since span = record { 0 = int_min (since.0 +ℤ int_max span.0 (pos 0)) last_moment }

-- how long entries last
abbrev pub lasting : Expiry → Span
lasting (Create span) = span
lasting (Read span) = span
lasting (Write span) = span

-- when an entry expires that was inserted or renewed last at this moment
abbrev pub due_from : Option Expiry → Moment → Option Moment
due_from None since = None
due_from (Some expiry) since = Some (moment_after since (lasting expiry))

-- an assignment at a key that is there renews its entry
abbrev pub renews : Option Expiry → Bool
renews None = false
renews (Some (Create span)) = false
renews (Some (Read span)) = true
renews (Some (Write span)) = true

abbrev pub renewed : Option Expiry → Moment → Entry → Entry
renewed expiry now entry = record entry { since = now; due = due_from expiry now }

-- an entry of a value that is assigned now
abbrev pub assigned : Option Expiry → Moment → Value → Entry → Entry
assigned expiry now value entry =
    let changed = record entry { value = value } in
    if renews expiry then renewed expiry now changed else changed

-- an entry that is due so long after its moment
abbrev pub put_off : Span → Entry → Entry
put_off wait entry = record entry { due = option_map (λ due. moment_after entry.since wait) entry.due }

-- Calls ------------------------------------------------------------------------------------------------------------

-- an entry that is inserted now
abbrev pub new_entry : Moment → List Value → Value → Table → Entry
new_entry now key value table = record {
  order = table.insertions;
  key = key;
  value = value;
  since = now;
  due = due_from table.expiry now;
}

-- An assignment at a key: an entry that is there keeps its place and its order number, and a new one stands last.
abbrev pub assign_at : Moment → List Value → Value → Table → Option Entry → Table
assign_at now key value table (Some entry) = with_entries (with_entry (assigned table.expiry now value entry) table.entries) table
assign_at now key value table None = record table {
  insertions = table.insertions + 1;
  entries = table.entries ++ new_entry now key value table ∷ [];
}

abbrev pub insert : Moment → List Value → Value → Table → Table
insert now key value table = assign_at now key value table (entry_at key table.entries)

abbrev pub remove_at : Table → Option Entry → Table
remove_at table None = table
remove_at table (Some entry) = with_entries (without entry.order table.entries) table

-- the removal of a key
abbrev pub remove : List Value → Table → Table
remove key table = remove_at table (entry_at key table.entries)

abbrev pub renew_at : Moment → Table → Option Entry → Table
renew_at now table None = table
renew_at now table (Some entry) = with_entries (with_entry (renewed table.expiry now entry) table.entries) table

-- the renewal of a key's entry
abbrev pub renew : Moment → List Value → Table → Table
renew now key table = renew_at now table (entry_at key table.entries)

abbrev pub expire_at : Span → Table → Option Entry → Table
expire_at wait table None = table
expire_at wait table (Some entry) =
    if int_lt (pos 0) wait.0
    then with_entries (with_entry (put_off wait entry) table.entries) table
    else with_entries (without entry.order table.entries) table

-- the end of an entry, or a longer wait for it
abbrev pub expire : ℕ → Span → Table → Table
expire order wait table = expire_at wait table (entry_numbered order table.entries)

-- Dues -------------------------------------------------------------------------------------------------------------

-- when an entry is due, and its order number
abbrev pub turn_of : Entry → Option (Moment × ℕ)
turn_of entry = option_map (λ due. (due, entry.order)) entry.due

-- a turn comes before another: it is earlier, or as early with a lower order number
abbrev pub is_before : Moment × ℕ → Moment × ℕ → Bool
is_before a b = int_lt a.0.0 b.0.0 || (int_le a.0.0 b.0.0 && nat_lt a.1 b.1)

-- the one of two turns that comes first
abbrev pub earlier : Option (Moment × ℕ) → Option (Moment × ℕ) → Option (Moment × ℕ)
earlier None b = b
earlier (Some a) None = Some a
earlier (Some a) (Some b) = if is_before b a then Some b else Some a

-- the first turn of a table's entries
unfoldable pub first_due : List Entry → Option (Moment × ℕ)
first_due [] = None
first_due (entry ∷ entries) = earlier (turn_of entry) (first_due entries)
