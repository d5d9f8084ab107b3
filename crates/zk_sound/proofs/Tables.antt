-- Entries of tables and sets keep their types.
use Rattle.std.proofs.Common.{◌≡◌, ℕ, cond, not, ◌==◌, Bool, true, false, List, [], ◌∷◌, map, filter, find, fold, Option, Some, None, refl}
use Rattle.std.specs.Prelude.{if◌then◌else◌, int_lt, pos}
use Rattle.std.specs.List.{AllByRecursion}
use Rattle.zk_base.specs.declared.time.Moment.{Moment}
use Rattle.zk_base.specs.declared.time.Span.{Span}
use Rattle.zk_tree.specs.declared.expiry.Expiry.{Expiry}
use Rattle.zk_tree.specs.Table.{Table, Entry, entry_at, entry_numbered, with_entry, with_entries, put_off, expire, expire_at, without, assigned, renewed, renews, assign_at, insert, remove, remove_at, renew, renew_at}
use Rattle.zk_tree.specs.Value.{Value, same_key}
use Rattle.zk_typed.specs.Objects.{found, finds_renew}
use Rattle.zk_sound.proofs.Growth.{all_append}

pub all_find : {A : Type 0} (P : A → Type 0) (test : A → Bool) (xs : List A) (one : A) → find test xs ≡ Some one → AllByRecursion P xs → P one
all_find P test [] one is h = absurd cc
all_find P test (x ∷ xs) one is (first, others) = by (test x) (λ e. all_find P test xs one e others) is
  where
    by : (passes : Bool) → (find test xs ≡ Some one → P one) → cond passes (Some x) (find test xs) ≡ Some one → P one
    by true rest e = let same : x ≡ one = cc in rw same at first
    by false rest e = rest e

pub all_filter : {A : Type 0} (P : A → Type 0) (test : A → Bool) (xs : List A) → AllByRecursion P xs → AllByRecursion P (filter test xs)
all_filter P test [] h = tt
all_filter P test (x ∷ xs) (first, others) = by (test x) (all_filter P test xs others)
  where
    by : (passes : Bool) → AllByRecursion P (filter test xs) → AllByRecursion P (cond passes (x ∷ filter test xs) (filter test xs))
    by true rest = (first, rest)
    by false rest = rest

pub all_images : {A : Type 0} (P : A → Type 0) (f : A → A) → ((a : A) → P a → P (f a)) → (xs : List A) → AllByRecursion P xs → AllByRecursion P (map f xs)
all_images P f each [] h = tt
all_images P f each (x ∷ xs) (first, others) = (each x first, all_images P f each xs others)

pub fold_keeps : {A B : Type 0} (P : B → Type 0) (Q : A → Type 0) (f : B → A → B) → ((b : B) (a : A) → P b → Q a → P (f b a)) → (xs : List A) (b : B) → P b → AllByRecursion Q xs → P (fold f b xs)
fold_keeps P Q f each [] b h all = h
fold_keeps P Q f each (x ∷ xs) b h (first, others) = fold_keeps P Q f each xs (f b x) (each b x h first) others

-- The entries of a table or set fit by their keys and values. Keys that fit do beside any value that does.
module _ (Fit : List Value → Value → Type 0) (mix : (k l : List Value) (v w : Value) → Fit k v → Fit l w → Fit k w) where
  abbrev pub EntryOf : Entry → Type 0
  EntryOf entry = Fit entry.key entry.value

  abbrev pub TableOf : Table → Type 0
  TableOf table = AllByRecursion EntryOf table.entries

  with_entry_fits : (one : Entry) (entries : List Entry) → EntryOf one → AllByRecursion EntryOf entries → AllByRecursion EntryOf (with_entry one entries)
  unfolding with_entry
  with_entry_fits one entries fit all = all_images EntryOf (λ other. if one.order == other.order then one else other) (λ other h. by (one.order == other.order) other h) entries all
    where
      by : (same : Bool) (other : Entry) → EntryOf other → EntryOf (if same then one else other)
      by true other h = fit
      by false other h = h

  without_fits : (order : ℕ) (entries : List Entry) → AllByRecursion EntryOf entries → AllByRecursion EntryOf (without order entries)
  unfolding without
  without_fits order entries all = all_filter EntryOf (λ entry. not (order == entry.order)) entries all

  entry_fits : (key : List Value) (entries : List Entry) (one : Entry) → entry_at key entries ≡ Some one → AllByRecursion EntryOf entries → EntryOf one
  unfolding entry_at
  entry_fits key entries one is all = all_find EntryOf (λ entry. same_key key entry.key) entries one is all

  assigned_fits : (expiry : Option Expiry) (now : Moment) (one : Value) (entry : Entry) → Fit entry.key one → EntryOf (assigned expiry now one entry)
  assigned_fits expiry now one entry fit = by (renews expiry)
    where
      by : (again : Bool) → EntryOf (if again then renewed expiry now (record entry { value = one }) else record entry { value = one })
      by true = fit
      by false = fit

  pub insert_fits : (now : Moment) (key : List Value) (one : Value) (table : Table) → Fit key one → TableOf table → TableOf (insert now key one table)
  insert_fits now key one table fit all = by (entry_at key table.entries) refl
    where
      by : (there : Option Entry) → entry_at key table.entries ≡ there → TableOf (assign_at now key one table there)
      by (Some entry) is = with_entry_fits (assigned table.expiry now one entry) table.entries
          (assigned_fits table.expiry now one entry (mix entry.key key entry.value one (entry_fits key table.entries entry is all) fit)) all
      by None is = all_append EntryOf table.entries _ all (fit, tt)

  pub remove_fits : (key : List Value) (table : Table) → TableOf table → TableOf (remove key table)
  remove_fits key table all = by (entry_at key table.entries)
    where
      by : (there : Option Entry) → TableOf (remove_at table there)
      by (Some entry) = without_fits entry.order table.entries all
      by None = all

  pub renew_fits : (now : Moment) (key : List Value) (table : Table) → TableOf table → TableOf (renew now key table)
  renew_fits now key table all = by (entry_at key table.entries) refl
    where
      by : (there : Option Entry) → entry_at key table.entries ≡ there → TableOf (renew_at now table there)
      by (Some entry) is = with_entry_fits (renewed table.expiry now entry) table.entries (entry_fits key table.entries entry is all) all
      by None is = all

  pub found_fits : (now : Moment) (key : List Value) (table : Table) → TableOf table → TableOf (found now key table)
  found_fits now key table all = by (finds_renew table.expiry)
    where
      by : (again : Bool) → TableOf (if again then renew now key table else table)
      by true = renew_fits now key table all
      by false = all

  pub there_fits : (key : List Value) (table : Table) (one : Entry) → entry_at key table.entries ≡ Some one → TableOf table → EntryOf one
  there_fits key table one is all = entry_fits key table.entries one is all

  pub numbered_fits : (order : ℕ) (table : Table) (one : Entry) → entry_numbered order table.entries ≡ Some one → TableOf table → EntryOf one
  unfolding entry_numbered
  numbered_fits order table one is all = all_find EntryOf (λ entry. order == entry.order) table.entries one is all

  pub expire_fits : (order : ℕ) (wait : Span) (table : Table) → TableOf table → TableOf (expire order wait table)
  expire_fits order wait table all = by (entry_numbered order table.entries) refl
    where
      later : (longer : Bool) (entry : Entry) → EntryOf entry → TableOf (if longer then with_entries (with_entry (put_off wait entry) table.entries) table else with_entries (without entry.order table.entries) table)
      later true entry fit = with_entry_fits (put_off wait entry) table.entries fit all
      later false entry fit = without_fits entry.order table.entries all

      by : (there : Option Entry) → entry_numbered order table.entries ≡ there → TableOf (expire_at wait table there)
      by (Some entry) is = later (int_lt (pos 0) wait.0) entry (numbered_fits order table entry is all)
      by None is = all
