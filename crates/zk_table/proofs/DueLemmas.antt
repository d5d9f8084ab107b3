-- When the tables of a heap are due, and the heap's index where one of them changed.
use Rattle.std.proofs.Common.{◌≡◌, ◌==◌, ℕ, zero, suc, ◌<◌, ◌≤◌, Bool, true, false, cond, not, List, [], ◌∷◌, ◌++◌, length, get_or, Option, Some, None, is_some, Result, Ok, Err, OnOk, OnErr, refl, sym, ap, subst, ◌∙◌, arith, ⊎_elim}
use Rattle.std.specs.Global.{Vec}
use Rattle.std.specs.Prelude.{IfNone, is_none, find, int_lt, pos, slice_set, unwrap_or}
use Rattle.std.specs.Option.{option_map, option_and_then}
use Rattle.std.specs.Vec.{with_items}
use Rattle.std.proofs.lemmas.List.{with_items_is}
use Rattle.std.proofs.lemmas.Bool.{cases_eq}
use Rattle.std.proofs.lemmas.Option.{slice_get_past}
use Rattle.zk_base.specs.declared.memory.Mem.{Mem}
use Rattle.zk_base.specs.declared.time.Moment.{Moment}
use Rattle.zk_base.specs.declared.time.Span.{Span}
use Rattle.zk_tree.specs.declared.expiry.Expiry.{Expiry}
use Rattle.zk_tree.specs.Store as object
use Rattle.zk_tree.specs.Store.{Object, Store}
use Rattle.zk_tree.specs.Table as plain
use Rattle.zk_tree.specs.Table.{Entry, Table, earlier, entry_at, entry_numbered, first_due, is_before, turn_of, with_entry, with_entries, without}
use Rattle.zk_tree.specs.Value.{Value, same_key}
use Rattle.zk_value.specs.Objects.{with_field, with_item, with_item_behind}
use Rattle.zk_table.specs.Dues.{Held, IsFirst, IsIndexed, NeverDue, NoneIsDue, NoneIsFirst, StaysWatchedBut, due_at, due_of, is_watched, table_at, table_of, watched_due}
use Rattle.zk_table.specs.Heap.{changed, in_table}
use Rattle.zk_table.specs.Index.{AllBut, IsTree}
use Rattle.zk_table.proofs.IndexLemmas.{top-least, top-turn}
use Rattle.zk_table.proofs.TurnLemmas.{tree-changed, tree-same}

-- Tables whose entries don't expire ------------------------------------------------------------------------------

no_due : (entry : Entry) → entry.due ≡ None → turn_of entry ≡ None
no_due entry none = ap (option_map (λ (due : Moment). let t : Moment × ℕ = (due, entry.order) in t)) none

-- where no entry has a due there is no first one
pub none-first : (entries : List Entry) → NoneIsDue entries → first_due entries ≡ None
unfolding first_due
none-first [] none = refl
none-first (entry ∷ entries) none = ap (λ o. earlier o (first_due entries)) (no_due entry none.0) ∙ none-first entries none.1

-- and where there is no first one, none has
pub first-none : (entries : List Entry) → first_due entries ≡ None → NoneIsDue entries
unfolding first_due
first-none [] first = tt
first-none (entry ∷ entries) first = by entry.due refl (λ none. first-none entries none)
  where
    kept : (a b : Moment × ℕ) (t : Bool) → cond t (Some b) (Some a) ≡ None → ⊥
    kept a b true is = cc
    kept a b false is = cc

    both : (a : Moment × ℕ) (o : Option (Moment × ℕ)) → earlier (Some a) o ≡ None → ⊥
    both a None is = cc
    both a (Some b) is = kept a b (is_before b a) is

    by : (due : Option Moment) → entry.due ≡ due → (first_due entries ≡ None → NoneIsDue entries) → NoneIsDue (entry ∷ entries)
    by None e others = (e, others (sym (ap (λ o. earlier o (first_due entries)) (no_due entry e)) ∙ first))
    by (Some due) e others = absurd (both (due, entry.order) (first_due entries)
        (sym (ap (λ o. earlier (option_map (λ (due : Moment). let t : Moment × ℕ = (due, entry.order) in t) o) (first_due entries)) e) ∙ first))

none-found : (test : Entry → Bool) (entries : List Entry) (entry : Entry) → NoneIsDue entries → find test entries ≡ Some entry → entry.due ≡ None
none-found test [] entry none is = cc
none-found test (one ∷ entries) entry none is = by (test one) is (λ later. none-found test entries entry none.1 later)
  where
    same : (a b : Entry) → Some a ≡ Some b → a ≡ b
    same a b e = cc

    by : (t : Bool) → cond t (Some one) (find test entries) ≡ Some entry → (find test entries ≡ Some entry → entry.due ≡ None) → entry.due ≡ None
    by true e others = subst (λ (x : Entry). x.due ≡ None) (same one entry e) none.0
    by false e others = others e

none-at : (key : List Value) (entries : List Entry) (entry : Entry) → NoneIsDue entries → entry_at key entries ≡ Some entry → entry.due ≡ None
unfolding entry_at
none-at key entries entry none is = none-found (λ (entry : Entry). same_key key entry.key) entries entry none is

none-numbered : (order : ℕ) (entries : List Entry) (entry : Entry) → NoneIsDue entries → entry_numbered order entries ≡ Some entry → entry.due ≡ None
unfolding entry_numbered
none-numbered order entries entry none is = none-found (λ (entry : Entry). order == entry.order) entries entry none is

none-with_entry : (entry : Entry) (entries : List Entry) → entry.due ≡ None → NoneIsDue entries → NoneIsDue (with_entry entry entries)
unfolding with_entry
none-with_entry entry [] is none = tt
none-with_entry entry (one ∷ entries) is none = (by (entry.order == one.order), none-with_entry entry entries is none.1)
  where
    by : (t : Bool) → (cond t entry one).due ≡ None
    by true = is
    by false = none.0

none-without : (order : ℕ) (entries : List Entry) → NoneIsDue entries → NoneIsDue (without order entries)
unfolding without
none-without order [] none = tt
none-without order (one ∷ entries) none = by (not (order == one.order)) (none-without order entries none.1)
  where
    by : (t : Bool) → NoneIsDue (without order entries) → NoneIsDue (cond t (one ∷ without order entries) (without order entries))
    by true rest = (none.0, rest)
    by false rest = rest

none-behind : (entries : List Entry) (entry : Entry) → NoneIsDue entries → entry.due ≡ None → NoneIsDue (entries ++ entry ∷ [])
none-behind [] entry none is = (is, tt)
none-behind (one ∷ entries) entry none is = (none.0, none-behind entries entry none.1 is)

-- what each call leaves of such a table is one
no_expiry : (expiry : Option Expiry) (since : Moment) → expiry ≡ None → plain.due_from expiry since ≡ None
no_expiry expiry since none = ap (λ e. plain.due_from e since) none

pub never-insert : (now : Moment) (key : List Value) (value : Value) (table : Table) → NeverDue table → NeverDue (plain.insert now key value table)
never-insert now key value table never = by (entry_at key table.entries) refl
  where
    kept : (entry : Entry) → entry.due ≡ None → (renews : Bool) → (cond renews (plain.renewed table.expiry now (record entry { value = value })) (record entry { value = value })).due ≡ None
    kept entry due true = no_expiry table.expiry now never.expiry
    kept entry due false = due

    by : (o : Option Entry) → entry_at key table.entries ≡ o → NeverDue (plain.assign_at now key value table o)
    by None is = record {
      expiry = never.expiry;
      entries = none-behind table.entries (plain.new_entry now key value table) never.entries (no_expiry table.expiry now never.expiry);
    }
    by (Some entry) is = record {
      expiry = never.expiry;
      entries = none-with_entry (plain.assigned table.expiry now value entry) table.entries (kept entry (none-at key table.entries entry never.entries is) (plain.renews table.expiry)) never.entries;
    }

pub never-remove : (key : List Value) (table : Table) → NeverDue table → NeverDue (plain.remove key table)
never-remove key table never = by (entry_at key table.entries)
  where
    by : (o : Option Entry) → NeverDue (plain.remove_at table o)
    by None = never
    by (Some entry) = record { expiry = never.expiry; entries = none-without entry.order table.entries never.entries }

pub never-renew : (now : Moment) (key : List Value) (table : Table) → NeverDue table → NeverDue (plain.renew now key table)
never-renew now key table never = by (entry_at key table.entries)
  where
    by : (o : Option Entry) → NeverDue (plain.renew_at now table o)
    by None = never
    by (Some entry) = record {
      expiry = never.expiry;
      entries = none-with_entry (plain.renewed table.expiry now entry) table.entries (no_expiry table.expiry now never.expiry) never.entries;
    }

pub never-expire : (order : ℕ) (wait : Span) (table : Table) → NeverDue table → NeverDue (plain.expire order wait table)
never-expire order wait table never = by (entry_numbered order table.entries) refl
  where
    later : (entry : Entry) → entry.due ≡ None → NeverDue (with_entries (with_entry (plain.put_off wait entry) table.entries) table)
    later entry due = record {
      expiry = never.expiry;
      entries = none-with_entry (plain.put_off wait entry) table.entries (ap (option_map (λ (due : Moment). plain.moment_after entry.since wait)) due) never.entries;
    }

    gone : (entry : Entry) → NeverDue (with_entries (without entry.order table.entries) table)
    gone entry = record { expiry = never.expiry; entries = none-without entry.order table.entries never.entries }

    waits : (entry : Entry) → entry.due ≡ None → (t : Bool)
        → NeverDue (cond t (with_entries (with_entry (plain.put_off wait entry) table.entries) table) (with_entries (without entry.order table.entries) table))
    waits entry due true = later entry due
    waits entry due false = gone entry

    by : (o : Option Entry) → entry_numbered order table.entries ≡ o → NeverDue (plain.expire_at wait table o)
    by None is = never
    by (Some entry) is = waits entry (none-numbered order table.entries entry never.entries is) (int_lt (pos 0) wait.0)

-- Objects that change ---------------------------------------------------------------------------------------------

-- another object is as it was
at-other : (change : Object → Object) (number other : ℕ) (objects : Store) → (other ≡ number → ⊥) → table_at (changed change number objects) other ≡ table_at objects other
at-other change number other [] apart = refl
at-other change zero zero (one ∷ objects) apart = absurd (apart refl)
at-other change zero (suc other) (one ∷ objects) apart = refl
at-other change (suc number) zero (one ∷ objects) apart = refl
at-other change (suc number) (suc other) (one ∷ objects) apart = at-other change number other objects (λ e. apart (ap suc e))

in_table-of : (change : Table → Table) (one : Object) → table_of (in_table change one) ≡ option_map change (table_of one)
in_table-of change (object.Table table) = refl
in_table-of change (object.Record of fields) = refl
in_table-of change (object.Vector items) = refl

-- a table of that number is changed
at-same : (change : Table → Table) (number : ℕ) (objects : Store) → table_at (changed (in_table change) number objects) number ≡ option_map change (table_at objects number)
at-same change number [] = refl
at-same change zero (one ∷ objects) = in_table-of change one
at-same change (suc number) (one ∷ objects) = at-same change number objects

-- a change that no table shows
at-kept : (change : Object → Object) (number other : ℕ) (objects : Store) → ((one : Object) → table_of (change one) ≡ table_of one)
    → table_at (changed change number objects) other ≡ table_at objects other
at-kept change number other [] keeps = refl
at-kept change zero zero (one ∷ objects) keeps = keeps one
at-kept change zero (suc other) (one ∷ objects) keeps = refl
at-kept change (suc number) zero (one ∷ objects) keeps = refl
at-kept change (suc number) (suc other) (one ∷ objects) keeps = at-kept change number other objects keeps

-- an object more
at-before : (objects : Store) (one : Object) (other : ℕ) → (other ≡ length objects → ⊥) → table_at (objects ++ one ∷ []) other ≡ table_at objects other
at-before [] one zero apart = absurd (apart refl)
at-before [] one (suc other) apart = refl
at-before (first ∷ objects) one zero apart = refl
at-before (first ∷ objects) one (suc other) apart = at-before objects one other (λ e. apart (ap suc e))

at-new : (objects : Store) (one : Object) → table_at (objects ++ one ∷ []) (length objects) ≡ table_of one
at-new [] one = refl
at-new (first ∷ objects) one = at-new objects one

at-end : (objects : Store) → table_at objects (length objects) ≡ None
at-end [] = refl
at-end (first ∷ objects) = at-end objects

-- What is watched ---------------------------------------------------------------------------------------------------

-- the marks are the same behind one more of no unwatched table
pub watched-longer : (unwatched : List Bool) (number : ℕ) → is_watched (unwatched ++ false ∷ []) number ≡ is_watched unwatched number
watched-longer [] zero = refl
watched-longer [] (suc number) = refl
watched-longer (one ∷ unwatched) zero = refl
watched-longer (one ∷ unwatched) (suc number) = watched-longer unwatched number

-- a mark that is set leaves the others as they are
pub watched-other : (unwatched : List Bool) (number other : ℕ) (mark : Bool) → (other ≡ number → ⊥) → is_watched (slice_set unwatched number mark) other ≡ is_watched unwatched other
watched-other [] number other mark apart = refl
watched-other (one ∷ unwatched) zero zero mark apart = absurd (apart refl)
watched-other (one ∷ unwatched) zero (suc other) mark apart = refl
watched-other (one ∷ unwatched) (suc number) zero mark apart = refl
watched-other (one ∷ unwatched) (suc number) (suc other) mark apart = watched-other unwatched number other mark (λ e. apart (ap suc e))

-- and without one the table is watched
pub watched-same : (unwatched : List Bool) (number : ℕ) → is_watched (slice_set unwatched number false) number ≡ true
watched-same [] number = refl
watched-same (one ∷ unwatched) zero = refl
watched-same (one ∷ unwatched) (suc number) = watched-same unwatched number

-- one that is set says of its number what it is
pub watched-set : (unwatched : List Bool) (number : ℕ) (mark : Bool) → number < length unwatched → is_watched (slice_set unwatched number mark) number ≡ not mark
watched-set [] number mark within = absurd (no_less within)
  where
    no_less : {n : ℕ} → n < 0 → ⊥
    no_less lt = omega (arith, lt)
watched-set (one ∷ unwatched) zero mark within = refl
watched-set (one ∷ unwatched) (suc number) mark within = watched-set unwatched number mark (omega (arith, within))

-- past the last mark all are watched
pub watched-past : (unwatched : List Bool) (number : ℕ) → length unwatched ≤ number → is_watched unwatched number ≡ true
watched-past unwatched number past = ap (λ o. not (unwrap_or o false)) (slice_get_past unwatched number past)

-- all that was watched but one is so still
pub stays-but : (but : ℕ) (old new : List Bool) → ((other : ℕ) → (other ≡ but → ⊥) → is_watched new other ≡ is_watched old other) → StaysWatchedBut but old new
stays-but but old new same = λ number apart is. same number apart ∙ is

-- one that is watched has its own due
due-watched : (unwatched : List Bool) (objects : Store) (number : ℕ) → is_watched unwatched number ≡ true → watched_due unwatched objects number ≡ due_at objects number
due-watched unwatched objects number is = ap (λ watched. cond watched (due_at objects number) None) is

-- and what is due of those that are watched is due and watched
due-any : (unwatched : List Bool) (objects : Store) (number : ℕ) (turn : Moment × ℕ) → watched_due unwatched objects number ≡ Some turn → due_at objects number ≡ Some turn
due-any unwatched objects number turn is = by (is_watched unwatched number) is
  where
    by : (watched : Bool) → cond watched (due_at objects number) None ≡ Some turn → due_at objects number ≡ Some turn
    by true e = e
    by false e = cc

watched-any : (unwatched : List Bool) (objects : Store) (number : ℕ) (turn : Moment × ℕ) → watched_due unwatched objects number ≡ Some turn → is_watched unwatched number ≡ true
watched-any unwatched objects number turn is = by (is_watched unwatched number) is
  where
    by : (watched : Bool) → cond watched (due_at objects number) None ≡ Some turn → watched ≡ true
    by true e = refl
    by false e = cc

-- where the tables and the marks are the same
due-same : (was now : List Bool) (objects others : Store) (number : ℕ) → is_watched now number ≡ is_watched was number → table_at others number ≡ table_at objects number
    → watched_due now others number ≡ watched_due was objects number
due-same was now objects others number marks tables =
    ap (λ watched. cond watched (due_at others number) None) marks
    ∙ ap (λ o. cond (is_watched was number) (option_and_then (due_of number) o) None) tables

-- The index -------------------------------------------------------------------------------------------------------

-- of no objects
pub indexed-none : IsIndexed [] [] []
indexed-none = record {
  tree = record { nodes = λ place within. absurd (no_less place within); beyond = λ place past. refl };
  beyond = λ number table past is. absurd (none_some refl is);
}
  where
    no_less : (n : ℕ) → n < 0 → ⊥
    no_less n lt = omega (arith, lt)

    none_some : {table : Table} {o : Option Table} → o ≡ None → o ≡ Some table → ⊥
    none_some none some = cc

-- where the tables and the marks are the same
pub indexed-same : (was now : List Bool) (objects others : Store) (firsts : List (Option (Moment × ℕ))) → ((number : ℕ) → is_watched now number ≡ is_watched was number)
    → ((number : ℕ) → table_at others number ≡ table_at objects number) → IsIndexed objects was firsts → IsIndexed others now firsts
indexed-same was now objects others firsts marks same indexed = record {
  tree = tree-same (watched_due was objects) (watched_due now others) firsts (λ number. due-same was now objects others number (marks number) (same number)) indexed.tree;
  beyond = λ number table past is. indexed.beyond number table past (sym (same number) ∙ is);
}

-- an object that is no table more
pub indexed-more : (unwatched : List Bool) (objects : Store) (one : Object) (firsts : List (Option (Moment × ℕ))) → table_of one ≡ None → IsIndexed objects unwatched firsts
    → IsIndexed (objects ++ one ∷ []) unwatched firsts
indexed-more unwatched objects one firsts none = indexed-same unwatched unwatched objects (objects ++ one ∷ []) firsts (λ number. refl) (λ number. ⊎_elim
    (λ here. subst (λ n. table_at (objects ++ one ∷ []) n ≡ table_at objects n) (sym here) (at-new objects one ∙ none ∙ sym (at-end objects)))
    (λ apart. at-before objects one number apart)
    (cases_eq number (length objects)))

-- a longer index, and marks that are longer
pub indexed-longer : (was now : List Bool) (objects : Store) (firsts longer : List (Option (Moment × ℕ))) → ((number : ℕ) → is_watched now number ≡ is_watched was number)
    → ((turns : ℕ → Option (Moment × ℕ)) → IsTree turns firsts → IsTree turns longer) → length firsts ≤ length longer → IsIndexed objects was firsts → IsIndexed objects now longer
indexed-longer was now objects firsts longer marks tree long indexed = record {
  tree = tree (watched_due now objects) (tree-same (watched_due was objects) (watched_due now objects) firsts (λ number. due-same was now objects objects number (marks number) refl) indexed.tree);
  beyond = λ number table past. indexed.beyond number table (omega (arith, long, past));
}

-- one table that is changed, is new, or is watched from now on
never-due : (number : ℕ) (o : Option Table) → ((table : Table) → o ≡ Some table → NeverDue table) → option_and_then (due_of number) o ≡ None
never-due number None never = refl
never-due number (Some table) never = ap (option_map (λ (turn : Moment × ℕ). let t : Moment × ℕ = (turn.0, number) in t)) (none-first table.entries (never table refl).entries)

no-turn : (watched : Bool) (o : Option (Moment × ℕ)) → o ≡ None → cond watched o None ≡ None
no-turn true o none = none
no-turn false o none = refl

module _ (was now : List Bool) (objects others : Store) (firsts : List (Option (Moment × ℕ))) (number : ℕ)
    (marks : (other : ℕ) → (other ≡ number → ⊥) → is_watched now other ≡ is_watched was other)
    (apart : (other : ℕ) → (other ≡ number → ⊥) → table_at others other ≡ table_at objects other)
    (never : (table : Table) → length firsts ≤ number → table_at others number ≡ Some table → NeverDue table) (indexed : IsIndexed objects was firsts) where
  pub all_but : AllBut (watched_due now others) firsts number
  all_but = tree-changed (watched_due was objects) (watched_due now others) firsts number (λ other differs. due-same was now objects others other (marks other differs) (apart other differs))
      (λ past. no-turn (is_watched now number) (due_at others number) (never-due number (table_at others number) (λ table is. never table past is))) indexed.tree

  pub indexed-one : (news : List (Option (Moment × ℕ))) → length news ≡ length firsts → IsTree (watched_due now others) news → IsIndexed others now news
  indexed-one news long tree = record {
    tree = tree;
    beyond = λ other table past is. ⊎_elim
        (λ here. never table (let p : length firsts ≤ number = omega (arith, past, here, long) in p) (subst (λ n. table_at others n ≡ Some table) here is))
        (λ differs. indexed.beyond other table (omega (arith, past, long)) (sym (apart other differs) ∙ is))
        (cases_eq other number);
  }

-- a change of a table that leaves one whose entries don't expire such a one
pub indexed-changed : (change : Table → Table) (unwatched : List Bool) (objects : Store) (firsts news : List (Option (Moment × ℕ))) (number : ℕ)
    → ((table : Table) → NeverDue table → NeverDue (change table)) → length news ≡ length firsts
    → (AllBut (watched_due unwatched (changed (in_table change) number objects)) firsts number → IsTree (watched_due unwatched (changed (in_table change) number objects)) news)
    → IsIndexed objects unwatched firsts → IsIndexed (changed (in_table change) number objects) unwatched news
indexed-changed change unwatched objects firsts news number keeps long reorder indexed =
    indexed-one unwatched unwatched objects (changed (in_table change) number objects) firsts number same_marks apart never indexed news long
    (reorder (all_but unwatched unwatched objects (changed (in_table change) number objects) firsts number same_marks apart never indexed))
  where
    same_marks : (other : ℕ) → (other ≡ number → ⊥) → is_watched unwatched other ≡ is_watched unwatched other
    same_marks other differs = refl

    apart : (other : ℕ) → (other ≡ number → ⊥) → table_at (changed (in_table change) number objects) other ≡ table_at objects other
    apart other differs = at-other (in_table change) number other objects differs

    same : (a b : Table) → Some a ≡ Some b → a ≡ b
    same a b e = cc

    by : (o : Option Table) → table_at objects number ≡ o → (table : Table) → length firsts ≤ number → option_map change o ≡ Some table → NeverDue table
    by None e table past is = cc
    by (Some was) e table past is = subst NeverDue (same (change was) table is) (keeps was (indexed.beyond number was past e))

    never : (table : Table) → length firsts ≤ number → table_at (changed (in_table change) number objects) number ≡ Some table → NeverDue table
    never table past is = by (table_at objects number) refl table past (sym (at-same change number objects) ∙ is)

-- a new table, which has a place in the index or never a due
pub indexed-table : (was now : List Bool) (objects : Store) (table : Table) (firsts news : List (Option (Moment × ℕ))) (number : ℕ) → number ≡ length objects
    → ((other : ℕ) → (other ≡ number → ⊥) → is_watched now other ≡ is_watched was other) → (length firsts ≤ number → NeverDue table) → length news ≡ length firsts
    → (AllBut (watched_due now (objects ++ object.Table table ∷ [])) firsts number → IsTree (watched_due now (objects ++ object.Table table ∷ [])) news)
    → IsIndexed objects was firsts → IsIndexed (objects ++ object.Table table ∷ []) now news
indexed-table was now objects table firsts news number last marks keeps long reorder indexed =
    indexed-one was now objects (objects ++ object.Table table ∷ []) firsts number marks apart never indexed news long
    (reorder (all_but was now objects (objects ++ object.Table table ∷ []) firsts number marks apart never indexed))
  where
    apart : (other : ℕ) → (other ≡ number → ⊥) → table_at (objects ++ object.Table table ∷ []) other ≡ table_at objects other
    apart other differs = at-before objects (object.Table table) other (λ e. differs (e ∙ sym last))

    same : (a b : Table) → Some a ≡ Some b → a ≡ b
    same a b e = cc

    never : (one : Table) → length firsts ≤ number → table_at (objects ++ object.Table table ∷ []) number ≡ Some one → NeverDue one
    never one past is =
        let here : table_at (objects ++ object.Table table ∷ []) number ≡ Some table = ap (table_at (objects ++ object.Table table ∷ [])) last ∙ at-new objects (object.Table table) in
        subst NeverDue (same table one (sym here ∙ is)) (keeps past)

-- a table that is watched from now on
pub indexed-watched : (was now : List Bool) (objects : Store) (firsts news : List (Option (Moment × ℕ))) (number : ℕ)
    → ((other : ℕ) → (other ≡ number → ⊥) → is_watched now other ≡ is_watched was other) → length news ≡ length firsts
    → (AllBut (watched_due now objects) firsts number → IsTree (watched_due now objects) news) → IsIndexed objects was firsts → IsIndexed objects now news
indexed-watched was now objects firsts news number marks long reorder indexed =
    indexed-one was now objects objects firsts number marks (λ other differs. refl) (λ table past is. indexed.beyond number table past is) indexed news long
    (reorder (all_but was now objects objects firsts number marks (λ other differs. refl) (λ table past is. indexed.beyond number table past is) indexed))

-- The first due ---------------------------------------------------------------------------------------------------

-- the turn of a number has that number
due-number : (objects : Store) (number : ℕ) (turn : Moment × ℕ) → due_at objects number ≡ Some turn → turn.1 ≡ number
due-number objects number turn is = by (table_at objects number) is
  where
    same : (a b : Moment × ℕ) → Some a ≡ Some b → a ≡ b
    same a b e = cc

    from : (o : Option (Moment × ℕ)) → option_map (λ (turn : Moment × ℕ). let t : Moment × ℕ = (turn.0, number) in t) o ≡ Some turn → turn.1 ≡ number
    from None e = cc
    from (Some first) e = ap (λ (t : Moment × ℕ). t.1) (sym (same (first.0, number) turn e))

    by : (o : Option Table) → option_and_then (due_of number) o ≡ Some turn → turn.1 ≡ number
    by None e = cc
    by (Some table) e = from (first_due table.entries) e

-- the top of the index is the first
pub first-top : (held : Held) (firsts : List (Option (Moment × ℕ))) (at : Moment) (number : ℕ) → IsIndexed held.objects held.unwatched firsts → get_or firsts 0 None ≡ Some (at, number)
    → IsFirst held at number
first-top held firsts at number indexed top =
    let place = top-turn (watched_due held.unwatched held.objects) firsts indexed.tree (at, number) top in
    let due = due-any held.unwatched held.objects place.0 (at, number) place.1 in
    record {
      watched = subst (λ n. is_watched held.unwatched n ≡ true) (sym (due-number held.objects place.0 (at, number) due))
          (watched-any held.unwatched held.objects place.0 (at, number) place.1);
      due = subst (λ n. due_at held.objects n ≡ Some (at, number)) (sym (due-number held.objects place.0 (at, number) due)) due;
      least = λ other turn watched is.
          let least = top-least (watched_due held.unwatched held.objects) firsts indexed.tree other turn (due-watched held.unwatched held.objects other watched ∙ is) in
          subst (λ t. is_before turn t ≡ false) (one least.0 (at, number) (sym least.1 ∙ top)) least.2;
    }
  where
    one : (a b : Moment × ℕ) → Some a ≡ Some b → a ≡ b
    one a b e = cc

-- and where it is none, none is due that is watched
pub first-nothing : (held : Held) (firsts : List (Option (Moment × ℕ))) → IsIndexed held.objects held.unwatched firsts → get_or firsts 0 None ≡ None → NoneIsFirst held
first-nothing held firsts indexed top = λ number watched. by number watched (due_at held.objects number) refl
  where
    none-some : {turn : Moment × ℕ} {o : Option (Moment × ℕ)} → o ≡ None → o ≡ Some turn → ⊥
    none-some none some = cc

    by : (number : ℕ) → is_watched held.unwatched number ≡ true → (o : Option (Moment × ℕ)) → due_at held.objects number ≡ o → due_at held.objects number ≡ None
    by number watched None e = e
    by number watched (Some turn) e =
        let least = top-least (watched_due held.unwatched held.objects) firsts indexed.tree number turn (due-watched held.unwatched held.objects number watched ∙ e) in
        absurd (none-some top least.1)

-- beyond the index none is due, watched or not
pub none-beyond : (unwatched : List Bool) (objects : Store) (firsts : List (Option (Moment × ℕ))) (number : ℕ) → IsIndexed objects unwatched firsts → length firsts ≤ number
    → due_at objects number ≡ None
none-beyond unwatched objects firsts number indexed past = never-due number (table_at objects number) (λ table is. indexed.beyond number table past is)

-- Calls -----------------------------------------------------------------------------------------------------------

-- a mark that is set in its vector leaves the others as they are
pub marked-others : (unwatched : Vec Bool) (shown marked : List Bool) (number : ℕ) → shown ≡ unwatched.items → length marked ≡ unwatched.len
    → ((other : ℕ) → (other ≡ number → ⊥) → is_watched marked other ≡ is_watched shown other)
    → (other : ℕ) → (other ≡ number → ⊥) → is_watched (with_items unwatched marked).items other ≡ is_watched unwatched.items other
marked-others unwatched shown marked number lent long others = λ other apart.
    ap (λ marks. is_watched marks other) (with_items_is unwatched marked long) ∙ (others other apart ∙ ap (λ marks. is_watched marks other) lent)

-- and is there
pub marked-one : (unwatched : Vec Bool) (marked : List Bool) (number : ℕ) (watched : Bool) → length marked ≡ unwatched.len → is_watched marked number ≡ watched
    → is_watched (with_items unwatched marked).items number ≡ watched
marked-one unwatched marked number watched long is = ap (λ marks. is_watched marks number) (with_items_is unwatched marked long) ∙ is

-- that of a new table says that its entries expire
pub marked-new : (expiry : Option Expiry) (expires : Bool) (long number : ℕ) (marked : List Bool) → expires ≡ is_some expiry → (expires ≡ true → number < long)
    → (expires ≡ false → is_watched marked number ≡ true) → (number < long → is_watched marked number ≡ not expires) → is_watched marked number ≡ is_none expiry
marked-new None expires long number marked is room clear set = clear is
marked-new (Some how) expires long number marked is room clear set = set (room is) ∙ ap not is

-- an object that is no table more, or nothing
pub indexed-added : {A : Type 0} (r : Result A Mem) (unwatched : List Bool) (objects new : Store) (one : Object) (firsts : List (Option (Moment × ℕ))) → table_of one ≡ None
    → OnOk r (new ≡ objects ++ one ∷ []) → OnErr r (new ≡ objects) → IsIndexed objects unwatched firsts → IsIndexed new unwatched firsts
indexed-added (Ok a) unwatched objects new one firsts none ok err indexed = subst (λ os. IsIndexed os unwatched firsts) (sym ok) (indexed-more unwatched objects one firsts none indexed)
indexed-added (Err e) unwatched objects new one firsts none ok err indexed = subst (λ os. IsIndexed os unwatched firsts) (sym err) indexed

-- a change of a record or a vector
pub indexed-kept : (change : Object → Object) (unwatched : List Bool) (objects : Store) (number : ℕ) (firsts : List (Option (Moment × ℕ))) → ((one : Object) → table_of (change one) ≡ table_of one)
    → IsIndexed objects unwatched firsts → IsIndexed (changed change number objects) unwatched firsts
indexed-kept change unwatched objects number firsts keeps =
    indexed-same unwatched unwatched objects (changed change number objects) firsts (λ other. refl) (λ other. at-kept change number other objects keeps)

pub indexed-pushed : {A : Type 0} (r : Result A Mem) (change : Object → Object) (unwatched : List Bool) (objects new : Store) (number : ℕ) (firsts : List (Option (Moment × ℕ)))
    → ((one : Object) → table_of (change one) ≡ table_of one) → OnOk r (new ≡ changed change number objects) → OnErr r (new ≡ objects) → IsIndexed objects unwatched firsts
    → IsIndexed new unwatched firsts
indexed-pushed (Ok a) change unwatched objects new number firsts keeps ok err indexed = subst (λ os. IsIndexed os unwatched firsts) (sym ok) (indexed-kept change unwatched objects number firsts keeps indexed)
indexed-pushed (Err e) change unwatched objects new number firsts keeps ok err indexed = subst (λ os. IsIndexed os unwatched firsts) (sym err) indexed

pub with_field-keeps : (field : ℕ) (value : Option Value) (one : Object) → table_of (with_field field value one) ≡ table_of one
with_field-keeps field value (object.Record of fields) = refl
with_field-keeps field value (object.Vector items) = refl
with_field-keeps field value (object.Table table) = refl

pub with_item-keeps : (index : ℕ) (item : Value) (one : Object) → table_of (with_item index item one) ≡ table_of one
with_item-keeps index item (object.Record of fields) = refl
with_item-keeps index item (object.Vector items) = refl
with_item-keeps index item (object.Table table) = refl

pub with_item_behind-keeps : (item : Value) (one : Object) → table_of (with_item_behind item one) ≡ table_of one
with_item_behind-keeps item (object.Record of fields) = refl
with_item_behind-keeps item (object.Vector items) = refl
with_item_behind-keeps item (object.Table table) = refl

-- a table that is changed, and the index that is put right in its vector
pub indexed-reordered : (change : Table → Table) (unwatched : List Bool) (objects mid : Store) (firsts : Vec (Option (Moment × ℕ))) (shown reordered : List (Option (Moment × ℕ))) (number : ℕ)
    → ((table : Table) → NeverDue table → NeverDue (change table)) → mid ≡ changed (in_table change) number objects → shown ≡ firsts.items → length reordered ≡ firsts.len
    → (AllBut (watched_due unwatched mid) shown number → IsTree (watched_due unwatched mid) reordered) → IsIndexed objects unwatched firsts.items
    → IsIndexed mid unwatched (with_items firsts reordered).items
indexed-reordered change unwatched objects mid firsts shown reordered number keeps is lent long reorder indexed =
    subst (λ fs. IsIndexed mid unwatched fs) (sym (with_items_is firsts reordered long))
    (subst (λ os. IsIndexed os unwatched reordered) (sym is)
    (indexed-changed change unwatched objects firsts.items reordered number keeps (long ∙ firsts.ok.0)
    (λ all. subst (λ os. IsTree (watched_due unwatched os) reordered) is
    (reorder (subst (λ fs. AllBut (watched_due unwatched mid) fs number) (sym lent) (subst (λ os. AllBut (watched_due unwatched os) firsts.items number) (sym is) all))))
    indexed))

-- a new table, and the index that is put right in its vector
pub indexed-new : (was now : List Bool) (objects mid : Store) (table : Table) (firsts : Vec (Option (Moment × ℕ))) (shown reordered : List (Option (Moment × ℕ))) (number : ℕ)
    → number ≡ length objects → ((other : ℕ) → (other ≡ number → ⊥) → is_watched now other ≡ is_watched was other) → (length firsts.items ≤ number → NeverDue table)
    → mid ≡ objects ++ object.Table table ∷ [] → shown ≡ firsts.items → length reordered ≡ firsts.len
    → (AllBut (watched_due now mid) shown number → IsTree (watched_due now mid) reordered) → IsIndexed objects was firsts.items → IsIndexed mid now (with_items firsts reordered).items
indexed-new was now objects mid table firsts shown reordered number last marks keeps is lent long reorder indexed =
    subst (λ fs. IsIndexed mid now fs) (sym (with_items_is firsts reordered long))
    (subst (λ os. IsIndexed os now reordered) (sym is)
    (indexed-table was now objects table firsts.items reordered number last marks keeps (long ∙ firsts.ok.0)
    (λ all. subst (λ os. IsTree (watched_due now os) reordered) is
    (reorder (subst (λ fs. AllBut (watched_due now mid) fs number) (sym lent) (subst (λ os. AllBut (watched_due now os) firsts.items number) (sym is) all))))
    indexed))

-- a table that is watched from now on, and the index that is put right in its vector
pub indexed-marked : (was now : List Bool) (objects : Store) (firsts : Vec (Option (Moment × ℕ))) (shown reordered : List (Option (Moment × ℕ))) (number : ℕ)
    → ((other : ℕ) → (other ≡ number → ⊥) → is_watched now other ≡ is_watched was other) → shown ≡ firsts.items → length reordered ≡ firsts.len
    → (AllBut (watched_due now objects) shown number → IsTree (watched_due now objects) reordered) → IsIndexed objects was firsts.items
    → IsIndexed objects now (with_items firsts reordered).items
indexed-marked was now objects firsts shown reordered number marks lent long reorder indexed =
    subst (λ fs. IsIndexed objects now fs) (sym (with_items_is firsts reordered long))
    (indexed-watched was now objects firsts.items reordered number marks (long ∙ firsts.ok.0)
    (λ all. reorder (subst (λ fs. AllBut (watched_due now objects) fs number) (sym lent) all)) indexed)

-- a table whose place the index has, if it has an expiry
pub never-beyond : (table : Table) (expiry : Option Expiry) (long number : ℕ) → expiry ≡ table.expiry → IfNone expiry (first_due table.entries ≡ None)
    → (is_some expiry ≡ true → number < long) → long ≤ number → NeverDue table
never-beyond table None long number is first room past = record { expiry = sym is; entries = first-none table.entries first }
never-beyond table (Some how) long number is first room past = let within = room refl in absurd (omega (arith, within, past))
