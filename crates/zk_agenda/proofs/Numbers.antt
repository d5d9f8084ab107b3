-- The order numbers and the keys of a table's entries.
use Rattle.std.proofs.Common.{◌≡◌, ◌<◌, ℕ, ◌+◌, ◌==◌, Bool, true, false, List, [], ◌∷◌, ◌++◌, cond, filter, find, not, Option, Some, None, refl, sym, subst, ◌∙◌, arith, true≢false}
use Rattle.std.specs.Prelude.{if◌then◌else◌, pos, int_lt}
use Rattle.std.proofs.lemmas.Bool.Decides.{nat_tests}
use Rattle.std.proofs.lemmas.Option.{same_Some}
use Rattle.zk_base.specs.declared.time.Moment.{Moment}
use Rattle.zk_base.specs.declared.time.Span.{Span}
use Rattle.zk_tree.specs.declared.expiry.Expiry.{Expiry}
use Rattle.zk_tree.specs.Table.{Entry, Table, assigned, entry_at, entry_numbered, expire, insert, new_entry, put_off, remove, renew, renewed, renews, with_entries, with_entry, without}
use Rattle.zk_tree.specs.Value.{Value, same_key}
use Rattle.zk_tree.proofs.ValueLaws.{same_key-Decides}

-- Entries --------------------------------------------------------------------------------------------------------------------

abbrev pub Each : (Entry → Type 0) → List Entry → Type 0
Each P [] = Unit {0}
Each P (one ∷ others) = P one × Each P others

each-append : (P : Entry → Type 0) (first second : List Entry) → Each P first → Each P second → Each P (first ++ second)
each-append P [] second one other = other
each-append P (entry ∷ first) second one other = (one.0, each-append P first second one.1 other)

each-filter : (P : Entry → Type 0) (test : Entry → Bool) (entries : List Entry) → Each P entries → Each P (filter test entries)
each-filter P test [] all = tt
each-filter P test (one ∷ others) all = by_test (test one) refl (each-filter P test others all.1)
  where
    by_test : (kept : Bool) → test one ≡ kept → Each P (filter test others) → Each P (filter test (one ∷ others))
    by_test true is rest = rw is (all.0, rest)
    by_test false is rest = rw is rest

each-made : (P Q : Entry → Type 0) → ((entry : Entry) → P entry → Q entry) → (entries : List Entry) → Each P entries → Each Q entries
each-made P Q make [] all = tt
each-made P Q make (one ∷ others) all = (make one all.0, each-made P Q make others all.1)

each-both : (P Q : Entry → Type 0) (entries : List Entry) → Each P entries → Each Q entries → Each (λ entry. P entry × Q entry) entries
each-both P Q [] first second = tt
each-both P Q (one ∷ others) first second = ((first.0, second.0), each-both P Q others first.1 second.1)

-- what is found is one of them, and passes the test
pub each-found : (P : Entry → Type 0) (test : Entry → Bool) (entries : List Entry) (one : Entry) → find test entries ≡ Some one → Each P entries → P one × (test one ≡ true)
each-found P test [] one is all = absurd (let no : ⊥ = cc in no)
each-found P test (first ∷ others) one is all = by_test (test first) refl is (λ rest. each-found P test others one rest all.1)
  where
    by_test : (met : Bool) → test first ≡ met → cond met (Some first) (find test others) ≡ Some one → (find test others ≡ Some one → P one × (test one ≡ true)) → P one × (test one ≡ true)
    by_test true passes is rest = subst (λ (e : Entry). P e × (test e ≡ true)) (same_Some first one is) (all.0, passes)
    by_test false passes is rest = rest is

-- where none is found, none passes the test
none-found : (test : Entry → Bool) (entries : List Entry) → find test entries ≡ None → Each (λ entry. test entry ≡ false) entries
none-found test [] is = tt
none-found test (first ∷ others) is = by_test (test first) refl is (λ rest. none-found test others rest)
  where
    by_test : (met : Bool) → test first ≡ met → cond met (Some first) (find test others) ≡ None → (find test others ≡ None → Each (λ entry. test entry ≡ false) others)
        → (test first ≡ false) × Each (λ entry. test entry ≡ false) others
    by_test true passes is rest = absurd (let no : ⊥ = cc in no)
    by_test false passes is rest = (passes, rest is)

-- those of other order numbers stay
each-with : (P : Entry → Type 0) (one : Entry) (entries : List Entry) → P one → Each (λ other. (one.order == other.order) ≡ false → P other) entries → Each P (with_entry one entries)
unfolding with_entry
each-with P one [] here all = tt
each-with P one (other ∷ others) here all = (by_test (one.order == other.order) refl, each-with P one others here all.1)
  where
    by_test : (met : Bool) → (one.order == other.order) ≡ met → P (if one.order == other.order then one else other)
    by_test true is = rw is here
    by_test false is = rw is (all.0 is)

each-with-all : (P : Entry → Type 0) (one : Entry) (entries : List Entry) → P one → Each P entries → Each P (with_entry one entries)
each-with-all P one entries here all = each-with P one entries here (each-made P (λ other. (one.order == other.order) ≡ false → P other) (λ other is apart. is) entries all)

-- Tables ---------------------------------------------------------------------------------------------------------------------

-- entries of one number have one key, and those of one key one number
pub record Fits (a b : Entry) : Type 0 where
  pub key : a.order ≡ b.order → a.key ≡ b.key
  pub order : a.key ≡ b.key → a.order ≡ b.order

-- an entry among these, of so many insertions
pub record Among (insertions : ℕ) (entries : List Entry) (one : Entry) : Type 0 where
  pub below : one.order < insertions
  pub fits : Each (Fits one) entries

-- no two entries have one number or one key
pub record Sound (table : Table) : Type 0 where
  pub among : Each (Among table.insertions table.entries) table.entries

-- an order number was given before, and an entry that has it has this key
pub record Past (order : ℕ) (key : List Value) (table : Table) : Type 0 where
  pub below : order < table.insertions
  pub keys : Each (λ entry. entry.order ≡ order → entry.key ≡ key) table.entries

-- an entry in the place of another of its number and key
fits-again : (a one other : Entry) → other.order ≡ one.order → other.key ≡ one.key → Fits a one → Fits a other
fits-again a one other order key fits = record { key = λ is. fits.key (is ∙ order) ∙ sym key; order = λ is. fits.order (is ∙ key) ∙ sym order }

fits-before : (a one other : Entry) → other.order ≡ one.order → other.key ≡ one.key → Fits one a → Fits other a
fits-before a one other order key fits = record { key = λ is. key ∙ fits.key (sym order ∙ is); order = λ is. order ∙ fits.order (sym key ∙ is) }

with-sound : (table : Table) (one other : Entry) (test : Entry → Bool) → find test table.entries ≡ Some one → other.order ≡ one.order → other.key ≡ one.key → Sound table
    → Sound (with_entries (with_entry other table.entries) table)
with-sound table one other test found order key sound =
    let entries = table.entries in
    let within : Entry → Type 0 = Among table.insertions (with_entry other entries) in
    let here = (each-found (Among table.insertions entries) test entries one found sound.among).0 in
    let again : (a : Entry) → Each (Fits a) entries → Each (Fits a) (with_entry other entries) =
    λ a fits. each-with-all (Fits a) other entries (fits-again a one other order key (each-found (Fits a) test entries one found fits).0) fits in
    record {
      among = each-with-all within other entries
          (record {
            below = subst (λ n. n < table.insertions) (sym order) here.below;
            fits = again other (each-made (Fits one) (Fits other) (λ a fits. fits-before a one other order key fits) entries here.fits);
          })
          (each-made (Among table.insertions entries) within (λ a is. record { below = is.below; fits = again a is.fits }) entries sound.among);
    }

filter-sound : (table : Table) (test : Entry → Bool) → Sound table → Sound (with_entries (filter test table.entries) table)
filter-sound table test sound = record {
  among = each-filter (Among table.insertions (filter test table.entries)) test table.entries
      (each-made (Among table.insertions table.entries) (Among table.insertions (filter test table.entries))
      (λ a is. record { below = is.below; fits = each-filter (Fits a) test table.entries is.fits }) table.entries sound.among);
}

with-past : (order : ℕ) (of : List Value) (table : Table) (one other : Entry) (test : Entry → Bool) → find test table.entries ≡ Some one → other.order ≡ one.order → other.key ≡ one.key
    → Past order of table → Past order of (with_entries (with_entry other table.entries) table)
with-past order of table one other test found same key past = record {
  below = past.below;
  keys = each-with-all (λ entry. entry.order ≡ order → entry.key ≡ of) other table.entries
      (λ is. key ∙ (each-found (λ entry. entry.order ≡ order → entry.key ≡ of) test table.entries one found past.keys).0 (sym same ∙ is)) past.keys;
}

filter-past : (order : ℕ) (of : List Value) (table : Table) (test : Entry → Bool) → Past order of table → Past order of (with_entries (filter test table.entries) table)
filter-past order of table test past = record { below = past.below; keys = each-filter (λ entry. entry.order ≡ order → entry.key ≡ of) test table.entries past.keys }

-- Changes --------------------------------------------------------------------------------------------------------------------

-- a change keeps numbers and keys apart, and gives no number of before to another key
pub record KeepsNumbers (change : Table → Table) : Type 0 where
  pub sound : (table : Table) → Sound table → Sound (change table)
  pub past : (order : ℕ) (key : List Value) (table : Table) → Past order key table → Past order key (change table)

assigned-order : (expiry : Option Expiry) (now : Moment) (value : Value) (entry : Entry) → (assigned expiry now value entry).order ≡ entry.order
assigned-order expiry now value entry = elim (renews expiry) as (λ test. (if test then renewed expiry now (record entry { value = value }) else record entry { value = value }).order ≡ entry.order) [ true ↦ refl | false ↦ refl ]

assigned-key : (expiry : Option Expiry) (now : Moment) (value : Value) (entry : Entry) → (assigned expiry now value entry).key ≡ entry.key
assigned-key expiry now value entry = elim (renews expiry) as (λ test. (if test then renewed expiry now (record entry { value = value }) else record entry { value = value }).key ≡ entry.key) [ true ↦ refl | false ↦ refl ]

-- no entry has the key that isn't found
other-key : (key : List Value) (entry : Entry) → same_key key entry.key ≡ false → key ≡ entry.key → ⊥
other-key key entry differ same = true≢false (sym ((same_key-Decides key entry.key).1 same) ∙ differ)

added-sound : (now : Moment) (key : List Value) (value : Value) (table : Table) → find (λ entry. same_key key entry.key) table.entries ≡ None → Sound table
    → Sound (record table { insertions = table.insertions + 1; entries = table.entries ++ new_entry now key value table ∷ [] })
added-sound now key value table none sound =
    let n = table.insertions in
    let entries = table.entries in
    let new : Entry = new_entry now key value table in
    let all = entries ++ new ∷ [] in
    let unlike = none-found (λ entry. same_key key entry.key) entries none in
    let before : (a : Entry) → a.order < n → (same_key key a.key ≡ false) → Fits a new =
    λ a below differ. record { key = λ is. absurd (omega (arith, below, is)); order = λ is. absurd (other-key key a differ (sym is)) } in
    let behind : (a : Entry) → a.order < n → (same_key key a.key ≡ false) → Fits new a =
    λ a below differ. record { key = λ is. absurd (omega (arith, below, is)); order = λ is. absurd (other-key key a differ is) } in
    record {
      among = each-append (Among (n + 1) all) entries (new ∷ [])
          (each-made (λ a. Among n entries a × (same_key key a.key ≡ false)) (Among (n + 1) all)
          (λ a is. record { below = omega (arith, is.0.below); fits = each-append (Fits a) entries (new ∷ []) is.0.fits (before a is.0.below is.1, tt) })
          entries (each-both (Among n entries) (λ a. same_key key a.key ≡ false) entries sound.among unlike)) (
            record {
              below = omega arith;
              fits = each-append (Fits new) entries (new ∷ [])
                  (each-made (λ a. Among n entries a × (same_key key a.key ≡ false)) (Fits new) (λ a is. behind a is.0.below is.1) entries
                  (each-both (Among n entries) (λ a. same_key key a.key ≡ false) entries sound.among unlike))
                  (record { key = λ is. refl; order = λ is. refl }, tt);
            },
            tt,
          );
    }

pub insert-keeps : (now : Moment) (key : List Value) (value : Value) → KeepsNumbers (insert now key value)
unfolding entry_at
insert-keeps now key value = record {
  sound = λ table sound. by_sound table sound (entry_at key table.entries) refl;
  past = λ order of table past. by_past order of table past (entry_at key table.entries) refl;
}
  where
    by_sound : (table : Table) → Sound table → (entry : Option Entry) → entry_at key table.entries ≡ entry → Sound (insert now key value table)
    by_sound table sound None is = rw is (added-sound now key value table is sound)
    by_sound table sound (Some entry) is = rw is (with-sound table entry (assigned table.expiry now value entry) (λ entry. same_key key entry.key) is
        (assigned-order table.expiry now value entry) (assigned-key table.expiry now value entry) sound)

    by_past : (order : ℕ) (of : List Value) (table : Table) → Past order of table → (entry : Option Entry) → entry_at key table.entries ≡ entry → Past order of (insert now key value table)
    by_past order of table past None is = rw is (record {
      below = omega (arith, past.below);
      keys = each-append (λ entry. entry.order ≡ order → entry.key ≡ of) table.entries (new_entry now key value table ∷ []) past.keys
          ((λ same. absurd (omega (arith, past.below, same))), tt);
    })
    by_past order of table past (Some entry) is = rw is (with-past order of table entry (assigned table.expiry now value entry) (λ entry. same_key key entry.key) is
        (assigned-order table.expiry now value entry) (assigned-key table.expiry now value entry) past)

pub remove-keeps : (key : List Value) → KeepsNumbers (remove key)
unfolding without
remove-keeps key = record {
  sound = λ table sound. by_sound table sound (entry_at key table.entries) refl;
  past = λ order of table past. by_past order of table past (entry_at key table.entries) refl;
}
  where
    by_sound : (table : Table) → Sound table → (entry : Option Entry) → entry_at key table.entries ≡ entry → Sound (remove key table)
    by_sound table sound None is = rw is sound
    by_sound table sound (Some entry) is = rw is (filter-sound table (λ other. not (entry.order == other.order)) sound)

    by_past : (order : ℕ) (of : List Value) (table : Table) → Past order of table → (entry : Option Entry) → entry_at key table.entries ≡ entry → Past order of (remove key table)
    by_past order of table past None is = rw is past
    by_past order of table past (Some entry) is = rw is (filter-past order of table (λ other. not (entry.order == other.order)) past)

pub renew-keeps : (now : Moment) (key : List Value) → KeepsNumbers (renew now key)
unfolding entry_at
renew-keeps now key = record {
  sound = λ table sound. by_sound table sound (entry_at key table.entries) refl;
  past = λ order of table past. by_past order of table past (entry_at key table.entries) refl;
}
  where
    by_sound : (table : Table) → Sound table → (entry : Option Entry) → entry_at key table.entries ≡ entry → Sound (renew now key table)
    by_sound table sound None is = rw is sound
    by_sound table sound (Some entry) is = rw is (with-sound table entry (renewed table.expiry now entry) (λ entry. same_key key entry.key) is refl refl sound)

    by_past : (order : ℕ) (of : List Value) (table : Table) → Past order of table → (entry : Option Entry) → entry_at key table.entries ≡ entry → Past order of (renew now key table)
    by_past order of table past None is = rw is past
    by_past order of table past (Some entry) is = rw is (with-past order of table entry (renewed table.expiry now entry) (λ entry. same_key key entry.key) is refl refl past)

pub expire-keeps : (order : ℕ) (wait : Span) → KeepsNumbers (expire order wait)
unfolding entry_numbered without
expire-keeps order wait = record {
  sound = λ table sound. by_sound table sound (entry_numbered order table.entries) refl;
  past = λ number of table past. by_past number of table past (entry_numbered order table.entries) refl;
}
  where
    by_sound : (table : Table) → Sound table → (entry : Option Entry) → entry_numbered order table.entries ≡ entry → Sound (expire order wait table)
    by_sound table sound None is = rw is sound
    by_sound table sound (Some entry) is = rw is (elim (int_lt (pos 0) wait.0) as (λ waits.
        Sound (if waits then with_entries (with_entry (put_off wait entry) table.entries) table else with_entries (without entry.order table.entries) table)) [
          | true ↦ with-sound table entry (put_off wait entry) (λ other. order == other.order) is refl refl sound
          | false ↦ filter-sound table (λ other. not (entry.order == other.order)) sound
        ])

    by_past : (number : ℕ) (of : List Value) (table : Table) → Past number of table → (entry : Option Entry) → entry_numbered order table.entries ≡ entry → Past number of (expire order wait table)
    by_past number of table past None is = rw is past
    by_past number of table past (Some entry) is = rw is (elim (int_lt (pos 0) wait.0) as (λ waits.
        Past number of (if waits then with_entries (with_entry (put_off wait entry) table.entries) table else with_entries (without entry.order table.entries) table)) [
          | true ↦ with-past number of table entry (put_off wait entry) (λ other. order == other.order) is refl refl past
          | false ↦ filter-past number of table (λ other. not (entry.order == other.order)) past
        ])

-- The entry whose function was asked ----------------------------------------------------------------------------------------------

-- before its function runs
pub numbered-past : (order : ℕ) (table : Table) (entry : Entry) → entry_numbered order table.entries ≡ Some entry → Sound table → Past order entry.key table
unfolding entry_numbered
numbered-past order table entry is sound =
    let found = each-found (Among table.insertions table.entries) (λ other. order == other.order) table.entries entry is sound.among in
    let same : entry.order ≡ order = grind (arith, nat_tests, found.1) in
    record {
      below = subst (λ n. n < table.insertions) same found.0.below;
      keys = each-made (Fits entry) (λ other. other.order ≡ order → other.key ≡ entry.key) (λ other fits there. sym (fits.key (same ∙ sym there))) table.entries found.0.fits;
    }

-- behind it, once the entry of its key is renewed, it is one of the moment
pub renewed-now : (now : Moment) (order : ℕ) (key : List Value) (table : Table) → Sound table → Past order key table → Each (λ entry. entry.order ≡ order → entry.since ≡ now) (renew now key table).entries
unfolding entry_at
renewed-now now order key table sound past = by_entry (entry_at key table.entries) refl
  where
    by_entry : (entry : Option Entry) → entry_at key table.entries ≡ entry → Each (λ entry. entry.order ≡ order → entry.since ≡ now) (renew now key table).entries
    by_entry None is = rw is (each-made (λ entry. (entry.order ≡ order → entry.key ≡ key) × (same_key key entry.key ≡ false)) (λ entry. entry.order ≡ order → entry.since ≡ now)
        (λ entry known there. absurd (other-key key entry known.1 (sym (known.0 there)))) table.entries
        (each-both (λ entry. entry.order ≡ order → entry.key ≡ key) (λ entry. same_key key entry.key ≡ false) table.entries past.keys (none-found (λ entry. same_key key entry.key) table.entries is)))
    by_entry (Some one) is =
        let found = each-found (Among table.insertions table.entries) (λ entry. same_key key entry.key) table.entries one is sound.among in
        let same : key ≡ one.key = (same_key-Decides key one.key).0 found.1 in
        rw is (each-with (λ entry. entry.order ≡ order → entry.since ≡ now) (renewed table.expiry now one) table.entries (λ there. refl)
        (each-made (λ entry. (entry.order ≡ order → entry.key ≡ key) × Fits one entry) (λ other. (one.order == other.order) ≡ false → other.order ≡ order → other.since ≡ now)
        (λ other known apart there.
        let alike : one.order ≡ other.order = known.1.order (sym same ∙ sym (known.0 there)) in
        absurd (let no : ⊥ = grind (arith, nat_tests, alike, apart) in no)) table.entries
        (each-both (λ entry. entry.order ≡ order → entry.key ≡ key) (Fits one) table.entries past.keys found.0.fits)))
