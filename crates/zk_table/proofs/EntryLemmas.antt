-- The entries of a table by their slots.
use Rattle.std.proofs.Common.{◌≡◌, ◌==◌, ℕ, zero, suc, ◌+◌, ◌<◌, ◌≤◌, Bool, true, false, cond, not, List, [], ◌∷◌, ◌++◌, length, slice_get, Option, Some, None, is_some, refl, sym, ap, subst, ◌∙◌, arith, true≢false}
use Rattle.std.specs.List.{cons_option}
use Rattle.std.specs.Option.{option_map}
use Rattle.std.proofs.Math.ListN.{set}
use Rattle.std.proofs.lemmas.Bool.Decides.{Decides-eqb}
use Rattle.zk_tree.specs.Table.{Entry, entry_at, entry_numbered, with_entry, without}
use Rattle.zk_tree.specs.Value as plain
use Rattle.zk_tree.specs.Value.{same_key}
use Rattle.zk_value.specs.Plain.{key_of}
use Rattle.zk_table.specs.declared.slot.Slot.{Slot}
use Rattle.zk_table.specs.declared.slot.Stored.{Stored}
use Rattle.zk_table.specs.Slots.{Ascends, entries_in, entry_in, entry_of, stored_numbered, occupied, hole, without_holes}
use Rattle.zk_table.proofs.SlotLemmas.{eqb-refl, eqb-apart, ascends-at, numbered-under}

same_slot : (x y : Slot) → Some x ≡ Some y → x ≡ y
same_slot x y e = cc

-- Entries of other numbers -----------------------------------------------------------------------------------------

with_entry-absent : (entry : Entry) (from : ℕ) (slots : List Slot) (below : ℕ) → Ascends from slots below → entry.order < from → with_entry entry (entries_in slots) ≡ entries_in slots
unfolding entries_in with_entry
with_entry-absent entry from [] below up less = refl
with_entry-absent entry from (slot ∷ slots) below up less = by slot.entry (with_entry-absent entry (suc slot.order) slots below up.1 (omega (arith, less, up.0)))
  where
    by : (o : Option Stored) → (with_entry entry (entries_in slots) ≡ entries_in slots) → with_entry entry (cons_option (option_map (entry_of slot.order) o) (entries_in slots)) ≡ cons_option (option_map (entry_of slot.order) o) (entries_in slots)
    by None others = others
    by (Some stored) others =
        ap (λ t. cond t entry (entry_of slot.order stored) ∷ with_entry entry (entries_in slots)) (eqb-apart entry.order slot.order (λ e. omega (arith, e, less, up.0)))
        ∙ ap (λ es. entry_of slot.order stored ∷ es) others

without-absent : (order from : ℕ) (slots : List Slot) (below : ℕ) → Ascends from slots below → order < from → without order (entries_in slots) ≡ entries_in slots
unfolding entries_in without
without-absent order from [] below up less = refl
without-absent order from (slot ∷ slots) below up less = by slot.entry (without-absent order (suc slot.order) slots below up.1 (omega (arith, less, up.0)))
  where
    by : (o : Option Stored) → (without order (entries_in slots) ≡ entries_in slots) → without order (cons_option (option_map (entry_of slot.order) o) (entries_in slots)) ≡ cons_option (option_map (entry_of slot.order) o) (entries_in slots)
    by None others = others
    by (Some stored) others =
        ap (λ t. cond (not t) (entry_of slot.order stored ∷ without order (entries_in slots)) (without order (entries_in slots)))
        (eqb-apart order slot.order (λ e. omega (arith, e, less, up.0)))
        ∙ ap (λ es. entry_of slot.order stored ∷ es) others

-- Changes ----------------------------------------------------------------------------------------------------------

-- another entry in a place
pub entries-set : (from : ℕ) (slots : List Slot) (below place order : ℕ) (old new : Stored) → Ascends from slots below → slice_get slots place ≡ Some (occupied order old)
    → entries_in (set slots place (occupied order new)) ≡ with_entry (entry_of order new) (entries_in slots)
unfolding entries_in with_entry
entries-set from [] below place order old new up is = cc
entries-set from (first ∷ slots) below zero order old new up is =
    let e : first ≡ occupied order old = same_slot first (occupied order old) is in
    let later : order < suc first.order = let n = ap (λ (s : Slot). s.order) e in omega (arith, n) in
    let rest = with_entry-absent (entry_of order new) (suc first.order) slots below up.1 later in
    ap (λ es. entry_of order new ∷ es) (sym rest)
    ∙ ap (λ t. cond t (entry_of order new) (entry_of order old) ∷ with_entry (entry_of order new) (entries_in slots)) (sym (eqb-refl order))
    ∙ ap (λ (s : Slot). with_entry (entry_of order new) (cons_option (entry_in s) (entries_in slots))) (sym e)
entries-set from (first ∷ slots) below (suc place) order old new up is = by first.entry (entries-set (suc first.order) slots below place order old new up.1 is)
  where
    later : suc first.order ≤ order
    later = ascends-at (suc first.order) slots below place (occupied order old) up.1 is

    by : (o : Option Stored) → (entries_in (set slots place (occupied order new)) ≡ with_entry (entry_of order new) (entries_in slots)) → cons_option (option_map (entry_of first.order) o) (entries_in (set slots place (occupied order new)))
        ≡ with_entry (entry_of order new) (cons_option (option_map (entry_of first.order) o) (entries_in slots))
    by None others = others
    by (Some stored) others =
        ap (λ es. entry_of first.order stored ∷ es) others
        ∙ ap (λ t. cond t (entry_of order new) (entry_of first.order stored) ∷ with_entry (entry_of order new) (entries_in slots))
        (sym (eqb-apart order first.order (λ e. omega (arith, e, later))))

-- an entry that is gone
pub entries-empty : (from : ℕ) (slots : List Slot) (below place order : ℕ) (old : Stored) → Ascends from slots below → slice_get slots place ≡ Some (occupied order old)
    → entries_in (set slots place (hole order)) ≡ without order (entries_in slots)
unfolding entries_in without
entries-empty from [] below place order old up is = cc
entries-empty from (first ∷ slots) below zero order old up is =
    let e : first ≡ occupied order old = same_slot first (occupied order old) is in
    let later : order < suc first.order = let n = ap (λ (s : Slot). s.order) e in omega (arith, n) in
    let rest = without-absent order (suc first.order) slots below up.1 later in
    sym rest
    ∙ ap (λ t. cond (not t) (entry_of order old ∷ without order (entries_in slots)) (without order (entries_in slots))) (sym (eqb-refl order))
    ∙ ap (λ (s : Slot). without order (cons_option (entry_in s) (entries_in slots))) (sym e)
entries-empty from (first ∷ slots) below (suc place) order old up is = by first.entry (entries-empty (suc first.order) slots below place order old up.1 is)
  where
    later : suc first.order ≤ order
    later = ascends-at (suc first.order) slots below place (occupied order old) up.1 is

    by : (o : Option Stored) → (entries_in (set slots place (hole order)) ≡ without order (entries_in slots)) → cons_option (option_map (entry_of first.order) o) (entries_in (set slots place (hole order)))
        ≡ without order (cons_option (option_map (entry_of first.order) o) (entries_in slots))
    by None others = others
    by (Some stored) others =
        ap (λ es. entry_of first.order stored ∷ es) others
        ∙ ap (λ t. cond (not t) (entry_of first.order stored ∷ without order (entries_in slots)) (without order (entries_in slots)))
        (sym (eqb-apart order first.order (λ e. omega (arith, e, later))))

-- and there is one less
pub length-empty : (slots : List Slot) (place order : ℕ) (old : Stored) → slice_get slots place ≡ Some (occupied order old)
    → length (entries_in (set slots place (hole order))) + 1 ≡ length (entries_in slots)
unfolding entries_in
length-empty [] place order old is = cc
length-empty (first ∷ slots) zero order old is =
    let one : length (entries_in slots) + 1 ≡ suc (length (entries_in slots)) = omega arith in
    one ∙ ap (λ (s : Slot). length (cons_option (entry_in s) (entries_in slots))) (sym (same_slot first (occupied order old) is))
length-empty (first ∷ slots) (suc place) order old is = by first.entry (length-empty slots place order old is)
  where
    by : (o : Option Stored) → (length (entries_in (set slots place (hole order))) + 1 ≡ length (entries_in slots)) → length (cons_option (option_map (entry_of first.order) o) (entries_in (set slots place (hole order)))) + 1
        ≡ length (cons_option (option_map (entry_of first.order) o) (entries_in slots))
    by None others = others
    by (Some stored) others = omega (arith, others)

pub length-with_entry : (entry : Entry) (entries : List Entry) → length (with_entry entry entries) ≡ length entries
unfolding with_entry
length-with_entry entry [] = refl
length-with_entry entry (first ∷ others) = ap suc (length-with_entry entry others)

-- a slot at the end
pub entries-more : (slots : List Slot) (slot : Slot) → entries_in (slots ++ slot ∷ []) ≡ entries_in slots ++ cons_option (entry_in slot) []
unfolding entries_in
entries-more [] slot = refl
entries-more (first ∷ slots) slot = by first.entry (entries-more slots slot)
  where
    by : (o : Option Stored) → entries_in (slots ++ slot ∷ []) ≡ entries_in slots ++ cons_option (entry_in slot) []
        → cons_option (option_map (entry_of first.order) o) (entries_in (slots ++ slot ∷ []))
        ≡ cons_option (option_map (entry_of first.order) o) (entries_in slots) ++ cons_option (entry_in slot) []
    by None others = others
    by (Some stored) others = ap (λ es. entry_of first.order stored ∷ es) others

-- an insertion at the end
pub entries-push : (slots : List Slot) (order : ℕ) (new : Stored) → entries_in (slots ++ occupied order new ∷ []) ≡ entries_in slots ++ entry_of order new ∷ []
entries-push slots order new = entries-more slots (occupied order new)

-- holes have no entry
pub entries-without_holes : (slots : List Slot) → entries_in (without_holes slots) ≡ entries_in slots
unfolding entries_in without_holes
entries-without_holes [] = refl
entries-without_holes (slot ∷ slots) = by slot.entry refl (entries-without_holes slots)
  where
    by : (o : Option Stored) → slot.entry ≡ o → entries_in (without_holes slots) ≡ entries_in slots
        → entries_in (cond (is_some slot.entry) (slot ∷ without_holes slots) (without_holes slots)) ≡ cons_option (option_map (entry_of slot.order) slot.entry) (entries_in slots)
    by None e others =
        ap (λ o. entries_in (cond (is_some o) (slot ∷ without_holes slots) (without_holes slots))) e
        ∙ others ∙ ap (λ o. cons_option (option_map (entry_of slot.order) o) (entries_in slots)) (sym e)
    by (Some stored) e others =
        ap (λ o. entries_in (cond (is_some o) (slot ∷ without_holes slots) (without_holes slots))) e
        ∙ ap (λ es. cons_option (option_map (entry_of slot.order) slot.entry) es) others

-- Look-ups ---------------------------------------------------------------------------------------------------------

-- the entry of a number
pub entry_numbered-is : (order from : ℕ) (slots : List Slot) (below : ℕ) → Ascends from slots below
    → entry_numbered order (entries_in slots) ≡ option_map (entry_of order) (stored_numbered order slots)
unfolding entries_in entry_numbered stored_numbered
entry_numbered-is order from [] below up = refl
entry_numbered-is order from (slot ∷ slots) below up = by slot.entry (order == slot.order) refl (entry_numbered-is order (suc slot.order) slots below up.1)
  where
    by : (o : Option Stored) (t : Bool) → (order == slot.order) ≡ t → entry_numbered order (entries_in slots) ≡ option_map (entry_of order) (stored_numbered order slots)
        → entry_numbered order (cons_option (option_map (entry_of slot.order) o) (entries_in slots))
        ≡ option_map (entry_of order) (cond (order == slot.order) o (stored_numbered order slots))
    by None true t others =
        let e = (Decides-eqb order slot.order).0 t in
        others ∙ ap (option_map (entry_of order)) (numbered-under order (suc slot.order) slots below up.1 (omega (arith, e)))
        ∙ ap (λ b. option_map (entry_of order) (cond b None (stored_numbered order slots))) (sym t)
    by None false t others = others ∙ ap (λ b. option_map (entry_of order) (cond b None (stored_numbered order slots))) (sym t)
    by (Some stored) true t others =
        ap (λ b. cond b (Some (entry_of slot.order stored)) (entry_numbered order (entries_in slots))) t
        ∙ ap (λ n. Some (entry_of n stored)) (sym ((Decides-eqb order slot.order).0 t))
        ∙ ap (λ b. option_map (entry_of order) (cond b (Some stored) (stored_numbered order slots))) (sym t)
    by (Some stored) false t others =
        ap (λ b. cond b (Some (entry_of slot.order stored)) (entry_numbered order (entries_in slots))) t
        ∙ others
        ∙ ap (λ b. option_map (entry_of order) (cond b (Some stored) (stored_numbered order slots))) (sym t)

-- an entry that a key finds is kept under its number
pub record Held (from : ℕ) (slots : List Slot) (key : List plain.Value) (entry : Entry) : Type 0 where
  pub later : from ≤ entry.order
  pub stored : Stored
  pub numbered : stored_numbered entry.order slots ≡ Some stored
  pub is : entry ≡ entry_of entry.order stored
  pub key_is : same_key key entry.key ≡ true

some_entry : (x y : Entry) → Some x ≡ Some y → x ≡ y
some_entry x y e = cc

pub entry_at-held : (key : List plain.Value) (from : ℕ) (slots : List Slot) (below : ℕ) (entry : Entry) → Ascends from slots below
    → entry_at key (entries_in slots) ≡ Some entry → Held from slots key entry
unfolding entries_in entry_at stored_numbered
entry_at-held key from [] below entry up is = cc
entry_at-held key from (slot ∷ slots) below entry up is = by slot.entry refl is (λ found. entry_at-held key (suc slot.order) slots below entry up.1 found)
  where
    behind : Held (suc slot.order) slots key entry → Held from (slot ∷ slots) key entry
    behind held = record {
      later = let l = held.later in omega (arith, l, up.0);
      stored = held.stored;
      numbered = ap (λ t. cond t slot.entry (stored_numbered entry.order slots)) (eqb-apart entry.order slot.order (λ e. let l = held.later in omega (arith, l, e))) ∙ held.numbered;
      is = held.is;
      key_is = held.key_is;
    }

    here : (stored : Stored) → slot.entry ≡ Some stored → entry_of slot.order stored ≡ entry → same_key key (key_of stored.key) ≡ true → Held from (slot ∷ slots) key entry
    here stored there e found = subst (λ x. Held from (slot ∷ slots) key x) e (record {
      later = up.0;
      stored = stored;
      numbered = ap (λ t. cond t slot.entry (stored_numbered slot.order slots)) (eqb-refl slot.order) ∙ there;
      is = refl;
      key_is = found;
    })

    by_test : (stored : Stored) → slot.entry ≡ Some stored → (t : Bool) → same_key key (key_of stored.key) ≡ t
        → cond (same_key key (key_of stored.key)) (Some (entry_of slot.order stored)) (entry_at key (entries_in slots)) ≡ Some entry
        → (entry_at key (entries_in slots) ≡ Some entry → Held (suc slot.order) slots key entry) → Held from (slot ∷ slots) key entry
    by_test stored there true t is others =
        here stored there (some_entry (entry_of slot.order stored) entry (sym (ap (λ b. cond b (Some (entry_of slot.order stored)) (entry_at key (entries_in slots))) t) ∙ is)) t
    by_test stored there false t is others =
        behind (others (sym (ap (λ b. cond b (Some (entry_of slot.order stored)) (entry_at key (entries_in slots))) t) ∙ is))

    by : (o : Option Stored) → slot.entry ≡ o → entry_at key (cons_option (option_map (entry_of slot.order) o) (entries_in slots)) ≡ Some entry
        → (entry_at key (entries_in slots) ≡ Some entry → Held (suc slot.order) slots key entry) → Held from (slot ∷ slots) key entry
    by None e is others = behind (others is)
    by (Some stored) e is others = by_test stored e (same_key key (key_of stored.key)) refl is others

-- a key finds an entry, where one of that key is kept
pub entry_at-some : (key : List plain.Value) (order : ℕ) (slots : List Slot) (stored : Stored) → stored_numbered order slots ≡ Some stored → same_key key (key_of stored.key) ≡ true
    → is_some (entry_at key (entries_in slots)) ≡ true
unfolding entries_in entry_at stored_numbered
entry_at-some key order [] stored is same = cc
entry_at-some key order (slot ∷ slots) stored is same = by slot.entry refl (order == slot.order) refl (λ found. entry_at-some key order slots stored found same)
  where
    first_test : (s : Stored) (t : Bool) → same_key key (key_of s.key) ≡ t → (same_key key (key_of s.key) ≡ false → is_some (entry_at key (entries_in slots)) ≡ true)
        → is_some (cond (same_key key (key_of s.key)) (Some (entry_of slot.order s)) (entry_at key (entries_in slots))) ≡ true
    first_test s true t others = ap (λ b. is_some (cond b (Some (entry_of slot.order s)) (entry_at key (entries_in slots)))) t
    first_test s false t others = ap (λ b. is_some (cond b (Some (entry_of slot.order s)) (entry_at key (entries_in slots)))) t ∙ others t

    no_entry : {x : Stored} → None ≡ Some x → ⊥
    no_entry e = cc

    some_stored : (x y : Stored) → Some x ≡ Some y → x ≡ y
    some_stored x y e = cc

    by : (o : Option Stored) → slot.entry ≡ o → (t : Bool) → (order == slot.order) ≡ t → (stored_numbered order slots ≡ Some stored → is_some (entry_at key (entries_in slots)) ≡ true)
        → is_some (entry_at key (cons_option (option_map (entry_of slot.order) o) (entries_in slots))) ≡ true
    by None e true t others = absurd (no_entry (sym e ∙ sym (ap (λ b. cond b slot.entry (stored_numbered order slots)) t) ∙ is))
    by None e false t others = others (sym (ap (λ b. cond b slot.entry (stored_numbered order slots)) t) ∙ is)
    by (Some s) e true t others =
        let here : s ≡ stored = some_stored s stored (sym e ∙ sym (ap (λ b. cond b slot.entry (stored_numbered order slots)) t) ∙ is) in
        first_test s (same_key key (key_of s.key)) refl (λ f. absurd (true≢false (sym same ∙ sym (ap (λ (x : Stored). same_key key (key_of x.key)) here) ∙ f)))
    by (Some s) e false t others =
        first_test s (same_key key (key_of s.key)) refl (λ f. others (sym (ap (λ b. cond b slot.entry (stored_numbered order slots)) t) ∙ is))
