-- A value behind one more event of what it stands for.
use Rattle.std.proofs.Common.{◌≡◌, ℕ, ◌^◌, pos, ◌≤ℤ◌, Bool, ◌==◌, true, false, cond, List, [], ◌∷◌, ◌++◌, length, length-append, get_or, Option, None, Some, is_some, IsSome, refl, sym, ap, subst, ◌∙◌, arith, ⊎_elim}
use Rattle.std.specs.BTreeMap as tree
use Rattle.std.specs.Option.{option_map, option_and_then}
use Rattle.std.specs.Ordering.{nat_cmp}
use Rattle.std.specs.Map.{lookup}
use Rattle.std.specs.Prelude.{int_le, All}
use Rattle.std.proofs.lemmas.Bool.{cases_Bool, cases_eq, eqb-true, false≢true, true≢false}
use Rattle.std.proofs.lemmas.Grind.{common_steps}
use Rattle.std.proofs.lemmas.List.{append-nil}
use Rattle.slab.specs.Slab.{get}
use Rattle.zk_base.specs.declared.network.Side.{Side}
use Rattle.zk_base.specs.declared.network.Side.TheVariants.{Orig, Resp}
use Rattle.zk_base.specs.declared.numbers.ConnNo.{ConnNo}
use Rattle.zk_base.specs.declared.time.Moment.{Moment}
use Rattle.zk_conn.specs.declared.conns.Conns.{Conns}
use Rattle.zk_conn.specs.declared.facts.Facts.{Facts}
use Rattle.zk_conn.specs.declared.half.Half.{Half}
use Rattle.zk_conn.specs.declared.instance.Instance.{Instance}
use Rattle.zk_conn.specs.declared.key.Key.{Key}
use Rattle.zk_conn.specs.Histories.{latest, begun, begun_by, joined_by, is_live, is_removal, comes_late, Precedes, IsLive}
use Rattle.zk_conn.specs.Holds.{Has, Holds, Follows, end_in, facts_in, removal_of}
use Rattle.zk_conn.specs.Instance.{Opening, opening, originator, end_of, moment_after, facts_of}
use Rattle.zk_conn.specs.declared.removals.Filing.{Filing}
use Rattle.zk_conn.specs.Removals.{filed_in, filing_of}
use Rattle.zk_conn.specs.Segment.{same_key}
use Rattle.zk_conn.specs.Standing.{StandsFor, IsLatest, Keeps}
use Rattle.zk_conn.specs.Table.{has_number, key_cmp, slot_in, kept, slot_numbered, HasLive, instance_at, key_at, number_at, Matches, IsTable, Changes, Tells}
use Rattle.zk_conn.specs.Told.{Told, key_told}
use Rattle.zk_conn.proofs.HoldsLemmas.{holds-append, facts_in-is}
use Rattle.zk_conn.proofs.KeyLemmas.{same_key_is, same_key-refl}
use Rattle.zk_conn.proofs.ToldLemmas.{latest-append, begun-append, number_of-quiet, number_of-other, is_live-append}

-- slots that are found as before
pub matches_same : {K : Type 0} (find find' : K → Option ℕ) (at at' : ℕ → Option K) → ((key : K) → find' key ≡ find key) → ((slot : ℕ) → at' slot ≡ at slot)
    → Matches find at → Matches find' at'
matches_same find find' at at' finds ats matches = record {
  there = λ key slot is. ats slot ∙ matches.there key slot (sym (finds key) ∙ is);
  found = λ slot key is. finds key ∙ matches.found slot key (sym (ats slot) ∙ is);
}

-- the table is in order after the instance of a slot changed
pub table_changed : (old new : Conns) (slot : ℕ) (was is : Instance) → get old.slots slot ≡ Some was → Changes old new slot was is → IsTable old → IsTable new
table_changed old new slot was is there changes table = record {
  keys = matches_same (slot_in old.keys) (slot_in new.keys) (key_at old.slots) (key_at new.slots) changes.keys_are
      (at_slot (λ (i : Instance). i.key) changes.key_is) table.keys;
  numbers = matches_same (tree.get nat_cmp old.numbers) (tree.get nat_cmp new.numbers) (number_at old.slots) (number_at new.slots) changes.numbers_are
      (at_slot (λ (i : Instance). i.number) changes.number_is) table.numbers;
  index = changes.index table.index;
}
  where
    at_slot : {K : Type 0} (f : Instance → K) → f is ≡ f was → (other : ℕ) → option_map f (get new.slots other) ≡ option_map f (get old.slots other)
    at_slot f same other = ⊎_elim
        (λ here. subst (λ s. option_map f (get new.slots s) ≡ option_map f (get old.slots s)) (sym here)
        (ap (option_map f) changes.is_there ∙ ap Some same ∙ sym (ap (option_map f) there)))
        (λ apart. ap (option_map f) (changes.others other apart))
        (cases_eq other slot)

-- the instance of a slot is found by its key
pub instance_at-slot : (conns : Conns) (slot : ℕ) (instance : Instance) → IsTable conns → get conns.slots slot ≡ Some instance → instance_at conns instance.key ≡ Some instance
unfolding instance_at
instance_at-slot conns slot instance table there =
    ap (option_and_then (get conns.slots)) (table.keys.found slot instance.key (ap (option_map (λ (i : Instance). i.key)) there)) ∙ there

-- a live instance in its slot
pub record Found (conns : Conns) (told : List Told) (key : Key) : Type 0 where
  pub slot : ℕ
  pub instance : Instance
  pub there : get conns.slots slot ≡ Some instance
  pub key_is : instance.key ≡ key
  pub latest : IsLatest told key instance

-- a live instance is found
pub found_live : (conns : Conns) (told : List Told) (key : Key) → StandsFor conns told → is_live (latest key told) ≡ true → Found conns told key
unfolding instance_at
found_live conns told key stands live = by_slot (slot_in conns.keys key) refl
  where
    by_slot : (o : Option ℕ) → slot_in conns.keys key ≡ o → Found conns told key
    by_slot None none =
        let gone = subst (Keeps told key) (ap (option_and_then (get conns.slots)) none) (stands.keeps key) in
        absurd (true≢false (sym live ∙ gone.gone))
    by_slot (Some slot) some = by_instance (get conns.slots slot) refl
      where
        one_key : (k : Key) (i : Instance) → option_map (λ (j : Instance). j.key) (Some i) ≡ Some k → i.key ≡ k
        one_key k i same = cc

        by_instance : (o : Option Instance) → get conns.slots slot ≡ o → Found conns told key
        by_instance None none =
            let gone = subst (Keeps told key) (ap (option_and_then (get conns.slots)) some ∙ none) (stands.keeps key) in
            absurd (true≢false (sym live ∙ gone.gone))
        by_instance (Some instance) there = record {
          slot = slot;
          instance = instance;
          there = there;
          key_is = one_key key instance (sym (ap (option_map (λ (j : Instance). j.key)) there) ∙ stands.table.keys.there key slot some);
          latest = subst (Keeps told key) (ap (option_and_then (get conns.slots)) some ∙ there) (stands.keeps key);
        }

-- a slot whose instance has the number
number_in : (o : Option Instance) (n : ℕ) → has_number o n ≡ true → option_map (λ (i : Instance). i.number) o ≡ Some n
number_in None n is = absurd (false≢true is)
number_in (Some instance) n is = ap Some (eqb-true instance.number n is)

-- in a table that is in order the number finds the slot, wherever it is looked for first
pub numbered-kept : (conns : Conns) (conn : ConnNo) → IsTable conns → slot_numbered conns conn ≡ kept conns.slots (tree.get nat_cmp conns.numbers conn.0)
unfolding slot_numbered
numbered-kept conns conn table = by_test (has_number (get conns.slots conns.recent) conn.0) refl
  where
    there : (o : Option Instance) → has_number o conn.0 ≡ true → is_some o ≡ true
    there None is = absurd (false≢true is)
    there (Some instance) is = refl

    by_test : (b : Bool) → has_number (get conns.slots conns.recent) conn.0 ≡ b
        → cond b (Some conns.recent) (kept conns.slots (tree.get nat_cmp conns.numbers conn.0)) ≡ kept conns.slots (tree.get nat_cmp conns.numbers conn.0)
    by_test false is = refl
    by_test true is = sym (ap (kept conns.slots) (table.numbers.found conns.recent conn.0 (number_in (get conns.slots conns.recent) conn.0 is))
        ∙ ap (λ b. cond b (Some conns.recent) None) (there (get conns.slots conns.recent) is))

-- the slot that a live instance's number finds
pub numbered_found : (conns : Conns) (told : List Told) (key : Key) (conn : ConnNo) → (stands : StandsFor conns told) → (found : Found conns told key) → IsLive told key conn.0
    → slot_numbered conns conn ≡ Some found.slot
numbered_found conns told key conn stands found live =
    numbered-kept conns conn stands.table ∙ ap (λ n. kept conns.slots (tree.get nat_cmp conns.numbers n)) (sym live.number_is ∙ found.latest.number_is)
    ∙ ap (kept conns.slots) (stands.table.numbers.found found.slot found.instance.number (ap (option_map (λ (i : Instance). i.number)) found.there))
    ∙ ap (λ o. cond (is_some o) (Some found.slot) None) found.there

-- another key's instance is as before
pub instance_changed : (old new : Conns) (slot : ℕ) (was is : Instance) (key : Key) → IsTable old → get old.slots slot ≡ Some was → Changes old new slot was is
    → same_key was.key key ≡ false → same_key key key ≡ true → instance_at new key ≡ instance_at old key
unfolding instance_at
instance_changed old new slot was is key table there changes other itself =
    ap (option_and_then (get new.slots)) (changes.keys_are key) ∙ by_slot (slot_in old.keys key) refl
  where
    one_key : {k : Key} {i : Instance} {o : Option Instance} → o ≡ Some i → option_map (λ (j : Instance). j.key) o ≡ Some k → i.key ≡ k
    one_key {k} {i} {o} some same = let parts : option_map (λ (j : Instance). j.key) (Some i) ≡ Some k = subst (λ x. option_map (λ (j : Instance). j.key) x ≡ Some k) some same in cc

    by_slot : (o : Option ℕ) → slot_in old.keys key ≡ o → option_and_then (get new.slots) o ≡ option_and_then (get old.slots) o
    by_slot None none = refl
    by_slot (Some s) some = changes.others s
        (λ here. true≢false (sym itself ∙ ap (λ k. same_key k key) (sym (one_key there (ap (λ x. key_at old.slots x) (sym here) ∙ table.keys.there key s some))) ∙ other))

-- what stands before an event, and the event
pub all_before : (told : List Told) (event : Told) (t : Moment) → All (Precedes t) (told ++ event ∷ []) → All (Precedes t) told
all_before told event t order = λ k d within.
    subst (Precedes t) (let same : get_or (told ++ event ∷ []) k d ≡ get_or told k d = grind (arith, common_steps, within) in same)
    (order k d (omega (arith, within, length-append told (event ∷ []))))

pub at_last : (told : List Told) (event : Told) (t : Moment) → All (Precedes t) (told ++ event ∷ []) → Precedes t event
at_last told event t order =
    subst (Precedes t) (let same : get_or (told ++ event ∷ []) (length told) event ≡ event = grind (arith, common_steps) in same)
    (order (length told) event (omega (arith, length-append told (event ∷ []))))

-- what a key's instance is, behind an event of another key
pub keeps_other : (told : List Told) (event : Told) (key : Key) (kept : Option Instance) → same_key (key_told event) key ≡ false → Keeps told key kept
    → Keeps (told ++ event ∷ []) key kept
keeps_other told event key None other gone = record {
  gone = ap is_live (latest-append key told event false other) ∙ gone.gone;
  late = λ t order. ap (λ l. comes_late l t) (latest-append key told event false other) ∙ gone.late t (all_before told event t order);
}
keeps_other told event key (Some instance) other is = record {
  holds = subst (Holds instance) (sym (latest-append key told event false other)) is.holds;
  live = ap is_live (latest-append key told event false other) ∙ is.live;
  number_is = number_of-other key told event other ∙ is.number_is;
  early = is.early;
  in_time = is.in_time;
  filed = is.filed;
}

-- a live instance behind one more event that neither begins nor removes it
latest_told : (told : List Told) (event : Told) (key : Key) (was is : Instance) → key_told event ≡ key
    → joined_by (latest key told) event ≡ latest key told ++ event ∷ [] → begun_by told event ≡ [] → is_removal event ≡ false
    → pos 0 ≤ℤ (moment_after was.last event).0 → (moment_after was.last event).0 ≤ℤ pos (2 ^ 62) → Follows was is event
    → int_le is.filed.0 (removal_of is).0 ≡ true → IsLatest told key was → IsLatest (told ++ event ∷ []) key is
latest_told told event key was is of_key joined quiet kept early late follows filed latest_is =
    let events = latest-append key told event true (ap (λ k. same_key k key) of_key ∙ same_key-refl key) ∙ joined in
    record {
      holds = subst (Holds is) (sym events) (holds-append was is (latest key told) event latest_is.holds follows);
      live = ap is_live events ∙ is_live-append (latest key told) event latest_is.holds.first latest_is.holds.begun latest_is.live kept;
      number_is = number_of-quiet key told event quiet ∙ latest_is.number_is ∙ sym follows.number_is;
      early = subst (λ (m : Moment). pos 0 ≤ℤ m.0) (sym follows.last_is) early;
      in_time = subst (λ (m : Moment). m.0 ≤ℤ pos (2 ^ 62)) (sym follows.last_is) late;
      filed = filed;
    }

-- the value that told a live instance one more event
pub stands_told : (old new : Conns) (told : List Told) (event : Told) (key : Key) → StandsFor old told → (found : Found old told key)
    → Tells old new found.slot found.instance event → key_told event ≡ key → joined_by (latest key told) event ≡ latest key told ++ event ∷ []
    → begun_by told event ≡ [] → is_removal event ≡ false → pos 0 ≤ℤ (moment_after found.instance.last event).0
    → (moment_after found.instance.last event).0 ≤ℤ pos (2 ^ 62) → StandsFor new (told ++ event ∷ [])
stands_told old new told event key stands found tells of_key joined quiet kept early late = record {
  table = table;
  begun_is = tells.changes.begun_is ∙ stands.begun_is ∙ sym (ap length (begun-append told event ∙ ap (λ l. begun told ++ l) quiet ∙ append-nil (begun told)));
  keeps = λ other. ⊎_elim
      (λ same. subst (λ k. Keeps (told ++ event ∷ []) k (instance_at new k)) (same_key_is key other same) here)
      (λ apart. subst (Keeps (told ++ event ∷ []) other)
      (sym (instance_changed old new found.slot found.instance tells.is other stands.table found.there tells.changes
      (ap (λ k. same_key k other) found.key_is ∙ apart) (same_key-refl other)))
      (keeps_other told event other (instance_at old other) (ap (λ k. same_key k other) of_key ∙ apart) (stands.keeps other)))
      (cases_Bool (same_key key other));
}
  where
    table : IsTable new
    table = table_changed old new found.slot found.instance tells.is found.there tells.changes stands.table

    here : Keeps (told ++ event ∷ []) key (instance_at new key)
    here = subst (Keeps (told ++ event ∷ []) key)
        (sym (ap (instance_at new) (sym (tells.changes.key_is ∙ found.key_is)) ∙ instance_at-slot new found.slot tells.is table tells.changes.is_there))
        (latest_told told event key found.instance tells.is of_key joined quiet kept early late tells.follows (tells.filed found.latest.filed) found.latest)

one : {A : Type 0} {o : Option A} (a b : A) → o ≡ Some a → o ≡ Some b → b ≡ a
one a b first second = cc

-- a live instance that is found by its number was told something of its streams
pub told_live : (old new : Conns) (told : List Told) (key : Key) (conn : ConnNo) (slot : ℕ) (event : Key → Told) → slot_numbered old conn ≡ Some slot
    → ((was : Instance) → get old.slots slot ≡ Some was → Tells old new slot was (event was.key)) → StandsFor old told → IsLive told key conn.0
    → key_told (event key) ≡ key → joined_by (latest key told) (event key) ≡ latest key told ++ event key ∷ [] → begun_by told (event key) ≡ []
    → is_removal (event key) ≡ false → ((m : Moment) → moment_after m (event key) ≡ m) → StandsFor new (told ++ event key ∷ [])
told_live old new told key conn slot event numbered tells stands live of_key joined quiet kept same =
    let found = found_live old told key stands live.live in
    let at = one slot found.slot numbered (numbered_found old told key conn stands found live) in
    stands_told old new told (event key) key stands found
    (subst (λ k. Tells old new found.slot found.instance (event k)) found.key_is
    (subst (λ s. Tells old new s found.instance (event found.instance.key)) (sym at) (tells found.instance (subst (λ s. get old.slots s ≡ Some found.instance) at found.there))))
    of_key joined quiet kept
    (subst (λ (m : Moment). pos 0 ≤ℤ m.0) (sym (same found.instance.last)) found.latest.early)
    (subst (λ (m : Moment). m.0 ≤ℤ pos (2 ^ 62)) (sym (same found.instance.last)) found.latest.in_time)

-- what is live stays so where the instance of a slot changed
pub live_changed : (old new : Conns) (slot : ℕ) (was is : Instance) (conn : ConnNo) → get old.slots slot ≡ Some was → Changes old new slot was is → HasLive old conn → HasLive new conn
unfolding slot_numbered
live_changed old new slot was is conn seen changes live =
    subst (λ r. IsSome (cond (has_number (get new.slots r) conn.0) (Some r) (kept new.slots (tree.get nat_cmp new.numbers conn.0)))) (sym changes.recent_is)
    (subst (λ b. IsSome (cond b (Some old.recent) (kept new.slots (tree.get nat_cmp new.numbers conn.0)))) (sym (same_number old.recent))
    (by_test (has_number (get old.slots old.recent) conn.0) live))
  where
    same_number : (s : ℕ) → has_number (get new.slots s) conn.0 ≡ has_number (get old.slots s) conn.0
    same_number s = ⊎_elim
        (λ here. subst (λ r. has_number (get new.slots r) conn.0 ≡ has_number (get old.slots r) conn.0) (sym here)
        (ap (λ o. has_number o conn.0) changes.is_there ∙ ap (λ n. n == conn.0) changes.number_is ∙ sym (ap (λ o. has_number o conn.0) seen)))
        (λ apart. ap (λ o. has_number o conn.0) (changes.others s apart))
        (cases_eq s slot)

    there : (o p : Option Instance) (s : ℕ) → is_some o ≡ is_some p → IsSome (cond (is_some p) (Some s) None) → IsSome (cond (is_some o) (Some s) None)
    there o p s same some = subst (λ b. IsSome (cond b (Some s) None)) (sym same) some

    by_number : (o : Option ℕ) → IsSome (kept old.slots o) → IsSome (kept new.slots o)
    by_number None some = some
    by_number (Some s) some = ⊎_elim
        (λ here. subst (λ b. IsSome (cond b (Some s) None)) (sym (ap (λ n. is_some (get new.slots n)) here ∙ ap is_some changes.is_there)) refl)
        (λ apart. there (get new.slots s) (get old.slots s) s (ap is_some (changes.others s apart)) some)
        (cases_eq s slot)

    by_test : (b : Bool) → IsSome (cond b (Some old.recent) (kept old.slots (tree.get nat_cmp old.numbers conn.0)))
        → IsSome (cond b (Some old.recent) (kept new.slots (tree.get nat_cmp new.numbers conn.0)))
    by_test true some = some
    by_test false some = subst (λ o. IsSome (kept new.slots o)) (sym (changes.numbers_are conn.0)) (by_number (tree.get nat_cmp old.numbers conn.0) some)

-- a live instance that is told something stays live, as do all others
pub live_told : (old new : Conns) (slot : ℕ) (conn other : ConnNo) (event : Instance → Told) → slot_numbered old conn ≡ Some slot
    → ((was : Instance) → get old.slots slot ≡ Some was → Tells old new slot was (event was)) → HasLive old other → HasLive new other
unfolding slot_numbered
live_told old new slot conn other event numbered tells live = by_instance (get old.slots slot) refl
  where
    held : (o : Option ℕ) → kept old.slots o ≡ Some slot → get old.slots slot ≡ None → ⊥
    held None is none = cc
    held (Some s) is none = by_slot (get old.slots s) refl is
      where
        by_slot : (p : Option Instance) → get old.slots s ≡ p → cond (is_some (get old.slots s)) (Some s) None ≡ Some slot → ⊥
        by_slot None gone same = let no : None ≡ Some slot = sym (ap (λ p. cond (is_some p) (Some s) None) gone) ∙ same in cc
        by_slot (Some instance) found same =
            let one : Some s ≡ Some slot = sym (ap (λ p. cond (is_some p) (Some s) None) found) ∙ same in
            let at : s ≡ slot = cc in
            let no : None ≡ Some instance = sym none ∙ ap (get old.slots) (sym at) ∙ found in cc

    no_number : (o : Option Instance) → o ≡ None → has_number o conn.0 ≡ true → ⊥
    no_number None none is = false≢true is
    no_number (Some instance) none is = cc

    by_test : (b : Bool) → has_number (get old.slots old.recent) conn.0 ≡ b → cond b (Some old.recent) (kept old.slots (tree.get nat_cmp old.numbers conn.0)) ≡ Some slot
        → get old.slots slot ≡ None → ⊥
    by_test true is same none = let at : old.recent ≡ slot = cc in no_number (get old.slots old.recent) (ap (get old.slots) at ∙ none) is
    by_test false is same none = held (tree.get nat_cmp old.numbers conn.0) same none

    by_instance : (o : Option Instance) → get old.slots slot ≡ o → HasLive new other
    by_instance None none = absurd (by_test (has_number (get old.slots old.recent) conn.0) refl numbered none)
    by_instance (Some was) there = let told = tells was there in live_changed old new slot was told.is other there told.changes live

-- the number of an instance of the table finds it
pub live_at-slot : (conns : Conns) (slot : ℕ) (instance : Instance) → IsTable conns → get conns.slots slot ≡ Some instance → HasLive conns (record { 0 = instance.number })
live_at-slot conns slot instance table there =
    subst IsSome (sym (numbered-kept conns (record { 0 = instance.number }) table)) (subst (λ o. IsSome (kept conns.slots o)) (sym (table.numbers.found slot instance.number (ap (option_map (λ (i : Instance). i.number)) there)))
    (subst (λ p. IsSome (cond (is_some p) (Some slot) None)) (sym there) refl))

-- what a live instance that is found by its number has
pub has_live : (conns : Conns) (told : List Told) (key : Key) (conn : ConnNo) (slot : ℕ) (now : Instance) (first : Opening) → slot_numbered conns conn ≡ Some slot
    → get conns.slots slot ≡ Some now → StandsFor conns told → IsLive told key conn.0 → opening (latest key told) ≡ Some first → Has first now (latest key told)
has_live conns told key conn slot now first numbered seen stands live begins =
    let found = found_live conns told key stands live.live in
    let at = one slot found.slot numbered (numbered_found conns told key conn stands found live) in
    let same : found.instance ≡ now = sym (one found.instance now found.there (subst (λ s. get conns.slots s ≡ Some now) (sym at) seen)) in
    let holds = found.latest.holds in
    subst (λ f. Has f now (latest key told)) (one first holds.first begins holds.begun)
    (subst (λ i. Has holds.first i (latest key told)) same holds.has)

-- how a side's end is closed in what it has
pub end_live : (first : Opening) (instance : Instance) (side : Side) (events : List Told) → Has first instance events
    → end_in instance side ≡ end_of (originator first.packet) side events
end_live first instance Orig events has = ap (λ (h : Half). h.end) has.orig_is
end_live first instance Resp events has = ap (λ (h : Half). h.end) has.resp_is

-- the facts of a live instance that is found by its number
pub facts_live : (conns : Conns) (told : List Told) (key : Key) (conn : ConnNo) (slot : ℕ) (now : Instance) (facts : Facts) → slot_numbered conns conn ≡ Some slot
    → get conns.slots slot ≡ Some now → facts ≡ facts_in now → StandsFor conns told → IsLive told key conn.0 → Some facts ≡ facts_of (latest key told)
facts_live conns told key conn slot now facts numbered seen is stands live =
    let found = found_live conns told key stands live.live in
    let at = one slot found.slot numbered (numbered_found conns told key conn stands found live) in
    ap Some (is ∙ ap facts_in (one found.instance now found.there (subst (λ s. get conns.slots s ≡ Some now) (sym at) seen)))
    ∙ facts_in-is found.instance (latest key told) found.latest.holds

-- a value with nothing was told nothing
pub stands_empty : (conns : Conns) → conns.slots.slots ≡ [] → conns.keys.entries ≡ [] → conns.numbers.entries ≡ [] → conns.removals.filings.items ≡ [] → conns.removals.firsts.items ≡ [] → conns.begun ≡ 0
    → StandsFor conns []
unfolding instance_at
stands_empty conns slots keys numbers filings firsts none_begun = record {
  table = record {
    keys = empty (slot_in conns.keys) (key_at conns.slots) (λ key. ap (lookup (tree.is_at (key_cmp key))) keys) (λ slot. ap (option_map (λ (i : Instance). i.key)) (nothing slot));
    numbers = empty (tree.get nat_cmp conns.numbers) (number_at conns.slots) (λ number. ap (lookup (tree.is_at (nat_cmp number))) numbers) (λ slot. ap (option_map (λ (i : Instance). i.number)) (nothing slot));
    index = record {
      index = record {
        nodes = λ slot within. absurd (omega (arith, within, ap length firsts));
        beyond = λ slot past. nothing_filed slot;
      };
      filed = λ slot. nothing_filed slot ∙ sym (ap (option_map (filing_of slot)) (nothing slot));
    };
  };
  begun_is = none_begun;
  keeps = λ key. subst (Keeps [] key) (sym (ap (λ o. option_and_then (get conns.slots) o) (ap (lookup (tree.is_at (key_cmp key))) keys)))
      (record { gone = refl; late = λ t order. refl });
}
  where
    none : (k : ℕ) (d : Option Instance) → get_or [] k d ≡ d
    none k d = grind (arith, common_steps)

    none_filed : (k : ℕ) (d : Option Filing) → get_or [] k d ≡ d
    none_filed k d = grind (arith, common_steps)

    nothing_filed : (slot : ℕ) → filed_in conns.removals slot ≡ None
    nothing_filed slot = ap (λ l. get_or l slot None) filings ∙ none_filed slot None

    nothing : (slot : ℕ) → get conns.slots slot ≡ None
    nothing slot = ap (λ l. get_or l slot None) slots ∙ none slot None

    not_both : {A : Type 0} {o : Option A} (a : A) → o ≡ None → o ≡ Some a → ⊥
    not_both a none some = cc

    empty : {K : Type 0} (find : K → Option ℕ) (at : ℕ → Option K) → ((key : K) → find key ≡ None) → ((slot : ℕ) → at slot ≡ None) → Matches find at
    empty find at finds ats = record {
      there = λ key slot is. absurd (not_both slot (finds key) is);
      found = λ slot key is. absurd (not_both key (ats slot) is);
    }
