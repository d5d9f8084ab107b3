-- An instance that is removed, and one that is filed anew.
use Rattle.std.proofs.Common.{pos, ◌≤ℤ◌, ◌^◌, ◌≡◌, ℕ, ◌<◌, Bool, true, false, cond, List, [], ◌∷◌, ◌++◌, length, get_or, count_by, Option, None, Some, is_some, nat_eq, refl, sym, ap, subst, ◌∙◌, arith, ⊎_elim}
use Rattle.std.specs.BTreeMap as tree
use Rattle.std.specs.Cmp.{unsigned_ties}
use Rattle.std.specs.Option.{option_map, option_and_then}
use Rattle.std.specs.Ordering.{nat_cmp}
use Rattle.std.specs.Prelude.{int_le, int_lt}
use Rattle.std.proofs.Math.ListN.{set}
use Rattle.std.proofs.lemmas.Bool.{cases_Bool, eq-eqb, eqb-true, true≢false}
use Rattle.std.proofs.lemmas.List.{append-nil}
use Rattle.std.proofs.lemmas.List.Sums.{sum_by-set}
use Rattle.slab.specs.Slab.{Slab, get}
use Rattle.zk_base.specs.declared.time.Moment.{Moment}
use Rattle.zk_conn.specs.declared.conns.Conns.{Conns}
use Rattle.zk_conn.specs.declared.conns.Removed.{Removed}
use Rattle.zk_conn.specs.declared.instance.Instance.{Instance}
use Rattle.zk_conn.specs.declared.key.Key.{Key}
use Rattle.zk_conn.specs.Histories.{latest, begun, begun_by, joined_by, number_of, is_live, is_removal, comes_late, is_past, Precedes, IsLive, IsEnding, NoneLive}
use Rattle.zk_conn.specs.Holds.{Holds, Follows, facts_in, removal_of}
use Rattle.zk_conn.specs.Segment.{same_key}
use Rattle.zk_conn.specs.Standing.{StandsFor, Keeps}
use Rattle.zk_conn.specs.Table.{slot_in, instance_at, key_at, number_at, IsTable, Removes, Files, SameFacts, IsLeast, is_stale}
use Rattle.zk_conn.specs.Told.{Told, Removal, Ending, key_told}
use Rattle.zk_conn.proofs.HoldsLemmas.{holds-append, facts_in-is}
use Rattle.zk_conn.proofs.InstanceLemmas.{removal_moment-is}
use Rattle.zk_conn.proofs.KeyLemmas.{is_eq-key_cmp, same_key_is, same_key-refl}
use Rattle.zk_conn.proofs.MatchLemmas.{matches_less}
use Rattle.zk_conn.proofs.MomentLemmas.{int_le-refl, int_le_from, int_lt-irrefl}
use Rattle.zk_conn.proofs.StandingLemmas.{Found, found_live, instance_at-slot, keeps_other, at_last, table_changed, instance_changed}
use Rattle.zk_conn.proofs.TableLemmas.{removal_of-same, slot_within}
use Rattle.zk_conn.proofs.ToldLemmas.{latest-append, begun-append, is_live-removed}

not_both : {A : Type 0} {o : Option A} (a : A) → o ≡ None → o ≡ Some a → ⊥
not_both a none some = cc

-- the instance of a slot is the latest one of its key
unfoldable pub found_in_slot : (conns : Conns) (told : List Told) (slot : ℕ) (instance : Instance) → StandsFor conns told → get conns.slots slot ≡ Some instance → Found conns told instance.key
found_in_slot conns told slot instance stands there = record {
  slot = slot;
  instance = instance;
  there = there;
  key_is = refl;
  latest = subst (Keeps told instance.key) (instance_at-slot conns slot instance stands.table there) (stands.keeps instance.key);
}

-- the table with one instance less is in order
table_removed : (old new : Conns) (slot : ℕ) (was : Instance) → get old.slots slot ≡ Some was → Removes old new slot was → IsTable old → IsTable new
table_removed old new slot was there removes table = record {
  keys = matches_less same_key same_key_is same_key-refl (slot_in old.keys) (slot_in new.keys) (key_at old.slots) (key_at new.slots) was.key slot table.keys
      (λ other apart. removes.other_keys other (is_eq-key_cmp was.key other ∙ apart)) (λ other apart. ap (option_map (λ (i : Instance). i.key)) (removes.others other apart))
      (ap (option_map (λ (i : Instance). i.key)) there) removes.key_gone (ap (option_map (λ (i : Instance). i.key)) removes.gone);
  numbers = matches_less nat_eq (λ a b is. eqb-true a b is) (λ a. eq-eqb a a refl) (tree.get nat_cmp old.numbers) (tree.get nat_cmp new.numbers) (number_at old.slots) (number_at new.slots) was.number slot table.numbers
      (λ other apart. removes.other_numbers other (sym (unsigned_ties was.number other) ∙ apart)) (λ other apart. ap (option_map (λ (i : Instance). i.number)) (removes.others other apart))
      (ap (option_map (λ (i : Instance). i.number)) there) removes.number_gone (ap (option_map (λ (i : Instance). i.number)) removes.gone);
  index = removes.index table.index;
}

-- another key's instance is as before
instance_other : (old new : Conns) (slot : ℕ) (was : Instance) (key : Key) → IsTable old → get old.slots slot ≡ Some was → Removes old new slot was → same_key was.key key ≡ false
    → instance_at new key ≡ instance_at old key
unfolding instance_at
instance_other old new slot was key table there removes other =
    ap (option_and_then (get new.slots)) (removes.other_keys key (is_eq-key_cmp was.key key ∙ other)) ∙ by_slot (slot_in old.keys key) refl
  where
    one_key : (k : Key) (i : Instance) → option_map (λ (j : Instance). j.key) (Some i) ≡ Some k → i.key ≡ k
    one_key k i same = cc

    by_slot : (o : Option ℕ) → slot_in old.keys key ≡ o → option_and_then (get new.slots) o ≡ option_and_then (get old.slots) o
    by_slot None none = refl
    by_slot (Some s) some = removes.others s
        (λ here. true≢false (sym (same_key-refl key) ∙ ap (λ k. same_key k key)
        (sym (one_key key was (sym (ap (option_map (λ (j : Instance). j.key)) there) ∙ ap (key_at old.slots) (sym here) ∙ table.keys.there key s some))) ∙ other))

gone_instance : (new : Conns) (key : Key) → slot_in new.keys key ≡ None → instance_at new key ≡ None
unfolding instance_at
gone_instance new key gone = ap (option_and_then (get new.slots)) gone

-- the value that removed a live instance
pub stands_removed : (old new : Conns) (told : List Told) (event : Told) (key : Key) → StandsFor old told → (found : Found old told key) → Removes old new found.slot found.instance
    → key_told event ≡ key → joined_by (latest key told) event ≡ latest key told ++ event ∷ [] → begun_by told event ≡ [] → is_removal event ≡ true
    → ((t : Moment) → Precedes t event → comes_late (latest key told ++ event ∷ []) t ≡ true) → StandsFor new (told ++ event ∷ [])
stands_removed old new told event key stands found removes of_key joined quiet removed late = record {
  table = table_removed old new found.slot found.instance found.there removes stands.table;
  begun_is = removes.begun_is ∙ stands.begun_is ∙ sym (ap length (begun-append told event ∙ ap (λ l. begun told ++ l) quiet ∙ append-nil (begun told)));
  keeps = λ other. ⊎_elim
      (λ same. subst (λ k. Keeps (told ++ event ∷ []) k (instance_at new k)) (same_key_is key other same) here)
      (λ apart. subst (Keeps (told ++ event ∷ []) other)
      (sym (instance_other old new found.slot found.instance other stands.table found.there removes (ap (λ k. same_key k other) found.key_is ∙ apart)))
      (keeps_other told event other (instance_at old other) (ap (λ k. same_key k other) of_key ∙ apart) (stands.keeps other)))
      (cases_Bool (same_key key other));
}
  where
    events : latest key (told ++ event ∷ []) ≡ latest key told ++ event ∷ []
    events = latest-append key told event true (ap (λ k. same_key k key) of_key ∙ same_key-refl key) ∙ joined

    here : Keeps (told ++ event ∷ []) key (instance_at new key)
    here = subst (Keeps (told ++ event ∷ []) key) (sym (gone_instance new key (ap (slot_in new.keys) (sym found.key_is) ∙ removes.key_gone)))
        (record {
          gone = ap is_live events ∙ is_live-removed (latest key told) event removed;
          late = λ t order. ap (λ l. comes_late l t) events ∙ late t (at_last told event t order);
        })

-- a removal leaves what is known of an instance as it is
follows_removed : (instance : Instance) (key : Key) (at : Moment) → Follows instance instance (Removal key at)
follows_removed instance key at = record { key_is = refl; number_is = refl; originator_is = refl; responder_is = refl; start_is = refl; last_is = refl; orig_is = refl; resp_is = refl; history_is = refl }

-- the value that removed an instance at its removal moment
pub stands_removed_due : (old new : Conns) (told : List Told) (key : Key) (at : Moment) → StandsFor old told → (found : Found old told key) → Removes old new found.slot found.instance
    → at ≡ removal_of found.instance → StandsFor new (told ++ Removal key at ∷ [])
stands_removed_due old new told key at stands found removes is =
    stands_removed old new told (Removal key at) key stands found removes refl refl refl refl
    (λ t before.
    ap (λ m. is_past m t) (removal_moment-is found.instance (latest key told ++ Removal key at ∷ [])
    (holds-append found.instance found.instance (latest key told) (Removal key at) found.latest.holds (follows_removed found.instance key at)) found.latest.early found.latest.in_time)
    ∙ subst (λ (m : Moment). int_le m.0 t.0 ≡ true) is (int_le_from at.0 t.0 before))

-- the value that removed an instance at the end
pub stands_ended : (old new : Conns) (told : List Told) (key : Key) (last : Moment) → StandsFor old told → (found : Found old told key) → Removes old new found.slot found.instance
    → StandsFor new (told ++ Ending key last ∷ [])
stands_ended old new told key last stands found removes =
    stands_removed old new told (Ending key last) key stands found removes refl refl refl refl (λ t never. absurd never)

-- what an instance holds, another that knows the same holds
holds_same : (was is : Instance) (events : List Told) → SameFacts was is → Holds was events → Holds is events
holds_same was is events same holds = record {
  first = holds.first;
  begun = holds.begun;
  has = record {
    key_is = same.key_is ∙ holds.has.key_is;
    originator_is = same.originator_is ∙ holds.has.originator_is;
    responder_is = same.responder_is ∙ holds.has.responder_is;
    start_is = same.start_is ∙ holds.has.start_is;
    last_is = same.last_is ∙ holds.has.last_is;
    orig_is = same.orig_is ∙ holds.has.orig_is;
    resp_is = same.resp_is ∙ holds.has.resp_is;
    history_is = same.history_is ∙ holds.has.history_is;
  };
}

-- the value in which an instance was filed at its removal moment
pub stands_filed : (old new : Conns) (told : List Told) (slot : ℕ) (was : Instance) → get old.slots slot ≡ Some was → Files old new slot was → StandsFor old told → StandsFor new told
unfolding found_in_slot
stands_filed old new told slot was there files stands = record {
  table = table;
  begun_is = files.changes.begun_is ∙ stands.begun_is;
  keeps = λ other. ⊎_elim
      (λ same. subst (λ k. Keeps told k (instance_at new k)) (same_key_is was.key other same) here)
      (λ apart. subst (Keeps told other) (sym (instance_changed old new slot was files.is other stands.table there files.changes apart (same_key-refl other))) (stands.keeps other))
      (cases_Bool (same_key was.key other));
}
  where
    table : IsTable new
    table = table_changed old new slot was files.is there files.changes stands.table

    here : Keeps told was.key (instance_at new was.key)
    here =
        let found = found_in_slot old told slot was stands there in
        let is = found.latest in
        subst (Keeps told was.key) (sym (ap (instance_at new) (sym files.changes.key_is) ∙ instance_at-slot new slot files.is table files.changes.is_there))
        (record {
          holds = holds_same was files.is (latest was.key told) files.same is.holds;
          live = is.live;
          number_is = is.number_is ∙ sym files.same.number_is;
          early = subst (λ (m : Moment). pos 0 ≤ℤ m.0) (sym files.same.last_is) is.early;
          in_time = subst (λ (m : Moment). m.0 ≤ℤ pos (2 ^ 62)) (sym files.same.last_is) is.in_time;
          filed = subst (λ (m : Moment). int_le m.0 (removal_of files.is).0 ≡ true) (removal_of-same was files.is files.same ∙ sym files.filed) (int_le-refl (removal_of files.is).0);
        })

-- a count of those that pass a test falls where one of them is written over by one that does not
pub count_falls : {A : Type 0} (test : A → Bool) (xs : List A) (i : ℕ) (d v : A) → i < length xs → test (get_or xs i d) ≡ true → test v ≡ false
    → count_by test (set xs i v) < count_by test xs
count_falls test xs i d v within was is =
    let before : cond (test (get_or xs i d)) 1 0 ≡ 1 = ap {B = ℕ} (λ b. cond b 1 0) was in
    let after : cond (test v) 1 0 ≡ 0 = ap {B = ℕ} (λ b. cond b 1 0) is in
    omega (arith, sum_by-set (λ x. cond (test x) 1 0) xs i v d within, before, after)

-- an instance that is filed early is there
pub stale_there : (o : Option Instance) → is_stale o ≡ true → (was : Instance) × (o ≡ Some was)
stale_there None stale = absurd (true≢false (sym stale))
stale_there (Some was) stale = (was, refl)

pub some_there : (o : Option Instance) → is_some o ≡ true → (was : Instance) × (o ≡ Some was)
some_there None some = absurd (true≢false (sym some))
some_there (Some was) some = (was, refl)

-- there are fewer early filings after one was put right
pub stale_falls : (old new : Conns) (slot : ℕ) (was : Instance) → get old.slots slot ≡ Some was → is_stale (get old.slots slot) ≡ true → Files old new slot was
    → count_by is_stale new.slots.slots < count_by is_stale old.slots.slots
stale_falls old new slot was there stale files =
    let falls = count_falls is_stale old.slots.slots slot None (Some files.is) (slot_within old.slots slot was there) stale
    (subst (λ (m : Moment). int_lt files.is.filed.0 m.0 ≡ false) (files.filed ∙ sym (removal_of-same was files.is files.same)) (int_lt-irrefl files.is.filed.0)) in
    subst (λ (l : List (Option Instance)). count_by is_stale l < count_by is_stale old.slots.slots) (sym (ap (λ (s : Slab Instance). s.slots) files.written)) falls

one : {A : Type 0} {o : Option A} (a b : A) → o ≡ Some a → o ≡ Some b → b ≡ a
one a b first second = cc

-- a number finds its instance
pub number_there : (conns : Conns) (number slot : ℕ) → IsTable conns → tree.get nat_cmp conns.numbers number ≡ Some slot → is_some (get conns.slots slot) ≡ true
number_there conns number slot table found = by_instance (get conns.slots slot) (table.numbers.there number slot found)
  where
    by_instance : (o : Option Instance) → option_map (λ (i : Instance). i.number) o ≡ Some number → is_some o ≡ true
    by_instance None some = absurd (not_both number refl some)
    by_instance (Some i) some = refl

-- the number of a live instance finds its slot
found_number : (conns : Conns) (told : List Told) (key : Key) → StandsFor conns told → (found : Found conns told key) → tree.get nat_cmp conns.numbers found.instance.number ≡ Some found.slot
found_number conns told key stands found = stands.table.numbers.found found.slot found.instance.number (ap (option_map (λ (i : Instance). i.number)) found.there)

-- instances of one number are one
pub same_slot : (conns : Conns) (told : List Told) (key : Key) (slot : ℕ) (was : Instance) → StandsFor conns told → get conns.slots slot ≡ Some was → (found : Found conns told key)
    → number_of key told ≡ was.number → slot ≡ found.slot
same_slot conns told key slot was stands there found number =
    one found.slot slot (found_number conns told key stands found)
    (ap (tree.get nat_cmp conns.numbers) (sym found.latest.number_is ∙ number) ∙ stands.table.numbers.found slot was.number (ap (option_map (λ (i : Instance). i.number)) there))

-- no number is found where no instance is live
pub none_live : (conns : Conns) (told : List Told) → StandsFor conns told → ((number slot : ℕ) → tree.get nat_cmp conns.numbers number ≡ Some slot → ⊥) → NoneLive told
none_live conns told stands none key = ⊎_elim
    (λ live. let found = found_live conns told key stands live in absurd (none found.instance.number found.slot (found_number conns told key stands found)))
    (λ dead. dead)
    (cases_Bool (is_live (latest key told)))

-- the instance of least number is removed at the end
pub is_ending : (conns : Conns) (told : List Told) (slot : ℕ) (was : Instance) (last : Moment) (removed : Removed) → StandsFor conns told → IsLeast conns slot
    → get conns.slots slot ≡ Some was → removed ≡ record { conn = record { 0 = was.number }; at = last; facts = facts_in was } → IsEnding told last removed
unfolding found_in_slot
is_ending conns told slot was last removed stands least there is =
    subst (IsEnding told last) (sym is)
    (let found = found_in_slot conns told slot was stands there in
    record {
      key = was.key;
      live = record { live = found.latest.live; number_is = found.latest.number_is };
      least = λ other_key other live.
          let other_found = found_live conns told other_key stands live.live in
          let no_less = least.least other_found.instance.number other_found.slot (found_number conns told other_key stands other_found) in
          let mine : was.number ≡ least.number = one least.number was.number (sym (ap (option_map (λ (i : Instance). i.number)) refl) ∙ stands.table.numbers.there least.number slot least.found) (ap (option_map (λ (i : Instance). i.number)) there) in
          omega (arith, no_less, mine, other_found.latest.number_is, live.number_is);
      at_last = refl;
      facts = facts_in-is was (latest was.key told) found.latest.holds;
    })

-- the live instance of that number was removed at the end
pub ended_live : (old new : Conns) (told : List Told) (key : Key) (slot : ℕ) (was : Instance) (last : Moment) → StandsFor old told → get old.slots slot ≡ Some was
    → Removes old new slot was → IsLive told key was.number → StandsFor new (told ++ Ending key last ∷ [])
ended_live old new told key slot was last stands there removes live =
    let found = found_live old told key stands live.live in
    let at = same_slot old told key slot was stands there found live.number_is in
    let was_is = one found.instance was found.there (subst (λ s. get old.slots s ≡ Some was) at there) in
    stands_ended old new told key last stands found (subst (λ s. Removes old new s found.instance) at (subst (Removes old new slot) was_is removes))

-- the live instance of that number was removed at its removal moment
pub removed_live : (old new : Conns) (told : List Told) (key : Key) (slot : ℕ) (was : Instance) (at : Moment) → StandsFor old told → get old.slots slot ≡ Some was
    → Removes old new slot was → at ≡ removal_of was → IsLive told key was.number → StandsFor new (told ++ Removal key at ∷ [])
removed_live old new told key slot was at stands there removes is live =
    let found = found_live old told key stands live.live in
    let here = same_slot old told key slot was stands there found live.number_is in
    let was_is = one found.instance was found.there (subst (λ s. get old.slots s ≡ Some was) here there) in
    stands_removed_due old new told key at stands found (subst (λ s. Removes old new s found.instance) here (subst (Removes old new slot) was_is removes)) (is ∙ ap removal_of was_is)
