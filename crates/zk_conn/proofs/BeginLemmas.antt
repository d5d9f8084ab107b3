-- A packet that begins an instance.
use Rattle.std.proofs.Common.{◌≡◌, ℕ, ◌+◌, ◌<◌, ◌≤◌, ◌^◌, pos, ◌≤ℤ◌, Bool, true, false, cond, List, [], ◌∷◌, ◌++◌, length, fold, Option, None, Some, is_some, IsSome, nat_eq, refl, sym, ap, subst, ◌∙◌, arith, ⊎_elim, length-append}
use Rattle.std.specs.BTreeMap as tree
use Rattle.std.specs.Cmp.{unsigned_ties}
use Rattle.std.specs.Option.{option_map, option_and_then}
use Rattle.std.specs.Ordering.{nat_cmp}
use Rattle.std.specs.Prelude.{int_le}
use Rattle.std.proofs.lemmas.Bool.{cases_Bool, eq-eqb, eqb-true}
use Rattle.slab.specs.Slab.{get}
use Rattle.zk_base.specs.declared.time.Moment.{Moment}
use Rattle.zk_conn.specs.declared.conns.Conns.{Conns}
use Rattle.zk_conn.specs.declared.conns.Touched.{Touched}
use Rattle.zk_conn.specs.declared.instance.Instance.{Instance}
use Rattle.zk_conn.specs.declared.key.Key.{Key}
use Rattle.zk_conn.specs.declared.view.L4View.{L4View}
use Rattle.zk_conn.specs.Histories.{latest, begun, number_of, last_place, place_after, is_live, comes_late, touched_by, touched_in, touched_of}
use Rattle.zk_conn.specs.Holds.{Has, Holds, Follows, removal_of, touched_between}
use Rattle.zk_conn.specs.Instance.{Opening, opening, originator}
use Rattle.zk_conn.specs.Segment.{key_of, same_key}
use Rattle.zk_conn.specs.Standing.{StandsFor, IsGone, Keeps}
use Rattle.zk_conn.specs.Table.{has_number, slot_in, kept, slot_of, slot_numbered, instance_at, key_at, number_at, HasLive, IsTable, Inserts, SameTable}
use Rattle.zk_conn.specs.Told.{Told, Packet}
use Rattle.zk_conn.proofs.HoldsLemmas.{has-append}
use Rattle.zk_conn.proofs.KeyLemmas.{is_eq-key_cmp, same_key_is, same_key-refl}
use Rattle.zk_conn.proofs.MatchLemmas.{matches_more}
use Rattle.zk_conn.proofs.MomentLemmas.{int_le-refl}
use Rattle.zk_conn.proofs.PacketLemmas.{touched_between-is}
use Rattle.zk_conn.proofs.StandingLemmas.{instance_at-slot, keeps_other, matches_same}
use Rattle.zk_conn.proofs.ToldLemmas.{latest-append, begun-append, number_of-begun}

not_both : {A : Type 0} {o : Option A} (a : A) → o ≡ None → o ≡ Some a → ⊥
not_both a none some = cc

-- a key that finds no slot of an instance finds none
pub key_absent : (conns : Conns) (key : Key) → IsTable conns → slot_of conns key ≡ None → slot_in conns.keys key ≡ None
unfolding slot_of
key_absent conns key table is = by_slot (slot_in conns.keys key) refl
  where
    by_slot : (o : Option ℕ) → slot_in conns.keys key ≡ o → o ≡ None
    by_slot None none = refl
    by_slot (Some s) some = by_instance (get conns.slots s) refl
      where
        by_instance : (o : Option Instance) → get conns.slots s ≡ o → Some s ≡ None
        by_instance None none = absurd (not_both key refl (sym (ap (option_map (λ (i : Instance). i.key)) none) ∙ table.keys.there key s some))
        by_instance (Some instance) there = absurd (not_both s is (ap (kept conns.slots) some ∙ ap (λ x. cond (is_some x) (Some s) None) there))

placed-le : (key : Key) (seen : ℕ × ℕ) (keys : List Key) → seen.1 ≤ seen.0 → (fold (place_after key) seen keys).1 ≤ seen.0 + length keys
placed-le key seen [] within = omega (arith, within)
placed-le key seen (k ∷ keys) within =
    let rest = placed-le key (place_after key seen k) keys (by_cases (same_key k key)) in omega (arith, rest)
  where
    by_cases : (b : Bool) → cond b (seen.0 + 1) seen.1 ≤ seen.0 + 1
    by_cases true = omega arith
    by_cases false = omega (arith, within)

-- a place is one of the list
last_place-le : (key : Key) (keys : List Key) → last_place key keys ≤ length keys
last_place-le key keys = let placed = placed-le key (0, 0) keys (omega arith) in omega (arith, placed)

-- no instance has a number that is still to come
pub number_absent : (conns : Conns) (told : List Told) (number : ℕ) → StandsFor conns told → conns.begun < number → tree.get nat_cmp conns.numbers number ≡ None
unfolding instance_at
number_absent conns told number stands above = by_slot (tree.get nat_cmp conns.numbers number) refl
  where
    one_number : (n : ℕ) (i : Instance) → option_map (λ (j : Instance). j.number) (Some i) ≡ Some n → i.number ≡ n
    one_number n i same = cc

    by_slot : (o : Option ℕ) → tree.get nat_cmp conns.numbers number ≡ o → o ≡ None
    by_slot None none = refl
    by_slot (Some s) some = by_instance (get conns.slots s) refl
      where
        by_instance : (o : Option Instance) → get conns.slots s ≡ o → Some s ≡ None
        by_instance None none = absurd (not_both number refl (sym (ap (option_map (λ (i : Instance). i.number)) none) ∙ stands.table.numbers.there number s some))
        by_instance (Some instance) there =
            let is = subst (Keeps told instance.key) (instance_at-slot conns s instance stands.table there) (stands.keeps instance.key) in
            let same = one_number number instance (sym (ap (option_map (λ (i : Instance). i.number)) there) ∙ stands.table.numbers.there number s some) in
            absurd (omega (arith, last_place-le instance.key (begun told), is.number_is, same, above, stands.begun_is))

-- the table with one instance more is in order
table_inserted : (old new : Conns) (instance : Instance) → slot_in old.keys instance.key ≡ None → tree.get nat_cmp old.numbers instance.number ≡ None
    → Inserts old new instance → IsTable old → IsTable new
table_inserted old new instance key_new number_new inserts table = record {
  keys = matches_more same_key same_key_is same_key-refl (slot_in old.keys) (slot_in new.keys) (key_at old.slots) (key_at new.slots) instance.key inserts.slot table.keys
      (λ other apart. inserts.other_keys other (is_eq-key_cmp instance.key other ∙ apart)) (λ other apart. ap (option_map (λ (i : Instance). i.key)) (inserts.others other apart))
      key_new (ap (option_map (λ (i : Instance). i.key)) inserts.vacant) inserts.key_found (ap (option_map (λ (i : Instance). i.key)) inserts.there);
  numbers = matches_more nat_eq (λ a b is. eqb-true a b is) (λ a. eq-eqb a a refl) (tree.get nat_cmp old.numbers) (tree.get nat_cmp new.numbers) (number_at old.slots) (number_at new.slots) instance.number inserts.slot table.numbers
      (λ other apart. inserts.other_numbers other (sym (unsigned_ties instance.number other) ∙ apart)) (λ other apart. ap (option_map (λ (i : Instance). i.number)) (inserts.others other apart))
      number_new (ap (option_map (λ (i : Instance). i.number)) inserts.vacant) inserts.number_found (ap (option_map (λ (i : Instance). i.number)) inserts.there);
  index = inserts.index table.index;
}

-- another key's instance is as before
instance_other : (old new : Conns) (instance : Instance) (key : Key) → IsTable old → Inserts old new instance → same_key instance.key key ≡ false
    → instance_at new key ≡ instance_at old key
unfolding instance_at
instance_other old new instance key table inserts other =
    ap (option_and_then (get new.slots)) (inserts.other_keys key (is_eq-key_cmp instance.key key ∙ other)) ∙ by_slot (slot_in old.keys key) refl
  where
    by_slot : (o : Option ℕ) → slot_in old.keys key ≡ o → option_and_then (get new.slots) o ≡ option_and_then (get old.slots) o
    by_slot None none = refl
    by_slot (Some s) some = inserts.others s
        (λ here. not_both key (ap (key_at old.slots) here ∙ ap (option_map (λ (i : Instance). i.key)) inserts.vacant) (table.keys.there key s some))

-- a key without a live instance
pub gone_key : (conns : Conns) (told : List Told) (key : Key) → StandsFor conns told → slot_of conns key ≡ None → IsGone told key
unfolding instance_at
gone_key conns told key stands is =
    subst (Keeps told key) (ap (option_and_then (get conns.slots)) (key_absent conns key stands.table is)) (stands.keeps key)

-- an instance that is put into the table is found by its number
pub live_inserted : (old mid : Conns) (instance : Instance) (number : ℕ) → Inserts old mid instance → HasLive (record mid { begun = number }) (record { 0 = instance.number })
unfolding slot_numbered
live_inserted old mid instance number inserts = by_test (has_number (get mid.slots mid.recent) instance.number)
  where
    by_test : (b : Bool) → IsSome (cond b (Some mid.recent) (kept mid.slots (tree.get nat_cmp mid.numbers instance.number)))
    by_test true = refl
    by_test false = subst (λ o. IsSome (kept mid.slots o)) (sym inserts.number_found)
        (subst (λ p. IsSome (cond (is_some p) (Some inserts.slot) None)) (sym inserts.there) refl)

-- a packet that begins an instance
pub stands_begun : (old mid : Conns) (told : List Told) (t : Moment) (p : L4View) (instance : Instance) (number : ℕ) → StandsFor old told → comes_late (latest (key_of p) told) t ≡ true
    → slot_of old (key_of p) ≡ None → Inserts old mid instance → Holds instance (Packet t p ∷ []) → instance.key ≡ key_of p → instance.last ≡ t → instance.number ≡ number
    → number ≡ old.begun + 1 → instance.filed ≡ removal_of instance → pos 0 ≤ℤ t.0 → t.0 ≤ℤ pos (2 ^ 62)
    → StandsFor (record mid { begun = number }) (told ++ Packet t p ∷ [])
unfolding instance_at
stands_begun old mid told t p instance number stands comes absent inserts holds of_key at_t numbered next filed early in_time = record {
  table = record { keys = table.keys; numbers = table.numbers; index = table.index };
  begun_is = next ∙ ap (λ n. n + 1) stands.begun_is ∙ sym (ap length (begun-append told (Packet t p) ∙ ap (λ l. begun told ++ l) begins) ∙ length-append (begun told) (key_of p ∷ []));
  keeps = λ other. ⊎_elim
      (λ same. subst (λ k. Keeps (told ++ Packet t p ∷ []) k (instance_at new k)) (same_key_is (key_of p) other same) here)
      (λ apart. subst (Keeps (told ++ Packet t p ∷ []) other)
      (sym (instance_other old mid instance other stands.table inserts (ap (λ k. same_key k other) of_key ∙ apart)))
      (keeps_other told (Packet t p) other (instance_at old other) apart (stands.keeps other)))
      (cases_Bool (same_key (key_of p) other));
}
  where
    new : Conns
    new = record mid { begun = number }

    table : IsTable mid
    table = table_inserted old mid instance (ap (slot_in old.keys) of_key ∙ key_absent old (key_of p) stands.table absent)
        (number_absent old told instance.number stands (omega (arith, numbered, next))) inserts stands.table

    begins : cond (comes_late (latest (key_of p) told) t) (key_of p ∷ []) [] ≡ key_of p ∷ []
    begins = ap (λ b. cond b (key_of p ∷ []) []) comes

    events : latest (key_of p) (told ++ Packet t p ∷ []) ≡ Packet t p ∷ []
    events = latest-append (key_of p) told (Packet t p) true (same_key-refl (key_of p))
        ∙ ap (λ b. cond b (Packet t p ∷ []) (latest (key_of p) told ++ Packet t p ∷ [])) comes

    here : Keeps (told ++ Packet t p ∷ []) (key_of p) (instance_at new (key_of p))
    here = subst (Keeps (told ++ Packet t p ∷ []) (key_of p))
        (sym (ap (instance_at mid) (sym of_key) ∙ instance_at-slot mid inserts.slot instance table inserts.there))
        (record {
          holds = subst (Holds instance) (sym events) holds;
          live = ap is_live events;
          number_is = number_of-begun (key_of p) told (Packet t p) begins (same_key-refl (key_of p)) ∙ sym (numbered ∙ next ∙ ap (λ n. n + 1) stands.begun_is);
          early = subst (λ (m : Moment). pos 0 ≤ℤ m.0) (sym at_t) early;
          in_time = subst (λ (m : Moment). m.0 ≤ℤ pos (2 ^ 62)) (sym at_t) in_time;
          filed = subst (λ (m : Moment). int_le m.0 (removal_of instance).0 ≡ true) (sym filed) (int_le-refl (removal_of instance).0);
        })

-- what a packet does that begins an instance
pub touched_begun : (told : List Told) (t : Moment) (p : L4View) (old new : Instance) (touched : Touched) → comes_late (latest (key_of p) told) t ≡ true
    → Has (record { moment = t; packet = p }) old [] → Follows old new (Packet t p) → new.number ≡ length (begun told) + 1 → touched ≡ touched_between old new true p
    → touched ≡ touched_of told t p
touched_begun told t p old new touched comes has follows number did =
    let first : Opening = record { moment = t; packet = p } in
    did
    ∙ touched_between-is first old new true p [] (Packet t p ∷ []) has (has-append first old new [] (Packet t p) has follows)
    ∙ ap (λ n. touched_by (originator p) n true p [] (Packet t p ∷ []))
    (number ∙ sym (number_of-begun (key_of p) told (Packet t p) (ap (λ b. cond b (key_of p ∷ []) []) comes) (same_key-refl (key_of p))))
    ∙ sym (ap (λ b. touched_in (number_of (key_of p) (told ++ Packet t p ∷ [])) (latest (key_of p) told) t p (opening (cond b [] (latest (key_of p) told)))) comes)

-- a table that finds the same stands for the same
pub stands_same : (old new : Conns) (told : List Told) → SameTable old new → StandsFor old told → StandsFor new told
unfolding instance_at
stands_same old new told same stands = record {
  table = record {
    keys = matches_same (slot_in old.keys) (slot_in new.keys) (key_at old.slots) (key_at new.slots) same.keys_are
        (λ slot. ap (option_map (λ (i : Instance). i.key)) (same.slots_are slot)) stands.table.keys;
    numbers = matches_same (tree.get nat_cmp old.numbers) (tree.get nat_cmp new.numbers) (number_at old.slots) (number_at new.slots) same.numbers_are
        (λ slot. ap (option_map (λ (i : Instance). i.number)) (same.slots_are slot)) stands.table.numbers;
    index = same.index stands.table.index;
  };
  begun_is = same.begun_is ∙ stands.begun_is;
  keeps = λ key. subst (Keeps told key) (sym (ap (option_and_then (get new.slots)) (same.keys_are key) ∙ by_slot (slot_in old.keys key))) (stands.keeps key);
}
  where
    by_slot : (o : Option ℕ) → option_and_then (get new.slots) o ≡ option_and_then (get old.slots) o
    by_slot None = refl
    by_slot (Some s) = same.slots_are s
