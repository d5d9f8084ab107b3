-- The instance that is filed first, and the one that is removed first.
use Rattle.std.proofs.Common.{◌≡◌, ℕ, ◌<◌, ℤ, Bool, true, false, cond, ◌&&◌, ◌+◌, List, length, get_or, Option, None, Some, is_some, refl, sym, ap, subst, ◌∙◌, arith, ⊎_elim}
use Rattle.std.specs.Option.{option_map}
use Rattle.std.specs.Prelude.{int_le}
use Rattle.std.proofs.lemmas.Bool.{cases_Bool, cases_eq, cases_lt}
use Rattle.slab.specs.Slab.{Slab, get}
use Rattle.zk_base.specs.declared.time.Moment.{Moment}
use Rattle.zk_conn.specs.declared.conns.Conns.{Conns}
use Rattle.zk_conn.specs.declared.conns.Removed.{Removed}
use Rattle.zk_conn.specs.declared.instance.Instance.{Instance}
use Rattle.zk_conn.specs.declared.key.Key.{Key}
use Rattle.zk_conn.specs.declared.removals.Filing.{Filing}
use Rattle.zk_conn.specs.Histories.{latest, is_live, NoneLive, is_earlier, IsDue, IsFirstDue, IsRemoval, NoneDue}
use Rattle.zk_conn.specs.Holds.{facts_in, removal_of}
use Rattle.zk_conn.specs.Removals.{earlier, filed_in, filing_at, filing_of, removal_at, AtMost}
use Rattle.zk_conn.specs.Standing.{StandsFor}
use Rattle.zk_conn.specs.Table.{first_by, slot_by, is_stale}
use Rattle.zk_conn.specs.Told.{Told}
use Rattle.zk_conn.proofs.HoldsLemmas.{facts_in-is}
use Rattle.zk_conn.proofs.InstanceLemmas.{removal_moment-is}
use Rattle.zk_conn.proofs.MomentLemmas.{behind, behind_later, is_earlier-later, int_le-antisym}
use Rattle.zk_conn.proofs.RemovalLemmas.{at_most-trans, earlier-left, earlier-right, earlier-among, top-least, top-filed}
use Rattle.zk_conn.proofs.RemoveLemmas.{found_in_slot}
use Rattle.zk_conn.proofs.StandingLemmas.{Found, found_live}

one : {A : Type 0} {o : Option A} (a b : A) → o ≡ Some a → o ≡ Some b → b ≡ a
one a b first second = cc

not_both : {A : Type 0} {o : Option A} (a : A) → o ≡ None → o ≡ Some a → ⊥
not_both a none some = cc

-- the filing of a live instance
filed_live : (conns : Conns) (told : List Told) (key : Key) → StandsFor conns told → (found : Found conns told key) → filed_in conns.removals found.slot ≡ Some (filing_of found.slot found.instance)
filed_live conns told key stands found = stands.table.index.filed found.slot ∙ ap (option_map (filing_of found.slot)) found.there

-- the removal moment of a live instance
due_at : (conns : Conns) (told : List Told) (key : Key) (number : ℕ) (at : Moment) → (found : Found conns told key) → IsDue told key number at → at ≡ removal_of found.instance
due_at conns told key number at found due =
    one (removal_of found.instance) at (removal_moment-is found.instance (latest key told) found.latest.holds found.latest.early found.latest.in_time) due.at_is

filed_is_there : (slots : Slab Instance) (g : Filing) → filing_at slots g.slot ≡ Some g → is_some (get slots g.slot) ≡ true
filed_is_there slots g filed = by_instance (get slots g.slot) filed
  where
    by_instance : (o : Option Instance) → option_map (filing_of g.slot) o ≡ Some g → is_some o ≡ true
    by_instance None is = absurd (not_both g refl is)
    by_instance (Some i) is = refl

-- where no instance is filed by a moment, none is due by it
pub none_due : (conns : Conns) (told : List Told) (t : Moment) → StandsFor conns told → first_by conns t ≡ None → NoneDue told t
unfolding first_by
none_due conns told t stands none key number at due =
    let found = found_live conns told key stands due.live.live in
    let top = top-least conns.removals.filings.items conns.removals.firsts.items stands.table.index.index found.slot (filing_of found.slot found.instance) (filed_live conns told key stands found) in
    let there = filed_is_there conns.slots top.0 (top-filed conns.slots conns.removals stands.table.index top.0 top.1) in
    let late : int_le top.0.at.0 t.0 ≡ false =
    not_by (int_le top.0.at.0 t.0) (is_some (get conns.slots top.0.slot)) top.0.slot there (sym (ap (slot_by conns.slots t) top.1) ∙ none) in
    subst (λ (m : Moment). int_le m.0 t.0 ≡ false) (sym (due_at conns told key number at found due))
    (behind_later found.instance.filed.0 (removal_of found.instance).0 t.0 found.latest.filed
    (behind found.instance.filed.0 top.0.at.0 t.0 found.instance.number top.0.number top.2 late))
  where
    not_by : (b there : Bool) (slot : ℕ) → there ≡ true → cond (b && there) (Some slot) None ≡ None → b ≡ false
    not_by true there slot is_there gone = absurd (not_both slot gone (ap (λ c. cond c (Some slot) None) is_there))
    not_by false there slot is_there gone = refl

-- the slot that is filed first, by a moment
record FirstFiled (conns : Conns) (t : Moment) (slot : ℕ) : Type 0 where
  top : Filing
  is_top : get_or conns.removals.firsts.items 0 None ≡ Some top
  by : int_le top.at.0 t.0 ≡ true
  of_slot : top.slot ≡ slot

first_filed : (conns : Conns) (t : Moment) (slot : ℕ) → first_by conns t ≡ Some slot → FirstFiled conns t slot
unfolding first_by
first_filed conns t slot is = by_top (get_or conns.removals.firsts.items 0 None) refl
  where
    by_test : (g : Filing) (b there : Bool) → cond (b && there) (Some g.slot) None ≡ Some slot → (b ≡ true) × (g.slot ≡ slot)
    by_test g true true some = (refl, cc)
    by_test g true false some = absurd (not_both slot refl some)
    by_test g false there some = absurd (not_both slot refl some)

    by_top : (o : Option Filing) → get_or conns.removals.firsts.items 0 None ≡ o → FirstFiled conns t slot
    by_top None none = absurd (not_both slot refl (sym (ap (slot_by conns.slots t) none) ∙ is))
    by_top (Some g) some =
        let test = by_test g (int_le g.at.0 t.0) (is_some (get conns.slots g.slot)) (sym (ap (slot_by conns.slots t) some) ∙ is) in
        record { top = g; is_top = some; by = test.0; of_slot = test.1 }

-- the instance that is filed first by a moment, at its removal moment, is the one that is removed first
pub is_removal : (conns : Conns) (told : List Told) (t : Moment) (slot : ℕ) (was : Instance) (removed : Removed) → StandsFor conns told → first_by conns t ≡ Some slot
    → is_stale (get conns.slots slot) ≡ false → get conns.slots slot ≡ Some was
    → removed ≡ record { conn = record { 0 = was.number }; at = removal_of was; facts = facts_in was } → IsRemoval told t removed
unfolding found_in_slot
is_removal conns told t slot was removed stands first fresh there is =
    subst (IsRemoval told t) (sym is)
    (let found = found_in_slot conns told slot was stands there in
    let filed = first_filed conns t slot first in
    let top_is : filing_of slot was ≡ filed.top =
    one filed.top (filing_of slot was) (ap (filing_at conns.slots) (sym filed.of_slot) ∙ top-filed conns.slots conns.removals stands.table.index filed.top filed.is_top)
    (ap (option_map (filing_of slot)) there) in
    let at : was.filed.0 ≡ (removal_of was).0 =
    int_le-antisym was.filed.0 (removal_of was).0 found.latest.filed (sym (ap is_stale there) ∙ fresh) in
    let top_at : filed.top.at.0 ≡ (removal_of was).0 = ap (λ (f : Filing). f.at.0) (sym top_is) ∙ at in
    record {
      key = was.key;
      first = record {
        due = record {
          live = record { live = found.latest.live; number_is = found.latest.number_is };
          at_is = removal_moment-is was (latest was.key told) found.latest.holds found.latest.early found.latest.in_time;
        };
        first = λ other_key other other_at due.
            let other_found = found_live conns told other_key stands due.live.live in
            let before = top-least conns.removals.filings.items conns.removals.firsts.items stands.table.index.index other_found.slot (filing_of other_found.slot other_found.instance) (filed_live conns told other_key stands other_found) in
            let no_earlier = is_earlier-later other_found.instance.filed.0 (removal_of other_found.instance).0 before.0.at.0 other_found.instance.number before.0.number other_found.latest.filed before.2 in
            let same_top = one filed.top before.0 filed.is_top before.1 in
            subst (λ (m : Moment). is_earlier m other (removal_of was) was.number ≡ false) (sym (due_at conns told other_key other other_at other_found due))
            (subst (λ n. is_earlier (removal_of other_found.instance) n (removal_of was) was.number ≡ false) (sym other_found.latest.number_is ∙ due.live.number_is)
            (subst (λ (f : Filing). is_earlier (removal_of other_found.instance) other_found.instance.number (removal_of was) f.number ≡ false) (sym top_is)
            (subst (λ (z : ℤ). is_earlier (removal_of other_found.instance) other_found.instance.number (record { 0 = z }) filed.top.number ≡ false) top_at
            (subst (λ (f : Filing). is_earlier (removal_of other_found.instance) other_found.instance.number f.at f.number ≡ false) same_top no_earlier))));
      };
      due = subst (λ (z : ℤ). int_le z t.0 ≡ true) top_at filed.by;
      facts = facts_in-is was (latest was.key told) found.latest.holds;
    })

-- among the first slots, the removal that stands first
pub record IsEarliest (slots : Slab Instance) (n : ℕ) (first : Option Filing) : Type 0 where
  pub least : (slot : ℕ) → slot < n → AtMost first (removal_at slots slot)
  pub among : (f : Filing) → first ≡ Some f → (slot : ℕ) × (removal_at slots slot ≡ Some f)

pub earliest_none : (slots : Slab Instance) → IsEarliest slots 0 None
earliest_none slots = record {
  least = λ slot within. absurd (omega (arith, within));
  among = λ f is. cc;
}

pub earliest_more : (slots : Slab Instance) (n : ℕ) (first : Option Filing) → IsEarliest slots n first → IsEarliest slots (n + 1) (earlier first (removal_at slots n))
earliest_more slots n first is = record {
  least = λ slot within. ⊎_elim
      (λ last. subst (λ s. AtMost (earlier first (removal_at slots n)) (removal_at slots s)) (sym last) (earlier-right first (removal_at slots n)))
      (λ before. at_most-trans (earlier first (removal_at slots n)) first (removal_at slots slot) (earlier-left first (removal_at slots n)) (is.least slot (omega (arith, within, before))))
      (cases_eq slot n);
  among = λ f found. ⊎_elim (λ old. is.among f old) (λ new. (n, new)) (earlier-among first (removal_at slots n) f found);
}

-- a live instance's removal
removal_live : (conns : Conns) (told : List Told) (key : Key) (found : Found conns told key)
    → removal_at conns.slots found.slot ≡ Some (record { at = removal_of found.instance; number = found.instance.number; slot = found.slot })
removal_live conns told key found = ap (option_map (λ (i : Instance). let f : Filing = record { at = removal_of i; number = i.number; slot = found.slot } in f)) found.there

-- a live instance's slot is in the index
slot_in_index : (conns : Conns) (told : List Told) (key : Key) → StandsFor conns told → (found : Found conns told key) → found.slot < length conns.removals.firsts.items
slot_in_index conns told key stands found = ⊎_elim
    (λ within. within)
    (λ past. absurd (not_both (filing_of found.slot found.instance) (stands.table.index.index.beyond found.slot past) (filed_live conns told key stands found)))
    (cases_lt found.slot (length conns.removals.firsts.items))

-- where no slot has a removal, no instance is live
pub none_first : (conns : Conns) (told : List Told) → StandsFor conns told → IsEarliest conns.slots (length conns.removals.firsts.items) None → NoneLive told
none_first conns told stands is key = ⊎_elim
    (λ live.
    let found = found_live conns told key stands live in
    let some = is.least found.slot (slot_in_index conns told key stands found) _ (removal_live conns told key found) in
    absurd (not_both some.0 refl some.1))
    (λ dead. dead)
    (cases_Bool (is_live (latest key told)))

-- the removal that stands first is that of a live instance
pub is_first : (conns : Conns) (told : List Told) (f : Filing) → StandsFor conns told → IsEarliest conns.slots (length conns.removals.firsts.items) (Some f)
    → (key : Key) × IsFirstDue told key f.number f.at
unfolding found_in_slot
is_first conns told f stands is = by_instance (get conns.slots (is.among f refl).0) refl (is.among f refl).1
  where
    mine : ℕ → Instance → Filing
    mine slot i = record { at = removal_of i; number = i.number; slot = slot }

    due_of : (slot : ℕ) (i : Instance) → get conns.slots slot ≡ Some i → IsDue told i.key i.number (removal_of i)
    due_of slot i there =
        let found = found_in_slot conns told slot i stands there in
        record {
          live = record { live = found.latest.live; number_is = found.latest.number_is };
          at_is = removal_moment-is i (latest i.key told) found.latest.holds found.latest.early found.latest.in_time;
        }

    by_instance : (o : Option Instance) → get conns.slots (is.among f refl).0 ≡ o
        → option_map (λ (i : Instance). let g : Filing = record { at = removal_of i; number = i.number; slot = (is.among f refl).0 } in g) o ≡ Some f
        → (key : Key) × IsFirstDue told key f.number f.at
    by_instance None none found = absurd (not_both f refl found)
    by_instance (Some i) there found = (
      i.key,
      subst (λ (g : Filing). IsFirstDue told i.key g.number g.at) (one f (mine (is.among f refl).0 i) found refl)
          (record {
            due = due_of (is.among f refl).0 i there;
            first = λ other_key other other_at due.
                let other_found = found_live conns told other_key stands due.live.live in
                let before = is.least other_found.slot (slot_in_index conns told other_key stands other_found) _ (removal_live conns told other_key other_found) in
                let top_is : before.0 ≡ mine (is.among f refl).0 i = one (mine (is.among f refl).0 i) before.0 (sym found) before.1 in
                subst (λ (m : Moment). is_earlier m other (removal_of i) i.number ≡ false) (sym (due_at conns told other_key other other_at other_found due))
                (subst (λ n. is_earlier (removal_of other_found.instance) n (removal_of i) i.number ≡ false) (sym other_found.latest.number_is ∙ due.live.number_is)
                (subst (λ (g : Filing). is_earlier (removal_of other_found.instance) other_found.instance.number g.at g.number ≡ false) top_is before.2));
          }),
    )
