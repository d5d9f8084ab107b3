-- What a packet does, and the instance that it begins.
use Rattle.std.proofs.Common.{◌≡◌, ℕ, ◌^◌, pos, ◌≤ℤ◌, Bool, false, cond, not, ◌&&◌, ◌||◌, List, [], ◌∷◌, ◌++◌, Option, None, Some, is_some, refl, sym, ap, subst, ◌∙◌}
use Rattle.std.specs.Option.{option_map, option_and_then}
use Rattle.slab.specs.Slab.{get}
use Rattle.zk_base.specs.declared.network.Side.{Side}
use Rattle.zk_base.specs.declared.network.Side.TheVariants.{Orig, Resp}
use Rattle.zk_base.specs.declared.time.Moment.{Moment}
use Rattle.zk_conn.specs.declared.conns.Conns.{Conns}
use Rattle.zk_conn.specs.declared.conns.Touched.{Touched}
use Rattle.zk_conn.specs.declared.half.Half.{Half}
use Rattle.zk_conn.specs.declared.instance.Instance.{Instance}
use Rattle.zk_conn.specs.declared.key.Endpoint.{Endpoint}
use Rattle.zk_conn.specs.declared.key.Key.{Key}
use Rattle.zk_conn.specs.declared.view.L4View.{L4View}
use Rattle.zk_conn.specs.Half.{half_of, seen}
use Rattle.zk_conn.specs.Histories.{latest, number_of, comes_late, MayFollow, touched_by, touched_in, touched_of, is_past}
use Rattle.zk_conn.specs.Holds.{Has, end_in, removal_of, touched_between}
use Rattle.zk_conn.specs.Instance.{Opening, opening, originator, side_of, end_of, is_established, is_reset, side_facts}
use Rattle.zk_conn.specs.Segment.{key_of}
use Rattle.zk_conn.specs.Standing.{StandsFor, Keeps}
use Rattle.zk_conn.specs.State.{are_established, is_fin, is_rst}
use Rattle.zk_conn.specs.Table.{slot_in, kept, slot_of, instance_at, HasLive, Tells}
use Rattle.zk_conn.specs.Told.{Told, Packet}
use Rattle.zk_conn.proofs.HoldsLemmas.{has-append, seen-is}
use Rattle.zk_conn.proofs.InstanceLemmas.{removal_moment-is}
use Rattle.zk_conn.proofs.StandingLemmas.{Found, table_changed, live_at-slot, stands_told}
use Rattle.zk_conn.proofs.ToldLemmas.{number_of-quiet}

one : {A : Type 0} {o : Option A} (a b : A) → o ≡ Some a → o ≡ Some b → b ≡ a
one a b first second = cc

not_both : {A : Type 0} {o : Option A} (a : A) → o ≡ None → o ≡ Some a → ⊥
not_both a none some = cc

-- what a packet did between two instances is what it did between the connections
pub touched_between-is : (first : Opening) (old new : Instance) (opened : Bool) (p : L4View) (before after : List Told) → Has first old before → Has first new after
    → touched_between old new opened p ≡ touched_by (originator first.packet) new.number opened p before after
touched_between-is first old new opened p before after had has =
    ap (λ o. record mine { side = side_of o p; ended = is_fin (end_in new (side_of o p)) && not (is_fin (end_in old (side_of o p))) }) had.originator_is
    ∙ ap (λ b. record to { established = b && not (are_established (seen old.orig) (seen old.resp)); reset = mine.reset; ended = is_fin (end_in new side) && not (is_fin (end_in old side)) }) (established new after has)
    ∙ ap (λ b. record to { established = is_established o after && not b; reset = mine.reset; ended = is_fin (end_in new side) && not (is_fin (end_in old side)) }) (established old before had)
    ∙ ap (λ b. record to { reset = b && not (is_rst old.orig.end || is_rst old.resp.end); ended = is_fin (end_in new side) && not (is_fin (end_in old side)) }) (was_reset new after has)
    ∙ ap (λ b. record to { reset = is_reset o after && not b; ended = is_fin (end_in new side) && not (is_fin (end_in old side)) }) (was_reset old before had)
    ∙ ap (λ e. record to { ended = is_fin e && not (is_fin (end_in old side)) }) (ended new after has side)
    ∙ ap (λ e. record to { ended = is_fin (end_of o side after) && not (is_fin e) }) (ended old before had side)
  where
    mine : Touched
    mine = touched_between old new opened p

    o : Endpoint
    o = originator first.packet

    to : Touched
    to = touched_by o new.number opened p before after

    side : Side
    side = side_of o p

    established : (i : Instance) (events : List Told) → Has first i events → are_established (seen i.orig) (seen i.resp) ≡ is_established o events
    established i events has =
        ap (λ h. are_established (seen h) (seen i.resp)) has.orig_is ∙ ap (λ h. are_established (seen (half_of o Orig events)) (seen h)) has.resp_is
        ∙ ap (λ s. are_established s (seen (half_of o Resp events))) (seen-is o Orig events)
        ∙ ap (are_established (side_facts o Orig events)) (seen-is o Resp events)

    was_reset : (i : Instance) (events : List Told) → Has first i events → (is_rst i.orig.end || is_rst i.resp.end) ≡ is_reset o events
    was_reset i events has =
        ap (λ (h : Half). is_rst h.end || is_rst i.resp.end) has.orig_is ∙ ap (λ (h : Half). is_rst (end_of o Orig events) || is_rst h.end) has.resp_is

    ended : (i : Instance) (events : List Told) → Has first i events → (s : Side) → end_in i s ≡ end_of o s events
    ended i events has Orig = ap (λ (h : Half). h.end) has.orig_is
    ended i events has Resp = ap (λ (h : Half). h.end) has.resp_is

-- a slot that is found by its key
pub found_by_key : (conns : Conns) (told : List Told) (key : Key) (slot : ℕ) → StandsFor conns told → slot_of conns key ≡ Some slot
    → (found : Found conns told key) × (found.slot ≡ slot)
unfolding slot_of instance_at
found_by_key conns told key slot stands is = by_slot (slot_in conns.keys key) refl
  where
    one_key : (k : Key) (i : Instance) → option_map (λ (j : Instance). j.key) (Some i) ≡ Some k → i.key ≡ k
    one_key k i same = cc

    no_slot : (o : Option ℕ) → o ≡ None → o ≡ Some slot → ⊥
    no_slot o none some = cc

    by_slot : (o : Option ℕ) → slot_in conns.keys key ≡ o → (found : Found conns told key) × (found.slot ≡ slot)
    by_slot None none = absurd (no_slot None refl (sym (ap (kept conns.slots) none) ∙ is))
    by_slot (Some s) some = by_instance (get conns.slots s) refl
      where
        by_instance : (o : Option Instance) → get conns.slots s ≡ o → (found : Found conns told key) × (found.slot ≡ slot)
        by_instance None none = absurd (no_slot None refl (sym (ap (kept conns.slots) some ∙ ap (λ x. cond (is_some x) (Some s) None) none) ∙ is))
        by_instance (Some instance) there = (
          record {
            slot = s;
            instance = instance;
            there = there;
            key_is = one_key key instance (sym (ap (option_map (λ (j : Instance). j.key)) there) ∙ stands.table.keys.there key s some);
            latest = subst (Keeps told key) (ap (option_and_then (get conns.slots)) some ∙ there) (stands.keeps key);
          },
          one slot s is (ap (kept conns.slots) some ∙ ap (λ x. cond (is_some x) (Some s) None) there),
        )

-- a packet of a live instance that is not due comes in time for it
pub in_time : (conns : Conns) (told : List Told) (key : Key) (t : Moment) (found : Found conns told key) → MayFollow told t → comes_late (latest key told) t ≡ false
in_time conns told key t found may =
    let removal = removal_moment-is found.instance (latest key told) found.latest.holds found.latest.early found.latest.in_time in
    ap (λ m. is_past m t) removal
    ∙ may.none_due key (number_of key told) (removal_of found.instance) (record { live = record { live = found.latest.live; number_is = refl }; at_is = removal })

-- a packet of a live instance
pub stands_gone_on : (old new : Conns) (told : List Told) (t : Moment) (p : L4View) (slot : ℕ) → StandsFor old told → MayFollow told t → slot_of old (key_of p) ≡ Some slot
    → ((was : Instance) → get old.slots slot ≡ Some was → Tells old new slot was (Packet t p)) → pos 0 ≤ℤ t.0 → t.0 ≤ℤ pos (2 ^ 62)
    → StandsFor new (told ++ Packet t p ∷ [])
stands_gone_on old new told t p slot stands may is tells early late =
    let at = found_by_key old told (key_of p) slot stands is in
    let timely = in_time old told (key_of p) t at.0 may in
    stands_told old new told (Packet t p) (key_of p) stands at.0
    (subst (λ s. Tells old new s at.0.instance (Packet t p)) (sym at.1) (tells at.0.instance (subst (λ s. get old.slots s ≡ Some at.0.instance) at.1 at.0.there)))
    refl (ap (λ b. cond b (Packet t p ∷ []) (latest (key_of p) told ++ Packet t p ∷ [])) timely)
    (ap (λ b. cond b (key_of p ∷ []) []) timely) refl early late

-- the instance of the packet is live
pub live_gone_on : (old new : Conns) (told : List Told) (t : Moment) (p : L4View) (slot : ℕ) (touched : Touched) → StandsFor old told
    → slot_of old (key_of p) ≡ Some slot → ((was : Instance) → get old.slots slot ≡ Some was → Tells old new slot was (Packet t p))
    → ((was is : Instance) → get old.slots slot ≡ Some was → get new.slots slot ≡ Some is → touched ≡ touched_between was is false p)
    → HasLive new touched.conn
live_gone_on old new told t p slot touched stands is tells did =
    let at = found_by_key old told (key_of p) slot stands is in
    let there = subst (λ s. get old.slots s ≡ Some at.0.instance) at.1 at.0.there in
    let told_it = tells at.0.instance there in
    subst (λ (d : Touched). HasLive new d.conn) (sym (did at.0.instance told_it.is there told_it.changes.is_there))
    (live_at-slot new slot told_it.is (table_changed old new slot at.0.instance told_it.is there told_it.changes stands.table) told_it.changes.is_there)

pub touched_gone_on : (old new : Conns) (told : List Told) (t : Moment) (p : L4View) (slot : ℕ) (touched : Touched) → StandsFor old told → MayFollow told t
    → slot_of old (key_of p) ≡ Some slot → ((was : Instance) → get old.slots slot ≡ Some was → Tells old new slot was (Packet t p))
    → ((was is : Instance) → get old.slots slot ≡ Some was → get new.slots slot ≡ Some is → touched ≡ touched_between was is false p)
    → touched ≡ touched_of told t p
touched_gone_on old new told t p slot touched stands may is tells did =
    let at = found_by_key old told (key_of p) slot stands is in
    let found = at.0 in
    let events = latest (key_of p) told in
    let timely = in_time old told (key_of p) t found may in
    let there = subst (λ s. get old.slots s ≡ Some found.instance) at.1 found.there in
    let told_it = tells found.instance there in
    let first = found.latest.holds.first in
    let has = has-append first found.instance told_it.is events (Packet t p) found.latest.holds.has told_it.follows in
    let number : number_of (key_of p) (told ++ Packet t p ∷ []) ≡ told_it.is.number =
    number_of-quiet (key_of p) told (Packet t p) (ap (λ b. cond b (key_of p ∷ []) []) timely) ∙ found.latest.number_is ∙ sym told_it.follows.number_is in
    did found.instance told_it.is there told_it.changes.is_there
    ∙ touched_between-is first found.instance told_it.is false p events (events ++ Packet t p ∷ []) found.latest.holds.has has
    ∙ ap (λ n. touched_by (originator first.packet) n false p events (events ++ Packet t p ∷ [])) (sym number)
    ∙ sym (ap (λ b. touched_in (number_of (key_of p) (told ++ Packet t p ∷ [])) events t p (opening (cond b [] events))) timely
    ∙ ap (touched_in (number_of (key_of p) (told ++ Packet t p ∷ [])) events t p) found.latest.holds.begun)
