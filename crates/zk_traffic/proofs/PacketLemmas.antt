-- What connections are told of a segment's packet, and what it does there.
use Rattle.std.proofs.Common.{◌≡◌, ◌⊎◌, ℕ, ◌≤ℤ◌, Bool, true, false, cond, not, ◌&&◌, List, [], ◌∷◌, ◌++◌, Option, None, Some, refl, sym, ap, subst, ◌∙◌, arith, inl, inr}
use Rattle.std.specs.List.{list_any}
use Rattle.std.specs.Prelude.{All}
use Rattle.std.proofs.lemmas.Int.{ints}
use Rattle.std.proofs.lemmas.List.Elements.{All-append, All-cons}
use Rattle.zk_base.specs.declared.time.Moment.{Moment}
use Rattle.zk_conn.specs.declared.key.Key.{Key}
use Rattle.zk_conn.specs.Histories as conn
use Rattle.zk_conn.specs.Instance.{Opening, opening}
use Rattle.zk_conn.specs.Segment.{key_of, same_key}
use Rattle.zk_conn.specs.Told.{Told, Packet}
use Rattle.zk_conn.proofs.KeyLemmas.{same_key-refl}
use Rattle.zk_conn.proofs.ToldLemmas as below
use Rattle.zk_traffic.specs.declared.table.Table.{Table}
use Rattle.zk_traffic.specs.Conversation.{Conversation, originator_of, unbegun, with_packet}
use Rattle.zk_traffic.specs.Instances.{begins, begun, is_over_by, joined_by, latest, number_of}
use Rattle.zk_traffic.specs.Segments.{Segment}
use Rattle.zk_traffic.specs.Table.{Holds, IsKnown, gone_by, is_over_at}
use Rattle.zk_traffic.proofs.HoldsLemmas.{none_due}
use Rattle.zk_traffic.proofs.SegmentLemmas.{AreSound, IsSound, begun-append, latest_sound}
use Rattle.zk_traffic.proofs.ToldLemmas.{over-is, over-removed}

-- a segment that begins a conversation
pub record IsNew (limit : ℕ) (segments : List Segment) (s : Segment) : Type 0 where
  pub begins_is : begins (latest limit (key_of s.view) segments) s ≡ true
  pub joined : joined_by (latest limit (key_of s.view) segments) s ≡ unbegun s
  pub nothing : (gone_by limit segments s.moment (key_of s.view) ≡ true) ⊎ (latest limit (key_of s.view) segments ≡ None)

-- a segment that goes on with one
pub record IsMore (limit : ℕ) (segments : List Segment) (s : Segment) : Type 0 where
  pub d : Conversation
  pub latest_is : latest limit (key_of s.view) segments ≡ Some d
  pub begins_is : begins (latest limit (key_of s.view) segments) s ≡ false
  pub joined : joined_by (latest limit (key_of s.view) segments) s ≡ d
  pub not_gone : gone_by limit segments s.moment (key_of s.view) ≡ false

pub new_or_more : (limit : ℕ) (segments : List Segment) (s : Segment) → IsNew limit segments s ⊎ IsMore limit segments s
unfolding gone_by
new_or_more limit segments s = by_latest (latest limit (key_of s.view) segments) refl
  where
    by_latest : (o : Option Conversation) → latest limit (key_of s.view) segments ≡ o → IsNew limit segments s ⊎ IsMore limit segments s
    by_latest None none = inl (record { begins_is = ap (λ x. begins x s) none; joined = ap (λ x. joined_by x s) none; nothing = inr none })
    by_latest (Some d) some = by_over (is_over_by s.moment d) refl
      where
        by_over : (b : Bool) → is_over_by s.moment d ≡ b → IsNew limit segments s ⊎ IsMore limit segments s
        by_over true over = inl (record {
          begins_is = ap (λ x. begins x s) some ∙ over;
          joined = ap (λ x. joined_by x s) some ∙ ap (λ b. cond b (unbegun s) d) over;
          nothing = inl (ap (is_over_at s.moment) some ∙ over);
        })
        by_over false over = inr (record {
          d = d;
          latest_is = some;
          begins_is = ap (λ x. begins x s) some ∙ over;
          joined = ap (λ x. joined_by x s) some ∙ ap (λ b. cond b (unbegun s) d) over;
          not_gone = ap (is_over_at s.moment) some ∙ over;
        })

-- what was told of the segment's key, ahead of it
more_known : (table : Table) (limit : ℕ) (segments : List Segment) (told : List Told) (s : Segment) → Holds table limit segments (gone_by limit segments s.moment) told → (more : IsMore limit segments s)
    → conn.latest (key_of s.view) told ≡ more.d.events
more_known table limit segments told s holds more =
    subst (λ o. IsKnown told (key_of s.view) false o) more.latest_is (subst (λ b. IsKnown told (key_of s.view) b (latest limit (key_of s.view) segments)) more.not_gone (holds.known (key_of s.view)))

-- a packet comes too late for what was told exactly where the segment begins a conversation
late-is : (table : Table) (limit : ℕ) (segments : List Segment) (told : List Told) (s : Segment) → Holds table limit segments (gone_by limit segments s.moment) told
    → conn.comes_late (conn.latest (key_of s.view) told) s.moment ≡ begins (latest limit (key_of s.view) segments) s
unfolding gone_by
late-is table limit segments told s holds = by_latest (latest limit (key_of s.view) segments) refl (holds.known (key_of s.view)) (latest_sound limit (key_of s.view) segments)
  where
    by_latest : (o : Option Conversation) → latest limit (key_of s.view) segments ≡ o → IsKnown told (key_of s.view) (is_over_at s.moment (latest limit (key_of s.view) segments)) (latest limit (key_of s.view) segments)
        → AreSound (key_of s.view) (latest limit (key_of s.view) segments)
        → conn.comes_late (conn.latest (key_of s.view) told) s.moment ≡ begins (latest limit (key_of s.view) segments) s
    by_latest None none known sound =
        ap (λ l. conn.comes_late l s.moment) (subst (λ o. IsKnown told (key_of s.view) (is_over_at s.moment o) o) none known) ∙ sym (ap (λ o. begins o s) none)
    by_latest (Some d) some known sound =
        by_over (is_over_by s.moment d) refl (subst (λ o. IsKnown told (key_of s.view) (is_over_at s.moment o) o) some known) (subst (AreSound (key_of s.view)) some sound)
        ∙ sym (ap (λ o. begins o s) some)
      where
        by_over : (b : Bool) → is_over_by s.moment d ≡ b → IsKnown told (key_of s.view) (is_over_by s.moment d) (Some d) → IsSound (key_of s.view) d
            → conn.comes_late (conn.latest (key_of s.view) told) s.moment ≡ is_over_by s.moment d
        by_over true over known sound =
            let removed = subst (λ b. IsKnown told (key_of s.view) b (Some d)) over known in
            ap (λ l. conn.comes_late l s.moment) removed.2 ∙ over-removed d.events removed.0 d.first s.moment sound.begun removed.1
        by_over false over known sound =
            ap (λ l. conn.comes_late l s.moment) (subst (λ b. IsKnown told (key_of s.view) b (Some d)) over known) ∙ over-is d.events d.first s.moment sound.begun

-- what was told of the segment's key, with its packet
pub latest-packet : (table : Table) (limit : ℕ) (segments : List Segment) (told : List Told) (s : Segment) → Holds table limit segments (gone_by limit segments s.moment) told
    → conn.latest (key_of s.view) (told ++ Packet s.moment s.view ∷ []) ≡ with_packet (joined_by (latest limit (key_of s.view) segments) s) s
latest-packet table limit segments told s holds =
    below.latest-append (key_of s.view) told (Packet s.moment s.view) true (same_key-refl (key_of s.view))
    ∙ ap (λ b. cond b (Packet s.moment s.view ∷ []) (conn.latest (key_of s.view) told ++ Packet s.moment s.view ∷ [])) (late-is table limit segments told s holds)
    ∙ by_cases (new_or_more limit segments s)
  where
    by_cases : IsNew limit segments s ⊎ IsMore limit segments s
        → cond (begins (latest limit (key_of s.view) segments) s) (Packet s.moment s.view ∷ []) (conn.latest (key_of s.view) told ++ Packet s.moment s.view ∷ [])
        ≡ with_packet (joined_by (latest limit (key_of s.view) segments) s) s
    by_cases (inl new) =
        ap (λ b. cond b (Packet s.moment s.view ∷ []) (conn.latest (key_of s.view) told ++ Packet s.moment s.view ∷ [])) new.begins_is ∙ sym (ap (λ c. with_packet c s) new.joined)
    by_cases (inr more) =
        ap (λ b. cond b (Packet s.moment s.view ∷ []) (conn.latest (key_of s.view) told ++ Packet s.moment s.view ∷ [])) more.begins_is
        ∙ ap (λ l. l ++ Packet s.moment s.view ∷ []) (more_known table limit segments told s holds more) ∙ sym (ap (λ c. with_packet c s) more.joined)

-- and of other keys
pub latest-packet-other : (key : Key) (told : List Told) (s : Segment) → same_key (key_of s.view) key ≡ false → conn.latest key (told ++ Packet s.moment s.view ∷ []) ≡ conn.latest key told
latest-packet-other key told s apart = below.latest-append key told (Packet s.moment s.view) false apart

-- the instances that have begun, with the packet
pub begun-packet : (table : Table) (limit : ℕ) (segments : List Segment) (told : List Told) (s : Segment) → Holds table limit segments (gone_by limit segments s.moment) told
    → conn.begun (told ++ Packet s.moment s.view ∷ []) ≡ begun limit (segments ++ s ∷ [])
begun-packet table limit segments told s holds =
    below.begun-append told (Packet s.moment s.view)
    ∙ ap (λ l. l ++ cond (conn.comes_late (conn.latest (key_of s.view) told) s.moment) (key_of s.view ∷ []) []) holds.begun_is
    ∙ ap (λ b. begun limit segments ++ cond b (key_of s.view ∷ []) []) (late-is table limit segments told s holds)
    ∙ sym (begun-append limit segments s)

-- a packet may come
pub may_follow : (table : Table) (limit : ℕ) (segments : List Segment) (told : List Told) (s : Segment) → Holds table limit segments (gone_by limit segments s.moment) told
    → All (conn.Precedes s.moment) told → conn.MayFollow told s.moment
may_follow table limit segments told s holds order = record { none_due = none_due table limit segments told s.moment holds; in_order = order }

-- what the packet does
pub touched-is : (table : Table) (limit : ℕ) (segments : List Segment) (told : List Told) (s : Segment) → Holds table limit segments (gone_by limit segments s.moment) told
    → conn.touched_of told s.moment s.view
    ≡ conn.touched_by (originator_of (joined_by (latest limit (key_of s.view) segments) s)) (number_of limit (key_of s.view) (segments ++ s ∷ [])) (begins (latest limit (key_of s.view) segments) s) s.view
    (joined_by (latest limit (key_of s.view) segments) s).events (with_packet (joined_by (latest limit (key_of s.view) segments) s) s)
touched-is table limit segments told s holds =
    ap (λ n. conn.touched_in n (conn.latest (key_of s.view) told) s.moment s.view (opening (conn.before_packet (conn.latest (key_of s.view) told) s.moment)))
    (ap (conn.last_place (key_of s.view)) (begun-packet table limit segments told s holds))
    ∙ ap (λ b. conn.touched_in number (conn.latest (key_of s.view) told) s.moment s.view (opening (cond b [] (conn.latest (key_of s.view) told)))) (late-is table limit segments told s holds)
    ∙ by_cases (new_or_more limit segments s)
  where
    number : ℕ
    number = number_of limit (key_of s.view) (segments ++ s ∷ [])

    by_cases : IsNew limit segments s ⊎ IsMore limit segments s
        → conn.touched_in number (conn.latest (key_of s.view) told) s.moment s.view (opening (cond (begins (latest limit (key_of s.view) segments) s) [] (conn.latest (key_of s.view) told)))
        ≡ conn.touched_by (originator_of (joined_by (latest limit (key_of s.view) segments) s)) number (begins (latest limit (key_of s.view) segments) s) s.view
        (joined_by (latest limit (key_of s.view) segments) s).events (with_packet (joined_by (latest limit (key_of s.view) segments) s) s)
    by_cases (inl new) =
        ap (λ b. conn.touched_in number (conn.latest (key_of s.view) told) s.moment s.view (opening (cond b [] (conn.latest (key_of s.view) told)))) new.begins_is
        ∙ sym (ap (λ b. conn.touched_by (originator_of (joined_by (latest limit (key_of s.view) segments) s)) number b s.view (joined_by (latest limit (key_of s.view) segments) s).events (with_packet (joined_by (latest limit (key_of s.view) segments) s) s)) new.begins_is
        ∙ ap (λ c. conn.touched_by (originator_of c) number true s.view c.events (with_packet c s)) new.joined)
    by_cases (inr more) =
        let sound = subst (AreSound (key_of s.view)) more.latest_is (latest_sound limit (key_of s.view) segments) in
        ap (λ b. conn.touched_in number (conn.latest (key_of s.view) told) s.moment s.view (opening (cond b [] (conn.latest (key_of s.view) told)))) more.begins_is
        ∙ ap (λ l. conn.touched_in number l s.moment s.view (opening l)) (more_known table limit segments told s holds more)
        ∙ ap (conn.touched_in number more.d.events s.moment s.view) sound.begun
        ∙ sym (ap (λ b. conn.touched_by (originator_of (joined_by (latest limit (key_of s.view) segments) s)) number b s.view (joined_by (latest limit (key_of s.view) segments) s).events (with_packet (joined_by (latest limit (key_of s.view) segments) s) s)) more.begins_is
        ∙ ap (λ c. conn.touched_by (originator_of c) number false s.view c.events (with_packet c s)) more.joined)

-- the conversation with the packet begins with its first one
pub opening-packet : (limit : ℕ) (segments : List Segment) (s : Segment)
    → opening (with_packet (joined_by (latest limit (key_of s.view) segments) s) s) ≡ Some (joined_by (latest limit (key_of s.view) segments) s).first
opening-packet limit segments s = by_cases (new_or_more limit segments s)
  where
    more_opening : (l m : List Told) (first : Opening) → opening l ≡ Some first → opening (l ++ m) ≡ Some first
    more_opening [] m first is = absurd (none_some is)
      where
        none_some : {A : Type 0} {a : A} → None ≡ Some a → ⊥
        none_some e = cc
    more_opening (e ∷ l) m first is = is

    by_cases : IsNew limit segments s ⊎ IsMore limit segments s
        → opening (with_packet (joined_by (latest limit (key_of s.view) segments) s) s) ≡ Some (joined_by (latest limit (key_of s.view) segments) s).first
    by_cases (inl new) = subst (λ c. opening (with_packet c s) ≡ Some c.first) (sym new.joined) refl
    by_cases (inr more) =
        let sound = subst (AreSound (key_of s.view)) more.latest_is (latest_sound limit (key_of s.view) segments) in
        subst (λ c. opening (with_packet c s) ≡ Some c.first) (sym more.joined) (more_opening more.d.events (Packet s.moment s.view ∷ []) more.d.first sound.begun)

-- the connection is live with the packet
pub live-packet : (table : Table) (limit : ℕ) (segments : List Segment) (told : List Told) (s : Segment) → Holds table limit segments (gone_by limit segments s.moment) told
    → conn.IsLive (told ++ Packet s.moment s.view ∷ []) (key_of s.view) (number_of limit (key_of s.view) (segments ++ s ∷ []))
live-packet table limit segments told s holds = record {
  live = ap conn.is_live (latest-packet table limit segments told s holds) ∙ by_cases (new_or_more limit segments s);
  number_is = ap (conn.last_place (key_of s.view)) (begun-packet table limit segments told s holds);
}
  where
    by_cases : IsNew limit segments s ⊎ IsMore limit segments s → conn.is_live (with_packet (joined_by (latest limit (key_of s.view) segments) s) s) ≡ true
    by_cases (inl new) = ap (λ c. conn.is_live (with_packet c s)) new.joined
    by_cases (inr more) =
        let sound = subst (AreSound (key_of s.view)) more.latest_is (latest_sound limit (key_of s.view) segments) in
        ap (λ c. conn.is_live (with_packet c s)) more.joined
        ∙ below.is_live-append more.d.events (Packet s.moment s.view) more.d.first sound.begun
        (ap (λ o. conn.has_begun o && not (list_any conn.is_removal more.d.events)) sound.begun ∙ ap not sound.live) refl

pub precede-packet : (told : List Told) (s : Segment) → All (conn.Precedes s.moment) told → All (conn.Precedes s.moment) (told ++ Packet s.moment s.view ∷ [])
precede-packet told s order = All-append (conn.Precedes s.moment) told (Packet s.moment s.view ∷ []) order
    (All-cons (conn.Precedes s.moment) (Packet s.moment s.view) [] (same_moment s.moment) (λ k d within. absurd (omega (arith, within))))
  where
    same_moment : (t : Moment) → t.0 ≤ℤ t.0
    same_moment t = omega (arith, ints)
