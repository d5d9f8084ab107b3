-- What a table holds of live connections, and a table that lacks one of them.
use Rattle.std.proofs.Common.{◌≡◌, ◌≢◌, ℕ, ◌+◌, ◌≤◌, ◌==◌, Bool, true, false, cond, not, ◌||◌, List, [], ◌∷◌, ◌++◌, Option, None, Some, refl, sym, ap, subst, ◌∙◌, arith, ⊎_elim, append_assoc}
use Rattle.std.specs.List.{list_any}
use Rattle.std.specs.Prelude.{int_le}
use Rattle.std.proofs.lemmas.Bool.{cases_Bool, cases_eq, true≢false}
use Rattle.std.proofs.lemmas.List.{append-nil}
use Rattle.std.proofs.lemmas.List.Folds.{list_any-append}
use Rattle.zk_base.specs.declared.time.Moment.{Moment}
use Rattle.zk_conn.specs.declared.key.Key.{Key}
use Rattle.zk_conn.specs.Histories as conn
use Rattle.zk_conn.specs.Instance.{facts_of, removal_moment}
use Rattle.zk_conn.specs.Segment.{key_of, same_key}
use Rattle.zk_conn.specs.Standing as conns
use Rattle.zk_conn.specs.Told.{Told, key_told}
use Rattle.zk_conn.proofs.InstanceLaws.{one_number}
use Rattle.zk_conn.proofs.KeyLemmas.{same_key_is, same_key-refl}
use Rattle.zk_conn.proofs.ToldLemmas as below
use Rattle.zk_traffic.specs.declared.streams.Streams.{Streams}
use Rattle.zk_traffic.specs.declared.table.Table.{Table}
use Rattle.zk_traffic.specs.Conversation.{Conversation}
use Rattle.zk_traffic.specs.Instances.{Instance, begins, begun, instances, latest, number_of, removal}
use Rattle.zk_traffic.specs.Items.{facts}
use Rattle.zk_traffic.specs.Kept.{held_in, held_in_all}
use Rattle.zk_traffic.specs.Segments.{Segment}
use Rattle.zk_traffic.specs.StreamTable.{HasStreams, entry_at}
use Rattle.zk_traffic.specs.Table.{HasEntry, HasLive, Holds, IsKnown, also, gone_by, is_over_at, left}
use Rattle.zk_traffic.proofs.InstanceLemmas.{any-place, one_of}
use Rattle.zk_traffic.proofs.LeftLemmas.{held_also}
use Rattle.zk_traffic.proofs.SegmentLemmas.{AreSound, begun-append, latest-append, latest_sound}
use Rattle.zk_traffic.proofs.ToldLemmas.{facts-is, live-is, removal-is}

none_some : {A : Type 0} {a : A} → None ≡ Some a → ⊥
none_some e = cc

any_more : (key : Key) (l m : List Key) → list_any (λ k. same_key k key) l ≡ true → list_any (λ k. same_key k key) (l ++ m) ≡ true
any_more key l m some = list_any-append (λ k. same_key k key) l m ∙ ap (λ b. b || list_any (λ k. same_key k key) m) some

any_last : (key : Key) (l m : List Key) → list_any (λ k. same_key k key) m ≡ true → list_any (λ k. same_key k key) (l ++ m) ≡ true
any_last key l m some = list_any-append (λ k. same_key k key) l m ∙ ap (λ b. list_any (λ k. same_key k key) l || b) some ∙ or_true (list_any (λ k. same_key k key) l)
  where
    or_true : (b : Bool) → (b || true) ≡ true
    or_true true = refl
    or_true false = refl

-- a key with a conversation has begun: with one more segment
any_with : (limit : ℕ) (key : Key) (before : List Segment) (s : Segment) → ((c : Conversation) → latest limit key before ≡ Some c → list_any (λ k. same_key k key) (begun limit before) ≡ true)
    → (c : Conversation) → latest limit key (before ++ s ∷ []) ≡ Some c → list_any (λ k. same_key k key) (begun limit (before ++ s ∷ [])) ≡ true
any_with limit key before s more c is = by_key (same_key (key_of s.view) key) refl
  where
    at_last : (o : Option Conversation) → latest limit (key_of s.view) before ≡ o → same_key (key_of s.view) key ≡ true
        → list_any (λ k. same_key k key) (begun limit before ++ cond (begins (latest limit (key_of s.view) before) s) (key_of s.view ∷ []) []) ≡ true
    at_last None none same =
        any_last key (begun limit before) (cond (begins (latest limit (key_of s.view) before) s) (key_of s.view ∷ []) [])
        (ap (λ o. list_any (λ k. same_key k key) (cond (begins o s) (key_of s.view ∷ []) [])) none ∙ ap (λ b. b || false) same)
    at_last (Some d) some same =
        any_more key (begun limit before) (cond (begins (latest limit (key_of s.view) before) s) (key_of s.view ∷ []) [])
        (more d (ap (λ k. latest limit k before) (sym (same_key_is (key_of s.view) key same)) ∙ some))

    by_key : (b : Bool) → same_key (key_of s.view) key ≡ b → list_any (λ k. same_key k key) (begun limit (before ++ s ∷ [])) ≡ true
    by_key true same = ap (list_any (λ k. same_key k key)) (begun-append limit before s) ∙ at_last (latest limit (key_of s.view) before) refl same
    by_key false apart = ap (list_any (λ k. same_key k key)) (begun-append limit before s)
        ∙ any_more key (begun limit before) _ (more c (sym (latest-append limit key before s false apart) ∙ is))

pub any_from : (limit : ℕ) (key : Key) (before rest : List Segment) → ((c : Conversation) → latest limit key before ≡ Some c → list_any (λ k. same_key k key) (begun limit before) ≡ true)
    → (c : Conversation) → latest limit key (before ++ rest) ≡ Some c → list_any (λ k. same_key k key) (begun limit (before ++ rest)) ≡ true
any_from limit key before [] more = subst (λ l. (c : Conversation) → latest limit key l ≡ Some c → list_any (λ k. same_key k key) (begun limit l) ≡ true) (sym (append-nil before)) more
any_from limit key before (s ∷ rest) more =
    subst (λ l. (c : Conversation) → latest limit key l ≡ Some c → list_any (λ k. same_key k key) (begun limit l) ≡ true) (append_assoc before (s ∷ []) rest)
    (any_from limit key (before ++ s ∷ []) rest (any_with limit key before s more))

latest-none : (limit : ℕ) (key : Key) → latest limit key [] ≡ None
unfolding latest
latest-none limit key = refl

pub has_number : (limit : ℕ) (key : Key) (c : Conversation) (segments : List Segment) → latest limit key segments ≡ Some c → (number_of limit key segments == 0) ≡ false
has_number limit key c segments is =
    turned (number_of limit key segments == 0)
    (sym (any-place key (begun limit segments)) ∙ any_from limit key [] segments (λ d some. absurd (none_some (sym (latest-none limit key) ∙ some))) c is)
  where
    turned : (b : Bool) → not b ≡ true → b ≡ false
    turned true e = absurd (true≢false (sym e))
    turned false e = refl

-- what is known of a live conversation
pub live_known : (table : Table) (limit : ℕ) (segments : List Segment) (gone : Key → Bool) (told : List Told) (key : Key) (number : ℕ) (c : Conversation) → Holds table limit segments gone told
    → HasLive limit segments gone key number c → conn.latest key told ≡ c.events
live_known table limit segments gone told key number c holds live =
    subst (λ o. IsKnown told key false o) live.latest_is (subst (λ b. IsKnown told key b (latest limit key segments)) live.not_gone (holds.known key))

-- the instance of a live conversation
abbrev pub instance_of : ℕ → List Segment → Key → Conversation → Instance
instance_of limit segments key c = record { number = number_of limit key segments; key = key; conversation = c }

-- a live conversation is a live connection of that number
pub is_live : (table : Table) (limit : ℕ) (segments : List Segment) (gone : Key → Bool) (told : List Told) (key : Key) (number : ℕ) (c : Conversation) → Holds table limit segments gone told
    → HasLive limit segments gone key number c → conn.IsLive told key number
is_live table limit segments gone told key number c holds live =
    let sound = subst (AreSound key) live.latest_is (latest_sound limit key segments) in
    record {
      live = ap conn.is_live (live_known table limit segments gone told key number c holds live) ∙ live-is c.events c.first sound.begun sound.live;
      number_is = ap (conn.last_place key) holds.begun_is ∙ live.number_is;
    }

-- and the other way round
pub from_live : (table : Table) (limit : ℕ) (segments : List Segment) (gone : Key → Bool) (told : List Told) (key : Key) (number : ℕ) → Holds table limit segments gone told
    → conn.IsLive told key number → (c : Conversation) × HasLive limit segments gone key number c
from_live table limit segments gone told key number holds live = by_latest (latest limit key segments) (gone key) refl refl (holds.known key)
  where
    by_latest : (o : Option Conversation) (b : Bool) → latest limit key segments ≡ o → gone key ≡ b → IsKnown told key (gone key) (latest limit key segments)
        → (c : Conversation) × HasLive limit segments gone key number c
    by_latest None b none gone_is known = absurd (true≢false (sym live.live ∙ ap conn.is_live (subst (λ o. IsKnown told key (gone key) o) none known)))
    by_latest (Some c) true some gone_is known =
        let removed = subst (λ o. IsKnown told key true o) some (subst (λ x. IsKnown told key x (latest limit key segments)) gone_is known) in
        absurd (true≢false (sym live.live ∙ ap conn.is_live removed.2 ∙ below.is_live-removed c.events removed.0 removed.1))
    by_latest (Some c) false some gone_is known = (c, record { latest_is = some; not_gone = gone_is; number_is = ap (conn.last_place key) (sym holds.begun_is) ∙ live.number_is })

-- the facts of a live conversation
pub facts_known : (table : Table) (limit : ℕ) (segments : List Segment) (gone : Key → Bool) (told : List Told) (key : Key) (number : ℕ) (c : Conversation) → Holds table limit segments gone told
    → HasLive limit segments gone key number c → facts_of (conn.latest key told) ≡ Some (facts c)
facts_known table limit segments gone told key number c holds live =
    let sound = subst (AreSound key) live.latest_is (latest_sound limit key segments) in
    ap facts_of (live_known table limit segments gone told key number c holds live) ∙ facts-is c.events c.first sound.begun

pub removal_known : (table : Table) (limit : ℕ) (segments : List Segment) (gone : Key → Bool) (told : List Told) (key : Key) (number : ℕ) (c : Conversation) → Holds table limit segments gone told
    → HasLive limit segments gone key number c → removal_moment (conn.latest key told) ≡ Some (removal c)
removal_known table limit segments gone told key number c holds live =
    let sound = subst (AreSound key) live.latest_is (latest_sound limit key segments) in
    ap removal_moment (live_known table limit segments gone told key number c holds live) ∙ removal-is c.events c.first sound.begun

-- two keys have no live conversations of one number
pub one_live : (table : Table) (limit : ℕ) (segments : List Segment) (gone : Key → Bool) (told : List Told) (key other : Key) (number : ℕ) (c d : Conversation) → Holds table limit segments gone told
    → HasLive limit segments gone key number c → HasLive limit segments gone other number d → key ≡ other
one_live table limit segments gone told key other number c d holds live other_live =
    one_number table.conns told key other number holds.stands (is_live table limit segments gone told key number c holds live) (is_live table limit segments gone told other number d holds other_live)

-- the streams of a live conversation
pub entry_live : (table : Table) (limit : ℕ) (segments : List Segment) (gone : Key → Bool) (told : List Told) (key : Key) (number : ℕ) (c : Conversation) → Holds table limit segments gone told
    → HasLive limit segments gone key number c → HasStreams limit (entry_at table.streams number) c
entry_live table limit segments gone told key number c holds live =
    subst (λ n. HasStreams limit (entry_at table.streams n) c) live.number_is
    (subst (λ o. HasEntry limit (entry_at table.streams (number_of limit key segments)) false o) live.latest_is
    (subst (λ b. HasEntry limit (entry_at table.streams (number_of limit key segments)) b (latest limit key segments)) live.not_gone (holds.entries key)))

-- what a live conversation holds is a part of all
pub held_live : (table : Table) (limit : ℕ) (segments : List Segment) (gone : Key → Bool) (told : List Told) (key : Key) (number : ℕ) (c : Conversation) → Holds table limit segments gone told
    → HasLive limit segments gone key number c → table.streams.kept ≡ held_in_all limit (left (also gone key) (instances limit segments)) + held_in limit c
held_live table limit segments gone told key number c holds live =
    holds.kept_is
    ∙ held_also limit gone key (instance_of limit segments key c) (instances limit segments) refl live.not_gone
    (one_of limit segments key c live.latest_is (has_number limit key c segments live.latest_is))

-- a number that isn't a live conversation's
pub apart_number : (table : Table) (limit : ℕ) (segments : List Segment) (gone : Key → Bool) (told : List Told) (key other : Key) (number : ℕ) (c : Conversation) (o : Option Conversation) (b : Bool)
    → latest limit other segments ≡ o → gone other ≡ b → Holds table limit segments gone told → HasLive limit segments gone key number c → same_key other key ≡ false
    → (new : ℕ → Option Streams) → ((n : ℕ) → n ≢ number → new n ≡ entry_at table.streams n)
    → HasEntry limit (entry_at table.streams (number_of limit other segments)) b o → HasEntry limit (new (number_of limit other segments)) b o
apart_number table limit segments gone told key other number c None b is gone_is holds live apart new others has = tt
apart_number table limit segments gone told key other number c (Some d) true is gone_is holds live apart new others has = tt
apart_number table limit segments gone told key other number c (Some d) false is gone_is holds live apart new others has =
    subst (λ e. HasStreams limit e d)
    (sym (others (number_of limit other segments) (λ same.
    let other_live : HasLive limit segments gone other number d = record { latest_is = is; not_gone = gone_is; number_is = same } in
    true≢false (sym (same_key-refl key) ∙ ap (λ k. same_key k key) (one_live table limit segments gone told key other number c d holds live other_live) ∙ apart))))
    has

-- the table lacks a live conversation that was removed
pub holds_removed : (old new : Table) (limit : ℕ) (segments : List Segment) (gone : Key → Bool) (told : List Told) (key : Key) (number : ℕ) (c : Conversation) (event : Told) → Holds old limit segments gone told
    → HasLive limit segments gone key number c → key_told event ≡ key → ((l : List Told) → conn.joined_by l event ≡ l ++ event ∷ []) → ((l : List Told) → conn.begun_by l event ≡ [])
    → conn.is_removal event ≡ true → conns.StandsFor new.conns (told ++ event ∷ []) → new.streams.limit ≡ old.streams.limit → entry_at new.streams number ≡ None
    → ((n : ℕ) → n ≢ number → entry_at new.streams n ≡ entry_at old.streams n)
    → (HasStreams limit (entry_at old.streams number) c → held_in limit c ≤ old.streams.kept → new.streams.kept + held_in limit c ≡ old.streams.kept)
    → Holds new limit segments (also gone key) (told ++ event ∷ [])
holds_removed old new limit segments gone told key number c event holds live of_key joins begins removes stands limit_is none others kept = record {
  limit_is = limit_is ∙ holds.limit_is;
  stands = stands;
  begun_is = below.begun-append told event ∙ ap (λ l. conn.begun told ++ l) (begins told) ∙ append-nil (conn.begun told) ∙ holds.begun_is;
  known = λ k. ⊎_elim (known_here k) (known_other k) (cases_Bool (same_key k key));
  entries = λ k. ⊎_elim (entry_here k) (entry_other k) (cases_Bool (same_key k key));
  unused = λ n past. ⊎_elim (λ (here : n ≡ number). ap (entry_at new.streams) here ∙ none) (λ apart. others n apart ∙ holds.unused n past) (cases_eq n number);
  kept_is = (let sum = held_live old limit segments gone told key number c holds live in
      let less = kept (entry_live old limit segments gone told key number c holds live) (omega (arith, sum)) in
      omega (arith, sum, less));
}
  where
    or_false : (b : Bool) → (b || false) ≡ b
    or_false true = refl
    or_false false = refl

    or_true : (b : Bool) → (b || true) ≡ true
    or_true true = refl
    or_true false = refl

    at_key : (k : Key) → same_key k key ≡ true → same_key (key_told event) k ≡ true
    at_key k same = ap (λ x. same_key x k) of_key ∙ ap (same_key key) (same_key_is k key same) ∙ same_key-refl key

    at_other : (k : Key) → same_key k key ≡ false → same_key (key_told event) k ≡ false
    at_other k apart = by_test (same_key key k) refl
      where
        by_test : (b : Bool) → same_key key k ≡ b → same_key (key_told event) k ≡ false
        by_test true same = absurd (true≢false (sym (same_key-refl k) ∙ ap (same_key k) (sym (same_key_is key k same)) ∙ apart))
        by_test false is = ap (λ x. same_key x k) of_key ∙ is

    known_here : (k : Key) → same_key k key ≡ true → IsKnown (told ++ event ∷ []) k (also gone key k) (latest limit k segments)
    known_here k same =
        subst (λ b. IsKnown (told ++ event ∷ []) k b (latest limit k segments)) (sym (ap (λ b. gone k || b) same ∙ or_true (gone k)))
        (subst (λ o. IsKnown (told ++ event ∷ []) k true o) (sym (ap (λ x. latest limit x segments) (same_key_is k key same) ∙ live.latest_is)) (
          event,
          removes,
          below.latest-append k told event true (at_key k same) ∙ joins (conn.latest k told)
              ∙ ap (λ l. l ++ event ∷ []) (ap (λ x. conn.latest x told) (same_key_is k key same) ∙ live_known old limit segments gone told key number c holds live),
        ))

    known_other : (k : Key) → same_key k key ≡ false → IsKnown (told ++ event ∷ []) k (also gone key k) (latest limit k segments)
    known_other k apart =
        subst (λ b. IsKnown (told ++ event ∷ []) k b (latest limit k segments)) (sym (ap (λ b. gone k || b) apart ∙ or_false (gone k)))
        (moved (latest limit k segments) (gone k) (holds.known k))
      where
        moved : (o : Option Conversation) (b : Bool) → IsKnown told k b o → IsKnown (told ++ event ∷ []) k b o
        moved None b is = below.latest-append k told event false (at_other k apart) ∙ is
        moved (Some d) false is = below.latest-append k told event false (at_other k apart) ∙ is
        moved (Some d) true is = (is.0, is.1, below.latest-append k told event false (at_other k apart) ∙ is.2)

    entry_here : (k : Key) → same_key k key ≡ true → HasEntry limit (entry_at new.streams (number_of limit k segments)) (also gone key k) (latest limit k segments)
    entry_here k same =
        subst (λ b. HasEntry limit (entry_at new.streams (number_of limit k segments)) b (latest limit k segments)) (sym (ap (λ b. gone k || b) same ∙ or_true (gone k)))
        (nothing (latest limit k segments))
      where
        nothing : (o : Option Conversation) → HasEntry limit (entry_at new.streams (number_of limit k segments)) true o
        nothing None = tt
        nothing (Some d) = tt

    entry_other : (k : Key) → same_key k key ≡ false → HasEntry limit (entry_at new.streams (number_of limit k segments)) (also gone key k) (latest limit k segments)
    entry_other k apart =
        subst (λ b. HasEntry limit (entry_at new.streams (number_of limit k segments)) b (latest limit k segments)) (sym (ap (λ b. gone k || b) apart ∙ or_false (gone k)))
        (apart_number old limit segments gone told key k number c (latest limit k segments) (gone k) refl refl holds live apart (entry_at new.streams) others (holds.entries k))

-- no live conversation is over by the moment by which others are gone
pub none_due : (table : Table) (limit : ℕ) (segments : List Segment) (told : List Told) (t : Moment) → Holds table limit segments (gone_by limit segments t) told → conn.NoneDue told t
unfolding gone_by
none_due table limit segments told t holds = λ key number at due.
    let found = from_live table limit segments (gone_by limit segments t) told key number holds due.live in
    let at_is = same (sym due.at_is ∙ removal_known table limit segments (gone_by limit segments t) told key number found.0 holds found.1) in
    ap (λ (m : Moment). int_le m.0 t.0) at_is ∙ sym (ap (is_over_at t) found.1.latest_is) ∙ found.1.not_gone
  where
    same : {a b : Moment} → Some a ≡ Some b → a ≡ b
    same e = cc
