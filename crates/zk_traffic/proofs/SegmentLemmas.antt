-- Conversations and instances with one more segment.
use Rattle.std.proofs.Common.{◌≡◌, ℕ, Bool, true, false, cond, not, ◌&&◌, ◌||◌, ◌==◌, List, [], ◌∷◌, ◌++◌, fold, Option, None, Some, refl, sym, ap, subst, ◌∙◌, append_assoc}
use Rattle.std.specs.List.{flat_map, list_any}
use Rattle.std.proofs.lemmas.Grind.{flat_map-append}
use Rattle.std.proofs.lemmas.List.{append-nil}
use Rattle.std.proofs.lemmas.List.Elements.{filter-append}
use Rattle.std.proofs.lemmas.List.Folds.{list_any-append}
use Rattle.std.proofs.lemmas.List.Sums.{fold-append}
use Rattle.zk_base.specs.declared.network.Side.{Side}
use Rattle.zk_base.specs.Sides.{other}
use Rattle.zk_conn.specs.declared.key.Key.{Key}
use Rattle.zk_conn.specs.Histories as conn
use Rattle.zk_conn.specs.Instance.{Opening, opening}
use Rattle.zk_conn.specs.Segment.{key_of, same_key}
use Rattle.zk_conn.specs.Told.{Told, Packet, Front, Reached}
use Rattle.zk_traffic.specs.Conversation.{Conversation, Direction, direction, direction_with, front_at, has_ended, moved, moved_with, sender_in, unbegun, with_packet, with_segment}
use Rattle.zk_traffic.specs.Instances.{begun, begun_at, goes_on, is_over_by, joined_by, latest, segments_of}
use Rattle.zk_traffic.specs.Segments.{Segment}
use Rattle.zk_traffic.specs.Steps.{steps, steps_behind}

steps_behind-append : {A : Type 0} (before l : List A) (x : A) → steps_behind before (l ++ x ∷ []) ≡ steps_behind before l ++ record { before = before ++ l; last = x } ∷ []
steps_behind-append before [] x = ap (λ b. record { before = b; last = x } ∷ []) (sym (append-nil before))
steps_behind-append before (y ∷ l) x =
    ap (λ r. record { before = before; last = y } ∷ r)
    (steps_behind-append (before ++ y ∷ []) l x ∙ ap (λ b. steps_behind (before ++ y ∷ []) l ++ record { before = b; last = x } ∷ []) (append_assoc before (y ∷ []) l))

-- one more element
pub steps-append : {A : Type 0} (l : List A) (x : A) → steps (l ++ x ∷ []) ≡ steps l ++ record { before = l; last = x } ∷ []
steps-append l x = steps_behind-append [] l x

-- the latest conversation of a key with one more segment
pub latest-append : (limit : ℕ) (key : Key) (segments : List Segment) (s : Segment) (b : Bool) → same_key (key_of s.view) key ≡ b
    → latest limit key (segments ++ s ∷ []) ≡ cond b (goes_on limit (latest limit key segments) s) (latest limit key segments)
unfolding latest
latest-append limit key segments s b is =
    ap (fold (goes_on limit) None) (filter-append (λ x. same_key (key_of x.view) key) segments (s ∷ []))
    ∙ fold-append (goes_on limit) None (segments_of key segments) (segments_of key (s ∷ []))
    ∙ ap (λ c. fold (goes_on limit) (fold (goes_on limit) None (segments_of key segments)) (cond c (s ∷ []) [])) is
    ∙ of_last b
  where
    of_last : (c : Bool) → fold (goes_on limit) (fold (goes_on limit) None (segments_of key segments)) (cond c (s ∷ []) []) ≡ cond c (goes_on limit (fold (goes_on limit) None (segments_of key segments)) s) (fold (goes_on limit) None (segments_of key segments))
    of_last true = refl
    of_last false = refl

pub begun-append : (limit : ℕ) (segments : List Segment) (s : Segment) → begun limit (segments ++ s ∷ []) ≡ begun limit segments ++ begun_at limit (record { before = segments; last = s })
unfolding begun
begun-append limit segments s =
    ap (flat_map (begun_at limit)) (steps-append segments s)
    ∙ flat_map-append (begun_at limit) (steps segments) (record { before = segments; last = s } ∷ [])
    ∙ ap (λ l. flat_map (begun_at limit) (steps segments) ++ l) (append-nil (begun_at limit (record { before = segments; last = s })))

-- what is known of a conversation's events: they begin with its first packet, which is of the key, and have no removal
pub record IsSound (key : Key) (c : Conversation) : Type 0 where
  pub begun : opening c.events ≡ Some c.first
  pub live : list_any conn.is_removal c.events ≡ false
  pub of_key : same_key (key_of c.first.packet) key ≡ true

moved-live : (limit : ℕ) (key : Key) (side : Side) (before after : Option Direction) → list_any conn.is_removal (moved limit key side before after) ≡ false
moved-live limit key side before after =
    list_any-append conn.is_removal (cond (front_at limit before == front_at limit after) [] (Front key side (front_at limit after) ∷ [])) (cond (has_ended limit after && not (has_ended limit before)) (Reached key side ∷ []) [])
    ∙ both (front_at limit before == front_at limit after) (has_ended limit after && not (has_ended limit before))
  where
    both : (a b : Bool) → (list_any conn.is_removal (cond a [] (Front key side (front_at limit after) ∷ [])) || list_any conn.is_removal (cond b (Reached key side ∷ []) [])) ≡ false
    both true true = refl
    both true false = refl
    both false true = refl
    both false false = refl

opening-more : (l m : List Told) (first : Opening) → opening l ≡ Some first → opening (l ++ m) ≡ Some first
opening-more [] m first is = absurd (none_some first is)
  where
    none_some : {A : Type 0} (x : A) → None ≡ Some x → ⊥
    none_some x e = cc
opening-more (e ∷ l) m first is = is

-- a conversation stays sound with one more segment
pub sound_with : (limit : ℕ) (key : Key) (c : Conversation) (s : Segment) → opening (with_packet c s) ≡ Some c.first → list_any conn.is_removal c.events ≡ false → same_key (key_of c.first.packet) key ≡ true
    → IsSound key (with_segment limit c s)
unfolding with_segment
sound_with limit key c s begun live of_key = record {
  begun = opening-more (with_packet c s) (moved_with limit c s (sender_in c s) ++ moved_with limit c s (other (sender_in c s))) c.first begun;
  live = list_any-append conn.is_removal (with_packet c s) (moved_with limit c s (sender_in c s) ++ moved_with limit c s (other (sender_in c s)))
      ∙ ap (λ b. b || list_any conn.is_removal (moved_with limit c s (sender_in c s) ++ moved_with limit c s (other (sender_in c s)))) (list_any-append conn.is_removal c.events (Packet s.moment s.view ∷ []) ∙ ap (λ b. b || false) live)
      ∙ list_any-append conn.is_removal (moved_with limit c s (sender_in c s)) (moved_with limit c s (other (sender_in c s)))
      ∙ ap (λ b. b || list_any conn.is_removal (moved_with limit c s (other (sender_in c s)))) (moved-live limit (key_of s.view) (sender_in c s) (direction c (sender_in c s)) (direction_with c s (sender_in c s)))
      ∙ moved-live limit (key_of s.view) (other (sender_in c s)) (direction c (other (sender_in c s))) (direction_with c s (other (sender_in c s)));
  of_key = of_key;
}

abbrev pub AreSound : Key → Option Conversation → Type 0
AreSound key None = Unit {0}
AreSound key (Some c) = IsSound key c

sound_begun : (limit : ℕ) (key : Key) (s : Segment) → same_key (key_of s.view) key ≡ true → IsSound key (with_segment limit (unbegun s) s)
sound_begun limit key s of_key = sound_with limit key (unbegun s) s refl refl of_key

sound_on : (limit : ℕ) (key : Key) (before : Option Conversation) (s : Segment) → same_key (key_of s.view) key ≡ true → AreSound key before → IsSound key (with_segment limit (joined_by before s) s)
sound_on limit key None s of_key sound = sound_begun limit key s of_key
sound_on limit key (Some c) s of_key sound = by_over (is_over_by s.moment c)
  where
    by_over : (b : Bool) → IsSound key (with_segment limit (cond b (unbegun s) c) s)
    by_over true = sound_begun limit key s of_key
    by_over false = sound_with limit key c s (opening-more c.events (Packet s.moment s.view ∷ []) c.first sound.begun) sound.live sound.of_key

sound_from : (limit : ℕ) (key : Key) (before : Option Conversation) (segments : List Segment) → AreSound key before → AreSound key (fold (goes_on limit) before (segments_of key segments))
sound_from limit key before [] sound = sound
sound_from limit key before (s ∷ segments) sound =
    by_key (same_key (key_of s.view) key) refl (sound_from limit key before segments sound) (λ is. sound_from limit key (goes_on limit before s) segments (sound_on limit key before s is sound))
  where
    by_key : (b : Bool) → same_key (key_of s.view) key ≡ b → AreSound key (fold (goes_on limit) before (segments_of key segments))
        → (same_key (key_of s.view) key ≡ true → AreSound key (fold (goes_on limit) (goes_on limit before s) (segments_of key segments)))
        → AreSound key (fold (goes_on limit) before (cond (same_key (key_of s.view) key) (s ∷ segments_of key segments) (segments_of key segments)))
    by_key true is without with_it = subst (λ b. AreSound key (fold (goes_on limit) before (cond b (s ∷ segments_of key segments) (segments_of key segments)))) (sym is) (with_it is)
    by_key false is without with_it = subst (λ b. AreSound key (fold (goes_on limit) before (cond b (s ∷ segments_of key segments) (segments_of key segments)))) (sym is) without

-- each latest conversation is sound
pub latest_sound : (limit : ℕ) (key : Key) (segments : List Segment) → AreSound key (latest limit key segments)
unfolding latest
latest_sound limit key segments = sound_from limit key None segments tt
