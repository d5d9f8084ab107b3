-- How a segment closes the ends of its connection.
use Rattle.std.proofs.Common.{◌≡◌, ℕ, Bool, true, false, cond, if◌then◌else◌, not, ◌&&◌, ◌||◌, ◌==◌, List, [], ◌∷◌, ◌++◌, Option, None, Some, refl, sym, ap, ◌∙◌, append_assoc}
use Rattle.std.proofs.lemmas.List.{append-nil}
use Rattle.zk_base.specs.declared.network.Side.{Side}
use Rattle.zk_base.specs.declared.network.Side.TheVariants.{Orig, Resp}
use Rattle.zk_base.specs.Sides.{other}
use Rattle.zk_conn.specs.declared.half.StreamEnd.{StreamEnd}
use Rattle.zk_conn.specs.declared.half.StreamEnd.TheVariants.{Open, Fin, Rst}
use Rattle.zk_conn.specs.declared.key.Endpoint.{Endpoint}
use Rattle.zk_conn.specs.declared.key.Key.{Key}
use Rattle.zk_conn.specs.Half.{end_after}
use Rattle.zk_conn.specs.Instance.{closed_by, closing_of, end_of, has_sent_syn, same_side}
use Rattle.zk_conn.specs.Segment.{key_of}
use Rattle.zk_conn.specs.State.{is_fin, is_open}
use Rattle.zk_conn.specs.Told.{Told, Packet, Front, Reached}
use Rattle.zk_conn.proofs.HalfLemmas.{end_of-append}
use Rattle.zk_traffic.specs.Conversation.{Conversation, Direction, direction, direction_with, front_at, has_ended, moved, moved_with, originator_of, sender_in, with_packet, with_segment}
use Rattle.zk_traffic.specs.Instances.{is_over_by}
use Rattle.zk_traffic.specs.Items.{ends}
use Rattle.zk_traffic.specs.Segments.{Segment}
use Rattle.zk_traffic.proofs.ToldLemmas.{AreQuiet, end_of-front, end_of-reached, front_quiet, last-with, quiet_both, reached_quiet, removal-later}

-- what connections are told of a stream is quiet
pub moved_quiet : (limit : ℕ) (key : Key) (side : Side) (before after : Option Direction) → AreQuiet key (moved limit key side before after)
moved_quiet limit key side before after = by_cases (front_at limit before == front_at limit after) (has_ended limit after && not (has_ended limit before))
  where
    by_cases : (a b : Bool) → AreQuiet key (cond a [] (Front key side (front_at limit after) ∷ []) ++ cond b (Reached key side ∷ []) [])
    by_cases true true = (reached_quiet key side, tt)
    by_cases true false = tt
    by_cases false true = (front_quiet key side (front_at limit after), (reached_quiet key side, tt))
    by_cases false false = (front_quiet key side (front_at limit after), tt)

-- a side's end behind what is told of a stream
end_of-moved : (o : Endpoint) (x : Side) (l : List Told) (limit : ℕ) (key : Key) (side : Side) (before after : Option Direction)
    → end_of o x (l ++ moved limit key side before after)
    ≡ cond (has_ended limit after && not (has_ended limit before)) (end_after (end_of o x l) (if same_side side x then Some Fin else None)) (end_of o x l)
end_of-moved o x l limit key side before after = by_cases (front_at limit before == front_at limit after) (has_ended limit after && not (has_ended limit before))
  where
    by_cases : (a b : Bool) → end_of o x (l ++ (cond a [] (Front key side (front_at limit after) ∷ []) ++ cond b (Reached key side ∷ []) []))
        ≡ cond b (end_after (end_of o x l) (if same_side side x then Some Fin else None)) (end_of o x l)
    by_cases true true = end_of-reached o x l key side
    by_cases true false = ap (end_of o x) (append-nil l)
    by_cases false true =
        ap (end_of o x) (sym (append_assoc l (Front key side (front_at limit after) ∷ []) (Reached key side ∷ [])))
        ∙ end_of-reached o x (l ++ Front key side (front_at limit after) ∷ []) key side
        ∙ ap (λ e. end_after e (if same_side side x then Some Fin else None)) (end_of-front o x l key side (front_at limit after))
    by_cases false false = end_of-front o x l key side (front_at limit after)

end_after-none : (end : StreamEnd) → end_after end None ≡ end
end_after-none Open = refl
end_after-none Fin = refl
end_after-none Rst = refl

cond_same : {A : Type 0} (b : Bool) (x y : A) → x ≡ y → cond b x y ≡ y
cond_same true x y same = same
cond_same false x y same = refl

same_itself : (side : Side) → same_side side side ≡ true
same_itself Orig = refl
same_itself Resp = refl

other_apart : (side : Side) → same_side (other side) side ≡ false
other_apart Orig = refl
other_apart Resp = refl

apart_other : (side : Side) → same_side side (other side) ≡ false
apart_other Orig = refl
apart_other Resp = refl

-- of the sender's end
pub end_of-sender : (limit : ℕ) (c : Conversation) (s : Segment)
    → end_of (originator_of c) (sender_in c s) (with_segment limit c s).events
    ≡ cond (has_ended limit (direction_with c s (sender_in c s)) && not (has_ended limit (direction c (sender_in c s))))
    (end_after (end_of (originator_of c) (sender_in c s) (with_packet c s)) (Some Fin)) (end_of (originator_of c) (sender_in c s) (with_packet c s))
unfolding with_segment
end_of-sender limit c s =
    let o = originator_of c in
    let x = sender_in c s in
    let w = with_packet c s in
    let m = moved_with limit c s x in
    let r = has_ended limit (direction_with c s x) && not (has_ended limit (direction c x)) in
    ap (end_of o x) (sym (append_assoc w m (moved_with limit c s (other x))))
    ∙ end_of-moved o x (w ++ m) limit (key_of s.view) (other x) (direction c (other x)) (direction_with c s (other x))
    ∙ cond_same (has_ended limit (direction_with c s (other x)) && not (has_ended limit (direction c (other x)))) _ (end_of o x (w ++ m))
    (ap (λ b. end_after (end_of o x (w ++ m)) (if b then Some Fin else None)) (other_apart x) ∙ end_after-none (end_of o x (w ++ m)))
    ∙ end_of-moved o x w limit (key_of s.view) x (direction c x) (direction_with c s x)
    ∙ ap (λ b. cond r (end_after (end_of o x w) (if b then Some Fin else None)) (end_of o x w)) (same_itself x)

-- behind what is told of the sender's stream, the receiver's end is as before the segment
pub end_of-between : (limit : ℕ) (c : Conversation) (s : Segment)
    → end_of (originator_of c) (other (sender_in c s)) (with_packet c s ++ moved_with limit c s (sender_in c s)) ≡ end_of (originator_of c) (other (sender_in c s)) c.events
end_of-between limit c s =
    let o = originator_of c in
    let x = sender_in c s in
    let w = with_packet c s in
    end_of-moved o (other x) w limit (key_of s.view) x (direction c x) (direction_with c s x)
    ∙ cond_same (has_ended limit (direction_with c s x) && not (has_ended limit (direction c x))) _ (end_of o (other x) w)
    (ap (λ b. end_after (end_of o (other x) w) (if b then Some Fin else None)) (apart_other x) ∙ end_after-none (end_of o (other x) w))
    ∙ end_of-append o (other x) c.events (Packet s.moment s.view)
    ∙ ap (λ b. end_after (end_of o (other x) c.events) (if b then closed_by (has_sent_syn o (other x) c.events) s.view else None)) (apart_other x)
    ∙ end_after-none (end_of o (other x) c.events)

pub end_of-receiver : (limit : ℕ) (c : Conversation) (s : Segment)
    → end_of (originator_of c) (other (sender_in c s)) (with_segment limit c s).events
    ≡ cond (has_ended limit (direction_with c s (other (sender_in c s))) && not (has_ended limit (direction c (other (sender_in c s)))))
    (end_after (end_of (originator_of c) (other (sender_in c s)) c.events) (Some Fin)) (end_of (originator_of c) (other (sender_in c s)) c.events)
unfolding with_segment
end_of-receiver limit c s =
    let o = originator_of c in
    let x = sender_in c s in
    let w = with_packet c s in
    let m = moved_with limit c s x in
    let r = has_ended limit (direction_with c s (other x)) && not (has_ended limit (direction c (other x))) in
    ap (end_of o (other x)) (sym (append_assoc w m (moved_with limit c s (other x))))
    ∙ end_of-moved o (other x) (w ++ m) limit (key_of s.view) (other x) (direction c (other x)) (direction_with c s (other x))
    ∙ ap (λ b. cond r (end_after (end_of o (other x) (w ++ m)) (if b then Some Fin else None)) (end_of o (other x) (w ++ m))) (same_itself (other x))
    ∙ ap (λ e. cond r (end_after e (Some Fin)) e) (end_of-between limit c s)

sender_case : (e0 e1 : StreamEnd) (closing : Option StreamEnd) (r : Bool) → e1 ≡ end_after e0 closing
    → ((is_fin e1 && not (is_fin e0)) || (r && is_open e1)) ≡ (is_fin (cond r (end_after e1 (Some Fin)) e1) && not (is_fin e0))
sender_case Open Open closing true is = refl
sender_case Open Open closing false is = refl
sender_case Open Fin closing true is = refl
sender_case Open Fin closing false is = refl
sender_case Open Rst closing true is = refl
sender_case Open Rst closing false is = refl
sender_case Fin Open closing r is = absurd (cc)
sender_case Fin Fin closing true is = refl
sender_case Fin Fin closing false is = refl
sender_case Fin Rst closing true is = refl
sender_case Fin Rst closing false is = refl
sender_case Rst Open closing r is = absurd (cc)
sender_case Rst Fin closing r is = absurd (cc)
sender_case Rst Rst closing true is = refl
sender_case Rst Rst closing false is = refl

receiver_case : (e : StreamEnd) (r : Bool) → (r && is_open e) ≡ (is_fin (cond r (end_after e (Some Fin)) e) && not (is_fin e))
receiver_case Open true = refl
receiver_case Open false = refl
receiver_case Fin true = refl
receiver_case Fin false = refl
receiver_case Rst true = refl
receiver_case Rst false = refl

-- the sender's end becomes Fin by its packet, or because its stream has reached the FIN while it was open
pub sender_ends : (limit : ℕ) (c : Conversation) (s : Segment) (ended reached : Bool)
    → ended ≡ (is_fin (end_of (originator_of c) (sender_in c s) (with_packet c s)) && not (is_fin (end_of (originator_of c) (sender_in c s) c.events)))
    → reached ≡ ((has_ended limit (direction_with c s (sender_in c s)) && not (has_ended limit (direction c (sender_in c s)))) && is_open (end_of (originator_of c) (sender_in c s) (with_packet c s)))
    → (ended || reached) ≡ ends limit c s (sender_in c s)
sender_ends limit c s ended reached ended_is reached_is =
    let o = originator_of c in
    let x = sender_in c s in
    let r = has_ended limit (direction_with c s x) && not (has_ended limit (direction c x)) in
    ap (λ b. b || reached) ended_is ∙ ap (λ b. (is_fin (end_of o x (with_packet c s)) && not (is_fin (end_of o x c.events))) || b) reached_is
    ∙ sender_case (end_of o x c.events) (end_of o x (with_packet c s)) (closing_of o x c.events (Packet s.moment s.view)) r (end_of-append o x c.events (Packet s.moment s.view))
    ∙ sym (ap (λ e. is_fin e && not (is_fin (end_of o x c.events))) (end_of-sender limit c s))

-- the receiver's end becomes Fin where its stream has reached the FIN while it was open
pub receiver_ends : (limit : ℕ) (c : Conversation) (s : Segment) (reached : Bool)
    → reached ≡ ((has_ended limit (direction_with c s (other (sender_in c s))) && not (has_ended limit (direction c (other (sender_in c s)))))
    && is_open (end_of (originator_of c) (other (sender_in c s)) (with_packet c s ++ moved_with limit c s (sender_in c s))))
    → reached ≡ ends limit c s (other (sender_in c s))
receiver_ends limit c s reached reached_is =
    let o = originator_of c in
    let x = other (sender_in c s) in
    let r = has_ended limit (direction_with c s x) && not (has_ended limit (direction c x)) in
    reached_is ∙ ap (λ e. r && is_open e) (end_of-between limit c s)
    ∙ receiver_case (end_of o x c.events) r
    ∙ sym (ap (λ e. is_fin e && not (is_fin (end_of o x c.events))) (end_of-receiver limit c s))

-- a conversation isn't over at its last segment
pub not_over : (limit : ℕ) (c : Conversation) (s : Segment) → is_over_by s.moment (with_segment limit c s) ≡ false
unfolding with_segment
not_over limit c s =
    let m = moved_with limit c s (sender_in c s) ++ moved_with limit c s (other (sender_in c s)) in
    removal-later c.first (with_packet c s ++ m) s.moment
    (last-with (key_of s.view) c.first c.events m s.moment s.view
    (quiet_both (key_of s.view) (moved_with limit c s (sender_in c s)) (moved_with limit c s (other (sender_in c s)))
    (moved_quiet limit (key_of s.view) (sender_in c s) (direction c (sender_in c s)) (direction_with c s (sender_in c s)))
    (moved_quiet limit (key_of s.view) (other (sender_in c s)) (direction c (other (sender_in c s))) (direction_with c s (other (sender_in c s))))))
