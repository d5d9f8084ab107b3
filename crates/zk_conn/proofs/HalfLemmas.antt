-- A side of a connection behind one more event.
use Rattle.std.proofs.Common.{◌≡◌, ℕ, ◌+◌, Bool, true, false, cond, not, ◌||◌, ◌&&◌, List, [], ◌∷◌, ◌++◌, length, filter, find, sum_by, Option, None, Some, unwrap_or, refl, sym, ap, ◌∙◌, arith, append_assoc, zero-add, length-append}
use Rattle.std.proofs.lemmas.List.{append-nil}
use Rattle.std.specs.List.{list_any}
use Rattle.std.specs.Option.{option_or}
use Rattle.std.proofs.lemmas.Bool.{true≢false}
use Rattle.std.proofs.lemmas.List.Elements.{filter-append, filter_map-append}
use Rattle.std.proofs.lemmas.List.Folds.{find-append}
use Rattle.std.proofs.lemmas.List.Sums.{fold-append, sum_by-append}
use Rattle.zk_base.specs.declared.network.Side.{Side}
use Rattle.zk_conn.specs.declared.half.Half.{Half}
use Rattle.zk_conn.specs.declared.half.StreamEnd.{StreamEnd}
use Rattle.zk_conn.specs.declared.half.StreamEnd.TheVariants.{Open, Fin, Rst}
use Rattle.zk_conn.specs.declared.half.SynSent.TheVariants.{Syn, SynAck}
use Rattle.zk_conn.specs.declared.key.Endpoint.{Endpoint}
use Rattle.zk_conn.specs.declared.view.L4View.{L4View}
use Rattle.zk_conn.specs.Half.{half_of, end_after, sent}
use Rattle.zk_conn.specs.Holds.{half_after}
use Rattle.zk_conn.specs.Instance.{side_of, same_side, sent_by, counted, syn_in, closed_by, closing_of, first_closing, end_of, front_of, front_after}
use Rattle.zk_conn.specs.Segment.{has_syn, has_ack, has_fin, has_rst}
use Rattle.zk_conn.specs.State.{is_no, is_open}
use Rattle.zk_conn.specs.Told.{Told, Packet, Front, Reached, Removal, Ending, packets, packet_of}

-- a count that stood still stands still
counted_more : (n m : ℕ) → counted (counted n + m) ≡ counted (n + m)
counted_more n m = grind (arith)

option_or_none : {A : Type 0} (o : Option A) → option_or o None ≡ o
option_or_none None = refl
option_or_none (Some x) = refl

option_or_assoc : {A : Type 0} (o p q : Option A) → option_or o (option_or p q) ≡ option_or (option_or o p) q
option_or_assoc None p q = refl
option_or_assoc (Some x) p q = refl

-- one more event closes an end where none before it does
first_closing-append : (o : Endpoint) (side : Side) (before events : List Told) (event : Told)
    → first_closing o side before (events ++ event ∷ []) ≡ option_or (first_closing o side before events) (closing_of o side (before ++ events) event)
first_closing-append o side before [] event =
    option_or_none (closing_of o side before event) ∙ ap (λ b. closing_of o side b event) (sym (append-nil before))
first_closing-append o side before (e ∷ events) event =
    ap (option_or (closing_of o side before e)) (first_closing-append o side (before ++ e ∷ []) events event)
    ∙ option_or_assoc (closing_of o side before e) (first_closing o side (before ++ e ∷ []) events) (closing_of o side ((before ++ e ∷ []) ++ events) event)
    ∙ ap (λ b. option_or (first_closing o side before (e ∷ events)) (closing_of o side b event)) (append_assoc before (e ∷ []) events)

-- what closes an end does not leave it open
closed_by-closed : (b : Bool) (p : L4View) (c d : Bool) → has_rst p ≡ c → (has_fin p && not (b || has_syn p)) ≡ d → is_open (unwrap_or (closed_by b p) Fin) ≡ false
closed_by-closed b p true d is_c is_d = ap (λ x. is_open (unwrap_or (cond x (Some Rst) (cond (has_fin p && not (b || has_syn p)) (Some Fin) None)) Fin)) is_c
closed_by-closed b p false true is_c is_d =
    ap (λ x. is_open (unwrap_or (cond x (Some Rst) (cond (has_fin p && not (b || has_syn p)) (Some Fin) None)) Fin)) is_c
    ∙ ap (λ x. is_open (unwrap_or (cond x (Some Fin) None) Fin)) is_d
closed_by-closed b p false false is_c is_d =
    ap (λ x. is_open (unwrap_or (cond x (Some Rst) (cond (has_fin p && not (b || has_syn p)) (Some Fin) None)) Fin)) is_c
    ∙ ap (λ x. is_open (unwrap_or (cond x (Some Fin) None) Fin)) is_d

-- a closing that leaves no end open
abbrev IsClosing : Option StreamEnd → Type 0
IsClosing closing = is_open (unwrap_or closing Fin) ≡ false

closing_of-closed : (o : Endpoint) (side : Side) (before : List Told) (event : Told) → IsClosing (closing_of o side before event)
closing_of-closed o side before (Packet moment p) = by_cases (same_side (side_of o p) side)
  where
    by_cases : (b : Bool) → IsClosing (cond b (closed_by (list_any has_syn (sent_by o side before)) p) None)
    by_cases true = closed_by-closed (list_any has_syn (sent_by o side before)) p (has_rst p) (has_fin p && not (list_any has_syn (sent_by o side before) || has_syn p)) refl refl
    by_cases false = refl
closing_of-closed o side before (Front key of front) = refl
closing_of-closed o side before (Reached key of) = by_cases (same_side of side)
  where
    by_cases : (b : Bool) → IsClosing (cond b (Some Fin) None)
    by_cases true = refl
    by_cases false = refl
closing_of-closed o side before (Removal key at) = refl
closing_of-closed o side before (Ending key last) = refl

option_or-closed : (a b : Option StreamEnd) → IsClosing a → IsClosing b → IsClosing (option_or a b)
option_or-closed None b first second = second
option_or-closed (Some end) b first second = first

first_closing-closed : (o : Endpoint) (side : Side) (before events : List Told) → IsClosing (first_closing o side before events)
first_closing-closed o side before [] = refl
first_closing-closed o side before (event ∷ events) =
    option_or-closed (closing_of o side before event) (first_closing o side (before ++ event ∷ []) events)
    (closing_of-closed o side before event) (first_closing-closed o side (before ++ event ∷ []) events)

-- an end with one more closing
end_after-closing : (a b : Option StreamEnd) → IsClosing a → unwrap_or (option_or a b) Open ≡ end_after (unwrap_or a Open) b
end_after-closing None b closed = refl
end_after-closing (Some Open) b closed = absurd (true≢false closed)
end_after-closing (Some Fin) b closed = refl
end_after-closing (Some Rst) b closed = refl

pub end_of-append : (o : Endpoint) (side : Side) (events : List Told) (event : Told)
    → end_of o side (events ++ event ∷ []) ≡ end_after (end_of o side events) (closing_of o side events event)
end_of-append o side events event =
    ap (λ c. unwrap_or c Open) (first_closing-append o side [] events event)
    ∙ end_after-closing (first_closing o side [] events) (closing_of o side events event) (first_closing-closed o side [] events)

end_after-none : (end : StreamEnd) → end_after end None ≡ end
end_after-none Open = refl
end_after-none Fin = refl
end_after-none Rst = refl

-- the packets of a side behind one more event
sent_by-append : (o : Endpoint) (side : Side) (events : List Told) (event : Told)
    → sent_by o side (events ++ event ∷ []) ≡ sent_by o side events ++ sent_by o side (event ∷ [])
sent_by-append o side events event =
    ap (filter (λ p. same_side (side_of o p) side)) (filter_map-append packet_of events (event ∷ []))
    ∙ filter-append (λ p. same_side (side_of o p) side) (packets events) (packets (event ∷ []))

-- a side has sent a SYN where its first SYN is one
pub sent_syn-is : (packets : List L4View) → list_any has_syn packets ≡ not (is_no (syn_in (find has_syn packets)))
sent_syn-is [] = refl
sent_syn-is (p ∷ packets) = by_cases (has_syn p) (sent_syn-is packets)
  where
    of_first : (b : Bool) → true ≡ not (is_no (cond b SynAck Syn))
    of_first true = refl
    of_first false = refl

    by_cases : (b : Bool) → list_any has_syn packets ≡ not (is_no (syn_in (find has_syn packets)))
        → (b || list_any has_syn packets) ≡ not (is_no (syn_in (cond b (Some p) (find has_syn packets))))
    by_cases true rest = of_first (has_ack p)
    by_cases false rest = rest

syn_after-is : (a b : Option L4View) → syn_in (option_or a b) ≡ cond (is_no (syn_in a)) (syn_in b) (syn_in a)
syn_after-is None b = refl
syn_after-is (Some p) b = by_cases (has_ack p)
  where
    by_cases : (c : Bool) → cond c SynAck Syn ≡ cond (is_no (cond c SynAck Syn)) (syn_in b) (cond c SynAck Syn)
    by_cases true = refl
    by_cases false = refl

-- a side with these packets, this end and this front
abbrev half_from : List L4View → StreamEnd → ℕ → Half
half_from sent end front = record {
  syn = syn_in (find has_syn sent);
  end = end;
  packets = counted (length sent);
  ip_bytes = counted (sum_by (λ (p : L4View). p.ip_len) sent);
  payload_bytes = counted (sum_by (λ (p : L4View). p.payload_len) sent);
  front = front;
}

half_from-append : (packets : List L4View) (p : L4View) (end : StreamEnd) (front : ℕ)
    → half_from (packets ++ p ∷ []) (end_after end (closed_by (list_any has_syn packets) p)) front ≡ sent (half_from packets end front) p
half_from-append packets p end front =
    ap (λ x. record new { syn = x }) (ap syn_in (find-append has_syn packets (p ∷ [])) ∙ syn_after-is (find has_syn packets) (find has_syn (p ∷ [])))
    ∙ ap (λ x. record to { end = end_after end (closed_by x p); packets = new.packets; ip_bytes = new.ip_bytes; payload_bytes = new.payload_bytes }) (sent_syn-is packets)
    ∙ ap (λ x. record to { packets = x; ip_bytes = new.ip_bytes; payload_bytes = new.payload_bytes }) (ap counted (length-append packets (p ∷ [])) ∙ sym (counted_more (length packets) 1))
    ∙ ap (λ x. record to { ip_bytes = x; payload_bytes = new.payload_bytes }) (of_sum (λ (q : L4View). q.ip_len))
    ∙ ap (λ x. record to { payload_bytes = x }) (of_sum (λ (q : L4View). q.payload_len))
  where
    new : Half
    new = half_from (packets ++ p ∷ []) (end_after end (closed_by (list_any has_syn packets) p)) front

    to : Half
    to = sent (half_from packets end front) p

    of_sum : (f : L4View → ℕ) → counted (sum_by f (packets ++ p ∷ [])) ≡ counted (counted (sum_by f packets) + f p)
    of_sum f = ap counted (sum_by-append f packets (p ∷ []) ∙ ap (λ n. sum_by f packets + n) (zero-add (f p))) ∙ sym (counted_more (sum_by f packets) (f p))

-- a side behind one more event is the side before it with the event
pub half_of-append : (o : Endpoint) (side : Side) (events : List Told) (event : Told)
    → half_of o side (events ++ event ∷ []) ≡ half_after o side (half_of o side events) event
half_of-append o side events event =
    ap (λ s. half_from s (end_of o side (events ++ event ∷ [])) (front_of side (events ++ event ∷ []))) (sent_by-append o side events event)
    ∙ ap (λ e. half_from (sent_by o side events ++ sent_by o side (event ∷ [])) e (front_of side (events ++ event ∷ []))) (end_of-append o side events event)
    ∙ ap (half_from (sent_by o side events ++ sent_by o side (event ∷ [])) (end_after (end_of o side events) (closing_of o side events event))) (fold-append (front_after side) 0 events (event ∷ []))
    ∙ of_event event
  where
    old : Half
    old = half_of o side events

    quiet : (closing : Option StreamEnd) (front : ℕ) → half_from (sent_by o side events ++ []) (end_after (end_of o side events) closing) front
        ≡ half_from (sent_by o side events) (end_after (end_of o side events) closing) front
    quiet closing front = ap (λ s. half_from s (end_after (end_of o side events) closing) front) (append-nil (sent_by o side events))

    same : half_from (sent_by o side events ++ []) (end_after (end_of o side events) None) (front_of side events) ≡ half_of o side events
    same = quiet None (front_of side events) ∙ ap (λ e. half_from (sent_by o side events) e (front_of side events)) (end_after-none (end_of o side events))

    of_front : (front : ℕ) (b : Bool) → half_from (sent_by o side events ++ []) (end_after (end_of o side events) None) (cond b front (front_of side events))
        ≡ cond b (record old { front = front }) old
    of_front front true = quiet None front ∙ ap (λ e. half_from (sent_by o side events) e front) (end_after-none (end_of o side events))
    of_front front false = same

    of_fin : (b : Bool) → half_from (sent_by o side events ++ []) (end_after (end_of o side events) (cond b (Some Fin) None)) (front_of side events)
        ≡ cond b (record old { end = end_after old.end (Some Fin) }) old
    of_fin true = quiet (Some Fin) (front_of side events)
    of_fin false = same

    of_packet : (p : L4View) (b : Bool)
        → half_from (sent_by o side events ++ cond b (p ∷ []) []) (end_after (end_of o side events) (cond b (closed_by (list_any has_syn (sent_by o side events)) p) None)) (front_of side events)
        ≡ cond b (sent (half_of o side events) p) (half_of o side events)
    of_packet p true = half_from-append (sent_by o side events) p (end_of o side events) (front_of side events)
    of_packet p false = same

    of_event : (e : Told) → half_from (sent_by o side events ++ sent_by o side (e ∷ [])) (end_after (end_of o side events) (closing_of o side events e)) (front_after side (front_of side events) e)
        ≡ half_after o side (half_of o side events) e
    of_event (Packet moment p) = of_packet p (same_side (side_of o p) side)
    of_event (Front key of front) = of_front front (same_side of side)
    of_event (Reached key of) = of_fin (same_side of side)
    of_event (Removal key at) = same
    of_event (Ending key last) = same
