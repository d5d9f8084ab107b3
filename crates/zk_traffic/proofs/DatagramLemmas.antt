-- What a datagram says.
use Rattle.std.proofs.Common.{◌≡◌, Bool, true, false, cond, not, ◌&&◌, List, [], ◌∷◌, ◌++◌, Option, refl, sym, ap, ◌∙◌}
use Rattle.std.proofs.lemmas.Bool.{true≢false}
use Rattle.std.proofs.lemmas.List.{append-nil}
use Rattle.zk_base.specs.declared.network.Side.{Side}
use Rattle.zk_conn.specs.Segment.{is_tcp}
use Rattle.zk_traffic.specs.Conversation.{Conversation, datagram_units, is_cut, protocol_of, sender_in, speaks_dns}
use Rattle.zk_traffic.specs.Segments.{Segment}
use Rattle.zk_units.specs.declared.protocol.Protocol.{Protocol}
use Rattle.zk_units.specs.declared.stream_unit.Freed.{Freed}
use Rattle.zk_units.specs.declared.stream_unit.StreamUnit.{StreamUnit}
use Rattle.zk_units.specs.Units.{freed, message_unit}

first_fails : {A : Type 0} (a b d : Bool) (l : List A) → a ≡ false → cond (a && (b && d)) l [] ≡ []
first_fails true b d l is = absurd (true≢false is)
first_fails false b d l is = refl

second_fails : {A : Type 0} (a b d : Bool) (l : List A) → b ≡ false → cond (a && (b && d)) l [] ≡ []
second_fails false b d l is = refl
second_fails true true d l is = absurd (true≢false is)
second_fails true false d l is = refl

third_fails : {A : Type 0} (a b d : Bool) (l : List A) → d ≡ false → cond (a && (b && d)) l [] ≡ []
third_fails false b d l is = refl
third_fails true false d l is = refl
third_fails true true true l is = absurd (true≢false is)
third_fails true true false l is = refl

all_hold : {A : Type 0} (a b d : Bool) (l : List A) → a ≡ true → b ≡ true → d ≡ true → cond (a && (b && d)) l [] ≡ l
all_hold false b d l first second third = absurd (true≢false (sym first))
all_hold true false d l first second third = absurd (true≢false (sym second))
all_hold true true false l first second third = absurd (true≢false (sym third))
all_hold true true true l first second third = refl

-- nothing where it is none of UDP
pub none_tcp : (c : Conversation) (s : Segment) (said : List Freed) → not (is_tcp s.view.proto) ≡ false → said ≡ said ++ datagram_units c s
unfolding datagram_units
none_tcp c s said tcp = sym (ap (λ l. said ++ l) (first_fails (not (is_tcp s.view.proto)) (speaks_dns (protocol_of c)) (not (is_cut s)) _ tcp) ∙ append-nil said)

-- nothing where the connection doesn't speak DNS
pub none_else : (c : Conversation) (s : Segment) (said : List Freed) (protocol : Option Protocol) → (is_tcp s.view.proto ≡ false → protocol ≡ protocol_of c) → speaks_dns protocol ≡ false
    → said ≡ said ++ datagram_units c s
unfolding datagram_units
none_else c s said protocol speaks other = by_proto (is_tcp s.view.proto) refl
  where
    by_proto : (b : Bool) → is_tcp s.view.proto ≡ b → said ≡ said ++ datagram_units c s
    by_proto true tcp = none_tcp c s said (ap not tcp)
    by_proto false udp = sym (ap (λ l. said ++ l) (second_fails (not (is_tcp s.view.proto)) (speaks_dns (protocol_of c)) (not (is_cut s)) _ (ap speaks_dns (sym (speaks udp)) ∙ other)) ∙ append-nil said)

-- nothing where it was cut
pub none_cut : (c : Conversation) (s : Segment) (said : List Freed) → is_cut s ≡ true → said ≡ said ++ datagram_units c s
unfolding datagram_units
none_cut c s said cut = sym (ap (λ l. said ++ l) (third_fails (not (is_tcp s.view.proto)) (speaks_dns (protocol_of c)) (not (is_cut s)) _ (ap not cut)) ∙ append-nil said)

not_true : (b : Bool) → not b ≡ true → b ≡ false
not_true true is = absurd (true≢false (sym is))
not_true false is = refl

-- the message or the fault that it is
pub one_said : (c : Conversation) (s : Segment) (said now : List Freed) (protocol : Option Protocol) (side : Side) (found : StreamUnit) → side ≡ sender_in c s → found ≡ message_unit s.payload
    → not (is_tcp s.view.proto) ≡ true → (is_tcp s.view.proto ≡ false → protocol ≡ protocol_of c) → speaks_dns protocol ≡ true → is_cut s ≡ false
    → now ≡ said ++ freed side found ∷ [] → now ≡ said ++ datagram_units c s
unfolding datagram_units
one_said c s said now protocol side found side_is found_is udp speaks dns whole now_is =
    now_is ∙ ap (λ x. said ++ freed x found ∷ []) side_is ∙ ap (λ x. said ++ freed (sender_in c s) x ∷ []) found_is
    ∙ sym (ap (λ l. said ++ l) (all_hold (not (is_tcp s.view.proto)) (speaks_dns (protocol_of c)) (not (is_cut s)) _ udp (ap speaks_dns (sym (speaks (not_true (is_tcp s.view.proto) udp))) ∙ dns) (ap not whole)))
