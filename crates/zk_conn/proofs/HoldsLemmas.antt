-- An instance behind one more event.
use Rattle.std.proofs.Common.{◌≡◌, ℕ, Bool, true, false, cond, not, nat_lt, length, List, [], ◌∷◌, ◌++◌, fold, None, Some, refl, sym, ap, ◌∙◌, arith, ⊎_elim}
use Rattle.std.specs.Option.{option_map}
use Rattle.std.proofs.lemmas.Bool.{cases_lt, lt-ltb, le-ltb}
use Rattle.std.specs.List.{flat_map}
use Rattle.std.proofs.lemmas.Grind.{flat_map-append}
use Rattle.std.proofs.lemmas.List.{append-nil}
use Rattle.std.proofs.lemmas.List.Sums.{fold-append}
use Rattle.zk_base.specs.declared.network.Side.{Side}
use Rattle.zk_base.specs.declared.network.Side.TheVariants.{Orig, Resp}
use Rattle.zk_conn.specs.declared.facts.Facts.{Facts}
use Rattle.zk_conn.specs.declared.half.Half.{Half}
use Rattle.zk_conn.specs.declared.instance.Instance.{Instance}
use Rattle.zk_conn.specs.declared.key.Endpoint.{Endpoint}
use Rattle.zk_conn.specs.Half.{half_of, seen, end_facts_of}
use Rattle.zk_conn.specs.History.{added}
use Rattle.zk_conn.specs.Holds.{Has, Holds, Follows, half_after, facts_in, originator_in}
use Rattle.zk_conn.specs.Instance.{Opening, opening, originator, moment_after, letters_from, history_of, counted, sent_by, side_facts, end_facts, size_of, facts_from, facts_of}
use Rattle.zk_conn.specs.Segment.{is_tcp}
use Rattle.zk_conn.specs.State.{is_no, state_of}
use Rattle.zk_conn.specs.Told.{Told, Packet}
use Rattle.zk_conn.proofs.HalfLemmas.{half_of-append, sent_syn-is}

-- the history behind one more event
history_of-append : (o : Endpoint) (events : List Told) (event : Told)
    → history_of o (events ++ event ∷ []) ≡ fold added (history_of o events) (letters_from o event)
history_of-append o events event =
    ap (fold added []) (flat_map-append (letters_from o) events (event ∷ []))
    ∙ fold-append added [] (flat_map (letters_from o) events) (letters_from o event ++ [])
    ∙ ap (fold added (history_of o events)) (append-nil (letters_from o event))

-- an instance that follows one more event has what is known with it
pub has-append : (first : Opening) (old new : Instance) (events : List Told) (event : Told) → Has first old events → Follows old new event
    → Has first new (events ++ event ∷ [])
has-append first old new events event has follows = record {
  key_is = follows.key_is ∙ has.key_is;
  originator_is = follows.originator_is ∙ has.originator_is;
  responder_is = follows.responder_is ∙ has.responder_is;
  start_is = follows.start_is ∙ has.start_is;
  last_is = follows.last_is ∙ ap (λ m. moment_after m event) has.last_is ∙ sym (fold-append moment_after first.moment events (event ∷ []));
  orig_is = follows.orig_is ∙ of_side Orig old.orig has.orig_is;
  resp_is = follows.resp_is ∙ of_side Resp old.resp has.resp_is;
  history_is = follows.history_is ∙ ap (λ h. fold added h (letters_from (originator_in old) event)) has.history_is
      ∙ ap (λ o. fold added (history_of (originator first.packet) events) (letters_from o event)) has.originator_is
      ∙ sym (history_of-append (originator first.packet) events event);
}
  where
    of_side : (side : Side) (half : Half) → half ≡ half_of (originator first.packet) side events
        → half_after (originator_in old) side half event ≡ half_of (originator first.packet) side (events ++ event ∷ [])
    of_side side half is =
        ap (λ h. half_after (originator_in old) side h event) is
        ∙ ap (λ o. half_after o side (half_of (originator first.packet) side events) event) has.originator_is
        ∙ sym (half_of-append (originator first.packet) side events event)

-- one more event leaves the opening as it is
pub opening-append : (events : List Told) (event : Told) (first : Opening) → opening events ≡ Some first → opening (events ++ event ∷ []) ≡ Some first
opening-append [] event first is = cc
opening-append (e ∷ events) event first is = is

-- an instance that follows one more event is the connection with it
pub holds-append : (old new : Instance) (events : List Told) (event : Told) → Holds old events → Follows old new event → Holds new (events ++ event ∷ [])
holds-append old new events event holds follows = record {
  first = holds.first;
  begun = opening-append events event holds.first holds.begun;
  has = has-append holds.first old new events event holds.has follows;
}

-- the instance that a packet begins is the connection of that packet
pub holds-begun : (first : Opening) (old new : Instance) → Has first old [] → Follows old new (Packet first.moment first.packet)
    → Holds new (Packet first.moment first.packet ∷ [])
holds-begun first old new has follows = record {
  first = first;
  begun = refl;
  has = has-append first old new [] (Packet first.moment first.packet) has follows;
}

-- a side that spoke has a count above 0
spoke-is : (n : ℕ) → nat_lt 0 (counted n) ≡ nat_lt 0 n
spoke-is n = ⊎_elim
    (λ some. lt-ltb 0 (counted n) (grind (arith, some)) ∙ sym (lt-ltb 0 n some))
    (λ none. le-ltb 0 (counted n) (grind (arith, none)) ∙ sym (le-ltb 0 n none))
    (cases_lt 0 n)

-- what the table of states looks at
pub seen-is : (o : Endpoint) (side : Side) (events : List Told) → seen (half_of o side events) ≡ side_facts o side events
seen-is o side events = ap (λ b. record (side_facts o side events) { spoke = b }) (spoke-is (length (sent_by o side events)))

-- what is told to the scripts of a side
end_facts-is : (tcp : Bool) (o : Endpoint) (side : Side) (events : List Told) → end_facts_of tcp (half_of o side events) ≡ end_facts tcp o side events
end_facts-is tcp o side events = ap (λ s. record (end_facts tcp o side events) { size = s }) (of_size tcp)
  where
    old : Half
    old = half_of o side events

    of_syn : (b : Bool) → cond b None (Some old.front) ≡ cond (not b) (Some old.front) None
    of_syn true = refl
    of_syn false = refl

    of_size : (b : Bool) → cond b (cond (is_no old.syn) None (Some old.front)) (cond (nat_lt 0 old.packets) (Some old.payload_bytes) None) ≡ size_of b o side events
    of_size true = of_syn (is_no old.syn) ∙ ap (λ b. cond b (Some old.front) None) (sym (sent_syn-is (sent_by o side events)))
    of_size false = ap (λ b. cond b (Some old.payload_bytes) None) (spoke-is (length (sent_by o side events)))

-- what is told of an instance is told of the connection
pub facts_in-is : (instance : Instance) (events : List Told) → Holds instance events → Some (facts_in instance) ≡ facts_of events
facts_in-is instance events holds =
    ap Some
    (ap (λ o. record (facts_in instance) { orig_h = o.addr; orig_p = o.port }) holds.has.originator_is
    ∙ ap (λ o. record to { resp_h = o.addr; resp_p = o.port; proto = instance.key.proto; start = instance.start; last = instance.last; orig = mine.orig; resp = mine.resp; state = mine.state; history = instance.history }) holds.has.responder_is
    ∙ ap (λ k. record to { proto = k.proto; start = instance.start; last = instance.last; orig = end_facts_of (is_tcp k.proto) instance.orig; resp = end_facts_of (is_tcp k.proto) instance.resp; state = state_of (is_tcp k.proto) (seen instance.orig) (seen instance.resp); history = instance.history }) holds.has.key_is
    ∙ ap (λ m. record to { start = m; last = instance.last; orig = end_facts_of tcp instance.orig; resp = end_facts_of tcp instance.resp; state = state_of tcp (seen instance.orig) (seen instance.resp); history = instance.history }) holds.has.start_is
    ∙ ap (λ m. record to { last = m; orig = end_facts_of tcp instance.orig; resp = end_facts_of tcp instance.resp; state = state_of tcp (seen instance.orig) (seen instance.resp); history = instance.history }) holds.has.last_is
    ∙ ap (λ h. record to { orig = end_facts_of tcp h; resp = end_facts_of tcp instance.resp; state = state_of tcp (seen h) (seen instance.resp); history = instance.history }) holds.has.orig_is
    ∙ ap (λ h. record to { orig = end_facts_of tcp orig; resp = end_facts_of tcp h; state = state_of tcp (seen orig) (seen h); history = instance.history }) holds.has.resp_is
    ∙ ap (λ h. record to { orig = end_facts_of tcp orig; resp = end_facts_of tcp resp; state = state_of tcp (seen orig) (seen resp); history = h }) holds.has.history_is
    ∙ ap (λ e. record to { orig = e; resp = end_facts_of tcp resp; state = state_of tcp (seen orig) (seen resp) }) (end_facts-is tcp o Orig events)
    ∙ ap (λ e. record to { resp = e; state = state_of tcp (seen orig) (seen resp) }) (end_facts-is tcp o Resp events)
    ∙ ap (λ s. record to { state = state_of tcp s (seen resp) }) (seen-is o Orig events)
    ∙ ap (λ s. record to { state = state_of tcp (side_facts o Orig events) s }) (seen-is o Resp events))
    ∙ sym (ap (option_map (λ first. facts_from first events)) holds.begun)
  where
    mine : Facts
    mine = facts_in instance

    to : Facts
    to = facts_from holds.first events

    tcp : Bool
    tcp = is_tcp holds.first.packet.proto

    o : Endpoint
    o = originator holds.first.packet

    orig : Half
    orig = half_of o Orig events

    resp : Half
    resp = half_of o Resp events
