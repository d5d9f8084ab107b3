-- The readers of both protocols.
use Rattle.std.proofs.Common.{◌≡◌, ℕ, zero, suc, ◌+◌, ◌≤◌, true, List, [], ◌∷◌, ◌++◌, length, drop, Option, Some, None, refl, sym, ap, subst, ◌∙◌, arith, append_assoc}
use Rattle.std.specs.List.{filter_map}
use Rattle.std.specs.Option.{option_map, option_or, option_to_list}
use Rattle.std.proofs.lemmas.List.{append-nil}
use Rattle.std.proofs.lemmas.List.Elements.{filter_map-append}
use Rattle.zk_base.specs.Places.{Place}
use Rattle.zk_base.specs.declared.network.Side.{Side}
use Rattle.zk_base.specs.declared.network.Side.TheVariants.{Orig, Resp}
use Rattle.zk_http.specs.declared.units.«Unit».{«Unit» as HttpUnit}
use Rattle.zk_base.specs.Sides.{other}
use Rattle.zk_http.specs.Places.{Both, Stream, of_side}
use Rattle.zk_http.specs.Units as http
use Rattle.zk_units.specs.declared.dns.DnsReader.{DnsReader}
use Rattle.zk_units.specs.declared.http_reader.HttpReader.{HttpReader}
use Rattle.zk_units.specs.declared.protocol.Protocol.{Protocol}
use Rattle.zk_units.specs.declared.protocol.Protocol.TheVariants as speaks
use Rattle.zk_units.specs.declared.dns.DnsSide.{DnsSide}
use Rattle.zk_units.specs.declared.readers.Reader.{Reader}
use Rattle.zk_units.specs.declared.readers.Reader.TheVariants as reads
use Rattle.zk_units.specs.declared.unread.Unread.{Unread}
use Rattle.zk_base.specs.ByteQueue.{bytes_of}
use Rattle.zk_dns.specs.Stream.{units_from, units_of}
use Rattle.zk_http.specs.Cases.{case_of}
use Rattle.zk_http.specs.Reads.{shortest, used_in}
use Rattle.zk_http.specs.Units.{next, unread as not_read}
use Rattle.zk_units.specs.declared.readers.Readers.{Readers}
use Rattle.zk_units.specs.declared.stream_unit.Freed.{Freed}
use Rattle.zk_units.specs.declared.stream_unit.StreamUnit.{StreamUnit}
use Rattle.zk_units.specs.declared.stream_unit.StreamUnit.TheVariants as says
use Rattle.zk_units.specs.Standing.{BothTurn, DnsStands, DnsTurn, Gets, HttpStands, NextIs, StandsBy, StandsFor, Turn, add_some, behind, dns_side, ended_by, held_by, held_in, no_streams, unread_of, with_stream}
use Rattle.zk_units.specs.Unread.{cuts_of, places_of}
use Rattle.zk_units.proofs.CutLemmas.{bytes-cut}
use Rattle.zk_units.specs.Units.{add, add_all, bytes_in, bytes_unread, dns_unread, freed, http_in, http_units, all_freed, many, next_of_both, next_unit, no_units, units_freed}

-- how many bytes are kept of a side
bytes_counted : (u : Unread) → bytes_in (places_of u) ≡ length (bytes_of u.bytes)
unfolding places_of
bytes_counted u = bytes-cut (bytes_of u.bytes) (cuts_of u)

-- what stands behind a reader of HTTP or of DNS
pub http_stands : (P : Option Protocol → Type 0) (reader : HttpReader) (protocol : Option Protocol) (streams : Both Stream) (units : Both (List StreamUnit))
    → StandsBy (reads.Http reader) protocol streams units → (HttpStands reader streams (http_units units) → P (Some speaks.Http)) → P protocol
http_stands P reader None streams units stands then = absurd stands
http_stands P reader (Some speaks.Http) streams units stands then = then stands
http_stands P reader (Some speaks.Dns) streams units stands then = absurd stands

pub dns_stands : (P : Option Protocol → Type 0) (reader : DnsReader) (protocol : Option Protocol) (streams : Both Stream) (units : Both (List StreamUnit))
    → StandsBy (reads.Dns reader) protocol streams units → (DnsStands reader streams units → P (Some speaks.Dns)) → P protocol
dns_stands P reader None streams units stands then = absurd stands
dns_stands P reader (Some speaks.Http) streams units stands then = absurd stands
dns_stands P reader (Some speaks.Dns) streams units stands then = then stands

pub silent_stands : (P : Option Protocol → Type 0) (protocol : Option Protocol) (streams : Both Stream) (units : Both (List StreamUnit))
    → StandsBy reads.Silent protocol streams units → P None → P protocol
silent_stands P None streams units stands then = then
silent_stands P (Some protocol) streams units stands then = absurd stands

-- how many bytes of a side a reader keeps
pub http_held : (side : Side) (r : HttpReader) → held_by side (reads.Http r) ≡ length (bytes_of (unread_of side r).bytes)
http_held Orig r = refl
http_held Resp r = refl

pub dns_held : (side : Side) (r : DnsReader) → held_by side (reads.Dns r) ≡ length (bytes_of (dns_side side r).«unread».bytes)
dns_held Orig r = refl
dns_held Resp r = refl

-- ---- what is given

pub gets_silent : (side : Side) (places : List Place) (old new : Readers) → old.reader ≡ reads.Silent → new.reader ≡ reads.Silent → Gets side places old new
unfolding StandsFor
gets_silent side places old new old_is new_is = record {
  stands = λ protocol streams units none stands. silent_stands (λ p. StandsBy new.reader p (with_stream side (behind (of_side side streams) places) streams) units) protocol streams units
      (subst (λ r. StandsBy r protocol streams units) old_is stands)
      (subst (λ r. StandsBy r None (with_stream side (behind (of_side side streams) places) streams) units) (sym new_is) tt);
}

pub gets_http : (side : Side) (places : List Place) (old new : Readers) (a b : HttpReader) → old.reader ≡ reads.Http a → new.reader ≡ reads.Http b
    → ((streams : Both Stream) (units : Both (List HttpUnit)) → ((of_side side streams).ended ≡ true → places ≡ []) → HttpStands a streams units
    → HttpStands b (with_stream side (behind (of_side side streams) places) streams) units)
    → Gets side places old new
unfolding StandsFor
gets_http side places old new a b old_is new_is gets = record {
  stands = λ protocol streams units none stands. http_stands (λ p. StandsBy new.reader p (with_stream side (behind (of_side side streams) places) streams) units) a protocol streams units
      (subst (λ r. StandsBy r protocol streams units) old_is stands)
      (λ is. subst (λ r. StandsBy r (Some speaks.Http) (with_stream side (behind (of_side side streams) places) streams) units) (sym new_is) (gets streams (http_units units) none is));
}

pub gets_dns : (side : Side) (places : List Place) (old new : Readers) (a b : DnsReader) → old.reader ≡ reads.Dns a → new.reader ≡ reads.Dns b
    → ((streams : Both Stream) (units : Both (List StreamUnit)) → DnsStands a streams units → DnsStands b (with_stream side (behind (of_side side streams) places) streams) units)
    → Gets side places old new
unfolding StandsFor
gets_dns side places old new a b old_is new_is gets = record {
  stands = λ protocol streams units none stands. dns_stands (λ p. StandsBy new.reader p (with_stream side (behind (of_side side streams) places) streams) units) a protocol streams units
      (subst (λ r. StandsBy r protocol streams units) old_is stands)
      (λ is. subst (λ r. StandsBy r (Some speaks.Dns) (with_stream side (behind (of_side side streams) places) streams) units) (sym new_is) (gets streams units is));
}

-- ---- the end of a side

abbrev ended_streams : Side → Both Stream → Both Stream
ended_streams side streams = with_stream side (ended_by (of_side side streams) true) streams

pub ends_http : (side : Side) (old new : Readers) (a b : HttpReader) → old.reader ≡ reads.Http a → new.reader ≡ reads.Http b
    → ((streams : Both Stream) (units : Both (List HttpUnit)) → HttpStands a streams units → HttpStands b (ended_streams side streams) units)
    → (protocol : Option Protocol) (streams : Both Stream) (units : Both (List StreamUnit)) → StandsFor old protocol streams units → StandsFor new protocol (ended_streams side streams) units
unfolding StandsFor
ends_http side old new a b old_is new_is ends protocol streams units stands =
    http_stands (λ p. StandsBy new.reader p (ended_streams side streams) units) a protocol streams units (subst (λ r. StandsBy r protocol streams units) old_is stands)
    (λ is. subst (λ r. StandsBy r (Some speaks.Http) (ended_streams side streams) units) (sym new_is) (ends streams (http_units units) is))

dns_ended : (side : Side) (reader : DnsReader) (streams : Both Stream) (units : Both (List StreamUnit)) → DnsStands reader streams units → DnsStands reader (ended_streams side streams) units
dns_ended Orig reader streams units stands = record {
  orig = record { given = stands.orig.given; count_is = stands.orig.count_is; stands = stands.orig.stands };
  resp = stands.resp;
}
dns_ended Resp reader streams units stands = record {
  orig = stands.orig;
  resp = record { given = stands.resp.given; count_is = stands.resp.count_is; stands = stands.resp.stands };
}

-- a reader that isn't one of HTTP looks at no end
pub ends_else : (side : Side) (old : Readers) → ((reader : HttpReader) → old.reader ≡ reads.Http reader → ⊥)
    → (protocol : Option Protocol) (streams : Both Stream) (units : Both (List StreamUnit)) → StandsFor old protocol streams units → StandsFor old protocol (ended_streams side streams) units
unfolding StandsFor
ends_else side old apart protocol streams units stands = by_reader old.reader refl stands
  where
    by_reader : (r : Reader) → old.reader ≡ r → StandsBy r protocol streams units → StandsBy r protocol (ended_streams side streams) units
    by_reader reads.Silent is are = silent_stands (λ p. StandsBy reads.Silent p (ended_streams side streams) units) protocol streams units are tt
    by_reader (reads.Http reader) is are = absurd (apart reader is)
    by_reader (reads.Dns reader) is are = dns_stands (λ p. StandsBy (reads.Dns reader) p (ended_streams side streams) units) reader protocol streams units are (dns_ended side reader streams units)

pub within_http : (side : Side) (readers : Readers) (a : HttpReader) (n : ℕ) → readers.reader ≡ reads.Http a
    → ((streams : Both Stream) (units : Both (List HttpUnit)) → HttpStands a streams units → n ≤ length (of_side side streams).places)
    → (protocol : Option Protocol) (streams : Both Stream) (units : Both (List StreamUnit)) → StandsFor readers protocol streams units → n ≤ length (of_side side streams).places
unfolding StandsFor
within_http side readers a n is within protocol streams units stands =
    http_stands (λ _. n ≤ length (of_side side streams).places) a protocol streams units (subst (λ r. StandsBy r protocol streams units) is stands) (λ are. within streams (http_units units) are)

pub within_dns : (side : Side) (readers : Readers) (a : DnsReader) (n : ℕ) → readers.reader ≡ reads.Dns a
    → ((streams : Both Stream) (units : Both (List StreamUnit)) → DnsStands a streams units → n ≤ length (of_side side streams).places)
    → (protocol : Option Protocol) (streams : Both Stream) (units : Both (List StreamUnit)) → StandsFor readers protocol streams units → n ≤ length (of_side side streams).places
unfolding StandsFor
within_dns side readers a n is within protocol streams units stands =
    dns_stands (λ _. n ≤ length (of_side side streams).places) a protocol streams units (subst (λ r. StandsBy r protocol streams units) is stands) (λ are. within streams units are)

-- ---- the next unit

abbrev pub said : Option HttpUnit → Option StreamUnit
said found = option_map says.Http found

http_added : (side : Side) (found : Option HttpUnit) (units : Both (List StreamUnit)) → http_units (add_some side (said found) units) ≡ http.add side found (http_units units)
http_added side None units = refl
http_added Orig (Some one) units = ap (λ l. record { orig = l; resp = filter_map http_in units.resp }) (filter_map-append http_in units.orig (says.Http one ∷ []))
http_added Resp (Some one) units = ap (λ l. record { orig = filter_map http_in units.orig; resp = l }) (filter_map-append http_in units.resp (says.Http one ∷ []))

none_said : (found : Option HttpUnit) → said found ≡ None → found ≡ None
none_said None none = refl
none_said (Some one) none = absurd (some_none none)
  where
    some_none : {A : Type 0} {x : A} → Some x ≡ None → ⊥
    some_none e = cc

pub turn_http : (side : Side) (old new : Readers) (a b : HttpReader) (found : Option HttpUnit) → old.reader ≡ reads.Http a → new.reader ≡ reads.Http b
    → ((streams : Both Stream) (units : Both (List HttpUnit)) → HttpStands a streams units → NextIs side a b found streams units)
    → (protocol : Option Protocol) (streams : Both Stream) (units : Both (List StreamUnit)) → StandsFor old protocol streams units → Turn side old new (said found) protocol streams units
unfolding StandsFor held_in next_unit bytes_unread
turn_http side old new a b found old_is new_is next protocol streams units stands =
    http_stands (λ p. Turn side old new (said found) p streams units) a protocol streams units (subst (λ r. StandsBy r protocol streams units) old_is stands)
    (λ is.
    let turn = next streams (http_units units) is in
    record {
      next_is = ap said turn.next_is;
      stands = subst (λ r. StandsBy r (Some speaks.Http) streams (add_some side (said found) units)) (sym new_is)
          (subst (HttpStands b streams) (sym (http_added side found units)) turn.stands);
      few = λ none. omega (arith, ap (held_by side) new_is, held_http side b, turn.few (none_said found none));
      left = λ none. ap (held_by side) new_is ∙ held_http side b ∙ sym (bytes_counted (unread_of side b)) ∙ ap bytes_in (turn.left (none_said found none));
      other = ap (held_by (other side)) new_is ∙ held_same side a b turn.other ∙ sym (ap (held_by (other side)) old_is);
    })
  where
    held_http : (side : Side) (r : HttpReader) → held_by side (reads.Http r) ≡ length (bytes_of (unread_of side r).bytes)
    held_http Orig r = refl
    held_http Resp r = refl

    held_same : (side : Side) (a b : HttpReader) → unread_of (other side) b ≡ unread_of (other side) a → held_by (other side) (reads.Http b) ≡ held_by (other side) (reads.Http a)
    held_same Orig a b same = ap (λ (u : Unread). length (bytes_of u.bytes)) same
    held_same Resp a b same = ap (λ (u : Unread). length (bytes_of u.bytes)) same

pub turn_http_is : (side : Side) (old new : Readers) (a b : HttpReader) (found : Option HttpUnit) (told : Option StreamUnit) → old.reader ≡ reads.Http a → new.reader ≡ reads.Http b → said found ≡ told
    → ((streams : Both Stream) (units : Both (List HttpUnit)) → HttpStands a streams units → NextIs side a b found streams units)
    → (protocol : Option Protocol) (streams : Both Stream) (units : Both (List StreamUnit)) → StandsFor old protocol streams units → Turn side old new told protocol streams units
turn_http_is side old new a b found told old_is new_is is next protocol streams units stands =
    subst (λ o. Turn side old new o protocol streams units) is (turn_http side old new a b found old_is new_is next protocol streams units stands)

pub turn_dns : (side : Side) (old new : Readers) (a b : DnsReader) (found : Option StreamUnit) → old.reader ≡ reads.Dns a → new.reader ≡ reads.Dns b
    → ((streams : Both Stream) (units : Both (List StreamUnit)) → DnsStands a streams units → DnsTurn side a b found streams units)
    → (protocol : Option Protocol) (streams : Both Stream) (units : Both (List StreamUnit)) → StandsFor old protocol streams units → Turn side old new found protocol streams units
unfolding StandsFor held_in next_unit bytes_unread
turn_dns side old new a b found old_is new_is next protocol streams units stands =
    dns_stands (λ p. Turn side old new found p streams units) a protocol streams units (subst (λ r. StandsBy r protocol streams units) old_is stands)
    (λ is.
    let turn = next streams units is in
    record {
      next_is = turn.next_is;
      stands = subst (λ r. StandsBy r (Some speaks.Dns) streams (add_some side found units)) (sym new_is) turn.stands;
      few = λ none. omega (arith, ap (held_by side) new_is, held_dns side b, turn.few none);
      left = λ none. ap (held_by side) new_is ∙ held_dns side b ∙ sym (bytes_counted (dns_side side b).«unread») ∙ ap bytes_in (turn.left none);
      other = ap (held_by (other side)) new_is ∙ held_same side a b turn.other ∙ sym (ap (held_by (other side)) old_is);
    })
  where
    held_dns : (side : Side) (r : DnsReader) → held_by side (reads.Dns r) ≡ length (bytes_of (dns_side side r).«unread».bytes)
    held_dns Orig r = refl
    held_dns Resp r = refl

    held_same : (side : Side) (a b : DnsReader) → dns_side (other side) b ≡ dns_side (other side) a → held_by (other side) (reads.Dns b) ≡ held_by (other side) (reads.Dns a)
    held_same Orig a b same = ap (λ (s : DnsSide). length (bytes_of s.«unread».bytes)) same
    held_same Resp a b same = ap (λ (s : DnsSide). length (bytes_of s.«unread».bytes)) same

pub turn_silent : (side : Side) (old new : Readers) → old.reader ≡ reads.Silent → new.reader ≡ reads.Silent
    → (protocol : Option Protocol) (streams : Both Stream) (units : Both (List StreamUnit)) → StandsFor old protocol streams units → Turn side old new None protocol streams units
unfolding StandsFor held_in next_unit bytes_unread
turn_silent side old new old_is new_is protocol streams units stands =
    silent_stands (λ p. Turn side old new None p streams units) protocol streams units (subst (λ r. StandsBy r protocol streams units) old_is stands)
    (record {
      next_is = refl;
      stands = subst (λ r. StandsBy r None streams units) (sym new_is) tt;
      few = λ none. omega (arith, ap (held_by side) new_is);
      left = λ none. ap (held_by side) new_is;
      other = ap (held_by (other side)) new_is ∙ sym (ap (held_by (other side)) old_is);
    })

-- ---- the next unit of both

other_twice : (side : Side) → other (other side) ≡ side
other_twice Orig = refl
other_twice Resp = refl

pub both_first : (side : Side) (old new : Readers) (found : StreamUnit) (protocol : Option Protocol) (streams : Both Stream) (units : Both (List StreamUnit))
    → Turn side old new (Some found) protocol streams units → BothTurn side new (Some (freed side found)) protocol streams units
both_first side old new found protocol streams units turn = record {
  next_is = ap (λ o. option_or (option_map (freed side) o) (option_map (freed (other side)) (next_unit protocol (other side) streams units))) turn.next_is;
  stands = turn.stands;
  few = λ none. absurd (some_none none);
  left = λ none. absurd (some_none none);
}
  where
    some_none : {A : Type 0} {x : A} → Some x ≡ None → ⊥
    some_none e = cc

pub both_second : (side : Side) (old mid new : Readers) (found : Option StreamUnit) (protocol : Option Protocol) (streams : Both Stream) (units : Both (List StreamUnit))
    → Turn side old mid None protocol streams units → Turn (other side) mid new found protocol streams units → BothTurn side new (option_map (freed (other side)) found) protocol streams units
both_second side old mid new found protocol streams units first second = record {
  next_is = ap (λ o. option_or (option_map (freed side) o) (option_map (freed (other side)) (next_unit protocol (other side) streams units))) first.next_is
      ∙ ap (option_map (freed (other side))) second.next_is;
  stands = by_found found second.stands;
  few = λ none. each side (first.few refl) (second.few (not_found found none)) second.other;
  left = λ none. each_left side (first.left refl) (second.left (not_found found none)) second.other;
}
  where
    some_none : {A : Type 0} {x : A} → Some x ≡ None → ⊥
    some_none e = cc

    not_found : (o : Option StreamUnit) → option_map (freed (other side)) o ≡ None → o ≡ None
    not_found None none = refl
    not_found (Some one) none = absurd (some_none none)

    by_found : (o : Option StreamUnit) → StandsFor new protocol streams (add_some (other side) o units) → StandsFor new protocol streams (add_all (option_to_list (option_map (freed (other side)) o)) units)
    by_found None stands = stands
    by_found (Some one) stands = stands

    each : (s : Side) → held_in s mid ≤ 65536 → held_in (other s) new ≤ 65536 → held_in (other (other s)) new ≡ held_in (other (other s)) mid → (of : Side) → held_in of new ≤ 65536
    each Orig low high same Orig = omega (arith, low, same)
    each Orig low high same Resp = high
    each Resp low high same Orig = high
    each Resp low high same Resp = omega (arith, low, same)

    each_left : (s : Side) → held_in s mid ≡ bytes_unread protocol s streams units → held_in (other s) new ≡ bytes_unread protocol (other s) streams units
        → held_in (other (other s)) new ≡ held_in (other (other s)) mid → (of : Side) → held_in of new ≡ bytes_unread protocol of streams units
    each_left Orig first second same Orig = same ∙ first
    each_left Orig first second same Resp = second
    each_left Resp first second same Orig = second
    each_left Resp first second same Resp = same ∙ first

-- ---- all units

-- the units that were found so far, and those that are still to be found
pub record IsReading (first side : Side) (initial now : Readers) (before after : List Freed) (n left : ℕ) (protocol : Option Protocol) (streams : Both Stream) (given : Both (List StreamUnit)) : Type 0 where
  pub units : Both (List StreamUnit)
  pub stands : StandsFor now protocol streams units
  pub found : before ++ units_freed n protocol first streams given ≡ after ++ units_freed left protocol side streams units
  pub behind : add_all (units_freed left protocol side streams units) units ≡ add_all (units_freed n protocol first streams given) given

pub begins_reading : (side : Side) (readers : Readers) (before : List Freed) (n : ℕ) (protocol : Option Protocol) (streams : Both Stream) (given : Both (List StreamUnit))
    → StandsFor readers protocol streams given → IsReading side side readers readers before before n n protocol streams given
begins_reading side readers before n protocol streams given stands = record { units = given; stands = stands; found = refl; behind = refl }

freed-some : (n : ℕ) (protocol : Option Protocol) (side : Side) (streams : Both Stream) (units : Both (List StreamUnit)) (one : Freed) → next_of_both protocol side streams units ≡ Some one
    → units_freed (suc n) protocol side streams units ≡ one ∷ units_freed n protocol one.side streams (add one units)
unfolding units_freed
freed-some n protocol side streams units one is =
    ap (λ o. elim o as (λ _. List Freed) [ None ↦ [] | Some found ↦ found ∷ units_freed n protocol found.side streams (add found units) ]) is

pub freed-none : (n : ℕ) (protocol : Option Protocol) (side : Side) (streams : Both Stream) (units : Both (List StreamUnit)) → next_of_both protocol side streams units ≡ None
    → units_freed n protocol side streams units ≡ []
unfolding units_freed
freed-none zero protocol side streams units is = refl
freed-none (suc n) protocol side streams units is =
    ap (λ o. elim o as (λ _. List Freed) [ None ↦ [] | Some found ↦ found ∷ units_freed n protocol found.side streams (add found units) ]) is

pub reads_one : (first side : Side) (initial now next : Readers) (before after : List Freed) (n left : ℕ) (one : Freed) (protocol : Option Protocol) (streams : Both Stream) (given : Both (List StreamUnit))
    → (reading : IsReading first side initial now before after n (suc left) protocol streams given) → BothTurn side next (Some one) protocol streams reading.units
    → IsReading first one.side initial next before (after ++ one ∷ []) n left protocol streams given
reads_one first side initial now next before after n left one protocol streams given reading turn =
    let more = freed-some left protocol side streams reading.units one turn.next_is in
    let rest = units_freed left protocol one.side streams (add one reading.units) in
    record {
      units = add one reading.units;
      stands = turn.stands;
      found = reading.found ∙ ap (λ l. after ++ l) more ∙ sym (append_assoc after (one ∷ []) rest);
      behind = sym (ap (λ l. add_all l reading.units) more) ∙ reading.behind;
    }

-- ---- no streams

none_next : (protocol : Option Protocol) (side : Side) → next_unit protocol side no_streams no_units ≡ None
unfolding next_unit next shortest units_from units_of
none_next None side = refl
none_next (Some speaks.Http) Orig = refl
none_next (Some speaks.Http) Resp = refl
none_next (Some speaks.Dns) Orig = refl
none_next (Some speaks.Dns) Resp = refl

drop-none : (n : ℕ) → drop n (let places : List Place = [] in places) ≡ []
drop-none zero = refl
drop-none (suc n) = refl

-- of a stream of which nothing has come nothing is unread
pub none_unread : (protocol : Option Protocol) (side : Side) (streams : Both Stream) (units : Both (List StreamUnit)) → (of_side side streams).places ≡ []
    → bytes_unread protocol side streams units ≡ 0
unfolding bytes_unread not_read units_from units_of
none_unread None side streams units none = refl
none_unread (Some speaks.Http) side streams units none =
    let stream = of_side side streams in
    let us = of_side side (http_units units) in
    let from = http.place us + used_in (http.decide side (case_of side (http_units units)) (http.header_length stream us) stream.ended (drop (http.place us) stream.places)) in
    ap (λ places. bytes_in (drop from places)) none ∙ ap bytes_in (drop-none from)
none_unread (Some speaks.Dns) side streams units none = ap (λ places. bytes_in (dns_unread places)) none

-- streams of which nothing has come free no unit
pub none_freed : (protocol : Option Protocol) (side : Side) → all_freed protocol side no_streams no_units ≡ []
none_freed protocol side =
    freed-none many protocol side no_streams no_units
    (ap (λ o. option_or (option_map (freed side) o) (option_map (freed (other side)) (next_unit protocol (other side) no_streams no_units))) (none_next protocol side)
    ∙ ap (option_map (freed (other side))) (none_next protocol (other side)))

pub reads_all : (first side : Side) (initial now next : Readers) (before after : List Freed) (n left : ℕ) (protocol : Option Protocol) (streams : Both Stream) (given : Both (List StreamUnit))
    → (reading : IsReading first side initial now before after n left protocol streams given) → BothTurn side next None protocol streams reading.units
    → (after ≡ before ++ units_freed n protocol first streams given) × StandsFor next protocol streams (add_all (units_freed n protocol first streams given) given) × ((s : Side) → held_in s next ≤ 65536)
    × ((s : Side) → held_in s next ≡ bytes_unread protocol s streams (add_all (units_freed n protocol first streams given) given))
reads_all first side initial now next before after n left protocol streams given reading turn =
    let none = freed-none left protocol side streams reading.units turn.next_is in (
      sym (reading.found ∙ ap (λ l. after ++ l) none ∙ append-nil after),
      subst (StandsFor next protocol streams) (sym (ap (λ l. add_all l reading.units) none) ∙ reading.behind) turn.stands,
      turn.few refl,
      λ s. turn.left refl s ∙ ap (bytes_unread protocol s streams) (sym (ap (λ l. add_all l reading.units) none) ∙ reading.behind),
    )
