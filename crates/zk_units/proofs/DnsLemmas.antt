-- A side of DNS over TCP, as it is read on.
use Rattle.std.proofs.Common.{◌≡◌, ℕ, zero, suc, ◌+◌, ◌-◌, ◌<◌, ◌≤◌, Bool, true, false, cond, ◌&&◌, leb, List, [], ◌∷◌, ◌++◌, length, take, drop, Option, Some, None, IfOk, Result, Ok, Err, refl, sym, ap, subst, ◌∙◌, arith, ⊎_elim, append_assoc}
use Rattle.std.specs.Prelude.{replicate, slice_get, slice_index}
use Rattle.std.specs.List.{last_or}
use Rattle.std.specs.Option.{option_map, option_to_list}
use Rattle.std.proofs.lemmas.Bool.{cases_lt, le-leb, true≢false}
use borrow.Author.Tests.{leb-false, leb-true}
use Rattle.zk_dns.specs.Data.{number_at}
use Rattle.std.proofs.lemmas.List.{append-nil, drop-append-le, drop-drop, length-append, length-drop, length-map}
use Rattle.zk_base.specs.ByteQueue.{bytes_of}
use Rattle.zk_base.specs.Places.{Place, bytes_before_gap}
use Rattle.zk_dns.specs.declared.tcp.DnsStep.TheVariants.{More, One}
use Rattle.zk_dns.specs.Stream as dns
use Rattle.zk_dns.proofs.StreamLaws.{step-gap_unit, step-quiet, step-unit}
use Rattle.zk_base.specs.declared.network.Side.{Side}
use Rattle.zk_base.specs.declared.network.Side.TheVariants.{Orig, Resp}
use Rattle.zk_http.specs.Places.{Both, Stream}
use Rattle.zk_units.specs.declared.dns.DnsReader.{DnsReader}
use Rattle.zk_units.specs.declared.dns.DnsSide.{DnsSide}
use Rattle.zk_units.specs.declared.stream_unit.StreamUnit.{StreamUnit}
use Rattle.zk_units.specs.declared.unread.Unread.{Unread}
use Rattle.zk_units.specs.Cuts.{byte_places, gap_places}
use Rattle.zk_units.specs.Standing.{DnsStands, DnsTurn, GoesOn, IsOver, SideStands, SideTurn, Stands, add_some, behind}
use Rattle.zk_units.specs.Units.{behind_last, message_unit, tcp_unit}
use Rattle.zk_units.specs.Unread.{places_of, run_of}

-- the run, and what stands behind it
split_run : (places : List Place) → byte_places (bytes_before_gap places) ++ drop (length (bytes_before_gap places)) places ≡ places
split_run [] = refl
split_run (None ∷ places) = refl
split_run (Some byte ∷ places) = ap (λ l. Some byte ∷ l) (split_run places)

last_of : {A : Type 0} (before : Option A) (xs : List A) (x : A) → last_or before (xs ++ x ∷ []) ≡ Some x
last_of before [] x = refl
last_of before (first ∷ xs) x = last_of (Some first) xs x

at_end : {A : Type 0} (xs ys : List A) (y : A) → slice_get (xs ++ y ∷ ys) (length xs) ≡ Some y
at_end [] ys y = refl
at_end (x ∷ xs) ys y = at_end xs ys y

past_end : {A : Type 0} (xs : List A) → slice_get xs (length xs) ≡ None
past_end [] = refl
past_end (x ∷ xs) = past_end xs

pub next-some : (units given rest : List dns.TcpUnit) (count : ℕ) (next : dns.TcpUnit) → units ≡ given ++ next ∷ rest → length given ≡ count
    → option_map tcp_unit (slice_get units count) ≡ Some (tcp_unit next)
next-some units given rest count next is count_is = ap (λ l. option_map tcp_unit (slice_get l count)) is ∙ ap (λ n. option_map tcp_unit (slice_get (given ++ next ∷ rest) n)) (sym count_is) ∙ ap (option_map tcp_unit) (at_end given rest next)

pub next-none : (units given : List dns.TcpUnit) (count : ℕ) → units ≡ given → length given ≡ count → option_map tcp_unit (slice_get units count) ≡ None
next-none units given count is count_is = ap (λ l. option_map tcp_unit (slice_get l count)) is ∙ ap (λ n. option_map tcp_unit (slice_get given n)) (sym count_is) ∙ ap (option_map tcp_unit) (past_end given)

-- a side that goes on, further on
pub goes_further : (u u' : Unread) (places more : List Place) (given : List dns.TcpUnit) → GoesOn u places given → places_of u' ≡ places_of u ++ more → GoesOn u' (places ++ more) given
goes_further u u' places more given on grown = record {
  from = on.from;
  within = omega (arith, on.within, length-append places more);
  places_are = grown ∙ ap (λ l. l ++ more) on.places_are ∙ sym (drop-append-le on.from places more on.within);
  units_are = λ rest. ap dns.units (append_assoc places more rest) ∙ on.units_are (more ++ rest) ∙ ap (λ l. given ++ dns.units_from on.from (drop on.from l)) (sym (append_assoc places more rest));
  behind_is = on.behind_is;
}

pub stays_over : (u : Unread) (places more : List Place) (given : List dns.TcpUnit) → IsOver u places given → IsOver u (places ++ more) given
stays_over u places more given over = record {
  none = over.none;
  units_are = λ rest. ap dns.units (append_assoc places more rest) ∙ over.units_are (more ++ rest);
  behind_is = over.behind_is;
}

pub side_grows : (old new : DnsSide) (stream : Stream) (more : List Place) (count : ℕ) → SideStands old stream count → old.is_over ≡ false → new.is_over ≡ false
    → places_of new.«unread» ≡ places_of old.«unread» ++ more → SideStands new (behind stream more) count
side_grows old new stream more count stands goes still grown = record {
  given = stands.given;
  count_is = stands.count_is;
  stands = subst (λ b. Stands b new.«unread» (stream.places ++ more) stands.given) (sym still)
      (goes_further old.«unread» new.«unread» stream.places more stands.given (subst (λ b. Stands b old.«unread» stream.places stands.given) goes stands.stands) grown);
}

pub side_over : (side : DnsSide) (stream : Stream) (more : List Place) (count : ℕ) → SideStands side stream count → side.is_over ≡ true → SideStands side (behind stream more) count
side_over side stream more count stands over = record {
  given = stands.given;
  count_is = stands.count_is;
  stands = subst (λ b. Stands b side.«unread» (stream.places ++ more) stands.given) (sym over)
      (stays_over side.«unread» stream.places more stands.given (subst (λ b. Stands b side.«unread» stream.places stands.given) over stands.stands));
}

-- what stands behind the places that were used, and more
further : (u : Unread) (places more : List Place) (given : List dns.TcpUnit) → (on : GoesOn u places given)
    → drop on.from (places ++ more) ≡ byte_places (run_of u) ++ (drop (length (run_of u)) (places_of u) ++ more)
further u places more given on =
    drop-append-le on.from places more on.within ∙ ap (λ l. l ++ more) (sym on.places_are ∙ sym (split_run (places_of u)))
    ∙ append_assoc (byte_places (run_of u)) (drop (length (run_of u)) (places_of u)) more

used_within : (u u' : Unread) (n : ℕ) → n ≤ length (run_of u) → places_of u' ≡ drop n (places_of u)
    → byte_places (drop n (run_of u)) ++ drop (length (run_of u)) (places_of u) ≡ places_of u'
used_within u u' n low passed =
    ap (λ l. l ++ drop (length (run_of u)) (places_of u)) (sym (dropped n (run_of u)))
    ∙ sym (drop-append-le n (byte_places (run_of u)) (drop (length (run_of u)) (places_of u)) (omega (arith, low, length-map {B = Place} (run_of u) (λ byte. Some byte))))
    ∙ ap (drop n) (split_run (places_of u)) ∙ sym passed
  where
    dropped : (n : ℕ) (bytes : List ℕ) → drop n (byte_places bytes) ≡ byte_places (drop n bytes)
    dropped zero bytes = refl
    dropped (suc n) [] = refl
    dropped (suc n) (byte ∷ bytes) = dropped n bytes

-- the next message was taken
pub message_taken : (old new : DnsSide) (stream : Stream) (count used from to : ℕ) → SideStands old stream count → old.is_over ≡ false → new.is_over ≡ false
    → dns.step_of (run_of old.«unread») ≡ One used from to → used ≤ length (run_of old.«unread») → places_of new.«unread» ≡ drop used (places_of old.«unread»)
    → SideTurn new (Some (message_unit (take (to - from) (drop from (run_of old.«unread»))))) stream count
message_taken old new stream count used from to stands goes still step low passed = record {
  next_is = next-some (dns.units stream.places) stands.given (behind_all []) count message (ap dns.units (sym (append-nil stream.places)) ∙ all []) stands.count_is;
  stands = record {
    given = stands.given ++ message ∷ [];
    count_is = omega (arith, length-append stands.given (message ∷ []), stands.count_is);
    stands = subst (λ b. Stands b new.«unread» stream.places (stands.given ++ message ∷ [])) (sym still) (record {
      from = on.from + used;
      within = omega (arith, on.within, low, run_low, ap length on.places_are, length-drop on.from stream.places);
      places_are = passed ∙ ap (drop used) on.places_are ∙ drop-drop used on.from stream.places;
      units_are = λ more. all more ∙ sym (append_assoc stands.given (message ∷ []) (behind_all more)) ∙ ap (λ l. (stands.given ++ message ∷ []) ++ l) (rest_is more);
      behind_is = λ all. ap (λ o. behind_last o all) (last_of None stands.given message);
    });
  };
  few = λ none. absurd (some_none none);
  left = λ none. absurd (some_none none);
}
  where
    u : Unread
    u = old.«unread»

    on : GoesOn u stream.places stands.given
    on = subst (λ b. Stands b u stream.places stands.given) goes stands.stands

    run_low : length (run_of u) ≤ length (places_of u)
    run_low = omega (arith, ap length (split_run (places_of u)), length-append (byte_places (run_of u)) (drop (length (run_of u)) (places_of u)), length-map {B = Place} (run_of u) (λ byte. Some byte))

    message : dns.TcpUnit
    message = dns.Message (on.from + used) (take (to - from) (drop from (run_of u)))

    rest : List Place
    rest = drop (length (run_of u)) (places_of u)

    behind_all : List Place → List dns.TcpUnit
    behind_all more = dns.units_from (on.from + used) (byte_places (drop used (run_of u)) ++ (rest ++ more))

    all : (more : List Place) → dns.units (stream.places ++ more) ≡ stands.given ++ message ∷ behind_all more
    all more = on.units_are more ∙ ap (λ l. stands.given ++ dns.units_from on.from l) (further u stream.places more stands.given on)
        ∙ ap (λ l. stands.given ++ l) (step-unit on.from (run_of u) (rest ++ more) used from to step)

    rest_is : (more : List Place) → behind_all more ≡ dns.units_from (on.from + used) (drop (on.from + used) (stream.places ++ more))
    rest_is more = ap (dns.units_from (on.from + used))
        (sym (append_assoc (byte_places (drop used (run_of u))) rest more) ∙ ap (λ l. l ++ more) (used_within u new.«unread» used low passed ∙ passed ∙ ap (drop used) on.places_are ∙ drop-drop used on.from stream.places)
        ∙ sym (drop-append-le (on.from + used) stream.places more (omega (arith, on.within, low, run_low, ap length on.places_are, length-drop on.from stream.places))))

    some_none : {A : Type 0} {x : A} → Some x ≡ None → ⊥
    some_none e = cc

-- no message stands there whole, and nothing follows
pub none_yet : (side : DnsSide) (stream : Stream) (count : ℕ) → SideStands side stream count → side.is_over ≡ false → dns.step_of (run_of side.«unread») ≡ More
    → length (run_of side.«unread») ≡ length (places_of side.«unread») → length (bytes_of side.«unread».bytes) ≤ 65536 → SideTurn side None stream count
none_yet side stream count stands goes step whole few = record {
  next_is = next-none (dns.units stream.places) stands.given count (ap dns.units (sym (append-nil stream.places)) ∙ all) stands.count_is;
  stands = subst (SideStands side stream) (let e : count ≡ count + 0 = omega arith in e) stands;
  few = λ _. few;
  left = λ _. on.places_are ∙ sym (on.behind_is stream.places) ∙ sym (ap (λ l. behind_last (last_or None l) stream.places) (ap dns.units (sym (append-nil stream.places)) ∙ all));
}
  where
    u : Unread
    u = side.«unread»

    on : GoesOn u stream.places stands.given
    on = subst (λ b. Stands b u stream.places stands.given) goes stands.stands

    none_of : (l : List Place) → length l ≡ 0 → l ≡ []
    none_of [] is = refl
    none_of (x ∷ l) is = absurd (omega (arith, is))

    all : dns.units (stream.places ++ []) ≡ stands.given
    all = on.units_are [] ∙ ap (λ l. stands.given ++ dns.units_from on.from l) (further u stream.places [] stands.given on)
        ∙ ap (λ l. stands.given ++ dns.units_from on.from (byte_places (run_of u) ++ (l ++ []))) (none_of (drop (length (run_of u)) (places_of u)) (omega (arith, whole, length-drop (length (run_of u)) (places_of u))))
        ∙ ap (λ l. stands.given ++ dns.units_from on.from l) (append-nil (byte_places (run_of u)))
        ∙ ap (λ l. stands.given ++ l) (step-quiet on.from (run_of u) step) ∙ append-nil stands.given

-- a gap stands where a message goes on
pub gap_found : (old new : DnsSide) (stream : Stream) (count gap : ℕ) → SideStands old stream count → old.is_over ≡ false → new.is_over ≡ true → places_of new.«unread» ≡ []
    → dns.step_of (run_of old.«unread») ≡ More → 0 < gap → take gap (drop (length (run_of old.«unread»)) (places_of old.«unread»)) ≡ gap_places gap
    → SideTurn new (Some (tcp_unit (dns.Gap 0))) stream count
gap_found old new stream count gap stands goes over none step some gap_is = record {
  next_is = next-some (dns.units stream.places) stands.given [] count fault (ap dns.units (sym (append-nil stream.places)) ∙ all []) stands.count_is;
  stands = record {
    given = stands.given ++ fault ∷ [];
    count_is = omega (arith, length-append stands.given (fault ∷ []), stands.count_is);
    stands = subst (λ b. Stands b new.«unread» stream.places (stands.given ++ fault ∷ [])) (sym over) (record { none = none; units_are = all; behind_is = λ all. ap (λ o. behind_last o all) (last_of None stands.given fault) });
  };
  few = λ e. absurd (some_none e);
  left = λ e. absurd (some_none e);
}
  where
    u : Unread
    u = old.«unread»

    on : GoesOn u stream.places stands.given
    on = subst (λ b. Stands b u stream.places stands.given) goes stands.stands

    fault : dns.TcpUnit
    fault = dns.Gap (on.from + length (run_of u))

    rest : List Place
    rest = drop (length (run_of u)) (places_of u)

    begins : (n : ℕ) (l : List Place) → 0 < n → take n l ≡ replicate n None → (tail : List Place) × (l ≡ None ∷ tail)
    begins zero l low is = absurd (omega (arith, low))
    begins (suc n) [] low is = absurd (empty is)
      where
        empty : (let l : List Place = [] in l) ≡ None ∷ replicate n None → ⊥
        empty e = cc
    begins (suc n) (x ∷ l) low is = (l, first is)
      where
        first : x ∷ take n l ≡ None ∷ replicate n None → x ∷ l ≡ None ∷ l
        first e = cc

    all : (more : List Place) → dns.units (stream.places ++ more) ≡ stands.given ++ fault ∷ []
    all more =
        let found = begins gap rest some gap_is in
        on.units_are more ∙ ap (λ l. stands.given ++ dns.units_from on.from l) (further u stream.places more stands.given on)
        ∙ ap (λ l. stands.given ++ dns.units_from on.from (byte_places (run_of u) ++ (l ++ more))) found.1
        ∙ ap (λ l. stands.given ++ l) (step-gap_unit on.from (run_of u) (found.0 ++ more) step)

    some_none : {A : Type 0} {x : A} → Some x ≡ None → ⊥
    some_none e = cc

-- a side that is over
pub over_turn : (side : DnsSide) (stream : Stream) (count : ℕ) → SideStands side stream count → side.is_over ≡ true → length (bytes_of side.«unread».bytes) ≤ length (places_of side.«unread»)
    → SideTurn side None stream count
over_turn side stream count stands is within =
    let over = subst (λ b. Stands b side.«unread» stream.places stands.given) is stands.stands in
    record {
      next_is = next-none (dns.units stream.places) stands.given count (ap dns.units (sym (append-nil stream.places)) ∙ over.units_are []) stands.count_is;
      stands = subst (SideStands side stream) (let e : count ≡ count + 0 = omega arith in e) stands;
      few = λ _. omega (arith, within, ap length over.none);
      left = λ _. over.none ∙ sym (over.behind_is stream.places) ∙ sym (ap (λ l. behind_last (last_or None l) stream.places) (ap dns.units (sym (append-nil stream.places)) ∙ over.units_are []));
    }

-- ---- both sides

pub if_ok : {A E : Type 0} {P Q : A → Type 0} (r : Result A E) → IfOk r P → ((a : A) → P a → Q a) → IfOk r Q
if_ok (Ok a) p then = then a p
if_ok (Err e) p then = tt

pub turn_orig : (old new : DnsReader) (found : Option StreamUnit) (streams : Both Stream) (units : Both (List StreamUnit)) → new.resp ≡ old.resp → SideStands old.resp streams.resp (length units.resp)
    → SideTurn new.orig found streams.orig (length units.orig) → DnsTurn Orig old new found streams units
turn_orig old new found streams units same other turn = record {
  next_is = turn.next_is;
  stands = by_found found turn.stands;
  few = turn.few;
  left = turn.left;
  other = same;
}
  where
    rest : SideStands new.resp streams.resp (length units.resp)
    rest = subst (λ s. SideStands s streams.resp (length units.resp)) (sym same) other

    by_found : (o : Option StreamUnit) → SideStands new.orig streams.orig (length units.orig + length (option_to_list o)) → DnsStands new streams (add_some Orig o units)
    by_found None is = record { orig = subst (SideStands new.orig streams.orig) (let e : length units.orig + 0 ≡ length units.orig = omega arith in e) is; resp = rest }
    by_found (Some one) is = record { orig = subst (SideStands new.orig streams.orig) (let e : length units.orig + 1 ≡ length (units.orig ++ one ∷ []) = omega (arith, length-append units.orig (one ∷ [])) in e) is; resp = rest }

pub turn_resp : (old new : DnsReader) (found : Option StreamUnit) (streams : Both Stream) (units : Both (List StreamUnit)) → new.orig ≡ old.orig → SideStands old.orig streams.orig (length units.orig)
    → SideTurn new.resp found streams.resp (length units.resp) → DnsTurn Resp old new found streams units
turn_resp old new found streams units same other turn = record {
  next_is = turn.next_is;
  stands = by_found found turn.stands;
  few = turn.few;
  left = turn.left;
  other = same;
}
  where
    rest : SideStands new.orig streams.orig (length units.orig)
    rest = subst (λ s. SideStands s streams.orig (length units.orig)) (sym same) other

    by_found : (o : Option StreamUnit) → SideStands new.resp streams.resp (length units.resp + length (option_to_list o)) → DnsStands new streams (add_some Resp o units)
    by_found None is = record { resp = subst (SideStands new.resp streams.resp) (let e : length units.resp + 0 ≡ length units.resp = omega arith in e) is; orig = rest }
    by_found (Some one) is = record { resp = subst (SideStands new.resp streams.resp) (let e : length units.resp + 1 ≡ length (units.resp ++ one ∷ []) = omega (arith, length-append units.resp (one ∷ [])) in e) is; orig = rest }

pub turn_at_orig : (side : Side) (old new : DnsReader) (found : Option StreamUnit) (streams : Both Stream) (units : Both (List StreamUnit)) → side ≡ Orig → new.resp ≡ old.resp → SideStands old.resp streams.resp (length units.resp)
    → SideTurn new.orig found streams.orig (length units.orig) → DnsTurn side old new found streams units
turn_at_orig side old new found streams units is same other turn = subst (λ s. DnsTurn s old new found streams units) (sym is) (turn_orig old new found streams units same other turn)

pub turn_at_resp : (side : Side) (old new : DnsReader) (found : Option StreamUnit) (streams : Both Stream) (units : Both (List StreamUnit)) → side ≡ Resp → new.orig ≡ old.orig → SideStands old.orig streams.orig (length units.orig)
    → SideTurn new.resp found streams.resp (length units.resp) → DnsTurn side old new found streams units
turn_at_resp side old new found streams units is same other turn = subst (λ s. DnsTurn s old new found streams units) (sym is) (turn_resp old new found streams units same other turn)

pub taken_as : (new : DnsSide) (found given : StreamUnit) (stream : Stream) (count : ℕ) → found ≡ given → SideTurn new (Some given) stream count → SideTurn new (Some found) stream count
taken_as new found given stream count is turn = subst (λ f. SideTurn new (Some f) stream count) (sym is) turn

-- ---- how long a message is

abbrev pub AreBytes : List ℕ → Type 0
AreBytes bytes = (k : ℕ) → k < length bytes → slice_index bytes k < 256

length_low : (bytes : List ℕ) → AreBytes bytes → 2 ≤ length bytes → number_at 2 bytes 0 ≤ 65535
length_low bytes are low = omega (arith, are 0 (omega (arith, low)), are 1 (omega (arith, low)))

pub record IsOne (bytes : List ℕ) (used from to : ℕ) : Type 0 where
  pub used_low : used ≤ length bytes
  pub from_is : from ≡ 2
  pub to_is : to ≡ used
  pub len : to ≤ from + 65535

pub one_is : (bytes : List ℕ) (used from to : ℕ) → AreBytes bytes → dns.step_of bytes ≡ One used from to → IsOne bytes used from to
one_is bytes used from to are is = by_test (dns.is_framed bytes) refl
  where
    given : (u f t : ℕ) → One u f t ≡ One used from to → (u ≡ used) × (f ≡ from) × (t ≡ to)
    given u f t e = (cc, cc, cc)

    parts : (a b : Bool) → (a && b) ≡ true → (a ≡ true) × (b ≡ true)
    parts true true all = (refl, refl)
    parts true false all = absurd (true≢false (sym all))
    parts false b all = absurd (true≢false (sym all))

    waits : More ≡ One used from to → ⊥
    waits e = cc

    by_test : (b : Bool) → dns.is_framed bytes ≡ b → IsOne bytes used from to
    by_test true framed =
        let all = parts (leb 2 (length bytes)) (leb (dns.framed_len bytes) (length bytes)) framed in
        let same = given (dns.framed_len bytes) 2 (dns.framed_len bytes) (sym (ap (λ b. cond b (One (dns.framed_len bytes) 2 (dns.framed_len bytes)) More) framed) ∙ is) in
        let two : 2 ≤ length bytes = leb-true 2 (length bytes) all.0 in
        let low : dns.framed_len bytes ≤ length bytes = leb-true (dns.framed_len bytes) (length bytes) all.1 in
        record { used_low = omega (arith, low, same.0); from_is = sym same.1; to_is = omega (arith, same.0, same.2); len = omega (arith, length_low bytes are two, same.1, same.2) }
    by_test false framed = absurd (waits (sym (ap (λ b. cond b (One (dns.framed_len bytes) 2 (dns.framed_len bytes)) More) framed) ∙ is))

pub more_low : (bytes : List ℕ) → AreBytes bytes → dns.step_of bytes ≡ More → length bytes ≤ 65536
more_low bytes are is = ⊎_elim (λ few. omega (arith, few)) (λ two. by_test (dns.is_framed bytes) refl two) (cases_lt (length bytes) 2)
  where
    one : One (dns.framed_len bytes) 2 (dns.framed_len bytes) ≡ More → ⊥
    one e = cc

    second : (a b : Bool) → (a && b) ≡ false → a ≡ true → b ≡ false
    second true b none is = none
    second false b none is = absurd (true≢false (sym is))

    by_test : (b : Bool) → dns.is_framed bytes ≡ b → 2 ≤ length bytes → length bytes ≤ 65536
    by_test true framed two = absurd (one (sym (ap (λ b. cond b (One (dns.framed_len bytes) 2 (dns.framed_len bytes)) More) framed) ∙ is))
    by_test false framed two =
        let short = leb-false (dns.framed_len bytes) (length bytes) (second (leb 2 (length bytes)) (leb (dns.framed_len bytes) (length bytes)) framed (le-leb 2 (length bytes) two)) in
        omega (arith, short, length_low bytes are two)
