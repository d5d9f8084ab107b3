-- What a feed stands for, call by call.
use Rattle.std.proofs.Common.{◌≡◌, ℕ, ◌+◌, ◌-◌, ◌<◌, ◌≤◌, ◌^◌, ◌↔◌, true, false, List, [], ◌∷◌, ◌++◌, length, drop, Option, Some, None, refl, sym, ap, subst, ◌∙◌, arith, length-append, length-drop}
use Rattle.std.specs.Prelude.{◌==◌, if◌then◌else◌, IsSome, IfSome, min}
use Rattle.std.specs.Option.{option_map}
use Rattle.std.proofs.lemmas.Bool.Decides.{nat_tests}
use Rattle.std.proofs.lemmas.List.{drop-append-le, drop-drop}
use Rattle.zk_base.specs.Held.{bytes_of}
use Rattle.zk_pcap.specs.declared.feed.Feed.{Feed}
use Rattle.zk_pcap.specs.declared.feed.Next.{Next}
use Rattle.zk_pcap.specs.declared.feed.Next.TheVariants as next
use Rattle.zk_pcap.specs.declared.headers.Header.{Header}
use Rattle.zk_pcap.specs.declared.records.Packet.{Packet}
use Rattle.zk_pcap.specs.Capture.{StandBetween, end_from}
use Rattle.zk_pcap.specs.Header.{number_of}
use Rattle.zk_pcap.specs.Record.{record_by, record_at, is_too_long_by, is_too_long, end_of}
use Rattle.zk_pcap.specs.Standing.{StandsFor, GoesOn, IsNext, IsFirst, RestIs, first_record, is_packet, placed}
use Rattle.zk_pcap.specs.View.{packet_of}
use Rattle.zk_pcap.proofs.FeedLemmas.{front_len, record_stays, record_in_part, record_place, record_within, too_long_in_part, stand_in_part}
use Rattle.zk_pcap.proofs.RecordLemmas.{end_from-stand, stand_alone, stand_more}

-- packets that stand one behind another stand where the same is read and more
pub stand_along : (read again : ℕ → Option Packet) → ((place : ℕ) (packet : Packet) → read place ≡ Some packet → again place ≡ Some packet)
    → (from : ℕ) (packets : List Packet) (to : ℕ) → StandBetween read from packets to → StandBetween again from packets to
stand_along read again each from [] to stand = stand
stand_along read again each from (packet ∷ packets) to stand =
    (each from packet stand.0, stand_along read again each (end_of packet) packets to stand.1)

-- ---- more bytes

-- a piece is held behind what was held
pub goes_on : (old new : Feed) (piece : List ℕ) → new.big ≡ old.big → new.nano ≡ old.nano → new.place ≡ old.place
    → bytes_of new.held ≡ bytes_of old.held ++ piece → GoesOn old new piece
goes_on old new piece big nano place held header file packets stands short = record {
  big = big ∙ stands.big;
  nano = nano ∙ stands.nano;
  stand = subst (StandBetween (record_at header (file ++ piece)) 24 packets) (sym place)
      (stand_along (record_at header file) (record_at header (file ++ piece)) (λ at packet is. record_stays header file piece at packet is) 24 packets old.place stands.stand);
  held = held ∙ ap (λ bytes. bytes ++ piece) stands.held ∙ sym (drop-append-le old.place file piece stands.within) ∙ ap (λ n. drop n (file ++ piece)) (sym place);
  within = omega (arith, stands.within, length-append file piece);
  short = short;
}

-- the same bytes are held, in another room
pub stands_same : (old new : Feed) (header : Header) (file : List ℕ) (packets : List Packet) → StandsFor old header file packets
    → new.big ≡ old.big → new.nano ≡ old.nano → new.place ≡ old.place → bytes_of new.held ≡ bytes_of old.held → StandsFor new header file packets
stands_same old new header file packets stands big nano place held = record {
  big = big ∙ stands.big;
  nano = nano ∙ stands.nano;
  stand = subst (StandBetween (record_at header file) 24 packets) (sym place) stands.stand;
  held = held ∙ stands.held ∙ ap (λ n. drop n file) (sym place);
  within = omega (arith, stands.within);
  short = stands.short;
}

-- ---- what stands next

-- what is read at the front of what is held, and in the file
pub record_held : (feed : Feed) (header : Header) (file : List ℕ) (packets : List Packet) → StandsFor feed header file packets
    → record_at header file feed.place ≡ option_map (placed feed.place) (record_by (number_of feed.big) feed.nano (bytes_of feed.held) 0)
record_held feed header file packets stands =
    let whole : feed.place + 0 ≡ feed.place = omega arith in
    ap (record_at header file) (sym whole)
    ∙ record_in_part (number_of header.big) header.nano file feed.place 0 stands.within
    ∙ ap (λ n. option_map (placed n) (record_by (number_of header.big) header.nano (drop feed.place file) 0)) whole
    ∙ rw (stands.big, stands.nano, stands.held) refl

pub too_long_held : (feed : Feed) (header : Header) (file : List ℕ) (packets : List Packet) → StandsFor feed header file packets
    → is_too_long header file feed.place ≡ is_too_long_by (number_of feed.big) (bytes_of feed.held) 0
too_long_held feed header file packets stands =
    sym (too_long_in_part (number_of header.big) file feed.place stands.within) ∙ rw (stands.big, stands.held) refl

next_at : (feed : Feed) (header : Header) (file : List ℕ) (packets : List Packet) (answer : Next) → StandsFor feed header file packets
    → IsFirst (number_of feed.big) feed.nano (bytes_of feed.held) feed.place answer → IsNext header file feed.place answer
next_at feed header file packets (next.Packet view) stands is = record_held feed header file packets stands ∙ is
next_at feed header file packets next.NeedMore stands is =
    (record_held feed header file packets stands ∙ ap (option_map (placed feed.place)) is.0, too_long_held feed header file packets stands ∙ is.1)
next_at feed header file packets (next.Bad at) stands is =
    (record_held feed header file packets stands ∙ ap (option_map (placed feed.place)) is.0, too_long_held feed header file packets stands ∙ is.1, is.2)

pub is_next : (feed : Feed) (header : Header) (file : List ℕ) (packets : List Packet) (answer : Next) → StandsFor feed header file packets
    → IsFirst (number_of feed.big) feed.nano (bytes_of feed.held) feed.place answer → IsNext header file (end_from 24 packets) answer
is_next feed header file packets answer stands is =
    subst (λ n. IsNext header file n answer) (sym (end_from-stand (record_at header file) 24 packets feed.place stands.stand))
    (next_at feed header file packets answer stands is)

-- a packet is answered exactly where one is whole
pub packet_there : (feed : Feed) (answer : Next) → IsFirst (number_of feed.big) feed.nano (bytes_of feed.held) feed.place answer
    → (is_packet answer ≡ true) ↔ IsSome (first_record feed)
unfolding first_record
packet_there feed answer is = there answer is
  where
    found : Option Packet
    found = record_by (number_of feed.big) feed.nano (bytes_of feed.held) 0

    mapped : (found : Option Packet) (packet : Packet) → option_map (placed feed.place) found ≡ Some packet → IsSome found
    mapped None packet is = absurd (cc)
    mapped (Some first) packet is = refl

    none : (found : Option Packet) → found ≡ None → IsSome found → ⊥
    none None is some = absurd (cc)
    none (Some first) is some = absurd (cc)

    there : (answer : Next) → IsFirst (number_of feed.big) feed.nano (bytes_of feed.held) feed.place answer → (is_packet answer ≡ true) ↔ IsSome found
    there (next.Packet view) is = (λ _. mapped found (packet_of view) is, λ _. refl)
    there next.NeedMore is = (λ never. absurd (cc), λ some. absurd (none found is.0 some))
    there (next.Bad at) is = (λ never. absurd (cc), λ some. absurd (none found is.0 some))

-- ---- behind a packet

pub stands_behind : (old new : Feed) (header : Header) (file : List ℕ) (packets : List Packet) (packet first : Packet) → StandsFor old header file packets
    → record_at header file (end_from 24 packets) ≡ Some packet → first_record old ≡ Some first
    → new.big ≡ old.big → new.nano ≡ old.nano → new.place ≡ min (old.place + end_of first) (2 ^ 64 - 1)
    → bytes_of new.held ≡ drop (end_of first) (bytes_of old.held) → StandsFor new header file (packets ++ packet ∷ [])
unfolding first_record
stands_behind old new header file packets packet first stands at is big nano place held =
    let here : record_at header file old.place ≡ Some packet = sym (ap (record_at header file) (end_from-stand (record_at header file) 24 packets old.place stands.stand)) ∙ at in
    let same = record_held old header file packets stands ∙ ap (option_map (placed old.place)) is in
    let moved : placed old.place first ≡ packet = some_same (sym same ∙ here) in
    let start : first.place ≡ 0 = record_place (number_of old.big) old.nano (bytes_of old.held) 0 first is in
    let end : end_of packet ≡ old.place + end_of first = sym (ap end_of moved) ∙ later (length first.bytes) first.place start in
    let within = record_within (number_of header.big) header.nano file old.place packet here in
    let exact : new.place ≡ old.place + end_of first = place ∙ least (old.place + end_of first) (omega (arith, stands.short)) in
    record {
      big = big ∙ stands.big;
      nano = nano ∙ stands.nano;
      stand = subst (StandBetween (record_at header file) 24 (packets ++ packet ∷ [])) (end ∙ sym exact) (stand_more (record_at header file) 24 packets old.place packet stands.stand here);
      held = held ∙ ap (drop (end_of first)) stands.held ∙ drop-drop (end_of first) old.place file ∙ ap (λ n. drop n file) (sym exact);
      within = omega arith;
      short = stands.short;
    }
  where
    some_same : {x y : Packet} → ◌≡◌ {A = Option Packet} (Some x) (Some y) → x ≡ y
    some_same e = cc

    later : (len from : ℕ) → from ≡ 0 → old.place + 16 + len ≡ old.place + (from + 16 + len)
    later len from is = omega arith

    least : (n : ℕ) → n < 2 ^ 64 → min n (2 ^ 64 - 1) ≡ n
    least n lt = omega arith

-- the first record is one, and it is as long as was found
one_of : (found : Option Packet) → IsSome found → (first : Packet) × (found ≡ Some first)
one_of None some = absurd (cc)
one_of (Some first) some = (first, refl)

first_of : (found : Option Packet) (n : ℕ) → IsSome found → IfSome found (λ packet. n ≡ end_of packet) → (first : Packet) × ((found ≡ Some first) × (n ≡ end_of first))
first_of None n some is = absurd (cc)
first_of (Some first) n some is = (first, (refl, is))

pub first_within : (feed : Feed) (n : ℕ) → IsSome (first_record feed) → IfSome (first_record feed) (λ packet. n ≡ end_of packet) → n ≤ length (bytes_of feed.held)
unfolding first_record
first_within feed n some is =
    let first = first_of (record_by (number_of feed.big) feed.nano (bytes_of feed.held) 0) n some is in
    let within = record_within (number_of feed.big) feed.nano (bytes_of feed.held) 0 first.0 first.1.0 in
    omega (arith, first.1.1)

pub stands_behind_some : (old new : Feed) (n : ℕ) (header : Header) (file : List ℕ) (packets : List Packet) (packet : Packet) → StandsFor old header file packets
    → record_at header file (end_from 24 packets) ≡ Some packet → IsSome (first_record old) → IfSome (first_record old) (λ packet. n ≡ end_of packet)
    → new.big ≡ old.big → new.nano ≡ old.nano → new.place ≡ min (old.place + n) (2 ^ 64 - 1)
    → bytes_of new.held ≡ drop n (bytes_of old.held) → StandsFor new header file (packets ++ packet ∷ [])
stands_behind_some old new n header file packets packet stands at some is big nano place held =
    let first = first_of (first_record old) n some is in
    stands_behind old new header file packets packet first.0 stands at first.1.0 big nano
    (place ∙ ap (λ k. min (old.place + k) (2 ^ 64 - 1)) first.1.1) (held ∙ ap (λ k. drop k (bytes_of old.held)) first.1.1)

-- the record at the front has a header, by which its length is known
pub first_long : (feed : Feed) → IsSome (first_record feed) → 12 ≤ length (bytes_of feed.held)
unfolding first_record
first_long feed some =
    let read = record_by (number_of feed.big) feed.nano (bytes_of feed.held) 0 in
    let first = one_of read some in
    let within = record_within (number_of feed.big) feed.nano (bytes_of feed.held) 0 first.0 first.1 in
    omega arith

pub first_len_is : (feed : Feed) (n : ℕ) → IsSome (first_record feed) → n ≡ 16 + number_of feed.big 4 (drop 8 (bytes_of feed.held))
    → IfSome (first_record feed) (λ packet. n ≡ end_of packet)
unfolding first_record
first_len_is feed n some is =
    let read = record_by (number_of feed.big) feed.nano (bytes_of feed.held) 0 in
    let first = one_of read some in
    subst (λ found. IfSome found (λ packet. n ≡ end_of packet)) (sym first.1)
    (is ∙ front_len (number_of feed.big) feed.nano (bytes_of feed.held) first.0 first.1)

-- ---- what is left

pub rest_is : (feed : Feed) (header : Header) (file : List ℕ) (packets : List Packet) (end : ℕ) → StandsFor feed header file packets
    → ((firsts : List Packet) × StandBetween (record_by (number_of feed.big) feed.nano (bytes_of feed.held)) 0 firsts end)
    → record_by (number_of feed.big) feed.nano (bytes_of feed.held) end ≡ None → end ≤ length (bytes_of feed.held)
    → RestIs header file (end_from 24 packets) (if end == length (bytes_of feed.held) then None else Some (min (feed.place + end) (2 ^ 64 - 1)))
rest_is feed header file packets end stands firsts no_more within others other_end stand other_no_more =
    let read = record_at header file in
    let len : length (bytes_of feed.held) ≡ length file - feed.place = ap length stands.held ∙ length-drop feed.place file in
    let in_part : StandBetween (record_by (number_of header.big) header.nano (drop feed.place file)) 0 firsts.0 end =
    rw (← stands.big, ← stands.nano, ← stands.held) firsts.1 in
    let there = stand_in_part (number_of header.big) header.nano file feed.place stands.within firsts.0 0 end in_part in
    let whole : feed.place + 0 ≡ feed.place = omega arith in
    let start : end_from 24 packets ≡ feed.place = end_from-stand read 24 packets feed.place stands.stand in
    let theirs : StandBetween read feed.place others other_end = subst (λ n. StandBetween read n others other_end) start stand in
    let ours : StandBetween read feed.place there.0 (feed.place + end) = subst (λ n. StandBetween read n there.0 (feed.place + end)) whole there.1 in
    let none : read (feed.place + end) ≡ None =
    record_in_part (number_of header.big) header.nano file feed.place end stands.within
    ∙ rw (← stands.big, ← stands.nano, ← stands.held) (ap (option_map (placed (feed.place + end))) no_more) in
    let same = stand_alone read feed.place others there.0 other_end (feed.place + end) theirs other_no_more ours none in
    let ends : other_end ≡ feed.place + end =
    sym (end_from-stand read feed.place others other_end theirs) ∙ ap (end_from feed.place) same ∙ end_from-stand read feed.place there.0 (feed.place + end) ours in
    rw ends (place_is feed.place end (length (bytes_of feed.held)) (length file) within len stands.within stands.short)
  where
    place_is : (place end held all : ℕ) → end ≤ held → held ≡ all - place → place ≤ all → all < 2 ^ 64
        → (if end == held then None else Some (min (place + end) (2 ^ 64 - 1))) ≡ (if place + end == all then None else Some (place + end))
    place_is place end held all within is inside short = grind (arith, nat_tests)

pub rest_none : (feed : Feed) (header : Header) (file : List ℕ) (packets : List Packet) (end : ℕ) → StandsFor feed header file packets
    → ((firsts : List Packet) × StandBetween (record_by (number_of feed.big) feed.nano (bytes_of feed.held)) 0 firsts end)
    → record_by (number_of feed.big) feed.nano (bytes_of feed.held) end ≡ None → end ≤ length (bytes_of feed.held)
    → end ≡ length (bytes_of feed.held) → RestIs header file (end_from 24 packets) None
rest_none feed header file packets end stands firsts no_more within is =
    subst (λ test. RestIs header file (end_from 24 packets) (if test then None else Some (min (feed.place + end) (2 ^ 64 - 1)))) (same end (length (bytes_of feed.held)) is)
    (rest_is feed header file packets end stands firsts no_more within)
  where
    same : (a b : ℕ) → a ≡ b → (a == b) ≡ true
    same a b e = grind (arith, nat_tests)

pub rest_some : (feed : Feed) (header : Header) (file : List ℕ) (packets : List Packet) (end n : ℕ) → StandsFor feed header file packets
    → ((firsts : List Packet) × StandBetween (record_by (number_of feed.big) feed.nano (bytes_of feed.held)) 0 firsts end)
    → record_by (number_of feed.big) feed.nano (bytes_of feed.held) end ≡ None → end ≤ length (bytes_of feed.held)
    → (end ≡ length (bytes_of feed.held) → ⊥) → n ≡ min (feed.place + end) (2 ^ 64 - 1) → RestIs header file (end_from 24 packets) (Some n)
rest_some feed header file packets end n stands firsts no_more within is place =
    subst (λ k. RestIs header file (end_from 24 packets) (Some k)) (sym place)
    (subst (λ test. RestIs header file (end_from 24 packets) (if test then None else Some (min (feed.place + end) (2 ^ 64 - 1)))) (other end (length (bytes_of feed.held)) is)
    (rest_is feed header file packets end stands firsts no_more within))
  where
    other : (a b : ℕ) → (a ≡ b → ⊥) → (a == b) ≡ false
    other a b differ = grind (arith, nat_tests)
