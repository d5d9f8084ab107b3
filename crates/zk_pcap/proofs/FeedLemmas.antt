-- Records while the bytes of a file come, and of a part of the file.
use Rattle.std.proofs.Common.{◌≡◌, ℕ, ◌+◌, ◌-◌, ◌<◌, ◌≤◌, ◌^◌, Bool, true, false, cond, List, [], ◌∷◌, ◌++◌, length, take, drop, Some, None, Ok, refl, sym, ap, subst, ◌∙◌, arith, length-append, length-drop, length-take}
use Rattle.std.specs.Prelude.{◌&&◌, nat_le, nat_lt}
use Rattle.std.specs.Option.{option_map}
use Rattle.std.proofs.lemmas.Bool.{and_parts, leb-true, le-leb, ltb-true}
use Rattle.std.proofs.lemmas.Bool.Decides.{nat_tests}
use Rattle.std.proofs.lemmas.List.{drop-append-le, take-append-le, drop-drop, take_all}
use Rattle.std.proofs.lemmas.Option.{cond_some}
use Rattle.byteorder.specs.Numbers.{big_from-append, little_from-append}
use Rattle.zk_pcap.specs.declared.headers.Header.{Header}
use Rattle.zk_pcap.specs.declared.records.Packet.{Packet}
use Rattle.zk_pcap.specs.Header.{number_of, counted, header_of, HasHeader}
use Rattle.zk_pcap.specs.Record.{moment_of, record_by, record_at, is_too_long_by, is_too_long, end_of}
use Rattle.zk_pcap.specs.Capture.{StandBetween, capture_after, ending_at}
use Rattle.zk_pcap.specs.Feed.{FeedsReadCaptures}
use Rattle.zk_pcap.specs.Standing.{placed}
use Rattle.zk_pcap.proofs.CaptureLemmas.{capture_after-stand}
use Rattle.zk_pcap.proofs.HeaderLaws.{header_of-found}

-- ---- more bytes behind

pub number_of-append : (big : Bool) (n : ℕ) (xs ys : List ℕ) → n ≤ length xs → number_of big n (xs ++ ys) ≡ number_of big n xs
number_of-append true n xs ys within = big_from-append n xs ys within
number_of-append false n xs ys within = little_from-append n xs ys within

-- a number of four bytes that are there
number_stays : (big : Bool) (file more : List ℕ) (place : ℕ) → place + 4 ≤ length file → number_of big 4 (drop place (file ++ more)) ≡ number_of big 4 (drop place file)
number_stays big file more place within =
    ap (number_of big 4) (drop-append-le place file more (omega arith))
    ∙ number_of-append big 4 (drop place file) more (omega (arith, length-drop place file))

pub record_stays : (header : Header) (file more : List ℕ) (place : ℕ) (packet : Packet) → record_at header file place ≡ Some packet
    → record_at header (file ++ more) place ≡ Some packet
record_stays header file more place packet is =
    let big = header.big in
    let captured = number_of big 4 (drop (place + 8) file) in
    let found = cond_some _ _ _ is in
    let tests = and_parts (nat_le (place + 16 + captured) (length file)) (nat_le captured 262144) found.0 in
    let whole = leb-true (place + 16 + captured) (length file) tests.0 in
    let still : nat_le (place + 16 + captured) (length (file ++ more)) ≡ true =
    le-leb (place + 16 + captured) (length (file ++ more)) (omega (arith, length-append file more)) in
    let bytes : take captured (drop (place + 16) (file ++ more)) ≡ take captured (drop (place + 16) file) =
    ap (take captured) (drop-append-le (place + 16) file more (omega arith))
    ∙ take-append-le captured (drop (place + 16) file) more (omega (arith, length-drop (place + 16) file)) in
    rw (
      number_stays big file more (place + 8) (omega arith),
      still,
      tests.1,
      number_stays big file more place (omega arith),
      number_stays big file more (place + 4) (omega arith),
      number_stays big file more (place + 12) (omega arith),
      bytes,
    )
    (ap (λ p. Some p) found.1)

pub too_long_stays : (header : Header) (file more : List ℕ) (place : ℕ) → is_too_long header file place ≡ true
    → (is_too_long header (file ++ more) place ≡ true) × (record_at header (file ++ more) place ≡ None)
too_long_stays header file more place is =
    let big = header.big in
    let captured = number_of big 4 (drop (place + 8) file) in
    let tests = and_parts (nat_le (place + 12) (length file)) (nat_lt 262144 captured) is in
    let there = leb-true (place + 12) (length file) tests.0 in
    let over = ltb-true 262144 captured tests.1 in
    let still : nat_le (place + 12) (length (file ++ more)) ≡ true = le-leb (place + 12) (length (file ++ more)) (omega (arith, length-append file more)) in
    let many : nat_le captured 262144 ≡ false = not_le captured over in
    let same = number_stays big file more (place + 8) (omega arith) in (
      rw (still, same) tests.1,
      rw (same, many, and_false (nat_le (place + 16 + captured) (length (file ++ more)))) refl,
    )
  where
    not_le : (n : ℕ) → 262144 < n → nat_le n 262144 ≡ false
    not_le n lt = grind (arith, nat_tests)

    and_false : (b : Bool) → (b && false) ≡ false
    and_false true = refl
    and_false false = refl

-- ---- a part of a file

-- a record stands where it was read
pub record_place : (number : ℕ → List ℕ → ℕ) (nano : Bool) (bytes : List ℕ) (place : ℕ) (packet : Packet) → record_by number nano bytes place ≡ Some packet
    → packet.place ≡ place
record_place number nano bytes place packet is = sym (ap (λ (p : Packet). p.place) (cond_some _ _ _ is).1)

-- and ends within the bytes
pub record_within : (number : ℕ → List ℕ → ℕ) (nano : Bool) (bytes : List ℕ) (place : ℕ) (packet : Packet) → record_by number nano bytes place ≡ Some packet
    → end_of packet ≤ length bytes
record_within number nano bytes place packet is =
    let found = cond_some _ _ _ is in
    let captured = number 4 (drop (place + 8) bytes) in
    let tests = and_parts (nat_le (place + 16 + captured) (length bytes)) (nat_le captured 262144) found.0 in
    let whole = leb-true (place + 16 + captured) (length bytes) tests.0 in
    let at = record_place number nano bytes place packet is in
    let len : length packet.bytes ≤ captured = omega (arith, ap (λ (p : Packet). length p.bytes) found.1, length-take captured (drop (place + 16) bytes)) in
    omega arith

-- the length of a record at the front of some bytes, by its header
pub front_len : (number : ℕ → List ℕ → ℕ) (nano : Bool) (bytes : List ℕ) (packet : Packet) → record_by number nano bytes 0 ≡ Some packet
    → 16 + number 4 (drop 8 bytes) ≡ end_of packet
front_len number nano bytes packet is =
    let found = cond_some _ _ _ is in
    let captured = number 4 (drop 8 bytes) in
    let tests = and_parts (nat_le (16 + captured) (length bytes)) (nat_le captured 262144) found.0 in
    let whole = leb-true (16 + captured) (length bytes) tests.0 in
    let at = record_place number nano bytes 0 packet is in
    let len : length packet.bytes ≡ captured = omega (arith, ap (λ (p : Packet). length p.bytes) found.1, length-take captured (drop 16 bytes), length-drop 16 bytes) in
    omega arith

-- the bytes from a place on, in a part and in the file
part_from : (file : List ℕ) (from place k : ℕ) → drop (place + k) (drop from file) ≡ drop (from + place + k) file
part_from file from place k =
    let whole : from + (place + k) ≡ from + place + k = omega arith in
    drop-drop (place + k) from file ∙ ap (λ n. drop n file) whole

-- a place within the part is one within the file
part_within : (file : List ℕ) (from n : ℕ) → from ≤ length file → nat_le n (length (drop from file)) ≡ nat_le (from + n) (length file)
part_within file from n within = rw (length-drop from file) (same from n (length file) within)
  where
    same : (from n len : ℕ) → from ≤ len → nat_le n (len - from) ≡ nat_le (from + n) len
    same from n len within = grind (arith, nat_tests)

map_cond : {A B : Type 0} (f : A → B) (test : Bool) (x : A) → option_map f (cond test (Some x) None) ≡ cond test (Some (f x)) None
map_cond f true x = refl
map_cond f false x = refl

-- what is read in a part that begins at a place of a file
pub record_in_part : (number : ℕ → List ℕ → ℕ) (nano : Bool) (file : List ℕ) (from place : ℕ) → from ≤ length file
    → record_by number nano file (from + place) ≡ option_map (placed (from + place)) (record_by number nano (drop from file) place)
record_in_part number nano file from place within =
    let captured = number 4 (drop (place + 8) (drop from file)) in
    let end : from + (place + 16 + captured) ≡ from + place + 16 + captured = omega arith in
    let test : nat_le (place + 16 + captured) (length (drop from file)) ≡ nat_le (from + place + 16 + captured) (length file) =
    part_within file from (place + 16 + captured) within ∙ ap (λ n. nat_le n (length file)) end in
    sym (map_cond (placed (from + place)) (nat_le (place + 16 + captured) (length (drop from file)) && nat_le captured 262144) (record {
      moment = moment_of nano (number 4 (drop place (drop from file))) (number 4 (drop (place + 4) (drop from file)));
      orig_len = number 4 (drop (place + 12) (drop from file));
      bytes = take captured (drop (place + 16) (drop from file));
      place = place;
    })
    ∙ rw (
      test,
      part_from file from place 8,
      part_from file from place 4,
      part_from file from place 12,
      part_from file from place 16,
      drop-drop place from file,
    ) refl)

pub too_long_in_part : (number : ℕ → List ℕ → ℕ) (file : List ℕ) (from : ℕ) → from ≤ length file
    → is_too_long_by number (drop from file) 0 ≡ is_too_long_by number file from
too_long_in_part number file from within =
    let same : drop 8 (drop from file) ≡ drop (from + 8) file = drop-drop 8 from file in
    let test : nat_le (0 + 12) (length (drop from file)) ≡ nat_le (from + 12) (length file) = part_within file from 12 within in
    rw (test, same) refl

-- packets that stand in a part stand in the file too
pub stand_in_part : (number : ℕ → List ℕ → ℕ) (nano : Bool) (file : List ℕ) (from : ℕ) → from ≤ length file → (packets : List Packet) (start end : ℕ)
    → StandBetween (record_by number nano (drop from file)) start packets end
    → (others : List Packet) × StandBetween (record_by number nano file) (from + start) others (from + end)
stand_in_part number nano file from within [] start end stand = ([], ap (λ n. from + n) stand)
stand_in_part number nano file from within (packet ∷ packets) start end stand =
    let rest = stand_in_part number nano file from within packets (end_of packet) end stand.1 in
    let here = record_in_part number nano file from start within ∙ ap (option_map (placed (from + start))) stand.0 in
    let place : packet.place ≡ start = record_place number nano (drop from file) start packet stand.0 in
    let next : from + end_of packet ≡ end_of (placed (from + start) packet) = omega arith in (
      placed (from + start) packet ∷ rest.0,
      (here, subst (λ n. StandBetween (record_by number nano file) n rest.0 (from + end)) next rest.1),
    )

-- ---- the capture

-- packets that stand from within a file on end within it
stand_within : (number : ℕ → List ℕ → ℕ) (nano : Bool) (file : List ℕ) (from : ℕ) (packets : List Packet) (to : ℕ) → from ≤ length file
    → StandBetween (record_by number nano file) from packets to → to ≤ length file
stand_within number nano file from [] to within stand = omega (arith, stand)
stand_within number nano file from (packet ∷ packets) to within stand =
    stand_within number nano file (end_of packet) packets to (record_within number nano file from packet stand.0) stand.1

pub feeds_read : FeedsReadCaptures
feeds_read header file packets place short opens stand no_more =
    let counts : counted file ≡ file = take_all (2 ^ 40) file short in
    let has : HasHeader file header = header_of-found file (Ok header) (sym opens) in
    let within = stand_within (number_of header.big) header.nano file 24 packets place has.whole stand in
    let is : Ok (record { packets = packets; ending = ending_at file place }) ≡ capture_after (header_of file) file =
    capture_after-stand file header packets place opens stand no_more within in
    sym (is ∙ ap (λ bytes. capture_after (header_of bytes) bytes) (sym counts))
