-- How the reading of a capture goes on.
use Rattle.std.proofs.Common.{◌≡◌, ℕ, ◌+◌, ◌-◌, ◌<◌, ◌≤◌, ◌^◌, Bool, true, false, cond, List, [], ◌∷◌, ◌++◌, length, take, drop, Option, Some, None, Ok, IsTrue, IfSome, map, refl, sym, ap, ap₂, subst, ◌∙◌, arith, inl, inr, length-append, length-take, append_assoc, append-nil, ne_eqb}
use Rattle.std.specs.Prelude.{◌⊎◌, ◌==◌, nat_le, nat_lt, if◌then◌else◌}
use Rattle.std.specs.Prelude.{min}
use Rattle.std.proofs.Math.Nat.{min-eq_left}
use Rattle.std.proofs.Math.Seq.{take-append-add}
use Rattle.std.proofs.lemmas.Bool.{and_parts, leb-true}
use Rattle.std.specs.Option.{option_map}
use Rattle.std.proofs.lemmas.List.{map-append, take_all}
use Rattle.zk_base.specs.Captured.{Captured, captured}
use Rattle.zk_base.specs.declared.capture.CaptureEnding.{CaptureEnding}
use Rattle.zk_base.specs.declared.capture.CaptureEnding.TheVariants.{Whole, Cut}
use Rattle.zk_base.specs.declared.capture.PacketView.{PacketView}
use Rattle.zk_base.specs.Shelf.{Outside, is_open, rest_of, bytes_from, GivesBytes}
use Rattle.zk_pcap.specs.declared.captures.Capture.{Capture}
use Rattle.zk_pcap.specs.declared.headers.Header.{Header}
use Rattle.zk_pcap.specs.declared.records.Packet.{Packet}
use Rattle.zk_pcap.specs.Capture.{StandBetween, capture_after, capture_of, packets_from, end_from, ending_at}
use Rattle.zk_pcap.specs.Header.{counted, header_of, number_of}
use Rattle.zk_pcap.specs.Record.{record_at, is_too_long, end_of}
use Rattle.zk_pcap.specs.declared.feed.Next.TheVariants as next
use Rattle.zk_pcap.specs.Standing.{StandsFor, IsNext, RestIs}
use Rattle.zk_io.specs.declared.capture.CaptureReader.{CaptureReader}
use Rattle.zk_outcome.specs.declared.stop.Stop.{Stop}
use Rattle.zk_outcome.specs.Parts.{DoesPart}
use Rattle.zk_pcap.specs.View.{packet_of, recorded}
use Rattle.zk_io.specs.Opened.{recording_after}
use Rattle.zk_io.specs.Reading.{HasRead, SameInput, IsBehind, IsReading, IsReadThrough, IsCapture, SaysPart, OverCapture, is_next_too_long, link_of, next_in, next_place, next_record}
use Rattle.zk_pcap.specs.Feed.{IsSure}
use Rattle.zk_pcap.proofs.FeedLemmas.{record_place, record_stays, too_long_stays, feeds_read}
use Rattle.zk_pcap.proofs.HeaderLemmas.{header_of_counted}
use Rattle.zk_pcap.proofs.FrontLemmas.{header_stays, fronts_begin}
use Rattle.zk_pcap.proofs.RecordLemmas.{end_from-stand, stand_more}
use Rattle.zk_pcap.proofs.StandingLemmas.{stand_along}
use Rattle.zk_outcome.proofs.SoFar.{IsReadSoFar, read_more}

-- ---- pieces

none_before : (whole : Option (List ℕ)) → whole ≡ option_map (λ rest. [] ++ rest) whole
none_before None = refl
none_before (Some whole) = refl

-- an open input of which nothing was read
pub read_nothing : (now : Outside) → IsTrue (is_open now.reading) → IsReadSoFar now [] now
read_nothing now readable = record { is_readable = readable; rest = none_before (rest_of now); same = refl }

-- what one read does
pub one_read : (old new : Outside) (before after : List ℕ) (n : ℕ) → IsTrue (is_open old.reading) → GivesBytes old before n after new → IsReadSoFar old (take n after) new
one_read old new before after n readable given = read_more old old new [] (take n after) before after n (read_nothing old readable) given refl

joined : (whole rest further : Option (List ℕ)) (bytes piece : List ℕ) → whole ≡ option_map (λ r. bytes ++ r) rest → rest ≡ option_map (λ r. piece ++ r) further
    → whole ≡ option_map (λ r. (bytes ++ piece) ++ r) further
joined whole rest None bytes piece is more = is ∙ ap (option_map (λ r. bytes ++ r)) more
joined whole rest (Some r) bytes piece is more = is ∙ ap (option_map (λ r. bytes ++ r)) more ∙ ap Some (sym (append_assoc bytes piece r))

-- a piece more was read
pub has_read_more : (whole : Option (List ℕ)) (bytes : List ℕ) (old new : Outside) (before after : List ℕ) (n : ℕ) → HasRead whole bytes old → GivesBytes old before n after new
    → HasRead whole (bytes ++ take n after) new
has_read_more whole bytes old new before after n has given =
    let piece = one_read old new before after n has.is_readable given in
    record { is_readable = piece.is_readable; rest = joined whole (rest_of old) (rest_of new) bytes (take n after) has.rest piece.rest }

-- what is done beside reading leaves what was read
pub has_read_on : (whole : Option (List ℕ)) (bytes : List ℕ) (old new : Outside) → HasRead whole bytes old → SameInput old new → HasRead whole bytes new
has_read_on whole bytes old new has (reading, inputs) =
    let same : rest_of new ≡ rest_of old = ap (λ i. bytes_from i new.reading) inputs ∙ ap (bytes_from old.inputs) reading in
    record { is_readable = ap is_open reading ∙ has.is_readable; rest = has.rest ∙ ap (option_map (λ rest. bytes ++ rest)) (sym same) }

-- the reader stands behind the same packets
pub reads_on : (whole : Option (List ℕ)) (bytes longer : List ℕ) (records : List Captured) (reader after : CaptureReader) (old new : Outside)
    → (is : IsReading whole bytes records reader old) → IsBehind whole is.header longer is.packets after new → IsReading whole longer records after new
reads_on whole bytes longer records reader after old new is behind = record { header = is.header; packets = is.packets; behind = behind; are = is.are }

pub behind_on : (whole : Option (List ℕ)) (header : Header) (bytes : List ℕ) (packets : List Packet) (reader : CaptureReader) (old new : Outside)
    → IsBehind whole header bytes packets reader old → SameInput old new → IsBehind whole header bytes packets reader new
behind_on whole header bytes packets reader old new is (reading, inputs) =
    let same : rest_of new ≡ rest_of old = ap (λ i. bytes_from i new.reading) inputs ∙ ap (bytes_from old.inputs) reading in
    record {
      opens = is.opens;
      link = is.link;
      stands = is.stands;
      read = has_read_on whole bytes old new is.read (reading, inputs);
      counted = is.counted;
      read_out = λ out. subst (λ rest. (reader.left ≡ 0) ⊎ IfSome rest (λ r. r ≡ [])) (sym same) (is.read_out out);
      passed = is.passed;
    }

pub reading_on : (whole : Option (List ℕ)) (bytes : List ℕ) (records : List Captured) (reader : CaptureReader) (old new : Outside)
    → IsReading whole bytes records reader old → SameInput old new → IsReading whole bytes records reader new
reading_on whole bytes records reader old new is same =
    reads_on whole bytes bytes records reader reader old new is (behind_on whole is.header bytes is.packets reader old new is.behind same)

-- ---- packets

-- a piece more of a capture was read
pub behind_more : (whole : Option (List ℕ)) (header : Header) (bytes piece : List ℕ) (packets : List Packet) (reader after : CaptureReader) (old new : Outside)
    → IsBehind whole header bytes packets reader old → HasRead whole (bytes ++ piece) new → StandsFor after.feed header (bytes ++ piece) packets
    → after.link ≡ reader.link → after.passed ≡ reader.passed → after.left + length piece ≡ reader.left → (after.is_read_out ≡ true → (after.left ≡ 0) ⊎ IfSome (rest_of new) (λ rest. rest ≡ []))
    → IsBehind whole header (bytes ++ piece) packets after new
behind_more whole header bytes piece packets reader after old new is read stands link same less out = record {
  link = link ∙ is.link;
  opens = header_stays bytes piece (subst IsSure (sym is.opens) tt) ∙ is.opens;
  stands = stands;
  read = read;
  counted = omega (arith, is.counted, less, length-append bytes piece);
  read_out = out;
  passed = same ∙ is.passed;
}

-- the end of a capture was met, or as many bytes were read as count
pub behind_over : (whole : Option (List ℕ)) (header : Header) (bytes : List ℕ) (packets : List Packet) (reader after : CaptureReader) (old new : Outside)
    → IsBehind whole header bytes packets reader old → SameInput old new → StandsFor after.feed header bytes packets → after.link ≡ reader.link → after.passed ≡ reader.passed → after.left ≡ reader.left
    → (reader.left ≡ 0) ⊎ IfSome (rest_of old) (λ rest. rest ≡ []) → IsBehind whole header bytes packets after new
behind_over whole header bytes packets reader after old new is (reading, inputs) stands link same left over =
    let rest : rest_of new ≡ rest_of old = ap (λ i. bytes_from i new.reading) inputs ∙ ap (bytes_from old.inputs) reading in
    record {
      link = link ∙ is.link;
      opens = is.opens;
      stands = stands;
      read = has_read_on whole bytes old new is.read (reading, inputs);
      counted = ap (λ n. n + length bytes) left ∙ is.counted;
      read_out = λ out. subst (λ n. (n ≡ 0) ⊎ IfSome (rest_of new) (λ r. r ≡ [])) (sym left) (subst (λ left_over. (reader.left ≡ 0) ⊎ IfSome left_over (λ r. r ≡ [])) (sym rest) over);
      passed = same ∙ is.passed;
    }

-- packets take up places, each one at least
places_of : (header : Header) (bytes : List ℕ) (from : ℕ) (packets : List Packet) (to : ℕ) → StandBetween (record_at header bytes) from packets to → from + length packets ≤ to
places_of header bytes from [] to is = omega (arith, is)
places_of header bytes from (packet ∷ packets) to (here, behind) =
    let start = record_place (number_of header.big) header.nano bytes from packet here in
    let rest = places_of header bytes (end_of packet) packets to behind in
    omega (arith, start, rest)

-- one packet more is counted
one_more_passed : (header : Header) (bytes : List ℕ) (packets : List Packet) (packet : Packet) (place passed left : ℕ) → StandBetween (record_at header bytes) 24 (packets ++ packet ∷ []) place
    → place ≤ length bytes → left + length bytes ≡ 2 ^ 40 → passed ≡ length packets → min (passed + 1) (2 ^ 64 - 1) ≡ length (packets ++ packet ∷ [])
one_more_passed header bytes packets packet place passed left stand within counted is =
    let places = places_of header bytes 24 (packets ++ packet ∷ []) place stand in
    let longer : length (packets ++ packet ∷ []) ≡ passed + 1 = length-append packets (packet ∷ []) ∙ ap (λ n. n + 1) (sym is) in
    min-eq_left {n = passed + 1} {m = 2 ^ 64 - 1} (omega (arith, places, longer, within, counted)) ∙ sym longer

-- the reader goes on behind a packet
pub behind_packet : (whole : Option (List ℕ)) (header : Header) (bytes : List ℕ) (packets : List Packet) (packet : Packet) (reader after : CaptureReader) (now : Outside)
    → IsBehind whole header bytes packets reader now → StandsFor after.feed header bytes (packets ++ packet ∷ []) → after.link ≡ reader.link → after.left ≡ reader.left → after.is_read_out ≡ reader.is_read_out → after.passed ≡ min (reader.passed + 1) (2 ^ 64 - 1)
    → IsBehind whole header bytes (packets ++ packet ∷ []) after now
behind_packet whole header bytes packets packet reader after now is stands link left out more = record {
  link = link ∙ is.link;
  opens = is.opens;
  stands = stands;
  read = is.read;
  counted = ap (λ n. n + length bytes) left ∙ is.counted;
  read_out = λ ended. subst (λ n. (n ≡ 0) ⊎ IfSome (rest_of now) (λ rest. rest ≡ [])) (sym left) (is.read_out (sym out ∙ ended));
  passed = more ∙ one_more_passed header bytes packets packet after.feed.place reader.passed reader.left stands.stand stands.within is.counted is.passed;
}

-- A reader that has read the first bytes of a capture.
pub behind_none : (whole : Option (List ℕ)) (header : Header) (bytes : List ℕ) (reader : CaptureReader) (now : Outside)
    → header_of bytes ≡ Ok header → reader.link ≡ header.link → HasRead whole bytes now → StandsFor reader.feed header bytes [] → reader.left + length bytes ≡ 2 ^ 40 → reader.is_read_out ≡ false → reader.passed ≡ 0
    → IsBehind whole header bytes [] reader now
behind_none whole header bytes reader now opens link read stands counted going none = record {
  link = link;
  opens = opens;
  stands = stands;
  read = read;
  counted = counted;
  read_out = λ out. absurd (let never : ⊥ = cc in never);
  passed = none;
}

-- ---- what stands next

-- it is what stands behind the packets of the file
pub next_is : (whole : Option (List ℕ)) (header : Header) (bytes : List ℕ) (packets : List Packet) (reader : CaptureReader) (now : Outside)
    → IsBehind whole header bytes packets reader now → next_in bytes reader ≡ record_at header bytes (end_from 24 packets)
next_is whole header bytes packets reader now is =
    rw (is.stands.big, is.stands.nano, end_from-stand (record_at header bytes) 24 packets reader.feed.place is.stands.stand) refl

pub too_long_is : (whole : Option (List ℕ)) (header : Header) (bytes : List ℕ) (packets : List Packet) (reader : CaptureReader) (now : Outside)
    → IsBehind whole header bytes packets reader now → is_next_too_long bytes reader ≡ is_too_long header bytes (end_from 24 packets)
too_long_is whole header bytes packets reader now is =
    rw (is.stands.big, end_from-stand (record_at header bytes) 24 packets reader.feed.place is.stands.stand) refl

-- no other packet follows where a record that is too long stands next, or the bytes that count have ended
pub through_too_long : (whole : Option (List ℕ)) (bytes : List ℕ) (records : List Captured) (reader : CaptureReader) (now : Outside) (place : ℕ)
    → (is : IsReading whole bytes records reader now) → IsNext is.header bytes (end_from 24 is.packets) (next.Bad place) → IsReadThrough bytes reader
through_too_long whole bytes records reader now place is (none, long, at) = record {
  no_more = next_is whole is.header bytes is.packets reader now is.behind ∙ none;
  through = inr (too_long_is whole is.header bytes is.packets reader now is.behind ∙ long);
}

pub through_ended : (whole : Option (List ℕ)) (bytes : List ℕ) (records : List Captured) (reader : CaptureReader) (now : Outside)
    → (is : IsReading whole bytes records reader now) → IsNext is.header bytes (end_from 24 is.packets) next.NeedMore → reader.is_read_out ≡ true → IsReadThrough bytes reader
through_ended whole bytes records reader now is (none, short) out = record { no_more = next_is whole is.header bytes is.packets reader now is.behind ∙ none; through = inl out }

-- ---- the end

-- where the whole is told, it is this capture
abbrev IsFile : Option (List ℕ) → List Packet → CaptureEnding → Type 0
IsFile whole packets ending = IfSome whole (λ file. capture_of file ≡ Ok (record { packets = packets; ending = ending }))

-- bytes that don't count say nothing
recount : (file : List ℕ) → capture_of file ≡ capture_of (counted file)
recount file =
    let again : counted (counted file) ≡ counted file = take_all (2 ^ 40) (counted file) (omega (arith, length-take (2 ^ 40) file)) in
    ap (λ bytes. capture_after (header_of bytes) bytes) (sym again)

counted_front : (bytes rest : List ℕ) → length bytes ≤ 2 ^ 40 → counted (bytes ++ rest) ≡ bytes ++ take (2 ^ 40 - length bytes) rest
counted_front bytes rest short =
    let whole : 2 ^ 40 ≡ length bytes + (2 ^ 40 - length bytes) = omega arith in
    ap (λ n. take n (bytes ++ rest)) whole ∙ take-append-add bytes rest (2 ^ 40 - length bytes)

-- where the bytes that count were read, the capture ends behind its packets
ended_capture : (header : Header) (bytes rest : List ℕ) (packets : List Packet) (place left : ℕ) → left + length bytes ≡ 2 ^ 40 → header_of bytes ≡ Ok header
    → StandBetween (record_at header bytes) 24 packets place → record_at header bytes place ≡ None → (left ≡ 0) ⊎ (rest ≡ [])
    → capture_of (bytes ++ rest) ≡ Ok (record { packets = packets; ending = ending_at bytes place })
ended_capture header bytes rest packets place left count opens stand no_more out =
    let short : length bytes ≤ 2 ^ 40 = omega (arith, count) in
    let none : take (2 ^ 40 - length bytes) rest ≡ [] = elim out [
      | inl full ↦ ap (λ n. take n rest) (let zero_left : 2 ^ 40 - length bytes ≡ 0 = omega (arith, count, full) in zero_left)
      | inr over ↦ ap (take (2 ^ 40 - length bytes)) over ∙ take-nil (2 ^ 40 - length bytes)
    ] in
    let all : counted (bytes ++ rest) ≡ bytes = counted_front bytes rest short ∙ ap (λ more. bytes ++ more) none ∙ append-nil bytes in
    recount (bytes ++ rest) ∙ ap capture_of all ∙ feeds_read header bytes packets place short opens stand no_more
  where
    take-nil : (n : ℕ) → take {A = ℕ} n [] ≡ []
    take-nil n = take_all n [] (omega arith)

-- where a record is too long, the capture is cut there
cut_capture : (header : Header) (bytes rest : List ℕ) (packets : List Packet) (place : ℕ) → length bytes ≤ 2 ^ 40 → header_of bytes ≡ Ok header
    → StandBetween (record_at header bytes) 24 packets place → is_too_long header bytes place ≡ true
    → capture_of (bytes ++ rest) ≡ Ok (record { packets = packets; ending = ending_at bytes place })
cut_capture header bytes rest packets place short opens stand long =
    let more : List ℕ = take (2 ^ 40 - length bytes) rest in
    let counts : counted (bytes ++ rest) ≡ bytes ++ more = counted_front bytes rest short in
    let stays = stand_along (record_at header bytes) (record_at header (bytes ++ more)) (λ at packet found. record_stays header bytes more at packet found) 24 packets place stand in
    let none = (too_long_stays header bytes more place long).1 in
    let inside = leb-true (place + 12) (length bytes) (and_parts (nat_le (place + 12) (length bytes)) (nat_lt 262144 (number_of header.big 4 (drop (place + 8) bytes))) long).0 in
    let whole : length (bytes ++ more) ≤ 2 ^ 40 = omega (arith, length-append bytes more, length-take (2 ^ 40 - length bytes) rest) in
    let still = header_stays bytes more (subst IsSure (sym opens) tt) ∙ opens in
    let here : (place == length (bytes ++ more)) ≡ false = ne_eqb place (length (bytes ++ more)) (λ same. omega (arith, same, inside, length-append bytes more)) in
    let there : (place == length bytes) ≡ false = ne_eqb place (length bytes) (λ same. omega (arith, same, inside)) in
    recount (bytes ++ rest) ∙ ap capture_of counts ∙ feeds_read header (bytes ++ more) packets place whole still stays none
    ∙ ap (λ e. Ok (record { packets = packets; ending = e })) (ap (λ b. if b then Whole else Cut place) here ∙ sym (ap (λ b. if b then Whole else Cut place) there))

told_capture : (whole : Option (List ℕ)) (header : Header) (bytes : List ℕ) (packets : List Packet) (place left : ℕ) (now : Outside) → HasRead whole bytes now
    → left + length bytes ≡ 2 ^ 40 → header_of bytes ≡ Ok header → StandBetween (record_at header bytes) 24 packets place → record_at header bytes place ≡ None
    → (rest : Option (List ℕ)) → whole ≡ option_map (λ r. bytes ++ r) rest
    → ((left ≡ 0) ⊎ IfSome rest (λ r. r ≡ [])) ⊎ (is_too_long header bytes place ≡ true) → IsFile whole packets (ending_at bytes place)
told_capture whole header bytes packets place left now has count opens stand no_more None is why = subst (λ w. IsFile w packets (ending_at bytes place)) (sym is) tt
told_capture whole header bytes packets place left now has count opens stand no_more (Some rest) is why =
    subst (λ w. IsFile w packets (ending_at bytes place)) (sym is) (elim why [
      | inl out ↦ ended_capture header bytes rest packets place left count opens stand no_more out
      | inr long ↦ cut_capture header bytes rest packets place (omega (arith, count)) opens stand long
    ])

-- where the whole is told, its header is the one that was read
told_header : (whole : Option (List ℕ)) (header : Header) (bytes : List ℕ) (packets : List Packet) (reader : CaptureReader) (now : Outside)
    → IsBehind whole header bytes packets reader now → IfSome whole (λ file. header_of file ≡ Ok header)
told_header whole header bytes packets reader now is = header_by whole (rest_of now) is.read.rest
  where
    header_by : (there rest : Option (List ℕ)) → there ≡ option_map (λ r. bytes ++ r) rest → IfSome there (λ file. header_of file ≡ Ok header)
    header_by there None same = subst (λ w. IfSome w (λ file. header_of file ≡ Ok header)) (sym same) tt
    header_by there (Some rest) same =
        subst (λ w. IfSome w (λ file. header_of file ≡ Ok header)) (sym same) (header_stays bytes rest (subst IsSure (sym is.opens) tt) ∙ is.opens)

-- the packets of a file under its header are what was captured in it
recorded_file : (whole : Option (List ℕ)) (header : Header) (packets : List Packet) (ending : CaptureEnding) → IfSome whole (λ file. header_of file ≡ Ok header)
    → IsFile whole packets ending → IsCapture whole (map (recorded header) packets) ending
recorded_file None header packets ending opens is = tt
recorded_file (Some file) header packets ending opens is = ap₂ recording_after opens is

-- a capture that is read through has these packets, and ends behind them
behind_capture : (whole : Option (List ℕ)) (header : Header) (bytes : List ℕ) (packets : List Packet) (reader : CaptureReader) (now : Outside)
    → IsBehind whole header bytes packets reader now → IsReadThrough bytes reader → IsFile whole packets (ending_at bytes (end_from 24 packets))
behind_capture whole header bytes packets reader now is through =
    let end = end_from-stand (record_at header bytes) 24 packets reader.feed.place is.stands.stand in
    let stand = subst (StandBetween (record_at header bytes) 24 packets) (sym end) is.stands.stand in
    let no_more = sym (next_is whole header bytes packets reader now is) ∙ through.no_more in
    told_capture whole header bytes packets (end_from 24 packets) reader.left now is.read is.counted is.opens stand no_more (rest_of now) is.read.rest
    (elim through.through [ inl out ↦ inl (is.read_out out) | inr long ↦ inr (sym (too_long_is whole header bytes packets reader now is) ∙ long) ])

-- and these were captured in it
captured_file : (whole : Option (List ℕ)) (bytes : List ℕ) (records : List Captured) (reader : CaptureReader) (now : Outside) (ending : CaptureEnding)
    → (is : IsReading whole bytes records reader now) → IsFile whole is.packets ending → IsCapture whole records ending
captured_file whole bytes records reader now ending is file =
    subst (λ rs. IsCapture whole rs ending) (sym is.are)
    (recorded_file whole is.header is.packets ending (told_header whole is.header bytes is.packets reader now is.behind) file)

pub read_capture : (whole : Option (List ℕ)) (bytes : List ℕ) (records : List Captured) (reader : CaptureReader) (now : Outside)
    → IsReading whole bytes records reader now → IsReadThrough bytes reader → IsCapture whole records (ending_at bytes (next_place reader))
read_capture whole bytes records reader now is through =
    let end = end_from-stand (record_at is.header bytes) 24 is.packets reader.feed.place is.behind.stands.stand in
    captured_file whole bytes records reader now (ending_at bytes (next_place reader)) is
    (subst (λ n. IsFile whole is.packets (ending_at bytes n)) end (behind_capture whole is.header bytes is.packets reader now is.behind through))

cut_at : (whole : Bool) (end place : ℕ) → Some place ≡ cond whole None (Some end) → cond whole Whole (Cut end) ≡ Cut place
cut_at true end place is = cc
cut_at false end place is = cc

whole_at : (whole : Bool) (end : ℕ) → None ≡ cond whole None (Some end) → cond whole Whole (Cut end) ≡ Whole
whole_at true end is = refl
whole_at false end is = cc

-- no record stands behind those that are read through
none_behind : (whole : Option (List ℕ)) (bytes : List ℕ) (records : List Captured) (reader : CaptureReader) (now : Outside)
    → (is : IsReading whole bytes records reader now) → IsReadThrough bytes reader → record_at is.header bytes (end_from 24 is.packets) ≡ None
none_behind whole bytes records reader now is through = sym (next_is whole is.header bytes is.packets reader now is.behind) ∙ through.no_more

-- where a byte of an unfinished record is held, the capture is cut there
pub ends_cut : (whole : Option (List ℕ)) (bytes : List ℕ) (records : List Captured) (reader : CaptureReader) (now : Outside) (place : ℕ)
    → (is : IsReading whole bytes records reader now) → IsReadThrough bytes reader → RestIs is.header bytes (end_from 24 is.packets) (Some place) → IsCapture whole records (Cut place)
ends_cut whole bytes records reader now place is through rest =
    let end = end_from 24 is.packets in
    captured_file whole bytes records reader now (Cut place) is
    (subst (IsFile whole is.packets) (cut_at (end == length bytes) end place (rest [] end refl (none_behind whole bytes records reader now is through)))
    (behind_capture whole is.header bytes is.packets reader now is.behind through))

pub ends_whole : (whole : Option (List ℕ)) (bytes : List ℕ) (records : List Captured) (reader : CaptureReader) (now : Outside)
    → (is : IsReading whole bytes records reader now) → IsReadThrough bytes reader → RestIs is.header bytes (end_from 24 is.packets) None → IsCapture whole records Whole
ends_whole whole bytes records reader now is through rest =
    let end = end_from 24 is.packets in
    captured_file whole bytes records reader now Whole is
    (subst (IsFile whole is.packets) (whole_at (end == length bytes) end (rest [] end refl (none_behind whole bytes records reader now is through)))
    (behind_capture whole is.header bytes is.packets reader now is.behind through))

-- ---- the packet that stands next

-- a packet whose frame has this link type
abbrev under : ℕ → Packet → Captured
under link packet = record { moment = packet.moment; orig_len = packet.orig_len; bytes = packet.bytes; link = link }

under_header : (header : Header) (link : ℕ) (packet : Packet) → link ≡ header.link → under link packet ≡ recorded header packet
under_header header link packet same = ap (λ n. under n packet) same

found_packet : (link : ℕ) (found : Option Packet) (next : Captured) → option_map (under link) found ≡ Some next → (packet : Packet) × ((found ≡ Some packet) × (under link packet ≡ next))
found_packet link None next is = absurd (let never : ⊥ = cc in never)
found_packet link (Some packet) next is = (packet, (refl, some_same (under link packet) next is))
  where
    some_same : (a b : Captured) → ◌≡◌ {A = Option Captured} (Some a) (Some b) → a ≡ b
    some_same a b e = cc

-- it is the record behind those that were passed
pub next_packet : (whole : Option (List ℕ)) (bytes : List ℕ) (records : List Captured) (next : Captured) (reader : CaptureReader) (now : Outside)
    → (is : IsReading whole bytes records reader now) → next_record bytes reader ≡ Some next
    → (packet : Packet) × (record_at is.header bytes (end_from 24 is.packets) ≡ Some packet) × (records ++ next ∷ [] ≡ map (recorded is.header) (is.packets ++ packet ∷ []))
next_packet whole bytes records next reader now is at =
    let found = found_packet (link_of reader) (next_in bytes reader) next at in
    let here = sym (next_is whole is.header bytes is.packets reader now is.behind) ∙ found.1.0 in
    let same : next ≡ recorded is.header found.0 = sym found.1.1 ∙ under_header is.header (link_of reader) found.0 is.behind.link in (
      found.0,
      here,
      ap₂ (λ rs r. rs ++ r ∷ []) is.are same ∙ sym (map-append (recorded is.header) is.packets (found.0 ∷ [])),
    )

-- the packet that is lent stands next
pub lent_next : (whole : Option (List ℕ)) (bytes : List ℕ) (records : List Captured) (reader : CaptureReader) (now : Outside) (view : PacketView)
    → (is : IsReading whole bytes records reader now) → record_at is.header bytes (end_from 24 is.packets) ≡ Some (packet_of view) → next_in bytes reader ≡ Some (packet_of view)
lent_next whole bytes records reader now view is at = next_is whole is.header bytes is.packets reader now is.behind ∙ at

pub captured_next : (bytes : List ℕ) (reader : CaptureReader) (view : PacketView) → next_in bytes reader ≡ Some (packet_of view) → next_record bytes reader ≡ Some (captured (link_of reader) view)
captured_next bytes reader view at = ap (option_map (under (link_of reader))) at

-- ---- the records so far

file_capture : (file : List ℕ) (header : Header) → header_of file ≡ Ok header → (capture : Capture) × (capture_of file ≡ Ok capture)
file_capture file header opens =
    let bytes : List ℕ = counted file in
    let packets : List Packet = packets_from (length bytes) (record_at header bytes) 24 in (
      record { packets = packets; ending = ending_at bytes (end_from 24 packets) },
      ap (λ read. capture_after read bytes) (sym (header_of_counted file) ∙ opens),
    )

begun : (whole : Option (List ℕ)) (header : Header) (bytes : List ℕ) (packets : List Packet) (place left : ℕ) → left + length bytes ≡ 2 ^ 40 → header_of bytes ≡ Ok header
    → StandBetween (record_at header bytes) 24 packets place → (rest : Option (List ℕ)) → whole ≡ option_map (λ r. bytes ++ r) rest
    → (all others : List Packet) × (ending : CaptureEnding) × IsFile whole all ending × (all ≡ packets ++ others)
begun whole header bytes packets place left count opens stand None is = (packets, [], Whole, subst (λ w. IsFile w packets Whole) (sym is) tt, sym (append-nil packets))
begun whole header bytes packets place left count opens stand (Some rest) is =
    let file : List ℕ = bytes ++ rest in
    let found = file_capture file header (header_stays bytes rest (subst IsSure (sym opens) tt) ∙ opens) in
    let first = fronts_begin header bytes rest packets place found.0 (omega (arith, count)) opens stand found.1 in
    (found.0.packets, first.0, found.0.ending, subst (λ w. IsFile w found.0.packets found.0.ending) (sym is) found.1, first.1)

-- packets that stand in the front of a file are the first of its records
records_begun : (whole : Option (List ℕ)) (header : Header) (bytes : List ℕ) (packets : List Packet) (place : ℕ) (records : List Captured) (reader : CaptureReader) (now : Outside)
    → IsReading whole bytes records reader now → header_of bytes ≡ Ok header → IfSome whole (λ file. header_of file ≡ Ok header) → StandBetween (record_at header bytes) 24 packets place
    → (all others : List Captured) × (ending : CaptureEnding) × IsCapture whole all ending × (all ≡ map (recorded header) packets ++ others)
records_begun whole header bytes packets place records reader now is opens told stand =
    let (all, others, ending, file, same) = begun whole header bytes packets place reader.left is.behind.counted opens stand (rest_of now) is.behind.read.rest in (
      map (recorded header) all,
      map (recorded header) others,
      ending,
      recorded_file whole header all ending told file,
      ap (map (recorded header)) same ∙ map-append (recorded header) packets others,
    )

-- they are the first ones of the capture
pub capture_begun : (whole : Option (List ℕ)) (bytes : List ℕ) (records : List Captured) (reader : CaptureReader) (now : Outside)
    → IsReading whole bytes records reader now → (all others : List Captured) × (ending : CaptureEnding) × IsCapture whole all ending × (all ≡ records ++ others)
capture_begun whole bytes records reader now is =
    let told = told_header whole is.header bytes is.packets reader now is.behind in
    subst (λ rs. (all others : List Captured) × (ending : CaptureEnding) × IsCapture whole all ending × (all ≡ rs ++ others)) (sym is.are)
    (records_begun whole is.header bytes is.packets reader.feed.place records reader now is is.behind.opens told is.behind.stands.stand)

-- what holds of some records whatever comes behind them
pub over_capture_begun : (whole : Option (List ℕ)) (bytes : List ℕ) (records : List Captured) (reader : CaptureReader) (now : Outside) (holds : List Captured → Type 0)
    → IsReading whole bytes records reader now → ((others : List Captured) → holds (records ++ others)) → OverCapture whole holds
over_capture_begun whole bytes records reader now holds is there =
    let (all, others, ending, capture, same) = capture_begun whole bytes records reader now is in
    record { records = all; ending = ending; all = capture; there = subst holds (sym same) (there others) }

-- stopped on the way, behind some records
pub says_part : (whole : Option (List ℕ)) (bytes : List ℕ) (records : List Captured) (reader : CaptureReader) (now : Outside) (wanted : List Captured → List ℕ)
    (old : Outside) (stop : Stop) (new : Outside) → IsReading whole bytes records reader now → ((others : List Captured) → DoesPart [] (wanted (records ++ others)) [] old stop new)
    → SaysPart whole wanted old stop new
says_part whole bytes records reader now wanted old stop new is part =
    over_capture_begun whole bytes records reader now (λ rs. DoesPart [] (wanted rs) [] old stop new) is part

-- and so are they with the packet that stands next
pub capture_begun_next : (whole : Option (List ℕ)) (bytes : List ℕ) (records : List Captured) (next : Captured) (reader : CaptureReader) (now : Outside)
    → IsReading whole bytes records reader now → next_record bytes reader ≡ Some next
    → (all others : List Captured) × (ending : CaptureEnding) × IsCapture whole all ending × (all ≡ (records ++ next ∷ []) ++ others)
capture_begun_next whole bytes records next reader now is at =
    let (packet, here, joined) = next_packet whole bytes records next reader now is at in
    let end = end_from-stand (record_at is.header bytes) 24 is.packets reader.feed.place is.behind.stands.stand in
    let stand = stand_more (record_at is.header bytes) 24 is.packets reader.feed.place packet is.behind.stands.stand (subst (λ n. record_at is.header bytes n ≡ Some packet) end here) in
    let told = told_header whole is.header bytes is.packets reader now is.behind in
    subst (λ rs. (all others : List Captured) × (ending : CaptureEnding) × IsCapture whole all ending × (all ≡ rs ++ others)) (sym joined)
    (records_begun whole is.header bytes (is.packets ++ packet ∷ []) (end_of packet) records reader now is is.behind.opens told stand)

-- what holds of some records and the one that stands next, whatever comes behind them
pub over_capture_next : (whole : Option (List ℕ)) (bytes : List ℕ) (records : List Captured) (next : Captured) (reader : CaptureReader) (now : Outside) (holds : List Captured → Type 0)
    → IsReading whole bytes records reader now → next_record bytes reader ≡ Some next → ((others : List Captured) → holds ((records ++ next ∷ []) ++ others)) → OverCapture whole holds
over_capture_next whole bytes records next reader now holds is at there =
    let (all, others, ending, capture, same) = capture_begun_next whole bytes records next reader now is at in
    record { records = all; ending = ending; all = capture; there = subst holds (sym same) (there others) }

-- stopped while the packet that stands next is taken
pub says_part_next : (whole : Option (List ℕ)) (bytes : List ℕ) (records : List Captured) (next : Captured) (reader : CaptureReader) (now : Outside) (wanted : List Captured → List ℕ)
    (old : Outside) (stop : Stop) (new : Outside) → IsReading whole bytes records reader now → next_record bytes reader ≡ Some next
    → ((others : List Captured) → DoesPart [] (wanted ((records ++ next ∷ []) ++ others)) [] old stop new) → SaysPart whole wanted old stop new
says_part_next whole bytes records next reader now wanted old stop new is at part =
    over_capture_next whole bytes records next reader now (λ rs. DoesPart [] (wanted rs) [] old stop new) is at part

-- ---- how far it goes

-- the place behind records that stand one behind another from a place on
place_behind : ℕ → List Captured → ℕ
place_behind place [] = place
place_behind place (one ∷ more) = place_behind (place + 16 + length one.bytes) more

place_behind-more : (place : ℕ) (records : List Captured) (next : Captured) → place_behind place (records ++ next ∷ []) ≡ place_behind place records + 16 + length next.bytes
unfolding place_behind
place_behind-more place [] next = refl
place_behind-more place (one ∷ more) next = place_behind-more (place + 16 + length one.bytes) more next

stands_to : (header : Header) (bytes : List ℕ) (from : ℕ) (packets : List Packet) (to : ℕ) → StandBetween (record_at header bytes) from packets to
    → to ≡ place_behind from (map (recorded header) packets)
unfolding place_behind
stands_to header bytes from [] to stand = sym stand
stands_to header bytes from (packet ∷ packets) to (here, behind) =
    let start = record_place (number_of header.big) header.nano bytes from packet here in
    stands_to header bytes (end_of packet) packets to behind
    ∙ ap (λ n. place_behind (n + 16 + length packet.bytes) (map (recorded header) packets)) start

place_is : (whole : Option (List ℕ)) (bytes : List ℕ) (records : List Captured) (reader : CaptureReader) (now : Outside)
    → IsReading whole bytes records reader now → next_place reader ≡ place_behind 24 records
place_is whole bytes records reader now is =
    stands_to is.header bytes 24 is.packets reader.feed.place is.behind.stands.stand ∙ ap (place_behind 24) (sym is.are)

pub same_place : (whole : Option (List ℕ)) (bytes longer : List ℕ) (records : List Captured) (a b : CaptureReader) (now later : Outside)
    → IsReading whole bytes records a now → IsReading whole longer records b later → next_place b ≡ next_place a
same_place whole bytes longer records a b now later is on =
    place_is whole longer records b later on ∙ sym (place_is whole bytes records a now is)

-- behind a packet it stands further
pub later_place : (whole : Option (List ℕ)) (bytes : List ℕ) (records : List Captured) (next : Captured) (a b : CaptureReader) (now : Outside)
    → IsReading whole bytes records a now → IsReading whole bytes (records ++ next ∷ []) b now → (next_place a < next_place b) × (next_place b ≤ 2 ^ 40)
later_place whole bytes records next a b now is behind =
    let here = place_is whole bytes records a now is in
    let there = place_is whole bytes (records ++ next ∷ []) b now behind in
    (omega (arith, here, there, place_behind-more 24 records next), omega (arith, behind.behind.counted, behind.behind.stands.within))
