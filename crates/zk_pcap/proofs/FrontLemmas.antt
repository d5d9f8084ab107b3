-- What the first bytes of a file are sure to say of the whole.
use Rattle.std.proofs.Common.{◌≡◌, ℕ, ◌+◌, ◌-◌, ◌<◌, ◌≤◌, ◌^◌, Bool, true, false, List, [], ◌∷◌, ◌++◌, length, take, drop, Option, Some, None, Result, Ok, Err, refl, sym, ap, ap₂, subst, ◌∙◌, arith, inl, inr, lt-ltb, le-ltb, length-append, length-drop}
use Rattle.std.proofs.Math.Seq.{take-append-add}
use Rattle.std.proofs.lemmas.Bool.{cases_lt}
use Rattle.std.proofs.lemmas.List.{drop-append-le}
use Rattle.byteorder.specs.Endian.{big_number, little_number}
use Rattle.byteorder.specs.Numbers.{big_from-append, little_from-append}
use Rattle.zk_pcap.specs.declared.faults.CaptureFault.{CaptureFault}
use Rattle.zk_pcap.specs.declared.faults.CaptureFault.TheVariants.{Short, Version}
use Rattle.zk_pcap.specs.declared.headers.Form.{Form}
use Rattle.zk_pcap.specs.declared.headers.Header.{Header}
use Rattle.zk_pcap.specs.declared.records.Packet.{Packet}
use Rattle.zk_pcap.specs.Capture.{StandBetween}
use Rattle.zk_pcap.specs.Feed.{IsSure, HeadersStay, FrontsBeginCaptures}
use Rattle.zk_pcap.specs.Header.{counted, number_of, form_by, form_of, is_version_2_4, header_by, header_after, header_of}
use Rattle.zk_pcap.specs.Record.{record_at, end_of}
use Rattle.zk_pcap.proofs.CaptureLemmas.{capture_of-read}
use Rattle.zk_pcap.proofs.FeedLemmas.{number_of-append, record_stays}
use Rattle.zk_pcap.proofs.HeaderLemmas.{header_by-same, header_of-after, header_of_counted}
use Rattle.zk_pcap.proofs.StandingLemmas.{stand_along}

-- ---- the header

-- a number whose bytes are there
field_stays : (big : Bool) (n place : ℕ) (file more : List ℕ) → place + n ≤ length file → number_of big n (drop place (file ++ more)) ≡ number_of big n (drop place file)
field_stays big n place file more within =
    ap (number_of big n) (drop-append-le place file more (omega arith))
    ∙ number_of-append big n (drop place file) more (omega (arith, length-drop place file))

short_by : (number : ℕ → List ℕ → ℕ) (form : Form) (bytes : List ℕ) → length bytes < 8 → header_by number form bytes ≡ Err (Short (length bytes))
short_by number form bytes short = rw (lt-ltb (length bytes) 8 short) refl

-- where the version is there it is judged, and then the rest
version_by : (number : ℕ → List ℕ → ℕ) (form : Form) (bytes : List ℕ) → 8 ≤ length bytes → is_version_2_4 number bytes ≡ false → header_by number form bytes ≡ Err Version
version_by number form bytes long other = rw (le-ltb (length bytes) 8 long, other) refl

cut_by : (number : ℕ → List ℕ → ℕ) (form : Form) (bytes : List ℕ) → 8 ≤ length bytes → is_version_2_4 number bytes ≡ true → length bytes < 24
    → header_by number form bytes ≡ Err (Short (length bytes))
cut_by number form bytes long version short = rw (le-ltb (length bytes) 8 long, version, lt-ltb (length bytes) 24 short) refl

rest_stays : (form : Form) (file more : List ℕ) → IsSure (header_by (number_of form.big) form file) → header_by (number_of form.big) form (file ++ more) ≡ header_by (number_of form.big) form file
rest_stays form file more sure =
    let number = number_of form.big in
    let longer : length (file ++ more) ≡ length file + length more = length-append file more in
    elim (cases_lt (length file) 8) [
      | inl short ↦ absurd (subst IsSure (short_by number form file short) sure)
      | inr eight ↦
          let major = field_stays form.big 2 4 file more (omega arith) in
          let minor = field_stays form.big 2 6 file more (omega arith) in
          let same : is_version_2_4 number (file ++ more) ≡ is_version_2_4 number file = rw (major, minor) refl in
          elim (is_version_2_4 number file) as (λ v. is_version_2_4 number file ≡ v → header_by number form (file ++ more) ≡ header_by number form file) [
            | false ↦ λ other. version_by number form (file ++ more) (omega arith) (same ∙ other) ∙ sym (version_by number form file eight other)
            | true ↦ λ version. elim (cases_lt (length file) 24) [
              | inl short ↦ absurd (subst IsSure (cut_by number form file eight version short) sure)
              | inr whole ↦ header_by-same number form (file ++ more) file (omega arith) whole major minor
                  (field_stays form.big 4 16 file more (omega arith)) (field_stays form.big 4 20 file more (omega arith))
            ]
          ] refl
    ]

after_stays : (form : Option Form) (file more : List ℕ) → IsSure (header_after form file) → header_after form (file ++ more) ≡ header_after form file
after_stays None file more sure = refl
after_stays (Some form) file more sure = rest_stays form file more sure

short_header : (bytes : List ℕ) → length bytes < 4 → header_of bytes ≡ Err (Short (length bytes))
short_header bytes short = rw (lt-ltb (length bytes) 4 short) refl

pub header_stays : HeadersStay
header_stays file more sure =
    elim (cases_lt (length file) 4) [
      | inl short ↦ absurd (subst IsSure (short_header file short) sure)
      | inr four ↦
          let here = header_of-after file (le-ltb (length file) 4 four) in
          let there = header_of-after (file ++ more) (le-ltb (length (file ++ more)) 4 (omega (arith, length-append file more))) in
          let little : little_number 4 (file ++ more) ≡ little_number 4 file = little_from-append 4 file more four in
          let big : big_number 4 (file ++ more) ≡ big_number 4 file = big_from-append 4 file more four in
          let form : form_of (file ++ more) ≡ form_of file = ap₂ form_by little big in
          there ∙ ap (λ (f : Option Form). header_after f (file ++ more)) form ∙ after_stays (form_of file) file more (subst IsSure here sure) ∙ sym here
    ]

-- ---- the packets

-- packets that stand one behind another are the first of all that do
stand_first : (read : ℕ → Option Packet) (from : ℕ) (packets : List Packet) (to : ℕ) (all : List Packet) (end : ℕ)
    → StandBetween read from packets to → StandBetween read from all end → read end ≡ None → (others : List Packet) × (all ≡ packets ++ others)
stand_first read from [] to all end stand stand_all no_more = (all, refl)
stand_first read from (packet ∷ packets) to [] end stand stand_all no_more = absurd (let never : None ≡ Some packet = sym no_more ∙ ap read (sym stand_all) ∙ stand.0 in cc)
stand_first read from (packet ∷ packets) to (first ∷ all) end stand stand_all no_more =
    let same : packet ≡ first = some_same packet first (sym stand.0 ∙ stand_all.0) in
    let rest = stand_first read (end_of packet) packets to all end stand.1 (subst (λ (p : Packet). StandBetween read (end_of p) all end) (sym same) stand_all.1) no_more in
    let back = sym same in
    (rest.0, λ i. back i ∷ rest.1 i)
  where
    some_same : (p q : Packet) → Some p ≡ Some q → p ≡ q
    some_same p q e = cc

counted_front : (file more : List ℕ) → length file ≤ 2 ^ 40 → counted (file ++ more) ≡ file ++ take (2 ^ 40 - length file) more
counted_front file more short =
    let whole : 2 ^ 40 ≡ length file + (2 ^ 40 - length file) = omega arith in
    ap (λ n. take n (file ++ more)) whole ∙ take-append-add file more (2 ^ 40 - length file)

pub fronts_begin : FrontsBeginCaptures
fronts_begin header file more packets place capture short opens stand is =
    let bytes : List ℕ = counted (file ++ more) in
    let behind : List ℕ = take (2 ^ 40 - length file) more in
    let (other, end, has, ending) = (capture_of-read (file ++ more) capture is).0 in
    let sure : IsSure (header_of file) = subst IsSure (sym opens) tt in
    let same : header ≡ other = ok_same header other (sym opens ∙ sym (header_stays file more sure) ∙ header_of_counted (file ++ more) ∙ has.opens) in
    let there : StandBetween (record_at header (file ++ behind)) 24 packets place =
    stand_along (record_at header file) (record_at header (file ++ behind)) (λ at packet found. record_stays header file behind at packet found) 24 packets place stand in
    let here : StandBetween (record_at other bytes) 24 packets place =
    subst (λ (h : Header). StandBetween (record_at h bytes) 24 packets place) same
    (subst (λ b. StandBetween (record_at header b) 24 packets place) (sym (counted_front file more short)) there) in
    stand_first (record_at other bytes) 24 packets place capture.packets end here has.records has.no_more
  where
    ok_same : (a b : Header) → ◌≡◌ {A = Result Header CaptureFault} (Ok a) (Ok b) → a ≡ b
    ok_same a b e = cc
