-- What the folded sum is, and that a checksum makes a sum right.
use Rattle.std.proofs.Common.{◌≡◌, ℕ, zero, suc, ◌+◌, ◌*◌, ◌-◌, ◌<◌, ◌≤◌, ◌/◌, ◌%◌, true, false, cond, ◌==◌, List, ◌++◌, length, refl, arith, ap, sym, ◌∙◌, eq-eqb}
use Rattle.std.specs.Int.{byte_at}
use Rattle.std.specs.Prelude.{sum}
use Rattle.std.proofs.lemmas.Bool.{eqb-true}
use Rattle.std.proofs.lemmas.List.Sums.{sum_by-append}
use Rattle.zk_base.specs.Checksum.{words, folded, is_right_sum}
use Rattle.zk_gen.specs.declared.packet.Path.{Path}
use Rattle.zk_gen.specs.declared.packet.Transport.{Transport}
use Rattle.zk_gen.specs.declared.packet.Transport.TheVariants.{Datagram, Segment}
use Rattle.zk_gen.specs.Frames.{checksum_of, udp_checksum_of, ip_header, pseudo_header, udp_header, tcp_header, protocol_of, transport_sum, transport_checksum}
use Rattle.zk_gen.specs.Capture.{HasRightTransport, HasRightChecksums}

pub folded-zero : folded 0 ≡ 0
unfolding folded
folded-zero = refl

pub folded-some : (total : ℕ) → 0 < total → folded total ≡ (total - 1) % 0xffff + 1
unfolding folded
folded-some zero above = absurd (omega arith)
folded-some (suc n) above = let e : suc n - 1 ≡ n = omega arith in ap (λ m. m % 0xffff + 1) (sym e)

pub folded-few : (total : ℕ) → folded total ≤ 0xffff
unfolding folded
folded-few zero = omega arith
folded-few (suc n) = omega arith

filled_up : (n : ℕ) → suc n + (0xffff - (n % 0xffff + 1)) - 1 ≡ 0xffff * (n / 0xffff) + 0xfffe
filled_up n = omega arith

all_ones : (q : ℕ) → (0xffff * q + 0xfffe) % 0xffff + 1 ≡ 0xffff
all_ones q = omega arith

-- words whose checksum field is 0 have a right sum once it is filled in
pub checksum-right : (total : ℕ) → is_right_sum (total + checksum_of total) ≡ true
unfolding folded
checksum-right zero = refl
checksum-right (suc n) =
    let above : 0 < suc n + (0xffff - (n % 0xffff + 1)) = omega arith in
    let e : folded (suc n + (0xffff - (n % 0xffff + 1))) ≡ 0xffff =
    folded-some _ above ∙ ap (λ m. m % 0xffff + 1) (filled_up n) ∙ all_ones (n / 0xffff) in
    eq-eqb _ _ e

turned_over : (n : ℕ) → 0xffff - (n % 0xffff + 1) ≡ 0 → (suc n + 0xffff - 1) % 0xffff + 1 ≡ 0xffff
turned_over n none = omega arith

-- a checksum of UDP makes a sum right too
pub udp_checksum-right : (total : ℕ) → is_right_sum (total + udp_checksum_of total) ≡ true
unfolding folded
udp_checksum-right zero = refl
udp_checksum-right (suc n) =
    let checksum : ℕ = 0xffff - (n % 0xffff + 1) in
    let above : 0 < suc n + 0xffff = omega arith in
    elim (checksum == 0) as (λ b. (checksum == 0) ≡ b → is_right_sum (suc n + cond b 0xffff checksum) ≡ true) [
      | true ↦ λ none. eq-eqb (folded (suc n + 0xffff)) 0xffff (folded-some (suc n + 0xffff) above ∙ turned_over n (eqb-true checksum 0 none))
      | false ↦ λ some. checksum-right (suc n)
    ] refl

-- a number of 16 bits is the word of its two bytes
word_of : (n : ℕ) → n < 0x10000 → 256 * byte_at 1 n + byte_at 0 n ≡ n
word_of n few = omega arith

no_word : 256 * byte_at 1 0 + byte_at 0 0 ≡ 0
no_word = refl

checksum-few : (total : ℕ) → checksum_of total < 0x10000
checksum-few total = omega arith

udp_checksum-few : (total : ℕ) → udp_checksum_of total < 0x10000
udp_checksum-few total = elim (checksum_of total == 0) as (λ b. cond b 0xffff (checksum_of total) < 0x10000) [
  | true ↦ omega arith
  | false ↦ checksum-few total
]

-- ---- the sums of headers with their checksum

ip_header-sum : (checksum len protocol : ℕ) (path : Path) → checksum < 0x10000
    → sum (words (ip_header checksum len protocol path)) ≡ sum (words (ip_header 0 len protocol path)) + checksum
unfolding ip_header
ip_header-sum checksum len protocol path few = omega (arith, word_of checksum few, no_word)

udp_header-sum : (checksum len : ℕ) (path : Path) → checksum < 0x10000
    → sum (words (udp_header checksum len path)) ≡ sum (words (udp_header 0 len path)) + checksum
unfolding udp_header
udp_header-sum checksum len path few = omega (arith, word_of checksum few, no_word)

tcp_header-sum : (checksum flags number awaited : ℕ) (path : Path) → checksum < 0x10000
    → sum (words (tcp_header checksum flags number awaited path)) ≡ sum (words (tcp_header 0 flags number awaited path)) + checksum
unfolding tcp_header
tcp_header-sum checksum flags number awaited path few = omega (arith, word_of checksum few, no_word)

-- ---- the sums of whole packets

udp-words : (len checksum part : ℕ) (path : Path) (payload : List ℕ)
    → words (pseudo_header len 17 path ++ (udp_header checksum part path ++ payload)) ≡ words (pseudo_header len 17 path) ++ (words (udp_header checksum part path) ++ words payload)
unfolding pseudo_header udp_header
udp-words len checksum part path payload = refl

tcp-words : (len checksum flags number awaited : ℕ) (path : Path) (payload : List ℕ)
    → words (pseudo_header len 6 path ++ (tcp_header checksum flags number awaited path ++ payload))
    ≡ words (pseudo_header len 6 path) ++ (words (tcp_header checksum flags number awaited path) ++ words payload)
unfolding pseudo_header tcp_header
tcp-words len checksum flags number awaited path payload = refl

sums : (xs ys zs : List ℕ) → sum (xs ++ (ys ++ zs)) ≡ sum xs + (sum ys + sum zs)
sums xs ys zs = sum_by-append (λ x. x) xs (ys ++ zs) ∙ ap (λ n. sum xs + n) (sum_by-append (λ x. x) ys zs)

added_within : (p h s c : ℕ) → p + ((h + c) + s) ≡ (p + (h + s)) + c
added_within p h s c = omega arith

right_at : (total checksum whole : ℕ) → whole ≡ total + checksum → is_right_sum (total + checksum) ≡ true → is_right_sum whole ≡ true
right_at total checksum whole e right = ap (λ n. is_right_sum n) e ∙ right

udp-right : (path : Path) (payload : List ℕ) → HasRightTransport Datagram path payload
udp-right path payload =
    let checksum = transport_checksum Datagram path payload in
    let len = 8 + length payload in
    let pseudo = words (pseudo_header len 17 path) in
    let total = transport_sum 0 Datagram path payload in
    right_at total checksum _ (
    ap sum (udp-words len checksum len path payload) ∙ sums pseudo (words (udp_header checksum len path)) (words payload)
    ∙ ap (λ h. sum pseudo + (h + sum (words payload))) (udp_header-sum checksum len path (udp_checksum-few total))
    ∙ added_within (sum pseudo) (sum (words (udp_header 0 len path))) (sum (words payload)) checksum)
    (udp_checksum-right total)

tcp-right : (flags number awaited : ℕ) (path : Path) (payload : List ℕ) → HasRightTransport (Segment flags number awaited) path payload
tcp-right flags number awaited path payload =
    let transport = Segment flags number awaited in
    let checksum = transport_checksum transport path payload in
    let pseudo = words (pseudo_header (20 + length payload) 6 path) in
    let total = transport_sum 0 transport path payload in
    right_at total checksum _ (
    ap sum (tcp-words (20 + length payload) checksum flags number awaited path payload)
    ∙ sums pseudo (words (tcp_header checksum flags number awaited path)) (words payload)
    ∙ ap (λ h. sum pseudo + (h + sum (words payload))) (tcp_header-sum checksum flags number awaited path (checksum-few total))
    ∙ added_within (sum pseudo) (sum (words (tcp_header 0 flags number awaited path))) (sum (words payload)) checksum)
    (checksum-right total)

transport-right : (transport : Transport) (path : Path) (payload : List ℕ) → HasRightTransport transport path payload
transport-right Datagram path payload = udp-right path payload
transport-right (Segment flags number awaited) path payload = tcp-right flags number awaited path payload

-- every packet has right checksums
pub right_checksums : (transport : Transport) (path : Path) (payload : List ℕ) → HasRightChecksums transport path payload
right_checksums transport path payload = record {
  ip = λ len.
      let protocol = protocol_of transport in
      let blank = sum (words (ip_header 0 len protocol path)) in
      right_at blank (checksum_of blank) _ (ip_header-sum (checksum_of blank) len protocol path (checksum-few blank)) (checksum-right blank);
  transported = transport-right transport path payload;
}
