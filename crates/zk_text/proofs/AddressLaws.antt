-- The text of an address is the recommended one, and tells the address: no two have the same one.
use Rattle.std.proofs.Common.{◌≡◌, ℕ, zero, suc, ◌+◌, ◌-◌, ◌*◌, ◌/◌, ◌%◌, ◌^◌, ◌<◌, List, [], ◌∷◌, length, drop, get_or, refl, sym, ap, ◌∙◌, subst, arith, inl, inr, lt-ltb, le-ltb}
use Rattle.std.proofs.Math.Arith.{mod-mul}
use Rattle.std.proofs.Math.Nat.{pow-succ', mod-eq_of_lt}
use Rattle.std.proofs.NetLemmas.Texts.{AllSegments, IsDotted-ipv4_text, IsColonHex-hex_groups_text, IsZeroRun-longest_zero_run, longest_zero_run_first}
use Rattle.std.proofs.NetLemmas.Theorems.{IsIpText_unique}
use Rattle.std.proofs.lemmas.Bool.{cases_lt}
use Rattle.std.proofs.lemmas.Nat.{same_from_place}
use Rattle.std.specs.Int.{w32, w128, bytes_high_first, to_be_bytes}
use Rattle.std.specs.Net.Addr.{segments_of}
use Rattle.std.specs.Net.Grammar.{IsIpText}
use Rattle.std.specs.Net.Text.{longest_zero_run, hex_groups_text}
use Rattle.std.specs.declared.net.ip_addr.IpAddr.{IpAddr}
use Rattle.std.specs.declared.net.ip_addr.IpAddr.TheVariants as ip
use Rattle.zk_base.specs.declared.network.Addr.{Addr}
use Rattle.zk_base.specs.declared.network.Addr.TheVariants.{V4, V6}
use Rattle.zk_text.specs.Address.{groups_of, addr_text, IsAddr, IsRecommended}

recommended_groups : (groups : List ℕ) → IsRecommended groups (hex_groups_text groups)
unfolding hex_groups_text
recommended_groups groups =
    let start = (longest_zero_run groups).0 in
    let len = (longest_zero_run groups).1 in
    elim (cases_lt 1 len) [
      | inl long ↦ rw (lt-ltb 1 len long) (inl (record {
        start = start;
        len = len;
        two = omega arith;
        zeros = IsZeroRun-longest_zero_run groups;
        longest = λ other more run. (longest_zero_run_first groups other more run).0;
        first = λ other run. (longest_zero_run_first groups other len run).1 refl;
        written = refl;
      }))
      | inr short ↦ rw (le-ltb 1 len short) (inr (record {
        none = λ other run. absurd (omega (arith, (longest_zero_run_first groups other 2 run).0));
        written = refl;
      }))
    ]

pub recommended : (n : ℕ) → IsRecommended (groups_of n) (addr_text (V6 n))
unfolding addr_text
recommended n = recommended_groups (groups_of n)

positive : (k : ℕ) → 0 < 256 ^ k
positive zero = omega arith
positive (suc k) = rw (pow-succ' 256 k) (omega (arith, positive k))

-- the bytes of a number tell its lowest digits to the base 256
same_low_digits : (k m n : ℕ) → bytes_high_first (suc k) m ≡ bytes_high_first (suc k) n → m % 256 ^ suc k ≡ n % 256 ^ suc k
same_low_digits zero m n e = ap (λ (l : List ℕ). get_or l 0 0) e
same_low_digits (suc k) m n e =
    let high : m / 256 ^ suc k % 256 ≡ n / 256 ^ suc k % 256 = ap (λ (l : List ℕ). get_or l 0 0) e in
    let low = same_low_digits k m n (ap (λ (l : List ℕ). drop 1 l) e) in
    rw (pow-succ' 256 (suc k), mod-mul m {m = 256} {c = 256 ^ suc k} (omega arith) (positive (suc k)), mod-mul n {m = 256} {c = 256 ^ suc k} (omega arith) (positive (suc k)), high, low) refl

small_bytes : (k n i : ℕ) → get_or (bytes_high_first k n) i 0 < 2 ^ 8
small_bytes zero n i = omega arith
small_bytes (suc zero) n i = elim i as (λ j. get_or (bytes_high_first 1 n) j 0 < 2 ^ 8) [ zero ↦ omega arith | suc j ↦ omega arith ]
small_bytes (suc (suc k)) n i =
    let later = small_bytes (suc k) n in
    elim i as (λ j. get_or (bytes_high_first (suc (suc k)) n) j 0 < 2 ^ 8) [ zero ↦ omega arith | suc j ↦ later j ]

-- bytes that make the same groups are the same
same_bytes : (xs ys : List ℕ) → length xs ≡ length ys → ((k : ℕ) → get_or xs k 0 < 2 ^ 8) → ((k : ℕ) → get_or ys k 0 < 2 ^ 8) → (n : ℕ) → length xs ≡ 2 * n → segments_of xs ≡ segments_of ys → xs ≡ ys
same_bytes [] [] long hx hy n even e = refl
same_bytes [] (y ∷ ys) long hx hy n even e = absurd (omega (arith, long))
same_bytes (x ∷ xs) [] long hx hy n even e = absurd (omega (arith, long))
same_bytes (x ∷ []) (y ∷ ys) long hx hy n even e = absurd (omega (arith, even))
same_bytes (x ∷ x₂ ∷ xs) (y ∷ []) long hx hy n even e = absurd (omega (arith, long))
same_bytes (x ∷ x₂ ∷ xs) (y ∷ y₂ ∷ ys) long hx hy n even e =
    let heads = same_from_place x x₂ y y₂ 256 (hx 1) (hy 1) (ap (λ (l : List ℕ). get_or l 0 0) e) in
    let rest = same_bytes xs ys (omega (arith, long)) (λ k. hx (suc (suc k))) (λ k. hy (suc (suc k))) (n - 1) (omega (arith, even)) (ap (λ (l : List ℕ). drop 1 l) e) in
    λ i. heads.0 i ∷ heads.1 i ∷ rest i

-- each group has 16 bits
small_groups : (xs : List ℕ) → ((k : ℕ) → get_or xs k 0 < 2 ^ 8) → AllSegments (segments_of xs)
small_groups [] h k = omega arith
small_groups (x ∷ []) h k = omega arith
small_groups (x ∷ y ∷ xs) h k =
    let later = small_groups xs (λ j. h (suc (suc j))) in
    let first : x * 256 + y < 2 ^ 16 = omega (arith, h 0, h 1) in
    elim k as (λ j. get_or (segments_of (x ∷ y ∷ xs)) j 0 < 2 ^ 16) [ zero ↦ first | suc j ↦ later j ]

as_ip : Addr → IpAddr
as_ip (V4 n) = ip.V4 (record { octets = to_be_bytes w32 n })
as_ip (V6 n) = ip.V6 (record { segments = groups_of n })

is_ip_text : (a : Addr) → IsIpText (addr_text a) (as_ip a)
unfolding addr_text as_ip
is_ip_text (V4 n) = IsDotted-ipv4_text (to_be_bytes w32 n) refl (small_bytes 4 n)
is_ip_text (V6 n) = IsColonHex-hex_groups_text (groups_of n) refl (small_groups (to_be_bytes w128 n) (small_bytes 16 n))

-- the family and the numbers of an address
numbers : IpAddr → ℕ × List ℕ
numbers (ip.V4 a) = (4, a.octets)
numbers (ip.V6 a) = (6, a.segments)

-- an address is told by its numbers
same_numbers : (a b : Addr) → IsAddr a → IsAddr b → numbers (as_ip a) ≡ numbers (as_ip b) → a ≡ b
unfolding as_ip numbers
same_numbers (V4 m) (V4 n) hm hn e =
    let digits = same_low_digits 3 m n (ap (λ (p : ℕ × List ℕ). p.1) e) in
    ap V4 (sym (mod-eq_of_lt {m = 2 ^ 32} hm) ∙ digits ∙ mod-eq_of_lt {m = 2 ^ 32} hn)
same_numbers (V4 m) (V6 n) hm hn e = absurd (omega (arith, ap (λ (p : ℕ × List ℕ). p.0) e))
same_numbers (V6 m) (V4 n) hm hn e = absurd (omega (arith, ap (λ (p : ℕ × List ℕ). p.0) e))
same_numbers (V6 m) (V6 n) hm hn e =
    let bytes = same_bytes (to_be_bytes w128 m) (to_be_bytes w128 n) refl (small_bytes 16 m) (small_bytes 16 n) 8 refl (ap (λ (p : ℕ × List ℕ). p.1) e) in
    ap V6 (sym (mod-eq_of_lt {m = 2 ^ 128} hm) ∙ same_low_digits 15 m n bytes ∙ mod-eq_of_lt {m = 2 ^ 128} hn)

pub addr_text_injective : (a b : Addr) → IsAddr a → IsAddr b → addr_text a ≡ addr_text b → a ≡ b
addr_text_injective a b ha hb e =
    same_numbers a b ha hb (ap numbers (IsIpText_unique (addr_text a) (as_ip a) (as_ip b) (is_ip_text a) (subst (λ text. IsIpText text (as_ip b)) (sym e) (is_ip_text b))))
