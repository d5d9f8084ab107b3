-- The texts of values that are no strings stand for nothing else in a log.
use Rattle.std.proofs.Common.{◌≡◌, ◌≢◌, ◌<◌, ◌≤◌, ◌/◌, ◌%◌, ◌+◌, ◌-◌, ◌==◌, nat_lt, nat_le, ℕ, zero, suc, ℤ, pos, negsuc, not, Bool, true, false, List, [], ◌∷◌, ◌++◌, length, take, drop, replicate, flat_map, codes, refl, arith, bytes_eq}
use Rattle.std.specs.Prelude.{if◌then◌else◌, slice_index_or, decimal, ◌&&◌, ◌||◌}
use Rattle.std.specs.Char.{digit_char}
use Rattle.std.specs.Fmt.{digit_glyph, digits_onto, digits, signed_decimal}
use Rattle.std.specs.Int.{w128, to_be_bytes}
use Rattle.std.specs.List.{AllByRecursion, list_all}
use Rattle.std.specs.Net.Addr.{segments_of}
use Rattle.std.specs.Net.Text.{dotted_text, leading_zero_digits, hex, groups_text, compressed_text, longest_zero_run, hex_groups_text}
use Rattle.std.proofs.lemmas.Bool.{and_parts}
use Rattle.zk_base.specs.declared.network.Addr.{Addr}
use Rattle.zk_base.specs.declared.network.Addr.TheVariants.{V4, V6}
use Rattle.zk_ascii.specs.Fits.{IsPlain}
use Rattle.zk_text.specs.Address.{addr_text, subnet_text}
use Rattle.zk_text.specs.Span.{padded_decimal, seconds_decimal, span_decimal}
use Rattle.zk_sound.specs.Holding.{is_word}

-- Plain texts --------------------------------------------------------------------------------------------------------

-- neither a blank, a comma, a bracket nor a minus sign, nor what comes before them
abbrev IsInk : ℕ → Type 0
IsInk byte = 46 ≤ byte

-- a text of such bytes alone, of one at least
record Inked (text : List ℕ) : Type 0 where
  some : text ≢ []
  all : AllByRecursion IsInk text

all_by : {P Q : ℕ → Type 0} → ((byte : ℕ) → P byte → Q byte) → (text : List ℕ) → AllByRecursion P text → (k d : ℕ) → k < length text → Q (slice_index_or text k d)
all_by each [] h k d within = absurd (omega arith)
all_by each (x ∷ text) h zero d within = each x h.0
all_by each (x ∷ text) h (suc k) d within = all_by each text h.1 k d (omega (arith, within))

abbrev IsApart : ℕ → Type 0
IsApart byte = (byte ≢ 9) × (byte ≢ 44) × (byte ≢ 10)

ink_apart : (byte : ℕ) → IsInk byte → IsApart byte
ink_apart byte h = (λ e. omega arith, λ e. omega arith, λ e. omega arith)

not_ink : (text others : List ℕ) (byte : ℕ) → byte < 46 → AllByRecursion IsInk text → text ≡ byte ∷ others → ⊥
not_ink [] others byte small all e = cc
not_ink (x ∷ text) others byte small all e = let same : x ≡ byte = cc in let first : 46 ≤ x = all.0 in omega (arith, same, first)

plain_ink : (text : List ℕ) → Inked text → IsPlain text
plain_ink text h = record {
  some = h.some;
  set = λ e. not_ink text [] 45 (omega arith) h.all e;
  full = λ e. not_ink text (codes "empty)") 40 (omega arith) h.all e;
  alone = all_by ink_apart text h.all;
}

-- with a minus sign before it
plain_signed : (text : List ℕ) → Inked text → IsPlain (45 ∷ text)
plain_signed text h = record {
  some = λ e. cc;
  set = λ e. let none : text ≡ [] = cc in h.some none;
  full = λ e. let first : ◌≡◌ {A = ℕ} 45 40 = cc in omega (arith, first);
  alone = λ k d within. all_by {P = λ byte. 45 ≤ byte} {Q = IsApart} (λ byte h. (λ e. omega arith, λ e. omega arith, λ e. omega arith)) (45 ∷ text) (omega arith, weaker text h.all) k d within;
}
  where
    weaker : (text : List ℕ) → AllByRecursion IsInk text → AllByRecursion (λ byte. 45 ≤ byte) text
    weaker [] all = tt
    weaker (x ∷ text) all = let first : 46 ≤ x = all.0 in (omega (arith, first), weaker text all.1)

not_nil_append : (a b : List ℕ) → a ≢ [] → a ++ b ≢ []
not_nil_append [] b some e = some refl
not_nil_append (x ∷ a) b some e = cc

all_both : (a b : List ℕ) → AllByRecursion IsInk a → AllByRecursion IsInk b → AllByRecursion IsInk (a ++ b)
all_both [] b h k = k
all_both (x ∷ a) b h k = (h.0, all_both a b h.1 k)

both_inked : (a b : List ℕ) → Inked a → AllByRecursion IsInk b → Inked (a ++ b)
both_inked a b h k = record { some = not_nil_append a b h.some; all = all_both a b h.all k }

-- Numbers ------------------------------------------------------------------------------------------------------------

glyph_ink : (upper : Bool) (d : ℕ) → 46 ≤ digit_glyph upper d
glyph_ink upper d = by (nat_lt d 10) upper
  where
    by : (small upper : Bool) → 46 ≤ (if small then 48 + d else (if upper then 55 + d else 87 + d))
    by true upper = omega arith
    by false true = omega arith
    by false false = omega arith

digits_inked : (k base : ℕ) (upper : Bool) (n digit : ℕ) (acc : List ℕ) → IsInk digit → AllByRecursion IsInk acc → Inked (digits_onto k base upper n (digit ∷ acc))
digits_inked zero base upper n digit acc h all = record { some = λ e. cc; all = (h, all) }
digits_inked (suc k) base upper n digit acc h all = by (n / base == 0) (digits_inked k base upper (n / base) (digit_glyph upper (n % base)) (digit ∷ acc) (glyph_ink upper (n % base)) (h, all))
  where
    by : (last : Bool) → Inked (digits_onto k base upper (n / base) (digit_glyph upper (n % base) ∷ digit ∷ acc))
        → Inked (if last then digit_glyph upper (n % base) ∷ digit ∷ acc else digits_onto k base upper (n / base) (digit_glyph upper (n % base) ∷ digit ∷ acc))
    by true rest = record { some = λ e. cc; all = (glyph_ink upper (n % base), (h, all)) }
    by false rest = rest

first_inked : (k base : ℕ) (upper : Bool) (n : ℕ) → Inked (digits_onto (suc k) base upper n [])
first_inked k base upper n = by (n / base == 0) (digits_inked k base upper (n / base) (digit_glyph upper (n % base)) [] (glyph_ink upper (n % base)) tt)
  where
    by : (last : Bool) → Inked (digits_onto k base upper (n / base) (digit_glyph upper (n % base) ∷ []))
        → Inked (if last then digit_glyph upper (n % base) ∷ [] else digits_onto k base upper (n / base) (digit_glyph upper (n % base) ∷ []))
    by true rest = record { some = λ e. cc; all = (glyph_ink upper (n % base), tt) }
    by false rest = rest

decimal_inked : (n : ℕ) → Inked (decimal n)
unfolding digits
decimal_inked n = first_inked 63 10 false n

-- Times, intervals and addresses -------------------------------------------------------------------------------------

zeros_ink : (count : ℕ) → AllByRecursion IsInk (replicate count 48)
zeros_ink zero = tt
zeros_ink (suc count) = (omega arith, zeros_ink count)

point : AllByRecursion IsInk (codes ".")
point = (omega arith, tt)

seconds_inked : (n : ℕ) → Inked (seconds_decimal n)
seconds_inked n =
    let rest = n % 1_000_000 in
    both_inked (decimal (n / 1_000_000) ++ codes ".") (padded_decimal 6 rest) (both_inked (decimal (n / 1_000_000)) (codes ".") (decimal_inked (n / 1_000_000)) point)
    (all_both (replicate (6 - length (decimal rest)) 48) (decimal rest) (zeros_ink (6 - length (decimal rest))) (decimal_inked rest).all)

dotted_inked : (a b c d : ℕ) → Inked (dotted_text a b c d)
dotted_inked a b c d = next _ d (next _ c (next _ b (decimal_inked a)))
  where
    next : (text : List ℕ) (n : ℕ) → Inked text → Inked (text ++ codes "." ++ decimal n)
    next text n h = both_inked (text ++ codes ".") (decimal n) (both_inked text (codes ".") h point) (decimal_inked n).all

char_ink : (d : ℕ) → 46 ≤ digit_char d
char_ink d = by (nat_lt d 10)
  where
    by : (small : Bool) → 46 ≤ (if small then 48 + d else 87 + d)
    by true = omega arith
    by false = omega arith

four_inked : (n a b c d : ℕ) → IsInk a → IsInk b → IsInk c → IsInk d → Inked (drop (leading_zero_digits n) (a ∷ b ∷ c ∷ d ∷ []))
four_inked n a b c d first second third last = by (nat_le 0x1000 n) (nat_le 0x100 n) (nat_le 0x10 n)
  where
    by : (thousand hundred ten : Bool) → Inked (drop (if thousand then 0 else (if hundred then 1 else (if ten then 2 else 3))) (a ∷ b ∷ c ∷ d ∷ []))
    by true hundred ten = record { some = λ e. cc; all = (first, (second, (third, (last, tt)))) }
    by false true ten = record { some = λ e. cc; all = (second, (third, (last, tt))) }
    by false false true = record { some = λ e. cc; all = (third, (last, tt)) }
    by false false false = record { some = λ e. cc; all = (last, tt) }

hex_inked : (n : ℕ) → Inked (hex n)
unfolding hex
hex_inked n = four_inked n (digit_char (n / 0x1000)) (digit_char (n / 0x100 % 16)) (digit_char (n / 0x10 % 16)) (digit_char (n % 16)) (char_ink (n / 0x1000)) (char_ink (n / 0x100 % 16)) (char_ink (n / 0x10 % 16)) (char_ink (n % 16))

groups_ink : (segments : List ℕ) → AllByRecursion IsInk (flat_map (λ t. codes ":" ++ hex t) segments)
groups_ink [] = tt
groups_ink (s ∷ segments) = (omega arith, all_both (hex s) _ (hex_inked s).all (groups_ink segments))

text_ink : (segments : List ℕ) → AllByRecursion IsInk (groups_text segments)
text_ink [] = tt
text_ink (s ∷ segments) = all_both (hex s) _ (hex_inked s).all (groups_ink segments)

text_inked : (segments : List ℕ) → segments ≢ [] → Inked (groups_text segments)
text_inked [] some = absurd (some refl)
text_inked (s ∷ segments) some = both_inked (hex s) _ (hex_inked s) (groups_ink segments)

behind_some : (a b : List ℕ) (byte : ℕ) → a ++ byte ∷ b ≢ []
behind_some [] b byte e = cc
behind_some (x ∷ a) b byte e = cc

compressed_inked : (segments : List ℕ) (run : ℕ × ℕ) → segments ≢ [] → Inked (compressed_text segments run)
compressed_inked segments run some = by (nat_lt 1 run.1)
  where
    by : (leaves : Bool) → Inked (if leaves then groups_text (take run.0 segments) ++ codes "::" ++ groups_text (drop (run.0 + run.1) segments) else groups_text segments)
    by true = record {
      some = not_nil_append (groups_text (take run.0 segments) ++ codes "::") (groups_text (drop (run.0 + run.1) segments)) (behind_some (groups_text (take run.0 segments)) (58 ∷ []) 58);
      all = all_both (groups_text (take run.0 segments) ++ codes "::") (groups_text (drop (run.0 + run.1) segments)) (all_both (groups_text (take run.0 segments)) (codes "::") (text_ink (take run.0 segments)) (omega arith, (omega arith, tt))) (text_ink (drop (run.0 + run.1) segments));
    }
    by false = text_inked segments some

segments_some : (octets : List ℕ) → length octets ≡ 16 → segments_of octets ≢ []
segments_some [] long e = omega (arith, long)
segments_some (a ∷ []) long e = omega (arith, long)
segments_some (a ∷ b ∷ octets) long e = cc

addr_inked : (address : Addr) → Inked (addr_text address)
unfolding addr_text hex_groups_text
addr_inked (V4 n) = dotted_inked _ _ _ _
addr_inked (V6 n) = compressed_inked (segments_of (to_be_bytes w128 n)) (longest_zero_run (segments_of (to_be_bytes w128 n))) (segments_some (to_be_bytes w128 n) refl)

-- Values -------------------------------------------------------------------------------------------------------------

pub plain_decimal : (n : ℕ) → IsPlain (decimal n)
plain_decimal n = plain_ink (decimal n) (decimal_inked n)

pub plain_signed_decimal : (n : ℤ) → IsPlain (signed_decimal n)
plain_signed_decimal (pos n) = plain_decimal n
plain_signed_decimal (negsuc n) = plain_signed (decimal (suc n)) (decimal_inked (suc n))

pub plain_span : (n : ℤ) → IsPlain (span_decimal n)
unfolding span_decimal
plain_span (pos n) = plain_ink (seconds_decimal n) (seconds_inked n)
plain_span (negsuc n) = plain_signed (seconds_decimal (suc n)) (seconds_inked (suc n))

pub plain_addr : (address : Addr) → IsPlain (addr_text address)
plain_addr address = plain_ink (addr_text address) (addr_inked address)

pub plain_subnet : (address : Addr) (width : ℕ) → IsPlain (subnet_text address width)
plain_subnet address width = plain_ink (subnet_text address width) (both_inked (addr_text address ++ codes "/") (decimal width) (both_inked (addr_text address) (codes "/") (addr_inked address) (omega arith, tt)) (decimal_inked width).all)

pub plain_truth : (truth : Bool) → IsPlain (if truth then codes "T" else codes "F")
plain_truth true = plain_ink (codes "T") (record { some = λ e. cc; all = (omega arith, tt) })
plain_truth false = plain_ink (codes "F") (record { some = λ e. cc; all = (omega arith, tt) })

-- Words --------------------------------------------------------------------------------------------------------------

false_true : false ≡ true → ⊥
false_true e = cc

passes_apart : (text : List ℕ) → list_all (λ byte. not (byte == 9 || byte == 44 || byte == 10)) text ≡ true → AllByRecursion IsApart text
passes_apart [] e = tt
passes_apart (x ∷ text) e =
    let parts = and_parts (not (x == 9 || x == 44 || x == 10)) (list_all (λ byte. not (byte == 9 || byte == 44 || byte == 10)) text) e in
    (apart x parts.0, passes_apart text parts.1)
  where
    apart : (byte : ℕ) → not (byte == 9 || byte == 44 || byte == 10) ≡ true → IsApart byte
    apart byte e = (λ same. false_true (rw same at e), λ same. false_true (rw same at e), λ same. false_true (rw same at e))

pub plain_word : (text : List ℕ) → is_word text ≡ true → IsPlain text
plain_word text e =
    let third = and_parts (not (bytes_eq text []) && not (bytes_eq text (codes "-")) && not (bytes_eq text (codes "(empty)"))) (list_all (λ byte. not (byte == 9 || byte == 44 || byte == 10)) text) e in
    let second = and_parts (not (bytes_eq text []) && not (bytes_eq text (codes "-"))) (not (bytes_eq text (codes "(empty)"))) third.0 in
    let first = and_parts (not (bytes_eq text [])) (not (bytes_eq text (codes "-"))) second.0 in
    let some = first.0 in
    let set = first.1 in
    let full = second.1 in
    record {
      some = λ same. false_true (rw same at some);
      set = λ same. false_true (rw same at set);
      full = λ same. false_true (rw same at full);
      alone = all_by {P = IsApart} {Q = IsApart} (λ byte h. h) text (passes_apart text third.1);
    }
