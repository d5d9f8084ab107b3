-- The bytes behind the first 2 ^ 40 say nothing about the header.
use Rattle.std.proofs.Common.{◌≡◌, ℕ, ◌+◌, ◌-◌, ◌<◌, ◌≤◌, ◌^◌, Bool, true, false, nat_lt, List, length, take, drop, Option, Some, None, refl, sym, inl, inr, ap, ◌∙◌, arith}
use Rattle.std.proofs.lemmas.List.{take_all, drop-take, length-take-le}
use Rattle.std.proofs.lemmas.Bool.{cases_order, le-ltb}
use Rattle.byteorder.specs.Endian.{big_number, little_number}
use Rattle.byteorder.specs.Numbers.{big_from-take, little_from-take}
use Rattle.zk_pcap.specs.declared.headers.Form.{Form}
use Rattle.zk_pcap.specs.Header.{counted, number_of, form_by, form_of, header_by, header_after, header_of}

-- the first n bytes hold the number
number_of-take : (big : Bool) (n m : ℕ) (bytes : List ℕ) → n ≤ m → number_of big n (take m bytes) ≡ number_of big n bytes
number_of-take true n m bytes h = big_from-take 0 n m bytes (omega arith)
number_of-take false n m bytes h = little_from-take 0 n m bytes (omega arith)

-- a number of n bytes from place i on ends before place i + m
number_of-drop-take : (big : Bool) (n i m : ℕ) (bytes : List ℕ) → n ≤ m → number_of big n (drop i (take (i + m) bytes)) ≡ number_of big n (drop i bytes)
number_of-drop-take big n i m bytes h =
    ap (number_of big n) (drop-take i m bytes) ∙ number_of-take big n m (drop i bytes) h

-- a header is read from four numbers
pub header_by-same : (number : ℕ → List ℕ → ℕ) (form : Form) (b c : List ℕ) → 24 ≤ length b → 24 ≤ length c
    → number 2 (drop 4 b) ≡ number 2 (drop 4 c) → number 2 (drop 6 b) ≡ number 2 (drop 6 c)
    → number 4 (drop 16 b) ≡ number 4 (drop 16 c) → number 4 (drop 20 b) ≡ number 4 (drop 20 c)
    → header_by number form b ≡ header_by number form c
header_by-same number form b c long_b long_c major minor snaplen link =
    let b8 : nat_lt (length b) 8 ≡ false = le-ltb _ _ (omega arith) in
    let c8 : nat_lt (length c) 8 ≡ false = le-ltb _ _ (omega arith) in
    let b24 : nat_lt (length b) 24 ≡ false = le-ltb _ _ (omega arith) in
    let c24 : nat_lt (length c) 24 ≡ false = le-ltb _ _ (omega arith) in
    rw (b8, c8, b24, c24, major, minor, snaplen, link) refl

-- two files whose first numbers are the same have the same header
header_after-same : (form : Option Form) (b c : List ℕ) → 24 ≤ length b → 24 ≤ length c
    → ((big : Bool) → number_of big 2 (drop 4 b) ≡ number_of big 2 (drop 4 c))
    → ((big : Bool) → number_of big 2 (drop 6 b) ≡ number_of big 2 (drop 6 c))
    → ((big : Bool) → number_of big 4 (drop 16 b) ≡ number_of big 4 (drop 16 c))
    → ((big : Bool) → number_of big 4 (drop 20 b) ≡ number_of big 4 (drop 20 c))
    → header_after form b ≡ header_after form c
header_after-same None b c long_b long_c major minor snaplen link = refl
header_after-same (Some form) b c long_b long_c major minor snaplen link =
    rw (header_by-same (number_of form.big) form b c long_b long_c (major form.big) (minor form.big) (snaplen form.big) (link form.big)) refl

-- a file of four bytes or more is judged by its magic number
pub header_of-after : (bytes : List ℕ) → nat_lt (length bytes) 4 ≡ false → header_of bytes ≡ header_after (form_of bytes) bytes
header_of-after bytes long = rw long refl

header_of-same : (b c : List ℕ) → 24 ≤ length b → 24 ≤ length c
    → little_number 4 b ≡ little_number 4 c → big_number 4 b ≡ big_number 4 c
    → ((big : Bool) → number_of big 2 (drop 4 b) ≡ number_of big 2 (drop 4 c))
    → ((big : Bool) → number_of big 2 (drop 6 b) ≡ number_of big 2 (drop 6 c))
    → ((big : Bool) → number_of big 4 (drop 16 b) ≡ number_of big 4 (drop 16 c))
    → ((big : Bool) → number_of big 4 (drop 20 b) ≡ number_of big 4 (drop 20 c))
    → header_of b ≡ header_of c
header_of-same b c long_b long_c little big major minor snaplen link =
    let b4 : nat_lt (length b) 4 ≡ false = le-ltb _ _ (omega arith) in
    let c4 : nat_lt (length c) 4 ≡ false = le-ltb _ _ (omega arith) in
    let form : form_of b ≡ form_of c = ap (λ (x : ℕ). form_by x (big_number 4 b)) little ∙ ap (form_by (little_number 4 c)) big in
    header_of-after b b4 ∙ ap (λ (f : Option Form). header_after f b) form
    ∙ header_after-same (form_of c) b c long_b long_c major minor snaplen link ∙ sym (header_of-after c c4)

-- a header stands in the bytes that count
header_of-long : (bytes : List ℕ) → 2 ^ 40 < length bytes → header_of bytes ≡ header_of (counted bytes)
header_of-long bytes long =
    let cut : length (counted bytes) ≡ 2 ^ 40 = length-take-le (2 ^ 40) bytes (omega arith) in
    header_of-same bytes (counted bytes) (omega arith) (omega arith)
    (sym (little_from-take 0 4 (2 ^ 40) bytes (omega arith)))
    (sym (big_from-take 0 4 (2 ^ 40) bytes (omega arith)))
    (λ b. sym (number_of-drop-take b 2 4 (2 ^ 40 - 4) bytes (omega arith)))
    (λ b. sym (number_of-drop-take b 2 6 (2 ^ 40 - 6) bytes (omega arith)))
    (λ b. sym (number_of-drop-take b 4 16 (2 ^ 40 - 16) bytes (omega arith)))
    (λ b. sym (number_of-drop-take b 4 20 (2 ^ 40 - 20) bytes (omega arith)))

-- only the first 2 ^ 40 bytes count
pub header_of_counted : (bytes : List ℕ) → header_of bytes ≡ header_of (counted bytes)
header_of_counted bytes = elim (cases_order (length bytes) (2 ^ 40)) as (λ _. header_of bytes ≡ header_of (counted bytes)) [
  | inl same ↦ ap header_of (sym (take_all (2 ^ 40) bytes (omega arith)))
  | inr other ↦ elim other as (λ _. header_of bytes ≡ header_of (counted bytes)) [
    | inl short ↦ ap header_of (sym (take_all (2 ^ 40) bytes (omega arith)))
    | inr long ↦ header_of-long bytes long
  ]
]
