-- What a side of DNS over TCP gives as it grows.
use Rattle.std.proofs.Common.{◌≡◌, ℕ, zero, suc, ◌+◌, ◌-◌, ◌<◌, ◌≤◌, ◌&&◌, nat_lt, nat_le, if◌then◌else◌, Bool, true, false, List, [], ◌∷◌, ◌++◌, length, map, take, drop, Some, None, refl, ap, sym, ◌∙◌, arith, append-nil, length-append, length-drop}
use Rattle.std.proofs.lemmas.Bool.Decides.{nat_tests}
use Rattle.std.proofs.lemmas.List.{drop-append-le, drop-map, length-map, take-append-le}
use Rattle.std.proofs.Math.ListN.{get_or-append}
use Rattle.zk_dns.specs.declared.tcp.DnsStep.TheVariants.{More, One}
use Rattle.zk_dns.specs.Data.{number_at}
use Rattle.zk_base.specs.Places.{Place, bytes_before_gap}
use Rattle.zk_dns.specs.Stream.{Gap, Message, TcpUnit, framed_len, is_framed, step_of, units, units_from, units_of}

-- the number in the first bytes stays when more stand behind
pub number-stays : (bytes more : List ℕ) (place : ℕ) → place + 2 ≤ length bytes → number_at 2 (bytes ++ more) place ≡ number_at 2 bytes place
number-stays bytes more place inside =
    let behind : drop place (bytes ++ more) ≡ drop place bytes ++ more = drop-append-le place bytes more (omega arith) in
    let long : 2 ≤ length (drop place bytes) = omega (arith, length-drop place bytes) in
    let first = get_or-append (drop place bytes) more 0 0 (omega arith) in
    let second = get_or-append (drop place bytes) more 0 1 (omega arith) in
    rw (behind, first, second) refl

-- the bytes before the first gap go on only where there was none
data Goes (places more : List Place) : Type 0 where
  stopped : length (bytes_before_gap places) < length places → bytes_before_gap (places ++ more) ≡ bytes_before_gap places → Goes places more
  open_end : length (bytes_before_gap places) ≡ length places → bytes_before_gap (places ++ more) ≡ bytes_before_gap places ++ bytes_before_gap more → Goes places more

goes : (places more : List Place) → Goes places more
goes [] more = open_end refl refl
goes (None ∷ places) more = stopped (omega arith) refl
goes (Some byte ∷ places) more = elim (goes places more) [
  | stopped fewer same ↦ stopped (omega (arith, fewer)) (ap (λ (bytes : List ℕ). byte ∷ bytes) same)
  | open_end all same ↦ open_end (omega (arith, all)) (ap (λ (bytes : List ℕ). byte ∷ bytes) same)
]

-- the bytes before the first gap are no more than there are places
no-more : (places : List Place) → length (bytes_before_gap places) ≤ length places
no-more [] = omega arith
no-more (None ∷ places) = omega arith
no-more (Some byte ∷ places) = omega (arith, no-more places)

-- a message with its length is there
is-framed-by : (len framed : ℕ) → 2 ≤ len → framed ≤ len → (nat_le 2 len && nat_le framed len) ≡ true
is-framed-by len framed two whole = grind (arith, nat_tests)

is-framed : (bytes : List ℕ) → 2 ≤ length bytes → framed_len bytes ≤ length bytes → is_framed bytes ≡ true
is-framed bytes two whole = is-framed-by (length bytes) (framed_len bytes) two whole

-- a message that is there stays there
framed-stays : (bytes more : List ℕ) → 2 ≤ length bytes → framed_len bytes ≤ length bytes
    → (framed_len (bytes ++ more) ≡ framed_len bytes) × (is_framed (bytes ++ more) ≡ true)
    × (take (number_at 2 (bytes ++ more) 0) (drop 2 (bytes ++ more)) ≡ take (number_at 2 bytes 0) (drop 2 bytes))
framed-stays bytes more two whole =
    let number : number_at 2 (bytes ++ more) 0 ≡ number_at 2 bytes 0 = number-stays bytes more 0 (omega arith) in
    let len : framed_len (bytes ++ more) ≡ framed_len bytes = ap (λ (n : ℕ). 2 + n) number in
    let total : length (bytes ++ more) ≡ length bytes + length more = length-append bytes more in (
      len,
      is-framed (bytes ++ more) (omega (arith, total)) (omega (arith, total, len)),
      ap (λ (n : ℕ). take n (drop 2 (bytes ++ more))) number
          ∙ ap (take (number_at 2 bytes 0)) (drop-append-le 2 bytes more two)
          ∙ take-append-le (number_at 2 bytes 0) (drop 2 bytes) more (omega (arith, whole, length-drop 2 bytes)),
    )

-- the bytes before the first gap go on
bytes-grow : (places more : List Place) → (rest : List ℕ) × (bytes_before_gap (places ++ more) ≡ bytes_before_gap places ++ rest)
bytes-grow places more = elim (goes places more) [
  | stopped fewer same ↦ ([], same ∙ sym (append-nil (bytes_before_gap places)))
  | open_end all same ↦ (bytes_before_gap more, same)
]

-- one step of a side, with the bytes before the first gap
step-of : ℕ → ℕ → List Place → List ℕ → List TcpUnit
step-of n place places bytes =
    if is_framed bytes then Message (place + framed_len bytes) (take (number_at 2 bytes 0) (drop 2 bytes))
    ∷ units_of n (place + framed_len bytes) (drop (framed_len bytes) places)
    else if nat_lt (length bytes) (length places) then Gap (place + length bytes) ∷ []
    else []

units-step : (n place : ℕ) (places : List Place) → units_of (suc n) place places ≡ step-of n place places (bytes_before_gap places)
unfolding units_of step-of
units-step n place places = refl

-- a message is next
step-message : (n place : ℕ) (places : List Place) (bytes : List ℕ) → is_framed bytes ≡ true
    → step-of n place places bytes ≡ Message (place + framed_len bytes) (take (number_at 2 bytes 0) (drop 2 bytes))
    ∷ units_of n (place + framed_len bytes) (drop (framed_len bytes) places)
unfolding step-of
step-message n place places bytes is = rw is refl

-- a gap is next
step-gap : (n place : ℕ) (places : List Place) (bytes : List ℕ) → is_framed bytes ≡ false → length bytes < length places
    → step-of n place places bytes ≡ Gap (place + length bytes) ∷ []
unfolding step-of
step-gap n place places bytes is fewer = rw is (grind (arith, nat_tests))

-- nothing is next
step-none : (n place : ℕ) (places : List Place) (bytes : List ℕ) → is_framed bytes ≡ false → length bytes ≡ length places
    → step-of n place places bytes ≡ []
unfolding step-of
step-none n place places bytes is all = rw is (grind (arith, nat_tests))

framed-tells-by : (len framed : ℕ) → (nat_le 2 len && nat_le framed len) ≡ true → (2 ≤ len) × (framed ≤ len)
framed-tells-by len framed is = (grind (arith, nat_tests), grind (arith, nat_tests))

-- what a message that is there tells
framed-tells : (bytes : List ℕ) → is_framed bytes ≡ true → (2 ≤ length bytes) × (framed_len bytes ≤ length bytes)
framed-tells bytes is = framed-tells-by (length bytes) (framed_len bytes) is

-- no places are no units
units-none : (n place : ℕ) → units_of n place [] ≡ []
unfolding units_of
units-none zero place = refl
units-none (suc n) place = refl

-- a step whose bytes go on
units_of-grows-by : (n m place : ℕ) (places more : List Place) → length places ≤ suc n → length places + length more ≤ suc m
    → (framed : Bool) → is_framed (bytes_before_gap places) ≡ framed
    → ((at : ℕ) (behind others : List Place) → length behind ≤ n → length behind + length others ≤ m
    → (rest : List TcpUnit) × (units_of m at (behind ++ others) ≡ units_of n at behind ++ rest))
    → (rest : List TcpUnit) × (units_of (suc m) place (places ++ more) ≡ units_of (suc n) place places ++ rest)
units_of-grows-by n m place places more n_is m_is true is again =
    let bytes : List ℕ = bytes_before_gap places in
    let (two, whole) = framed-tells bytes is in
    let (behind, grows) = bytes-grow places more in
    let (len, still, message) = framed-stays bytes behind two whole in
    let fits : framed_len bytes ≤ length places = omega (arith, whole, no-more places) in
    let left : List Place = drop (framed_len bytes) places in
    let left_len : length left ≡ length places - framed_len bytes = length-drop (framed_len bytes) places in
    let (rest, found) = again (place + framed_len bytes) left more (omega (arith, left_len)) (omega (arith, left_len, fits)) in
    let head : List ℕ → List TcpUnit → List TcpUnit = λ content others. Message (place + framed_len bytes) content ∷ others in (
      rest,
      units-step m place (places ++ more)
          ∙ ap (step-of m place (places ++ more)) grows
          ∙ step-message m place (places ++ more) (bytes ++ behind) still
          ∙ ap (λ (content : List ℕ). Message (place + framed_len (bytes ++ behind)) content ∷ units_of m (place + framed_len (bytes ++ behind)) (drop (framed_len (bytes ++ behind)) (places ++ more))) message
          ∙ ap (λ (k : ℕ). Message (place + k) (take (number_at 2 bytes 0) (drop 2 bytes)) ∷ units_of m (place + k) (drop k (places ++ more))) len
          ∙ ap (λ (ps : List Place). head (take (number_at 2 bytes 0) (drop 2 bytes)) (units_of m (place + framed_len bytes) ps)) (drop-append-le (framed_len bytes) places more fits)
          ∙ ap (head (take (number_at 2 bytes 0) (drop 2 bytes))) found
          ∙ sym (ap (λ (us : List TcpUnit). us ++ rest) (units-step n place places ∙ step-message n place places bytes is)),
    )
units_of-grows-by n m place places more n_is m_is false is again = elim (goes places more) [
  | stopped fewer same ↦ (
    [],
    units-step m place (places ++ more)
        ∙ ap (step-of m place (places ++ more)) same
        ∙ step-gap m place (places ++ more) (bytes_before_gap places) is (omega (arith, fewer, length-append places more))
        ∙ sym (ap (λ (us : List TcpUnit). us ++ []) (units-step n place places ∙ step-gap n place places (bytes_before_gap places) is fewer)),
  )
  | open_end all same ↦ (
    units_of (suc m) place (places ++ more),
    sym (ap (λ (us : List TcpUnit). us ++ units_of (suc m) place (places ++ more)) (units-step n place places ∙ step-none n place places (bytes_before_gap places) is all)),
  )
]

-- the units of a front are given again when there are more places
units_of-grows : (n m place : ℕ) (places more : List Place) → length places ≤ n → length places + length more ≤ m
    → (rest : List TcpUnit) × (units_of m place (places ++ more) ≡ units_of n place places ++ rest)
units_of-grows n m place [] more n_is m_is =
    (units_of m place more, sym (ap (λ (us : List TcpUnit). us ++ units_of m place more) (units-none n place)))
units_of-grows zero m place (p ∷ places) more n_is m_is = absurd (omega arith)
units_of-grows (suc n) zero place (p ∷ places) more n_is m_is = absurd (omega arith)
units_of-grows (suc n) (suc m) place (p ∷ places) more n_is m_is =
    units_of-grows-by n m place (p ∷ places) more n_is m_is (is_framed (bytes_before_gap (p ∷ places))) refl
    (λ at. units_of-grows n m at)

pub units-grow : (places more : List Place) → (rest : List TcpUnit) × (units (places ++ more) ≡ units places ++ rest)
unfolding units_from
units-grow places more = units_of-grows (length places) (length (places ++ more)) 0 places more (omega arith) (omega (arith, length-append places more))

-- ---- steps

-- bytes without a gap, and what follows them
known : (bytes : List ℕ) → bytes_before_gap (map (λ byte. Some byte) bytes) ≡ bytes
known [] = refl
known (byte ∷ bytes) = ap (λ (rest : List ℕ). byte ∷ rest) (known bytes)

known-gap : (bytes : List ℕ) (more : List Place) → bytes_before_gap (map (λ byte. Some byte) bytes ++ None ∷ more) ≡ bytes
known-gap [] more = refl
known-gap (byte ∷ bytes) more = ap (λ (rest : List ℕ). byte ∷ rest) (known-gap bytes more)

-- the bytes of a message behind its length
content-is : (bytes : List ℕ) (from to : ℕ) → from ≡ 2 → to ≡ framed_len bytes → take (to - from) (drop from bytes) ≡ take (number_at 2 bytes 0) (drop 2 bytes)
content-is bytes from to from_is to_is =
    let count : to - from ≡ number_at 2 bytes 0 = omega (arith, from_is, to_is) in
    ap (λ (n : ℕ). take n (drop from bytes)) count ∙ ap (λ (f : ℕ). take (number_at 2 bytes 0) (drop f bytes)) from_is

step-unframed : (n m place : ℕ) (places : List Place) (bytes : List ℕ) → is_framed bytes ≡ false → step-of n place places bytes ≡ step-of m place places bytes
unfolding step-of
step-unframed n m place places bytes is = rw is refl

-- a step depends on the count only behind a message
step-enough : (n m place : ℕ) (places : List Place) (bytes : List ℕ) (framed : Bool) → is_framed bytes ≡ framed
    → (2 ≤ framed_len bytes → units_of n (place + framed_len bytes) (drop (framed_len bytes) places) ≡ units_of m (place + framed_len bytes) (drop (framed_len bytes) places))
    → step-of n place places bytes ≡ step-of m place places bytes
step-enough n m place places bytes true is same =
    step-message n place places bytes is
    ∙ ap (λ (us : List TcpUnit). Message (place + framed_len bytes) (take (number_at 2 bytes 0) (drop 2 bytes)) ∷ us) (same (omega arith))
    ∙ sym (step-message m place places bytes is)
step-enough n m place places bytes false is same = step-unframed n m place places bytes is

-- counts that are enough agree
units_of-enough : (n m place : ℕ) (places : List Place) → length places ≤ n → length places ≤ m → units_of n place places ≡ units_of m place places
units_of-enough n m place [] n_is m_is = units-none n place ∙ sym (units-none m place)
units_of-enough zero m place (p ∷ places) n_is m_is = absurd (omega arith)
units_of-enough (suc n) zero place (p ∷ places) n_is m_is = absurd (omega arith)
units_of-enough (suc n) (suc m) place (p ∷ places) n_is m_is =
    units-step n place (p ∷ places)
    ∙ step-enough n m place (p ∷ places) (bytes_before_gap (p ∷ places)) (is_framed (bytes_before_gap (p ∷ places))) refl
    (λ two. units_of-enough n m (place + framed_len (bytes_before_gap (p ∷ places))) (drop (framed_len (bytes_before_gap (p ∷ places))) (p ∷ places))
    (omega (arith, two, length-drop (framed_len (bytes_before_gap (p ∷ places))) (p ∷ places)))
    (omega (arith, two, length-drop (framed_len (bytes_before_gap (p ∷ places))) (p ∷ places))))
    ∙ sym (units-step m place (p ∷ places))

-- what a step tells
step-tells : (bytes : List ℕ) (used from to : ℕ) → step_of bytes ≡ One used from to
    → (is_framed bytes ≡ true) × (used ≡ framed_len bytes) × (from ≡ 2) × (to ≡ framed_len bytes)
step-tells bytes used from to is = step-tells-by (is_framed bytes) is
  where
    step-tells-by : (framed : Bool) → (if framed then One (framed_len bytes) 2 (framed_len bytes) else More) ≡ One used from to
        → (framed ≡ true) × (used ≡ framed_len bytes) × (from ≡ 2) × (to ≡ framed_len bytes)
    step-tells-by true same = (refl, cc, cc, cc)
    step-tells-by false same = cc

step-waits : (bytes : List ℕ) → step_of bytes ≡ More → is_framed bytes ≡ false
step-waits bytes is = step-waits-by (is_framed bytes) is
  where
    step-waits-by : (framed : Bool) → (if framed then One (framed_len bytes) 2 (framed_len bytes) else More) ≡ More → framed ≡ false
    step-waits-by true same = cc
    step-waits-by false same = refl

-- a step that tells a message tells the next unit
pub step-unit : (place : ℕ) (bytes : List ℕ) (more : List Place) (used from to : ℕ) → step_of bytes ≡ One used from to
    → units_from place (map (λ byte. Some byte) bytes ++ more)
    ≡ Message (place + used) (take (to - from) (drop from bytes)) ∷ units_from (place + used) (map (λ byte. Some byte) (drop used bytes) ++ more)
unfolding units_from
step-unit place bytes more used from to is =
    let (framed, used_is, from_is, to_is) = step-tells bytes used from to is in
    let (two, all) = framed-tells bytes framed in
    let places : List Place = map (λ byte. Some byte) bytes in
    let known_len : length places ≡ length bytes = length-map bytes (λ byte. Some byte) in
    let (behind, grows) = bytes-grow places more in
    let ahead : bytes_before_gap (places ++ more) ≡ bytes ++ behind = grows ∙ ap (λ (bs : List ℕ). bs ++ behind) (known bytes) in
    let (len, still, message) = framed-stays bytes behind two all in
    let total : length (places ++ more) ≡ length bytes + length more = length-append places more ∙ ap (λ (n : ℕ). n + length more) known_len in
    let count : length (places ++ more) ≡ suc (length (places ++ more) - 1) = omega (arith, total, two) in
    let left : drop used (places ++ more) ≡ map (λ byte. Some byte) (drop used bytes) ++ more
    = drop-append-le used places more (omega (arith, known_len, all, used_is)) ∙ ap (λ (ps : List Place). ps ++ more) (drop-map (λ byte. Some byte) used bytes) in
    let left_len : length (drop used (places ++ more)) ≡ length (places ++ more) - used = length-drop used (places ++ more) in
    ap (λ (n : ℕ). units_of n place (places ++ more)) count
    ∙ units-step (length (places ++ more) - 1) place (places ++ more)
    ∙ ap (step-of (length (places ++ more) - 1) place (places ++ more)) ahead
    ∙ step-message (length (places ++ more) - 1) place (places ++ more) (bytes ++ behind) still
    ∙ ap (λ (k : ℕ). Message (place + k) (take (number_at 2 (bytes ++ behind) 0) (drop 2 (bytes ++ behind))) ∷ units_of (length (places ++ more) - 1) (place + k) (drop k (places ++ more))) (len ∙ sym used_is)
    ∙ ap (λ (content : List ℕ). Message (place + used) content ∷ units_of (length (places ++ more) - 1) (place + used) (drop used (places ++ more)))
    (message ∙ sym (content-is bytes from to from_is to_is))
    ∙ ap (λ (us : List TcpUnit). Message (place + used) (take (to - from) (drop from bytes)) ∷ us)
    (units_of-enough (length (places ++ more) - 1) (length (drop used (places ++ more))) (place + used) (drop used (places ++ more))
    (omega (arith, left_len, used_is)) (omega arith)
    ∙ ap (λ (ps : List Place). units_of (length ps) (place + used) ps) left)

-- a step that waits tells no unit
pub step-quiet : (place : ℕ) (bytes : List ℕ) → step_of bytes ≡ More → units_from place (map (λ byte. Some byte) bytes) ≡ []
unfolding units_from
step-quiet place [] is = units-none 0 place
step-quiet place (byte ∷ bytes) is =
    units-step (length (map {B = Place} (λ byte. Some byte) bytes)) place (map (λ byte. Some byte) (byte ∷ bytes))
    ∙ ap (step-of (length (map {B = Place} (λ byte. Some byte) bytes)) place (map (λ byte. Some byte) (byte ∷ bytes))) (known (byte ∷ bytes))
    ∙ step-none _ place (map (λ byte. Some byte) (byte ∷ bytes)) (byte ∷ bytes) (step-waits (byte ∷ bytes) is) (sym (length-map (byte ∷ bytes) (λ byte. Some byte)))

-- a gap behind bytes of which a step waits is the next unit
pub step-gap_unit : (place : ℕ) (bytes : List ℕ) (more : List Place) → step_of bytes ≡ More
    → units_from place (map (λ byte. Some byte) bytes ++ None ∷ more) ≡ Gap (place + length bytes) ∷ []
unfolding units_from
step-gap_unit place bytes more is =
    let places : List Place = map (λ byte. Some byte) bytes ++ None ∷ more in
    let total : length places ≡ length bytes + (1 + length more)
    = omega (arith, length-append (map {B = Place} (λ byte. Some byte) bytes) (None ∷ more), length-map {B = Place} bytes (λ byte. Some byte)) in
    let count : length places ≡ suc (length places - 1) = omega (arith, total) in
    ap (λ (n : ℕ). units_of n place places) count
    ∙ units-step (length places - 1) place places
    ∙ ap (step-of (length places - 1) place places) (known-gap bytes more)
    ∙ step-gap (length places - 1) place places bytes (step-waits bytes is) (omega (arith, total))
