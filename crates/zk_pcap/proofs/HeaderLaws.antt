-- A header is read exactly where a file begins with it.
use Rattle.std.proofs.Common.{◌≡◌, ℕ, ◌<◌, Bool, true, false, cond, not, nat_lt, ◌==◌, ◌⊎◌, List, length, drop, slice_index, Option, Some, None, Result, Ok, Err, IfOk, refl, sym, inl, inr, ap, subst, ◌∙◌, arith}
use Rattle.std.proofs.lemmas.Bool.{and_parts, or_cases, not-false, eqb-true, ne_eqb, ltb-false, le-ltb, cond-false}
use Rattle.byteorder.specs.Endian.{big_number, little_number}
use Rattle.zk_base.specs.declared.network.TheConstants.{LINKTYPE_ETHERNET, LINKTYPE_RAW}
use Rattle.zk_pcap.specs.declared.headers.Header.{Header}
use Rattle.zk_pcap.specs.declared.headers.Form.{Form}
use Rattle.zk_pcap.specs.declared.faults.CaptureFault.{CaptureFault}
use Rattle.zk_pcap.specs.declared.faults.CaptureFault.TheVariants.{Short, Version, Link}
use Rattle.zk_pcap.specs.Header.{number_of, nano_of, form_after, form_by, form_of, is_version_2_4, link_of, is_link, header_by, header_after, header_of, HasHeader}

-- behind a test that refuses, what is read has not met it
guard_ok : (refuses : Bool) (fault : CaptureFault) (rest : Result Header CaptureFault) (header : Header)
    → cond refuses (Err fault) rest ≡ Ok header → (refuses ≡ false) × (rest ≡ Ok header)
guard_ok true fault rest header e = cc
guard_ok false fault rest header e = (refl, e)

-- the number that names a form
abbrev magic_of : Bool → ℕ
magic_of nano = cond nano 0xa1b23c4d 0xa1b2c3d4

magic_at : (big nano : Bool) (bytes : List ℕ) → cond big (big_number 4 bytes) (little_number 4 bytes) ≡ magic_of nano → number_of big 4 bytes ≡ magic_of nano
magic_at true nano bytes e = e
magic_at false nano bytes e = e

-- a magic number is the number that names its fractions
nano_of-magic : (magic : ℕ) (nano : Bool) → nano_of magic ≡ Some nano → magic ≡ magic_of nano
nano_of-magic magic nano e = by_cases (magic == magic_of false) (magic == magic_of true) refl refl e
  where
    by_cases : (micro nanos : Bool) → (magic == magic_of false) ≡ micro → (magic == magic_of true) ≡ nanos
        → cond micro (Some false) (cond nanos (Some true) None) ≡ Some nano → magic ≡ magic_of nano
    by_cases true nanos is_micro is_nanos e = subst (λ n. magic ≡ magic_of n) (let same : false ≡ nano = cc in same) (eqb-true magic (magic_of false) is_micro)
    by_cases false true is_micro is_nanos e = subst (λ n. magic ≡ magic_of n) (let same : true ≡ nano = cc in same) (eqb-true magic (magic_of true) is_nanos)
    by_cases false false is_micro is_nanos e = cc

-- the number of a form that was read stands in its order
form_by-magic : (little big : ℕ) (form : Form) → form_by little big ≡ Some form → cond form.big big little ≡ magic_of form.nano
form_by-magic little big form e = by_cases (nano_of little) (nano_of big) refl refl e
  where
    by_cases : (in_little in_big : Option Bool) → nano_of little ≡ in_little → nano_of big ≡ in_big
        → form_after in_little in_big ≡ Some form → cond form.big big little ≡ magic_of form.nano
    by_cases (Some nano) in_big is_little is_big e =
        let made : Form = record { big = false; nano = nano } in
        subst (λ (f : Form). cond f.big big little ≡ magic_of f.nano) (let same : made ≡ form = cc in same) (nano_of-magic little nano is_little)
    by_cases None (Some nano) is_little is_big e =
        let made : Form = record { big = true; nano = nano } in
        subst (λ (f : Form). cond f.big big little ≡ magic_of f.nano) (let same : made ≡ form = cc in same) (nano_of-magic big nano is_big)
    by_cases None None is_little is_big e = cc

-- the rest of a header that was read, behind its magic number
header_by-found : (form : Form) (bytes : List ℕ) (header : Header) → cond form.big (big_number 4 bytes) (little_number 4 bytes) ≡ magic_of form.nano
    → header_by (number_of form.big) form bytes ≡ Ok header → HasHeader bytes header
header_by-found form bytes header magic e =
    let number = number_of form.big in
    let made : Header = record { big = form.big; nano = form.nano; snaplen = number 4 (drop 16 bytes); link = link_of number bytes } in
    let linked : Result Header CaptureFault = cond (not (is_link (link_of number bytes))) (Err Link) (Ok made) in
    let counted : Result Header CaptureFault = cond (nat_lt (length bytes) 24) (Err (Short (length bytes))) linked in
    let versioned : Result Header CaptureFault = cond (not (is_version_2_4 number bytes)) (Err Version) counted in
    let long = guard_ok (nat_lt (length bytes) 8) (Short (length bytes)) versioned header e in
    let version = guard_ok (not (is_version_2_4 number bytes)) Version counted header long.1 in
    let whole = guard_ok (nat_lt (length bytes) 24) (Short (length bytes)) linked header version.1 in
    let link = guard_ok (not (is_link (link_of number bytes))) Link (Ok made) header whole.1 in
    let same : made ≡ header = cc in
    let versions = and_parts (number 2 (drop 4 bytes) == 2) (number 2 (drop 6 bytes) == 4) (not-false (is_version_2_4 number bytes) version.0) in
    let known = or_cases (link_of number bytes == LINKTYPE_ETHERNET) (link_of number bytes == LINKTYPE_RAW) (not-false (is_link (link_of number bytes)) link.0) in
    subst (HasHeader bytes) same (record {
      whole = ltb-false (length bytes) 24 whole.0;
      magic = magic_at form.big form.nano bytes magic;
      major = eqb-true (number 2 (drop 4 bytes)) 2 versions.0;
      minor = eqb-true (number 2 (drop 6 bytes)) 4 versions.1;
      snaplen = refl;
      link = refl;
      known = elim known as (λ _. (link_of number bytes ≡ LINKTYPE_ETHERNET) ⊎ (link_of number bytes ≡ LINKTYPE_RAW)) [
        | inl ethernet ↦ inl (eqb-true (link_of number bytes) LINKTYPE_ETHERNET ethernet)
        | inr raw_ip ↦ inr (eqb-true (link_of number bytes) LINKTYPE_RAW raw_ip)
      ];
    })

header_after-found : (form : Option Form) (bytes : List ℕ) (header : Header) → form_of bytes ≡ form
    → header_after form bytes ≡ Ok header → HasHeader bytes header
header_after-found None bytes header told e = cc
header_after-found (Some form) bytes header told e =
    header_by-found form bytes header (form_by-magic (little_number 4 bytes) (big_number 4 bytes) form told) e

-- what is read is the header
pub header_of-found : (bytes : List ℕ) (r : Result Header CaptureFault) → r ≡ header_of bytes → IfOk r (HasHeader bytes)
header_of-found bytes (Ok header) e =
    let long = guard_ok (nat_lt (length bytes) 4) (Short (length bytes)) (header_after (form_of bytes) bytes) header (sym e) in
    header_after-found (form_of bytes) bytes header refl long.1
header_of-found bytes (Err fault) e = tt

-- two magic numbers in the two orders are never the same four bytes
magic_once : (a b : Bool) (bytes : List ℕ) → ((k : ℕ) → slice_index bytes k < 256) → big_number 4 bytes ≡ magic_of a → little_number 4 bytes ≡ magic_of b → ⊥
magic_once true true bytes small big little = omega (arith, small 0, small 1, small 2, small 3)
magic_once true false bytes small big little = omega (arith, small 0, small 1, small 2, small 3)
magic_once false true bytes small big little = omega (arith, small 0, small 1, small 2, small 3)
magic_once false false bytes small big little = omega (arith, small 0, small 1, small 2, small 3)

-- the form that a magic number names
form_by-little : (nano : Bool) (little big : ℕ) → little ≡ magic_of nano → form_by little big ≡ Some (record { big = false; nano = nano })
form_by-little true little big e = rw e refl
form_by-little false little big e = rw e refl

form_by-big : (nano : Bool) (little big : ℕ) → (little ≡ magic_of false → ⊥) → (little ≡ magic_of true → ⊥) → big ≡ magic_of nano
    → form_by little big ≡ Some (record { big = true; nano = nano })
form_by-big true little big no_micro no_nano e = rw (ne_eqb little (magic_of false) no_micro, ne_eqb little (magic_of true) no_nano, e) refl
form_by-big false little big no_micro no_nano e = rw (ne_eqb little (magic_of false) no_micro, ne_eqb little (magic_of true) no_nano, e) refl

form_of-has : (big nano : Bool) (bytes : List ℕ) → ((k : ℕ) → slice_index bytes k < 256) → number_of big 4 bytes ≡ magic_of nano
    → form_of bytes ≡ Some (record { big = big; nano = nano })
form_of-has true nano bytes small e =
    form_by-big nano (little_number 4 bytes) (big_number 4 bytes) (magic_once nano false bytes small e) (magic_once nano true bytes small e) e
form_of-has false nano bytes small e = form_by-little nano (little_number 4 bytes) (big_number 4 bytes) e

is_link-known : (link : ℕ) → (link ≡ LINKTYPE_ETHERNET) ⊎ (link ≡ LINKTYPE_RAW) → is_link link ≡ true
is_link-known link (inl e) = rw e refl
is_link-known link (inr e) = rw e refl

-- a header is not refused
pub header_of-only : (bytes : List ℕ) → ((k : ℕ) → slice_index bytes k < 256) → (header : Header) → HasHeader bytes header → header_of bytes ≡ Ok header
header_of-only bytes small header has =
    let l4 : nat_lt (length bytes) 4 ≡ false = le-ltb _ _ (omega (arith, has.whole)) in
    let l8 : nat_lt (length bytes) 8 ≡ false = le-ltb _ _ (omega (arith, has.whole)) in
    let l24 : nat_lt (length bytes) 24 ≡ false = le-ltb _ _ has.whole in
    let form = form_of-has header.big header.nano bytes small has.magic in
    let number = number_of header.big in
    let known = is_link-known header.link has.known in
    let by : header_by number (record { big = header.big; nano = header.nano }) bytes ≡ Ok header =
    rw (l8, has.major, has.minor, l24, has.link, known, has.snaplen) refl in
    cond-false _ _ _ l4 ∙ ap (λ (f : Option Form). header_after f bytes) form ∙ by
