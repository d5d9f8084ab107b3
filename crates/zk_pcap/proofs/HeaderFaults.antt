-- The faults of a header: bytes are missing where there are fewer than 24, and memory never is.
use Rattle.std.proofs.Common.{◌≡◌, ℕ, ◌<◌, ◌≤◌, Bool, true, false, cond, List, length, Option, Some, None, Ok, Err, arith, inl, inr, le-ltb}
use Rattle.std.specs.Prelude.{not, nat_lt}
use Rattle.std.proofs.lemmas.Bool.{cases_lt}
use Rattle.zk_pcap.specs.declared.faults.CaptureFault.TheVariants.{Short, Version, Link, NoMemory}
use Rattle.zk_pcap.specs.declared.headers.Form.{Form}
use Rattle.zk_pcap.specs.declared.headers.Header.{Header}
use Rattle.zk_pcap.specs.Header.{number_of, form_of, is_version_2_4, is_link, link_of, header_after, header_of}

-- what two tests judge
judged : (a b : Bool) (header : Header) (place : ℕ) → cond a (Err Version) (cond b (Err Link) (Ok header)) ≡ Err (Short place) → ⊥
judged true b header place is = cc
judged false true header place is = cc
judged false false header place is = cc

long_after : (form : Option Form) (bytes : List ℕ) (place : ℕ) → 24 ≤ length bytes → header_after form bytes ≡ Err (Short place) → ⊥
long_after None bytes place long is = cc
long_after (Some form) bytes place long is =
    let number = number_of form.big in
    let eight : nat_lt (length bytes) 8 ≡ false = le-ltb (length bytes) 8 (omega arith) in
    let whole : nat_lt (length bytes) 24 ≡ false = le-ltb (length bytes) 24 long in
    judged (not (is_version_2_4 number bytes)) (not (is_link (link_of number bytes))) _ place (rw (eight, whole) at is)

-- bytes are missing only where there are fewer than 24
pub short_header_length : (bytes : List ℕ) (place : ℕ) → header_of bytes ≡ Err (Short place) → length bytes < 24
short_header_length bytes place is =
    elim (cases_lt (length bytes) 24) [
      | inl few ↦ few
      | inr long ↦ absurd (let four : nat_lt (length bytes) 4 ≡ false = le-ltb (length bytes) 4 (omega arith) in long_after (form_of bytes) bytes place long (rw four at is))
    ]

refused_by : (a b c d : Bool) (n m : ℕ) (header : Header)
    → cond a (Err (Short n)) (cond b (Err Version) (cond c (Err (Short m)) (cond d (Err Link) (Ok header)))) ≡ Err NoMemory → ⊥
refused_by true b c d n m header is = cc
refused_by false true c d n m header is = cc
refused_by false false true d n m header is = cc
refused_by false false false true n m header is = cc
refused_by false false false false n m header is = cc

refused_after : (form : Option Form) (bytes : List ℕ) → header_after form bytes ≡ Err NoMemory → ⊥
refused_after None bytes is = cc
refused_after (Some form) bytes is =
    refused_by (nat_lt (length bytes) 8) (not (is_version_2_4 (number_of form.big) bytes)) (nat_lt (length bytes) 24) (not (is_link (link_of (number_of form.big) bytes)))
    (length bytes) (length bytes) _ is

refused : (few : Bool) (n : ℕ) (form : Option Form) (bytes : List ℕ) → cond few (Err (Short n)) (header_after form bytes) ≡ Err NoMemory → ⊥
refused true n form bytes is = cc
refused false n form bytes is = refused_after form bytes is

-- no header is refused for want of memory
pub header_takes_none : (bytes : List ℕ) → header_of bytes ≡ Err NoMemory → ⊥
header_takes_none bytes is = refused (nat_lt (length bytes) 4) (length bytes) (form_of bytes) bytes is
