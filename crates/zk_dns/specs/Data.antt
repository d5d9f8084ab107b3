-- What the data of a record says, by its type, in class 1, the Internet (RFC 1035, sections 3.3 and 3.4; RFC 3596, section 2.2).
use Rattle.std.specs.Prelude.{◌≡◌, ◌≢◌, ◌⊎◌, ℕ, zero, suc, ◌+◌, Bool, false, ◌==◌, nat_lt, if◌then◌else◌, List, [], ◌∷◌, length, take, drop, flat_map, Option, Some, None, Result, Ok, Err}
use Rattle.std.specs.Option.{option_map}
use Rattle.std.specs.List.{list_any}
use Rattle.byteorder.specs.Endian.{big_number}
use Rattle.zk_dns.specs.declared.fault.DnsFault.{DnsFault}
use Rattle.zk_dns.specs.declared.fault.DnsFault.TheVariants as fault
use Rattle.zk_dns.specs.declared.record.AnswerKind.{AnswerKind}
use Rattle.zk_dns.specs.declared.record.AnswerKind.TheVariants as kind
use Rattle.zk_dns.specs.Name.{◌>>=◌, IsName, Name, name_at, name_text, within}

-- the n-byte number at a place, its highest byte first
abbrev pub number_at : ℕ → List ℕ → ℕ → ℕ
number_at n bytes place = big_number n (drop place bytes)

-- ---- what data is

-- strings one behind another, each behind its length byte (RFC 1035, section 3.3)
abbrev pub spelled : List (List ℕ) → List ℕ
spelled strings = flat_map (λ string. length string ∷ string) strings

-- the types whose data is read: A, NS, CNAME, SOA, PTR, MX, TXT, AAAA
abbrev pub is_read : ℕ → Bool
is_read type = list_any (λ known. type == known) (1 ∷ 2 ∷ 5 ∷ 6 ∷ 12 ∷ 15 ∷ 16 ∷ 28 ∷ [])

-- two names and 20 bytes (RFC 1035, section 3.3.13)
pub record IsSoa (bytes : List ℕ) (at len : ℕ) (mname rname : List ℕ) (serial refresh retry expire minimum : ℕ) : Type 0 where
  pub between : ℕ
  pub numbers : ℕ
  pub first : List (List ℕ)
  pub second : List (List ℕ)
  pub first_stands : IsName bytes (at + len) at first between
  pub second_stands : IsName bytes (at + len) between second numbers
  pub rest : numbers + 20 ≡ at + len
  pub mname_is : mname ≡ name_text first
  pub rname_is : rname ≡ name_text second
  pub serial_is : serial ≡ number_at 4 bytes numbers
  pub refresh_is : refresh ≡ number_at 4 bytes (numbers + 4)
  pub retry_is : retry ≡ number_at 4 bytes (numbers + 8)
  pub expire_is : expire ≡ number_at 4 bytes (numbers + 12)
  pub minimum_is : minimum ≡ number_at 4 bytes (numbers + 16)

-- a name is all of the data from a place on
abbrev pub IsAlone : List ℕ → ℕ → ℕ → List ℕ → Type 0
IsAlone bytes place end text =
    (labels : List (List ℕ)) × IsName bytes end place labels end × (text ≡ name_text labels)

-- the `len` bytes of data from `at` on say this in class 1, by their type
abbrev pub Says : List ℕ → ℕ → ℕ → ℕ → AnswerKind → Type 0
Says bytes type at len (kind.A address) = (type ≡ 1) × (len ≡ 4) × (address ≡ number_at 4 bytes at)
Says bytes type at len (kind.Aaaa address) = (type ≡ 28) × (len ≡ 16) × (address ≡ number_at 16 bytes at)
Says bytes type at len (kind.Name text) = ((type ≡ 2) ⊎ (type ≡ 5) ⊎ (type ≡ 12)) × IsAlone bytes at (at + len) text
Says bytes type at len (kind.Mx preference text) =
    (type ≡ 15) × (preference ≡ number_at 2 bytes at) × IsAlone bytes (at + 2) (at + len) text
Says bytes type at len (kind.Txt strings) =
    (type ≡ 16) × (strings ≢ []) × (spelled strings ≡ take len (drop at bytes))
Says bytes type at len (kind.Soa mname rname serial refresh retry expire minimum) =
    (type ≡ 6) × IsSoa bytes at len mname rname serial refresh retry expire minimum
Says bytes type at len kind.Other = is_read type ≡ false

-- data of other classes is passed over
abbrev pub IsData : List ℕ → ℕ → ℕ → ℕ → ℕ → AnswerKind → Type 0
IsData bytes type class at len what =
    ((class ≡ 1) × Says bytes type at len what) ⊎ ((class ≢ 1) × (what ≡ kind.Other))

-- ---- what data says, or its first fault

-- the strings that bytes are, n of them at most
unfoldable pub strings_of : ℕ → List ℕ → Option (List (List ℕ))
strings_of n [] = Some []
strings_of zero (len ∷ bytes) = None
strings_of (suc n) (len ∷ bytes) =
    if nat_lt (length bytes) len then None
    else option_map (λ strings. take len bytes ∷ strings) (strings_of n (drop len bytes))

-- a name that is all of the data from a place on
unfoldable pub alone_at : List ℕ → ℕ → ℕ → ℕ → (List ℕ → AnswerKind) → Result AnswerKind DnsFault
alone_at bytes at place end told =
    name_at bytes (within at end) place
    >>= λ name. if name.next == end then Ok (told (name_text name.labels)) else Err (fault.Data at)

-- the 20 bytes behind two names
abbrev pub soa_behind : List ℕ → ℕ → ℕ → Name → Name → Result AnswerKind DnsFault
soa_behind bytes at end first second =
    if second.next + 20 == end
    then Ok (kind.Soa (name_text first.labels) (name_text second.labels)
    (number_at 4 bytes second.next) (number_at 4 bytes (second.next + 4)) (number_at 4 bytes (second.next + 8))
    (number_at 4 bytes (second.next + 12)) (number_at 4 bytes (second.next + 16)))
    else Err (fault.Data at)

unfoldable pub soa_at : List ℕ → ℕ → ℕ → Result AnswerKind DnsFault
soa_at bytes at end =
    name_at bytes (within at end) at
    >>= λ first. name_at bytes (within at end) first.next
    >>= soa_behind bytes at end first

-- one string or more
abbrev pub txt_of : Option (List (List ℕ)) → ℕ → Result AnswerKind DnsFault
txt_of None at = Err (fault.Data at)
txt_of (Some []) at = Err (fault.Data at)
txt_of (Some (string ∷ strings)) at = Ok (kind.Txt (string ∷ strings))

unfoldable pub data_of : List ℕ → ℕ → ℕ → ℕ → Result AnswerKind DnsFault
data_of bytes type at len =
    if type == 1 then (if len == 4 then Ok (kind.A (number_at 4 bytes at)) else Err (fault.Data at))
    else if type == 28 then (if len == 16 then Ok (kind.Aaaa (number_at 16 bytes at)) else Err (fault.Data at))
    else if type == 2 then alone_at bytes at at (at + len) kind.Name
    else if type == 5 then alone_at bytes at at (at + len) kind.Name
    else if type == 12 then alone_at bytes at at (at + len) kind.Name
    else if type == 15 then alone_at bytes at (at + 2) (at + len) (kind.Mx (number_at 2 bytes at))
    else if type == 16 then txt_of (strings_of len (take len (drop at bytes))) at
    else if type == 6 then soa_at bytes at (at + len)
    else Ok kind.Other

unfoldable pub data_at : List ℕ → ℕ → ℕ → ℕ → ℕ → Result AnswerKind DnsFault
data_at bytes type class at len = if class == 1 then data_of bytes type at len else Ok kind.Other
