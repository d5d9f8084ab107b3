-- The text of an address: of an IPv4 address the four numbers of its bytes with dots between them, of an IPv6 address that
-- of RFC 5952, section 4. The form with an IPv4 address at its end (section 5 there) is never written.
use Rattle.std.specs.Prelude.{◌≡◌, ℕ, ◌+◌, ◌<◌, ◌≤◌, ◌^◌, ◌⊎◌, List, ◌++◌, length, take, drop, replicate, codes, decimal}
use Rattle.std.specs.Int.{w32, w128, to_be_bytes}
use Rattle.std.specs.Net.Addr.{segments_of}
use Rattle.std.specs.Net.Text.{ipv4_text, groups_text, hex_groups_text}
use Rattle.zk_base.specs.declared.network.Addr.{Addr}
use Rattle.zk_base.specs.declared.network.Addr.TheVariants.{V4, V6}

-- the eight groups of an IPv6 address, each of two bytes in network order
abbrev pub groups_of : ℕ → List ℕ
groups_of n = segments_of (to_be_bytes w128 n)

-- each group in lower-case hex without leading zeros, and `::` for the longest run of zeros
unfoldable pub addr_text : Addr → List ℕ
addr_text (V4 n) = ipv4_text (to_be_bytes w32 n)
addr_text (V6 n) = hex_groups_text (groups_of n)

-- an address, a slash and how many of its first bits name the network (RFC 4632, section 3.1)
abbrev pub subnet_text : Addr → ℕ → List ℕ
subnet_text addr width = addr_text addr ++ codes "/" ++ decimal width

-- the number is one of its family
abbrev pub IsAddr : Addr → Type 0
IsAddr (V4 n) = n < 2 ^ 32
IsAddr (V6 n) = n < 2 ^ 128

-- so many zeros stand from this group on
abbrev pub IsZeroRun : List ℕ → ℕ → ℕ → Type 0
IsZeroRun groups start len = (start + len ≤ length groups) × (take len (drop start groups) ≡ replicate len 0)

-- Two zeros or more are left out, no run of zeros is longer, and none that is as long begins before it.
pub record LeavesZerosOut (groups text : List ℕ) : Type 0 where
  pub start : ℕ
  pub len : ℕ
  pub two : 2 ≤ len
  pub zeros : IsZeroRun groups start len
  pub longest : (other more : ℕ) → IsZeroRun groups other more → more ≤ len
  pub first : (other : ℕ) → IsZeroRun groups other len → start ≤ other
  pub written : text ≡ groups_text (take start groups) ++ codes "::" ++ groups_text (drop (start + len) groups)

-- no two zeros stand together, and all groups are written
pub record WritesAll (groups text : List ℕ) : Type 0 where
  pub none : (other : ℕ) → ¬ (IsZeroRun groups other 2)
  pub written : text ≡ groups_text groups

-- the text that RFC 5952 recommends for these groups (section 4.2)
abbrev pub IsRecommended : List ℕ → List ℕ → Type 0
IsRecommended groups text = LeavesZerosOut groups text ⊎ WritesAll groups text
