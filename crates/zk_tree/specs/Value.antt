-- The values that scripts compute with (Zeek manual, Types).
use Rattle.std.specs.Prelude as prelude
use Rattle.std.specs.Prelude.{ℕ, ℤ, true, false, not, ◌&&◌, ◌==◌, if◌then◌else◌, List, [], ◌∷◌}
use Rattle.std.specs.Ordering.{int_eq}
use Rattle.std.specs.Str.{bytes_eq}
use Rattle.zk_base.specs.declared.network.Addr as network
use Rattle.zk_base.specs.declared.network.Addr.TheVariants.{V4, V6}
use Rattle.zk_base.specs.declared.network.Proto.{Proto}
use Rattle.zk_base.specs.declared.network.Proto.TheVariants.{Tcp, Udp}
use Rattle.zk_base.specs.declared.numbers.ObjectNo.{ObjectNo}
use Rattle.zk_base.specs.declared.time.Moment.{Moment}
use Rattle.zk_base.specs.declared.time.Span.{Span}

pub data Value : Type 0 where
  Bool : (truth : prelude.Bool) → Value
  Count : (count : ℕ) → Value
  Int : (int : ℤ) → Value
  String : (bytes : List ℕ) → Value
  Time : (moment : Moment) → Value
  Interval : (span : Span) → Value
  Addr : (address : network.Addr) → Value
  Port : (port : ℕ) (proto : Proto) → Value
  -- an IPv4 prefix, as the number that its bytes make in network order, and its width in bits
  Subnet : (prefix : ℕ) (width : ℕ) → Value
  -- an enum word, by its name as `print` writes it
  Enum : (word : List ℕ) → Value
  -- a record, a vector, a set or a table
  Object : (number : ObjectNo) → Value

abbrev pub same_address : network.Addr → network.Addr → prelude.Bool
same_address (V4 a) (V4 b) = a == b
same_address (V6 a) (V6 b) = a == b
same_address (V4 a) (V6 b) = false
same_address (V6 a) (V4 b) = false

abbrev pub same_proto : Proto → Proto → prelude.Bool
same_proto Tcp Tcp = true
same_proto Udp Udp = true
same_proto Tcp Udp = false
same_proto Udp Tcp = false

-- the values are of one type, and equal
unfoldable pub same : Value → Value → prelude.Bool
same (Bool a) (Bool b) = if a then b else not b
same (Count a) (Count b) = a == b
same (Int a) (Int b) = int_eq a b
same (String a) (String b) = bytes_eq a b
same (Time a) (Time b) = int_eq a.0 b.0
same (Interval a) (Interval b) = int_eq a.0 b.0
same (Addr a) (Addr b) = same_address a b
same (Port a p) (Port b q) = a == b && same_proto p q
same (Subnet a v) (Subnet b w) = a == b && v == w
same (Enum a) (Enum b) = bytes_eq a b
same (Object a) (Object b) = a.0 == b.0
same a b = false

-- the keys have as many values, and each is the same
abbrev pub same_key : List Value → List Value → prelude.Bool
same_key [] [] = true
same_key [] (b ∷ bs) = false
same_key (a ∷ xs) [] = false
same_key (a ∷ xs) (b ∷ ys) = same a b && same_key xs ys
