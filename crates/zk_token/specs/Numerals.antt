-- Numbers, ports, addresses and subnets at the front of a text (Zeek manual, Types).
use Rattle.std.specs.Prelude.{ℕ, ◌+◌, ◌*◌, ◌-◌, ◌%◌, ◌^◌, Bool, true, false, ◌&&◌, ◌==◌, nat_lt, nat_le, if◌then◌else◌, List, [], ◌∷◌, length, take, drop, take_while, Option, Some, None, option_map}
use Rattle.std.specs.Option.{option_map_or, option_and_then, option_or}
use Rattle.std.specs.Char.{is_ascii_digit, digit_value}
use Rattle.std.specs.List.{prefix_len}
use Rattle.std.specs.Str.Parse.{digits_value}
use Rattle.zk_base.specs.declared.network.Proto.{Proto}
use Rattle.zk_base.specs.declared.network.Proto.TheVariants.{Tcp, Udp}
use Rattle.zk_tree.specs.declared.token.TokenKind.{TokenKind}
use Rattle.zk_tree.specs.declared.token.TokenKind.TheVariants as token

-- Reading on behind what was read: where nothing was, nothing is.
infixl 10 ◌>>=◌
abbrev pub ◌>>=◌ : {A B : Type 0} → Option A → (A → Option B) → Option B
found >>= read = option_and_then read found

abbrev pub begins_digit : List ℕ → Bool
begins_digit [] = false
begins_digit (byte ∷ rest) = is_ascii_digit byte

-- a number with one more digit behind its own, if it is at most a bound
abbrev pub with_digit : ℕ → ℕ → ℕ → Option ℕ
with_digit most value byte =
    if is_ascii_digit byte && nat_le (value * 10 + digit_value byte) most then Some (value * 10 + digit_value byte) else None

-- how many digits at the front of a text, behind those of a value, make a number of at most a bound
abbrev pub digits_within : ℕ → ℕ → List ℕ → ℕ
digits_within most value [] = 0
digits_within most value (byte ∷ rest) = option_map_or (λ more. 1 + digits_within most more rest) (with_digit most value byte) 0

-- a number of at most a bound, of as many digits as fit, and what stands behind them
abbrev pub number_within : ℕ → List ℕ → Option (ℕ × List ℕ)
number_within most text =
    let count = digits_within most 0 text in
    if count == 0 then None else Some (digits_value 10 (take count text), drop count text)

-- what stands behind a byte
abbrev pub behind : ℕ → List ℕ → Option (List ℕ)
behind byte [] = None
behind byte (first ∷ rest) = if first == byte then Some rest else None

-- a part of an address but the last, and what stands behind its point (46)
abbrev pub before_point : List ℕ → Option (ℕ × List ℕ)
before_point text = do
  part ← number_within 255 text
  rest ← behind 46 part.1
  Some (part.0, rest)

-- the number that the four parts of an address make
abbrev pub address_of : ℕ → ℕ → ℕ → ℕ → ℕ
address_of first second third fourth = ((first * 256 + second) * 256 + third) * 256 + fourth

abbrev pub address_at : List ℕ → Option (ℕ × List ℕ)
address_at text = do
  first ← before_point text
  second ← before_point first.1
  third ← before_point second.1
  fourth ← number_within 255 third.1
  Some (address_of first.0 second.0 third.0 fourth.0, fourth.1)

-- the width of a subnet behind a slash (47)
abbrev pub width_at : List ℕ → Option (ℕ × List ℕ)
width_at text = do
  rest ← behind 47 text
  number_within 32 rest

-- an address with the bits behind a width cleared
abbrev pub prefix_of : ℕ → ℕ → ℕ
prefix_of address width = address - address % 2 ^ (32 - width)

abbrev pub subnet_of : ℕ → ℕ → TokenKind
subnet_of address width = token.Subnet (prefix_of address width) width

-- the address that was read, or a subnet where a width stands behind it
abbrev pub located : ℕ → List ℕ → TokenKind × List ℕ
located address rest = option_map_or (λ width. (subnet_of address width.0, width.1)) (width_at rest) (token.Address address, rest)

abbrev pub located_at : List ℕ → Option (TokenKind × List ℕ)
located_at text = option_map (λ address. located address.0 address.1) (address_at text)

-- `tcp` (116, 99, 112) or `udp` (117, 100, 112)
abbrev pub proto_at : List ℕ → Option (Proto × List ℕ)
proto_at [] = None
proto_at (first ∷ []) = None
proto_at (first ∷ second ∷ []) = None
proto_at (first ∷ second ∷ third ∷ rest) =
    if first == 116 && second == 99 && third == 112 then Some (Tcp, rest)
    else if first == 117 && second == 100 && third == 112 then Some (Udp, rest)
    else None

-- a number, a slash (47) and a protocol
abbrev pub port_at : List ℕ → Option (TokenKind × List ℕ)
port_at text = do
  port ← number_within 65535 text
  rest ← behind 47 port.1
  proto ← proto_at rest
  Some (token.Port port.0 proto.0, proto.1)

-- digits of any value
abbrev pub digits_at : List ℕ → Option (TokenKind × List ℕ)
digits_at text = Some (token.Number (digits_value 10 (take_while is_ascii_digit text)), drop (prefix_len is_ascii_digit text) text)

-- the longest form at the front of a text that begins with a digit
abbrev pub numeral_form : List ℕ → Option (TokenKind × List ℕ)
numeral_form text = option_or (located_at text) (option_or (port_at text) (digits_at text))

-- a number is below 2^64
abbrev pub is_in_range : TokenKind → Bool
is_in_range (token.Number value) = nat_lt value (2 ^ 64)
is_in_range kind = true

-- what was read, unless it is out of range
abbrev pub ranged : Option (TokenKind × List ℕ) → Option (TokenKind × List ℕ)
ranged None = None
ranged (Some found) = if is_in_range found.0 then Some found else None

-- and how many bytes it has, where so many are left behind it
abbrev pub measured : List ℕ → Option (TokenKind × List ℕ) → Option (TokenKind × ℕ)
measured text found = option_map (λ found. (found.0, length text - length found.1)) found

-- the token at the front of a text that begins with a digit, and its length
abbrev pub numeral_at : List ℕ → Option (TokenKind × ℕ)
numeral_at text = measured text (ranged (numeral_form text))
