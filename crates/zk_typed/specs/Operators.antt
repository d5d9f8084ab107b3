-- What the operators do with values (Zeek manual, Operators). A count has 64 bits, and an int, a time and an interval have
-- 64 bits with a sign. Quotients are cut toward zero, and a remainder has the sign of the dividend. A result that its type
-- doesn't hold is a fault.
use Rattle.std.specs.Prelude.{ℕ, ◌+◌, ◌-◌, ◌*◌, ◌/◌, ◌%◌, ◌^◌, ◌==◌, nat_lt, nat_le, ℤ, pos, ◌+ℤ◌, ◌-ℤ◌, ◌*ℤ◌, neg_ℤ, int_lt, int_le, int_div, int_rem, Bool, true, false, not, ◌&&◌, ◌||◌, List, [], ◌∷◌, ◌++◌, length, if◌then◌else◌}
use Rattle.std.specs.Ordering.{int_eq}
use Rattle.zk_base.specs.declared.network.Addr as network
use Rattle.zk_base.specs.declared.network.Addr.TheVariants.{V4, V6}
use Rattle.zk_base.specs.declared.network.Proto.{Proto}
use Rattle.zk_base.specs.declared.network.Proto.TheVariants.{Tcp, Udp}
use Rattle.zk_tree.specs.declared.place.Place.{Place}
use Rattle.zk_tree.specs.Value as value
use Rattle.zk_tree.specs.Value.{Value, same}
use Rattle.zk_typed.specs.declared.ends.FaultKind.{FaultKind}
use Rattle.zk_typed.specs.declared.ends.FaultKind.TheVariants.{ZeroDivisor, Overflow, TooLong}
use Rattle.zk_typed.specs.declared.script.primitive.Binary.{Binary}
use Rattle.zk_typed.specs.declared.script.primitive.Binary.TheVariants.{Plus, Minus, Times, Over, Modulo}
use Rattle.zk_typed.specs.declared.script.primitive.Direction.{Direction}
use Rattle.zk_typed.specs.declared.script.primitive.Direction.TheVariants.{Up, Down}
use Rattle.zk_typed.specs.declared.script.primitive.Relation.{Relation}
use Rattle.zk_typed.specs.declared.script.primitive.Relation.TheVariants as relation
use Rattle.zk_typed.specs.declared.script.primitive.Unary.{Unary}
use Rattle.zk_typed.specs.declared.script.primitive.Unary.TheVariants.{Not, Negate, ToInt}
use Rattle.zk_typed.specs.Does.{Does, pure, fault, misfit}

-- What a type holds ------------------------------------------------------------------------------------------------

abbrev pub strings_max : ℕ
strings_max = 1_048_576

abbrev pub is_int : ℤ → Bool
is_int n = int_le (neg_ℤ (pos (2 ^ 63))) n && int_lt n (pos (2 ^ 63))

abbrev pub give_if : Bool → FaultKind → Place → Value → Does Value
give_if holds kind place value = if holds then pure value else fault kind place

abbrev pub count : Place → ℕ → Does Value
count place n = give_if (nat_lt n (2 ^ 64)) Overflow place (value.Count n)

abbrev pub int : Place → ℤ → Does Value
int place n = give_if (is_int n) Overflow place (value.Int n)

abbrev pub interval : Place → ℤ → Does Value
interval place n = give_if (is_int n) Overflow place (value.Interval (record { 0 = n }))

abbrev pub time : Place → ℤ → Does Value
time place n = give_if (is_int n) Overflow place (value.Time (record { 0 = n }))

abbrev pub string : Place → List ℕ → Does Value
string place bytes = give_if (nat_le (length bytes) strings_max) TooLong place (value.String bytes)

-- Operators --------------------------------------------------------------------------------------------------------

abbrev pub unary : Place → Unary → Value → Does Value
unary place Not (value.Bool truth) = pure (value.Bool (not truth))
unary place Negate (value.Count n) = int place (neg_ℤ (pos n))
unary place Negate (value.Int n) = int place (neg_ℤ n)
unary place Negate (value.Interval span) = interval place (neg_ℤ span.0)
unary place ToInt (value.Count n) = int place (pos n)
unary place operator value = misfit place

abbrev pub plus : Place → Value → Value → Does Value
plus place (value.Count a) (value.Count b) = count place (a + b)
plus place (value.Int a) (value.Int b) = int place (a +ℤ b)
plus place (value.String a) (value.String b) = string place (a ++ b)
plus place (value.Interval a) (value.Interval b) = interval place (a.0 +ℤ b.0)
plus place (value.Time a) (value.Interval b) = time place (a.0 +ℤ b.0)
plus place a b = misfit place

abbrev pub minus : Place → Value → Value → Does Value
minus place (value.Count a) (value.Count b) = give_if (nat_le b a) Overflow place (value.Count (a - b))
minus place (value.Int a) (value.Int b) = int place (a -ℤ b)
minus place (value.Interval a) (value.Interval b) = interval place (a.0 -ℤ b.0)
minus place (value.Time a) (value.Interval b) = time place (a.0 -ℤ b.0)
minus place (value.Time a) (value.Time b) = interval place (a.0 -ℤ b.0)
minus place a b = misfit place

abbrev pub times : Place → Value → Value → Does Value
times place (value.Count a) (value.Count b) = count place (a * b)
times place (value.Int a) (value.Int b) = int place (a *ℤ b)
times place (value.Interval a) (value.Count b) = interval place (a.0 *ℤ pos b)
times place (value.Interval a) (value.Int b) = interval place (a.0 *ℤ b)
times place a b = misfit place

-- a quotient or remainder by a number, which is a fault where it is 0
abbrev pub divided : Place → Bool → Does Value → Does Value
divided place by_zero quotient = if by_zero then fault ZeroDivisor place else quotient

abbrev pub over : Place → Value → Value → Does Value
over place (value.Count a) (value.Count b) = divided place (b == 0) (pure (value.Count (a / b)))
over place (value.Int a) (value.Int b) = divided place (int_eq b (pos 0)) (int place (int_div a b))
over place (value.Interval a) (value.Count b) = divided place (b == 0) (interval place (int_div a.0 (pos b)))
over place (value.Interval a) (value.Int b) = divided place (int_eq b (pos 0)) (interval place (int_div a.0 b))
over place a b = misfit place

abbrev pub modulo : Place → Value → Value → Does Value
modulo place (value.Count a) (value.Count b) = divided place (b == 0) (pure (value.Count (a % b)))
modulo place (value.Int a) (value.Int b) = divided place (int_eq b (pos 0)) (int place (int_rem a b))
modulo place a b = misfit place

abbrev pub binary : Place → Binary → Value → Value → Does Value
binary place Plus a b = plus place a b
binary place Minus a b = minus place a b
binary place Times a b = times place a b
binary place Over a b = over place a b
binary place Modulo a b = modulo place a b

-- a count or an int that is one more or one less
abbrev pub stepped : Place → Direction → Value → Does Value
stepped place Up (value.Count n) = count place (n + 1)
stepped place Up (value.Int n) = int place (n +ℤ pos 1)
stepped place Down (value.Count n) = minus place (value.Count n) (value.Count 1)
stepped place Down (value.Int n) = int place (n -ℤ pos 1)
stepped place by value = misfit place

-- Order ------------------------------------------------------------------------------------------------------------

-- the first byte that differs decides, or the end of one of them
abbrev pub bytes_below : List ℕ → List ℕ → Bool
bytes_below [] [] = false
bytes_below [] (b ∷ bs) = true
bytes_below (a ∷ xs) [] = false
bytes_below (a ∷ xs) (b ∷ ys) = nat_lt a b || (a == b && bytes_below xs ys)

-- every IPv4 address before every IPv6 address
abbrev pub address_below : network.Addr → network.Addr → Bool
address_below (V4 a) (V4 b) = nat_lt a b
address_below (V6 a) (V6 b) = nat_lt a b
address_below (V4 a) (V6 b) = true
address_below (V6 a) (V4 b) = false

-- every TCP port before every UDP port
abbrev pub port_below : ℕ → Proto → ℕ → Proto → Bool
port_below a Tcp b Tcp = nat_lt a b
port_below a Udp b Udp = nat_lt a b
port_below a Tcp b Udp = true
port_below a Udp b Tcp = false

-- a value stands before another of its type
abbrev pub below : Value → Value → Bool
below (value.Count a) (value.Count b) = nat_lt a b
below (value.Int a) (value.Int b) = int_lt a b
below (value.String a) (value.String b) = bytes_below a b
below (value.Time a) (value.Time b) = int_lt a.0 b.0
below (value.Interval a) (value.Interval b) = int_lt a.0 b.0
below (value.Addr a) (value.Addr b) = address_below a b
below (value.Port a p) (value.Port b q) = port_below a p b q
below a b = false

abbrev pub holds : Relation → Value → Value → Bool
holds relation.Equal a b = same a b
holds relation.NotEqual a b = not (same a b)
holds relation.Less a b = below a b
holds relation.LessEqual a b = not (below b a)
holds relation.Greater a b = below b a
holds relation.GreaterEqual a b = not (below a b)
