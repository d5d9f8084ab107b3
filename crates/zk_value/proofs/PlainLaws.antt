-- Plain values tell values apart, and plain keys tell keys apart.
use Rattle.std.proofs.Common.{◌≡◌, List, [], ◌∷◌, map, refl, sym, ap, ◌∙◌}
use Rattle.zk_tree.specs.Value as plain
use Rattle.zk_value.specs.Plain.{value_of, key_of}
use Rattle.zk_value.specs.declared.value.Value.{Value}
use Rattle.zk_value.specs.declared.value.Value.TheVariants.{Bool, Count, Int, String, Time, Interval, Addr, Port, Subnet, Enum, Object}

-- the value of a plain one
value_from : plain.Value → Value
value_from (plain.Bool truth) = Bool truth
value_from (plain.Count count) = Count count
value_from (plain.Int int) = Int int
value_from (plain.String bytes) = String bytes
value_from (plain.Time moment) = Time moment
value_from (plain.Interval span) = Interval span
value_from (plain.Addr address) = Addr address
value_from (plain.Port port proto) = Port port proto
value_from (plain.Subnet prefix width) = Subnet prefix width
value_from (plain.Enum word) = Enum word
value_from (plain.Object number) = Object number

value_from-value_of : (value : Value) → value_from (value_of value) ≡ value
unfolding value_from
value_from-value_of (Bool truth) = refl
value_from-value_of (Count count) = refl
value_from-value_of (Int int) = refl
value_from-value_of (String bytes) = refl
value_from-value_of (Time moment) = refl
value_from-value_of (Interval span) = refl
value_from-value_of (Addr address) = refl
value_from-value_of (Port port proto) = refl
value_from-value_of (Subnet prefix width) = refl
value_from-value_of (Enum word) = refl
value_from-value_of (Object number) = refl

key_from-key_of : (key : List Value) → map value_from (key_of key) ≡ key
key_from-key_of [] = refl
key_from-key_of (value ∷ others) = ap (λ v. v ∷ map value_from (key_of others)) (value_from-value_of value) ∙ ap (λ vs. value ∷ vs) (key_from-key_of others)

pub key_of-apart : (a b : List Value) → key_of a ≡ key_of b → a ≡ b
key_of-apart a b e = sym (key_from-key_of a) ∙ ap (map value_from) e ∙ key_from-key_of b
