-- What primitives and actions do with the values of their operands. A call of a built-in function costs a unit, and so does
-- one of the log framework.
use Rattle.std.specs.Prelude.{ℕ, ◌-◌, ◌/◌, ◌^◌, ◌==◌, nat_lt, Bool, false, List, [], ◌∷◌, ◌++◌, length, reverse, map, Some, None, if◌then◌else◌, eqb}
use Rattle.std.specs.List.{starts_with}
use Rattle.std.specs.Char.{to_ascii_lowercase, to_ascii_uppercase}
use Rattle.zk_base.specs.declared.network.Addr.TheVariants.{V4}
use Rattle.zk_base.specs.declared.numbers.EventNo.{EventNo}
use Rattle.zk_base.specs.declared.time.Span.{Span}
use Rattle.zk_tree.specs.declared.place.Place.{Place}
use Rattle.zk_tree.specs.Lists.{joined_by}
use Rattle.zk_tree.specs.Store.{Object}
use Rattle.zk_tree.specs.Store as object
use Rattle.zk_tree.specs.Table.{moment_after}
use Rattle.zk_tree.specs.Value as plain
use Rattle.zk_tree.specs.Value.{Value}
use Rattle.zk_typed.specs.declared.script.action.Action.{Action}
use Rattle.zk_typed.specs.declared.script.action.Action.TheVariants as action
use Rattle.zk_typed.specs.declared.script.action.Left.{Left}
use Rattle.zk_typed.specs.declared.script.action.Left.TheVariants as left
use Rattle.zk_typed.specs.declared.script.primitive.Binary.{Binary}
use Rattle.zk_typed.specs.declared.script.primitive.Binary.TheVariants.{Plus, Minus}
use Rattle.zk_typed.specs.declared.script.primitive.BuiltIn.{BuiltIn}
use Rattle.zk_typed.specs.declared.script.primitive.BuiltIn.TheVariants as built_in
use Rattle.zk_typed.specs.declared.script.primitive.Primitive.{Primitive}
use Rattle.zk_typed.specs.declared.script.primitive.Primitive.TheVariants as primitive
use Rattle.zk_typed.specs.BuiltIns.{joined, formatted, sub_bytes, strstr, to_count, address_counts}
use Rattle.zk_typed.specs.Does.{Does, ◌>>=◌, ◌>>◌, pure, misfit, tick, change, local, set_local, global, set_global, object, set_object, new_object}
use Rattle.zk_typed.specs.Logs.{log_call}
use Rattle.zk_typed.specs.Objects.{now, element, has_key, set_element, change_table, add_member, delete_key, add_all, remove_all, new_set, new_table, vector, item, set_item, field, has_field, set_field, size, copy}
use Rattle.zk_typed.specs.Operators.{string, unary, binary, stepped, holds}
use Rattle.zk_typed.specs.State.{World, with_line, queued_behind, scheduled_for}
use Rattle.zk_typed.specs.Text.{text_of, line_of}
use Rattle.zk_typed.specs.World.{queued}

-- Left sides -------------------------------------------------------------------------------------------------------

-- the value of a left side with these operands
abbrev pub left_value : Place → Left → List Value → Does Value
left_value place (left.Local number) [] = local place number
left_value place (left.Global number) [] = global place number
left_value place (left.Field one) (value ∷ []) = field place value one.field
left_value place left.Element (table ∷ key) = element place table key
left_value place left.Item (vector ∷ index ∷ []) = item place vector index
left_value place side operands = misfit place

abbrev pub assign : Place → Left → List Value → Value → Does (Unit {0})
assign place (left.Local number) [] value = set_local number (Some value)
assign place (left.Global number) [] value = set_global number (Some value)
assign place (left.Field one) (of ∷ []) value = set_field place of one.field value
assign place left.Element (table ∷ key) value = set_element place table key value
assign place left.Item (vector ∷ index ∷ []) value = set_item place vector index value
assign place side operands value = misfit place

-- `+=` and `-=` of a vector and an item, or of two sets, change it in place
abbrev pub into_object : Place → Binary → Value → Value → Object → Does Value
into_object place Plus value added (object.Vector items) = set_object value (object.Vector (items ++ added ∷ [])) >> pure value
into_object place Plus value added (object.Table members) = object place added >>= all_into
  where
    all_into : Object → Does Value
    all_into (object.Table others) = add_all place value others >> pure value
    all_into other = misfit place
into_object place Minus value taken (object.Table members) = object place taken >>= none_of
  where
    none_of : Object → Does Value
    none_of (object.Table others) = remove_all place value others >> pure value
    none_of other = misfit place
into_object place by value other one = misfit place

-- a value with another one added or taken away
abbrev pub updated : Place → Binary → Value → Value → Does Value
updated place by (plain.Object number) other = object place (plain.Object number) >>= into_object place by (plain.Object number) other
updated place by value other = binary place by value other

-- Built-in functions -----------------------------------------------------------------------------------------------

abbrev pub join_strings : Place → Value → List ℕ → Does Value
join_strings place strings separator = vector place strings >>= (λ items. string place (joined_by separator (map text_of items)))

abbrev pub called : Place → BuiltIn → List Value → Does Value
called place built_in.Fmt (plain.String text ∷ values) = string place (formatted text values)
called place built_in.Cat values = string place (joined values)
called place built_in.ToLower (plain.String text ∷ []) = pure (plain.String (map to_ascii_lowercase text))
called place built_in.ToUpper (plain.String text ∷ []) = pure (plain.String (map to_ascii_uppercase text))
called place built_in.SubBytes (plain.String text ∷ plain.Count start ∷ plain.Int n ∷ []) = pure (plain.String (sub_bytes text start n))
called place built_in.Strstr (plain.String big ∷ plain.String little ∷ []) = pure (plain.Count (strstr big little))
called place built_in.ToCount (plain.String text ∷ []) = pure (plain.Count (to_count text))
called place built_in.StartsWith (plain.String text ∷ plain.String start ∷ []) = pure (plain.Bool (starts_with eqb text start))
called place built_in.JoinStringVec (strings ∷ plain.String separator ∷ []) = join_strings place strings separator
called place built_in.AddrToCounts (plain.Addr address ∷ []) = new_object (object.Vector (map plain.Count (address_counts address)))
called place built_in.NetworkTime [] = now >>= (λ moment. pure (plain.Time moment))
called place built_in.Copy (value ∷ []) = copy place value
called place one values = misfit place

-- Membership -------------------------------------------------------------------------------------------------------

-- the empty string stands in every string
abbrev pub is_within : List ℕ → List ℕ → Bool
is_within little big = nat_lt 0 (strstr big little)

-- an address has the first bits of a network
abbrev pub in_subnet : Value → Value → Bool
in_subnet (plain.Addr (V4 n)) (plain.Subnet prefix width) = n / 2 ^ (32 - width) == prefix / 2 ^ (32 - width)
in_subnet address network = false

-- the operands but the last one, which comes first here
abbrev pub last_first : (Value → List Value → Does Value) → Place → List Value → Does Value
last_first does place [] = misfit place
last_first does place (last ∷ others) = does last (reverse others)

abbrev pub has_index : Place → ℕ → Value → Does Value
has_index place index value = vector place value >>= (λ items. pure (plain.Bool (nat_lt index (length items))))

-- Primitives -------------------------------------------------------------------------------------------------------

abbrev pub perform : Place → Primitive → List Value → Does Value
perform place (primitive.Unary operator) (value ∷ []) = unary place operator value
perform place (primitive.Binary operator) (a ∷ b ∷ []) = binary place operator a b
perform place (primitive.Compare relation) (a ∷ b ∷ []) = pure (plain.Bool (holds relation a b))
perform place primitive.HasKey values = last_first (has_key place) place (reverse values)
perform place primitive.HasText (plain.String little ∷ plain.String big ∷ []) = pure (plain.Bool (is_within little big))
perform place primitive.HasAddress (address ∷ network ∷ []) = pure (plain.Bool (in_subnet address network))
perform place primitive.HasIndex (plain.Count index ∷ value ∷ []) = has_index place index value
perform place primitive.Size (value ∷ []) = size place value
perform place (primitive.Field one) (value ∷ []) = field place value one.field
perform place (primitive.HasField one) (value ∷ []) = has_field place value one.field
perform place primitive.Element (table ∷ key) = element place table key
perform place primitive.Item (vector ∷ index ∷ []) = item place vector index
perform place (primitive.NewTable shape) values = new_table shape values
perform place (primitive.NewSet shape) values = new_set shape values
perform place primitive.NewVector values = new_object (object.Vector values)
perform place (primitive.Step side by) operands = do
  before ← left_value place side operands
  after ← stepped place by before
  assign place side operands after
  pure after
perform place (primitive.BuiltIn function) values = tick place >> called place function values
perform place (primitive.Log call) [] = tick place >> log_call call
perform place one values = misfit place

-- Actions ----------------------------------------------------------------------------------------------------------

-- an event waits for its moment, but for nothing once the end has begun
abbrev pub schedule : EventNo → Span → List Value → World → World
schedule event delay args world =
    if world.is_ending then world else scheduled_for (moment_after world.time delay) (queued event args) world

abbrev pub act : Place → Action → List Value → Does (Unit {0})
act place action.Print values = change (with_line (line_of values))
act place (action.Assign side) (value ∷ operands) = assign place side operands value
act place (action.Update side by) (value ∷ operands) = do
  before ← left_value place side operands
  after ← updated place by before value
  assign place side operands after
act place (action.Forget number) [] = set_local number None
act place action.Add (members ∷ key) = change_table place members (λ moment table. add_member moment table key)
act place action.Delete (table ∷ key) = delete_key place table key
act place (action.Queue event) values = change (queued_behind (queued event values ∷ []))
act place (action.Schedule event) (plain.Interval delay ∷ values) = change (schedule event delay values)
act place one values = misfit place
