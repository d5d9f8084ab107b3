-- The members of containers.
use Rattle.std.specs.Prelude.{ℕ, ◌==◌, Bool, true, false, ◌&&◌, List, [], ◌∷◌, length, map, Option, Some, None}
use Rattle.std.specs.Borrow.{Bor}
use Rattle.std.specs.List.{list_all}
use Rattle.std.specs.declared.alloc.Global.{Global}
use Rattle.std.specs.declared.vec.Vec.{Vec}
use Rattle.zk_tree.specs.declared.expr.Expr.{Expr}
use Rattle.zk_tree.specs.declared.expr.Item.{Item}
use Rattle.zk_tree.specs.declared.operator.Container.{Container}
use Rattle.zk_tree.specs.declared.operator.Container.TheVariants as container
use Rattle.zk_typed.specs.declared.script.types.SimpleType.{SimpleType}
use Rattle.zk_typed.specs.declared.rule.Rule.TheVariants as rule
use Rattle.zk_typed.specs.Checked.{Checked, broken_anyway, each}
use Rattle.zk_typed.specs.Making.{Members, members_in, entry, each_key, member_keys, one_value, loose}
use Rattle.zk_typed.specs.Operations.{same_type}
use Rattle.zk_typed.specs.Types.{ValueType, Simple, Record, Table, Set, Vector}
use Rattle.zk_typed.specs.Typing.{Typed, Env, Check, Nothing, at, expr_place, left_of_in}
use Rattle.zk_typed.specs.View.{type_of}
use Rattle.zk_check_operators.specs.declared.operands.Typed.{Typed as RustTyped}
use Rattle.zk_check_operators.specs.Views.{all_typed, wanted_in}
use Rattle.zk_check_expressions.specs.declared.members.Member.{Member}
use Rattle.zk_check_expressions.specs.declared.members.Member.TheVariants as member
use Rattle.zk_check_expressions.specs.declared.members.Members.{Members as LentMembers}
use Rattle.zk_check_expressions.specs.declared.members.Members.TheVariants as members

-- what stands in brackets, with its place
abbrev pub brackets_in : ℕ × Bor (List Item) → ℕ × List Item
brackets_in found = (found.0, found.1.now)

abbrev pub all_members : Vec (Vec RustTyped Global) Global → List (List Typed)
all_members all = map all_typed all.items

-- the type of a key that is alone
abbrev pub lone_key : List SimpleType → Option SimpleType
lone_key (key ∷ []) = Some key
lone_key keys = None

-- the keys of a member of a set that are several, in brackets
abbrev pub several_keys : Check → Env → List SimpleType → Expr → Option (ℕ × List Item) → Checked (List Typed)
several_keys check env keys one None = broken_anyway (check Nothing one) rule.WrongType (expr_place env one)
several_keys check env keys one (Some items) = each_key check env (at env items.0) keys items.1

-- how a member is checked
abbrev pub member_of : Check → Env → Member → Expr → Checked (List Typed)
member_of check env (member.Entry keys value) = entry check env keys.now (type_of value.now)
member_of check env (member.Keys keys) = member_keys check env keys.now
member_of check env (member.Value wanted) = one_value check (wanted_in wanted)
member_of check env member.Free = left_of_in check env
member_of check env (member.Loose wanted) = loose check env (wanted_in wanted)

abbrev pub members_of : Check → Env → LentMembers → Members
members_of check env (members.Items items) = members_in check env items.now
members_of check env (members.Values values) = λ judge. each judge values.now

-- whether values have the types of keys, as far as there are both
abbrev pub keys_same : List SimpleType → List Typed → Bool
keys_same [] ones = true
keys_same (key ∷ keys) [] = true
keys_same (key ∷ keys) (one ∷ ones) = same_type one.type (Simple key) && keys_same keys ones

-- whether a member has so many keys, of these types
abbrev pub is_same : ℕ → List SimpleType → List Typed → Bool
is_same count keys one = length one == count && keys_same keys one

abbrev pub all_same : ℕ → List SimpleType → List (List Typed) → Bool
all_same count keys members = list_all (is_same count keys) members

-- the container of a type
abbrev pub container_in : ValueType → Option Container
container_in (Table keys value) = Some container.Table
container_in (Set keys) = Some container.Set
container_in (Vector item) = Some container.Vector
container_in (Simple simple) = None
container_in (Record number) = None
