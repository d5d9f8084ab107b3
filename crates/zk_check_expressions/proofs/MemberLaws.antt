-- The members of containers.
use Rattle.std.proofs.Common.{◌≡◌, ℕ, suc, ◌+◌, ◌<◌, ◌≤◌, ◌&&◌, Bool, true, List, [], ◌∷◌, ◌++◌, length, take, drop, get_or, map, Ok, add-one, drop-cons, Option, Some, None, refl, ap, sym, ◌∙◌, append_assoc, append-nil}
use Rattle.std.proofs.lemmas.List.{take_all}
use Rattle.std.specs.declared.alloc.Global.{Global}
use Rattle.std.specs.declared.vec.Vec.{Vec}
use Rattle.zk_tree.specs.declared.expr.Expr.{Expr}
use Rattle.zk_tree.specs.declared.place.Place.{Place}
use Rattle.zk_tree.specs.declared.operator.Container.{Container}
use Rattle.zk_typed.specs.declared.rule.Rule.TheVariants as rule
use Rattle.zk_typed.specs.declared.script.primitive.Primitive.TheVariants as primitive
use Rattle.zk_typed.specs.declared.script.types.SimpleType.{SimpleType}
use Rattle.zk_typed.specs.declared.script.types.ValueType.TheVariants as rust
use Rattle.zk_typed.specs.Checked.{Checked, broken_anyway, both, each, require, ◌>>=◌, ◌>>◌}
use Rattle.zk_typed.specs.Making.{member_keys, one_value, bracketed, joined, simple_types, set_alone, plain_shape, loose, wanted_container, braces_typed}
use Rattle.zk_typed.specs.Operations.{same_type}
use Rattle.zk_typed.specs.Types.{ValueType, Simple, Record, Table, Set, Vector}
use Rattle.zk_typed.specs.Typing.{Typed, typed, Env, Check, Nothing, Wants, apply, simple_type}
use Rattle.zk_typed.specs.View.{type_of}
use Rattle.zk_check_operators.specs.declared.operands.Typed.{Typed as RustTyped}
use Rattle.zk_check_operators.specs.Views.{typed_of, typed_all, all_typed}
use Rattle.zk_check_expressions.proofs.Leftovers.{none_over}
use Rattle.zk_check_expressions.specs.Members.{all_same, container_in, keys_same, lone_key, several_keys}
use Rattle.zk_check_expressions.proofs.KeyLaws.{simple_is}

abbrev pub keys_by : Check → Env → List SimpleType → Expr → Option SimpleType → Checked (List Typed)
keys_by check env keys one (Some key) = one_value check (Wants (Simple key)) one
keys_by check env keys one None = several_keys check env keys one (bracketed one)

-- the keys of a member by whether there is one
pub member_is : (check : Check) (env : Env) (keys : List SimpleType) (one : Expr) → member_keys check env keys one ≡ keys_by check env keys one (lone_key keys)
member_is check env [] one = refl
member_is check env (key ∷ []) one = refl
member_is check env (key ∷ (other ∷ more)) one = refl

joins : (all more : List RustTyped) → typed_all (all ++ more) ≡ typed_all all ++ typed_all more
joins [] more = refl
joins (one ∷ all) more = ap (λ x. typed_of one ∷ x) (joins all more)

-- a member's parts behind those before it
pub joined_turn : (all next : List RustTyped) (one : Vec RustTyped Global) (items more : List (Vec RustTyped Global)) (whole : List Typed) → items ≡ one ∷ more → next ≡ all ++ one.items →
    typed_all all ++ joined (map all_typed items) ≡ whole → typed_all next ++ joined (map all_typed more) ≡ whole
joined_turn all next one items more whole here last before =
    ap (λ (x : List RustTyped). typed_all x ++ joined (map all_typed more)) last
    ∙ ap (λ (x : List Typed). x ++ joined (map all_typed more)) (joins all one.items)
    ∙ append_assoc (typed_all all) (typed_all one.items) (joined (map all_typed more))
    ∙ ap (λ (x : List (Vec RustTyped Global)). typed_all all ++ joined (map all_typed x)) (sym here)
    ∙ before

pub joined_end : (all : List RustTyped) (items : List (Vec RustTyped Global)) (len : ℕ) (whole : List Typed) → len ≡ length items → len ≡ 0 → typed_all all ++ joined (map all_typed items) ≡ whole → typed_all all ≡ whole
joined_end all items len whole same none before =
    sym (append-nil (typed_all all)) ∙ ap (λ (x : List (Vec RustTyped Global)). typed_all all ++ joined (map all_typed x)) (sym (none_over items len same none)) ∙ before

-- the types of values as the Rust type holds them
simple_all : (place : Place) (ones : List RustTyped) → simple_types place (typed_all ones) ≡ each (λ one. simple_type place (typed_of one)) ones
simple_all place [] = refl
simple_all place (one ∷ ones) = ap (λ (x : Checked (List SimpleType)). both (simple_type place (typed_of one)) x >>= (λ parts. Ok (parts.0 ∷ parts.1))) (simple_all place ones)

pub simple_end : (place : Place) (ones : List RustTyped) (i : ℕ) → length ones ≤ i → each (λ one. simple_type place (typed_of one)) (take i ones) ≡ simple_types place (typed_all ones)
simple_end place ones i past = ap (each (λ one. simple_type place (typed_of one))) (take_all i ones past) ∙ sym (simple_all place ones)

pub typed_length : (ones : List RustTyped) → length (typed_all ones) ≡ length ones
typed_length [] = refl
typed_length (one ∷ ones) = ap suc (typed_length ones)

pub keys_ended : (keys : List SimpleType) → keys_same keys [] ≡ true
keys_ended [] = refl
keys_ended (key ∷ keys) = refl

pub simple_are : (simple : List SimpleType) → map type_of (map (λ one. rust.Simple one) simple) ≡ map Simple simple
simple_are [] = refl
simple_are (one ∷ simple) = ap (λ (x : ValueType). x ∷ map type_of (map (λ one. rust.Simple one) simple)) (simple_is one) ∙ ap (λ (x : List ValueType). Simple one ∷ x) (simple_are simple)

-- a value more has its type
pub same_step : (keys rest : List SimpleType) (key : SimpleType) (ones : List RustTyped) (i : ℕ) (one : RustTyped) (holds : Bool) → keys ≡ key ∷ rest → i < length ones → one ≡ get_or ones i one →
    holds ≡ same_type (type_of one.value_type) (Simple key) → keys_same keys (typed_all (drop i ones)) ≡ (holds && keys_same rest (typed_all (drop (i + 1) ones)))
same_step keys rest key ones i one holds front within is has =
    let here : drop i ones ≡ one ∷ drop (i + 1) ones = rw add-one (drop-cons ones i one within ∙ ap (λ (x : RustTyped). x ∷ drop (suc i) ones) (sym is)) in
    ap (λ (x : List SimpleType). keys_same x (typed_all (drop i ones))) front
    ∙ ap (λ (x : List RustTyped). keys_same (key ∷ rest) (typed_all x)) here
    ∙ ap (λ (x : Bool). x && keys_same rest (typed_all (drop (i + 1) ones))) (sym has)

-- a set by the types of its first member's keys
pub set_is : (place : Place) (first : Vec RustTyped Global) (others : List (Vec RustTyped Global)) →
    set_alone place (all_typed first ∷ map all_typed others) ≡ (simple_types place (all_typed first) >>= (λ keys.
    require (all_same (length first.items) keys (map all_typed others)) rule.WrongType place >>
    Ok (typed (Set keys) (apply (primitive.NewSet (plain_shape keys)) (joined (all_typed first ∷ map all_typed others))))))
set_is place first others =
    ap (λ (count : ℕ). simple_types place (all_typed first) >>= (λ keys. require (all_same count keys (map all_typed others)) rule.WrongType place >>
    Ok (typed (Set keys) (apply (primitive.NewSet (plain_shape keys)) (joined (all_typed first ∷ map all_typed others)))))) (typed_length first.items)

abbrev pub braces_by : Check → Env → Place → List Expr → ValueType → Option Container → Checked Typed
braces_by check env place values type None = broken_anyway (each (loose check env Nothing) values) rule.WrongType place
braces_by check env place values type (Some made) = wanted_container check env place made (λ judge. each judge values) type

-- what values in braces make by the container that is wanted
pub braces_is : (check : Check) (env : Env) (place : Place) (values : List Expr) (type : ValueType) →
    braces_typed check env place values (Wants type) ≡ braces_by check env place values type (container_in type)
braces_is check env place values (Simple simple) = refl
braces_is check env place values (Record number) = refl
braces_is check env place values (Table keys value) = refl
braces_is check env place values (Set keys) = refl
braces_is check env place values (Vector item) = refl
