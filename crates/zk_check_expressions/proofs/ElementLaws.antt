-- Elements of tables and items of vectors, by the types that the Rust type holds.
use Rattle.std.proofs.Common.{◌≡◌, List, [], ◌∷◌, Ok, refl, ap, sym, ◌∙◌}
use Rattle.zk_tree.specs.declared.expr.Expr.{Expr}
use Rattle.zk_tree.specs.declared.place.Place.{Place}
use Rattle.zk_typed.specs.declared.script.primitive.Primitive.TheVariants as primitive
use Rattle.zk_typed.specs.declared.script.types.SimpleType.{SimpleType}
use Rattle.zk_typed.specs.declared.script.types.SimpleType.TheVariants as simple
use Rattle.zk_typed.specs.declared.script.types.ValueType.{ValueType as RustType}
use Rattle.zk_typed.specs.declared.script.types.ValueType.TheFolds.{fold-roll-ValueType}
use Rattle.zk_typed.specs.declared.script.types.ValueType.TheOpen as layer
use Rattle.zk_typed.specs.declared.script.types.ValueType.TheVariants as rust
use Rattle.zk_typed.specs.Checked.{Checked, ◌>>=◌}
use Rattle.zk_typed.specs.Making.{element, keys_fit}
use Rattle.zk_typed.specs.Types.{ValueType, Table, Vector}
use Rattle.zk_typed.specs.Typing.{Typed, typed, Env}
use Rattle.zk_typed.specs.View.{type_of, type_step, expr_of}
use Rattle.zk_check_operators.specs.declared.operands.Typed.{Typed as RustTyped}
use Rattle.zk_check_operators.specs.Views.{typed_of}
use Rattle.zk_check_expressions.specs.Parts.{behind_form}
use Rattle.zk_check_expressions.proofs.Ends.{item_is}

pub table_is : (keys : List SimpleType) (value : RustType) → type_of (rust.Table keys value) ≡ Table keys (type_of value)
table_is keys value = ap type_of (sym (rust.rolls-Table keys value)) ∙ fold-roll-ValueType ValueType type_step (layer.Table keys value)

vector_is : (item : RustType) → type_of (rust.Vector item) ≡ Vector (type_of item)
vector_is item = ap type_of (sym (rust.rolls-Vector item)) ∙ fold-roll-ValueType ValueType type_step (layer.Vector item)

pub in_table : (env : Env) (place : Place) (types slice : List SimpleType) (value inner : RustType) (one : RustTyped) (written : List Expr) (values : List Typed) →
    one.value_type ≡ rust.Table types value → slice ≡ types → inner ≡ value →
    (keys_fit env place slice written values >>= behind_form (type_of inner) primitive.Element (expr_of one.expr)) ≡ element env place (typed_of one) written values
in_table env place types slice value inner one written values table same_types same_value =
    ap (λ (x : List SimpleType). keys_fit env place x written values >>= behind_form (type_of inner) primitive.Element (expr_of one.expr)) same_types
    ∙ ap (λ (x : RustType). keys_fit env place types written values >>= behind_form (type_of x) primitive.Element (expr_of one.expr)) same_value
    ∙ ap (λ (x : ValueType). element env place (typed x (expr_of one.expr)) written values) (sym (ap type_of table ∙ table_is types value))

pub in_vector : (env : Env) (place : Place) (item inner : RustType) (one : RustTyped) (written : List Expr) (values : List Typed) →
    one.value_type ≡ rust.Vector item → inner ≡ item →
    (keys_fit env place (simple.Count ∷ []) written values >>= behind_form (type_of inner) primitive.Item (expr_of one.expr)) ≡ element env place (typed_of one) written values
in_vector env place item inner one written values vector same_item =
    ap (λ (x : RustType). keys_fit env place (simple.Count ∷ []) written values >>= behind_form (type_of x) primitive.Item (expr_of one.expr)) same_item
    ∙ sym (item_is env place (type_of item) (expr_of one.expr) written values)
    ∙ ap (λ (x : ValueType). element env place (typed x (expr_of one.expr)) written values) (sym (ap type_of vector ∙ vector_is item))
