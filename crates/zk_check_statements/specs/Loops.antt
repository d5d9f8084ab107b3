-- What a `for` goes over, and what it is of its parts.
use Rattle.std.specs.Prelude.{◌≡◌, ℕ, List, ◌++◌, map, Option, Ok, if◌then◌else◌}
use Rattle.std.specs.declared.alloc.Global.{Global}
use Rattle.std.specs.declared.vec.Vec.{Vec}
use Rattle.zk_check_operators.specs.declared.operands.Typed.{Typed as RustTyped}
use Rattle.zk_check_operators.specs.Views.{typed_of}
use Rattle.zk_tree.specs.declared.expr.Expr.{Expr}
use Rattle.zk_tree.specs.declared.name.Name.{Name}
use Rattle.zk_tree.specs.declared.place.Place.{Place}
use Rattle.zk_tree.specs.declared.stmt.Keys.{Keys}
use Rattle.zk_typed.specs.declared.refusal.Refusal.{Refusal}
use Rattle.zk_typed.specs.declared.refusal.Refusal.TheVariants.{Broken, NoMemory}
use Rattle.zk_typed.specs.declared.script.types.ValueType.{ValueType as RustType}
use Rattle.zk_typed.specs.Checked.{Checked, both, ◌>>=◌}
use Rattle.zk_typed.specs.Forms as form
use Rattle.zk_typed.specs.Statements.{Context, Locals, as_names, check_in, env_of, for_over, is_vector}
use Rattle.zk_typed.specs.Types.{ValueType}
use Rattle.zk_typed.specs.Typing.{Typed, Nothing, expr_place}
use Rattle.zk_check_statements.specs.Over.{types_in}

-- what is refused is told once more
abbrev pub Again : Refusal → Refusal → Type 0
Again (Broken rules) (Broken more) = more ≡ rules ++ rules
Again NoMemory (Broken more) = ⊥
Again refusal NoMemory = Unit {0}

abbrev pub over_of : RustTyped × Vec RustType Global → Typed × List ValueType
over_of over = (typed_of over.0, types_in over.1)

-- what a `for` goes over, and the types of its names
abbrev pub over_typed : Context → Locals → ℕ → Keys → Option Name → Expr → Checked (Typed × List ValueType)
over_typed context locals place keys named over =
    let one = check_in context locals Nothing over in
    both one (one >>= for_over context place (expr_place (env_of context locals) over) keys named)

abbrev pub types_over : Checked (Typed × List ValueType) → Checked (List ValueType)
types_over over = over >>= (λ parts. Ok parts.1)

-- a loop over the indexes of a vector, or over the keys of a table or a set
abbrev pub loop_of : Place → Option Name → Typed → List ℕ → form.Stmt → form.Stmt
loop_of place named one numbers made =
    if is_vector one.type then form.ForIndexes place (as_names named numbers) one.expr made else form.ForKeys place (as_names named numbers) one.expr made

-- `for` of its parts
abbrev pub for_of : Place → Option Name → Checked (Typed × List ValueType) → Checked (List ℕ) → Checked form.Stmt → Checked form.Stmt
for_of place named over names body = both over (both names body) >>= (λ parts. Ok (loop_of place named parts.0.0 parts.1.0 parts.1.1))
