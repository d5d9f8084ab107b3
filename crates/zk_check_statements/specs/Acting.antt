-- Statements that act on values, by their parts.
use Rattle.std.specs.Prelude.{ℕ, Bool, true, false, List, [], ◌∷◌, Option, Some, None, Ok}
use Rattle.std.specs.Borrow.{Bor}
use Rattle.std.specs.declared.alloc.Global.{Global}
use Rattle.std.specs.declared.vec.Vec.{Vec}
use Rattle.zk_check_operators.specs.declared.operands.Typed.{Typed as RustTyped}
use Rattle.zk_check_operators.specs.Views.{all_typed, typed_of}
use Rattle.zk_base.specs.declared.numbers.EventNo.{EventNo}
use Rattle.zk_tree.specs.declared.expr.Expr.{Expr}
use Rattle.zk_tree.specs.declared.expr.Item.{Item}
use Rattle.zk_tree.specs.declared.expr.Part.{Part}
use Rattle.zk_tree.specs.declared.name.Name.{Name}
use Rattle.zk_tree.specs.declared.place.Place.{Place}
use Rattle.zk_tree.specs.declared.stmt.Stmt.{Stmt, out-Stmt}
use Rattle.zk_tree.specs.declared.stmt.Stmt.TheOpen.{Stmt-F}
use Rattle.zk_tree.specs.declared.stmt.Block.{Block}
use Rattle.zk_tree.specs.declared.stmt.Stmt.TheOpen as stmt
use Rattle.zk_typed.specs.declared.rule.Rule.TheVariants as rule
use Rattle.zk_typed.specs.declared.script.action.Action.{Action}
use Rattle.zk_typed.specs.declared.script.action.Action.TheVariants as action
use Rattle.zk_typed.specs.declared.script.types.SimpleType.{SimpleType}
use Rattle.zk_typed.specs.Checked.{Checked, both, each, broken, ◌>>=◌, ◌>>◌, broken_anyway}
use Rattle.zk_typed.specs.Forms as form
use Rattle.zk_typed.specs.Making.{Called, Gives, Performs, call_of, called_name, keys_fit, post_typed, printed}
use Rattle.zk_typed.specs.Statements.{Context, Locals, check_in, do_with, env_of, event_args, keys_in, place_of}
use Rattle.zk_typed.specs.Types.{ValueType}
use Rattle.zk_typed.specs.Typing.{Check, Env, Typed, Nothing, exprs, expr_place, found}

-- a statement that has no others within it, and declares no name
abbrev pub is_plain : Stmt → Bool
is_plain one = of_form (out-Stmt one)
  where
    of_form : Stmt-F Stmt Block → Bool
    of_form (stmt.Block block) = false
    of_form (stmt.If place test first) = false
    of_form (stmt.IfElse place test first second) = false
    of_form (stmt.While place test body) = false
    of_form (stmt.For place keys value over body) = false
    of_form (stmt.Local place name tree init) = false
    of_form other = true

-- an action of operands
abbrev pub acted : Place → Action → Checked (List Typed) → Checked form.Stmt
acted place action operands = operands >>= (λ ones. do_with place action (exprs ones))

-- an action of an element of a set or a table
abbrev pub element_acted : Place → Action → Checked form.Exprs → Checked form.Stmt
element_acted place action element = element >>= do_with place action

abbrev pub print_of : Context → Locals → ℕ → List Expr → Checked form.Stmt
print_of context locals place values = acted (place_of context place) action.Print (each (printed (check_in context locals) (env_of context locals)) values)

abbrev pub event_with : EventNo × Vec RustTyped Global → EventNo × List Typed
event_with event = (event.0, all_typed event.1)

-- an event with its arguments
abbrev pub event_of : Context → Locals → ℕ → Name → List Item → Checked (EventNo × List Typed)
event_of context locals place name items =
    event_args (check_in context locals) (env_of context locals) (place_of context place) name items (found (env_of context locals) name)

abbrev pub queued : Place → Checked (EventNo × List Typed) → Checked form.Stmt
queued place event = event >>= (λ parts. do_with place (action.Queue parts.0) (exprs parts.1))

abbrev pub delayed : Place → Checked Typed → Checked (EventNo × List Typed) → Checked form.Stmt
delayed place delay event = both delay event >>= (λ parts. do_with place (action.Schedule parts.1.0) (exprs (parts.0 ∷ parts.1.1)))

-- the parts of an element: what stands before the last index, and the keys in it
abbrev pub element_parts : Check → Env → Expr → List Part → List Expr → Checked (Typed × List Typed)
element_parts check env first parts keys = both (post_typed check env (expr_place env first) first parts (called_name first parts)) (each (check Nothing) keys)

-- an element of a set or a table, by its parts
abbrev pub element_of_parts : Env → Place → Bool → List Expr → Typed × List Typed → Checked form.Exprs
element_of_parts env place tables written parts = of_keys (keys_in tables parts.0.type)
  where
    of_keys : Option (List SimpleType) → Checked form.Exprs
    of_keys None = broken rule.WrongType place
    of_keys (Some types) = keys_fit env place types written parts.1 >>= (λ fitting. Ok (form.AndExpr parts.0.expr (exprs fitting)))

abbrev pub parts_in : RustTyped × Vec RustTyped Global → Typed × List Typed
parts_in parts = (typed_of parts.0, all_typed parts.1)

abbrev pub lent_index : Bor (List Part) × Bor (List Expr) → List Part × List Expr
lent_index found = (found.0.now, found.1.now)

-- an expression that is no element
abbrev pub wrong_element : Check → Place → Expr → Checked form.Exprs
wrong_element check place one = broken_anyway (check Nothing one) rule.WrongType place

abbrev pub element_of_index : Check → Env → Place → Bool → Expr → List Part → List Expr → Checked form.Exprs
element_of_index check env place tables first parts keys = element_parts check env first parts keys >>= element_of_parts env place tables keys

-- an expression that is wrong where it stands
abbrev pub wrong_value : Check → Place → Expr → Checked form.Stmt
wrong_value check place one = broken_anyway (check Nothing one) rule.WrongType place

abbrev pub evaluated : Check → Place → Expr → Checked form.Stmt
evaluated check place one = check Nothing one >>= (λ given. Ok (form.Evaluate place given.expr))

-- a call that stands as a statement
abbrev pub called : Place → Checked Called → Checked form.Stmt
called place call = call >>= of_called
  where
    of_called : Called → Checked form.Stmt
    of_called (Gives given) = Ok (form.Evaluate place given.expr)
    of_called (Performs function args) = Ok (form.Perform place function (exprs args))

-- what stands before its parts, as a statement
abbrev pub post_stmt : Check → Env → Place → Expr → List Part → Expr → Checked form.Stmt
post_stmt check env place first parts one = of_call (called_name first parts)
  where
    of_call : Option (Name × List Item × List Part) → Checked form.Stmt
    of_call (Some (name, items, [])) = called place (call_of check env name items)
    of_call other = evaluated check place one
