-- Calls, once their arguments are right.
use Rattle.std.specs.Prelude.{ℕ, List, [], ◌∷◌, map, Option, Some, None, Ok}
use Rattle.std.specs.declared.alloc.Global.{Global}
use Rattle.std.specs.declared.vec.Vec.{Vec}
use Rattle.zk_tree.specs.declared.expr.Item.{Item}
use Rattle.zk_tree.specs.declared.place.Place.{Place}
use Rattle.zk_typed.specs.declared.rule.Rule.TheVariants as rule
use Rattle.zk_typed.specs.declared.script.primitive.BuiltIn.TheVariants as built_in
use Rattle.zk_typed.specs.declared.script.types.ValueType.{ValueType as RustType}
use Rattle.zk_typed.specs.Checked.{Checked, broken, require, ◌>>=◌, ◌>>◌}
use Rattle.zk_typed.specs.Forms as form
use Rattle.zk_typed.specs.Making.{Called, gives, built_in_call, verbs_take, arguments}
use Rattle.zk_typed.specs.Names.{Declared, Signature}
use Rattle.zk_typed.specs.Predefined as type
use Rattle.zk_typed.specs.Resolving.{params_of}
use Rattle.zk_typed.specs.Types.{ValueType}
use Rattle.zk_typed.specs.Typing.{Typed, typed, exprs, Env, Check, number_among, is_hook}
use Rattle.zk_typed.specs.View.{type_of}
use Rattle.zk_check_operators.specs.declared.operands.Typed.{Typed as RustTyped}
use Rattle.zk_check_operators.specs.Views.{typed_of, all_typed}

-- the text of `fmt`, with its verbs
abbrev pub text_view : RustTyped × List ℕ → Typed × List ℕ
text_view text = (typed_of text.0, text.1)

-- the text of `fmt`, and the values behind it
abbrev pub format_view : (RustTyped × List ℕ) × Vec RustTyped Global → (Typed × List ℕ) × List Typed
format_view parts = (text_view parts.0, all_typed parts.1)

-- `fmt` of its text and the values behind it
abbrev pub format_of : Place → (Typed × List ℕ) × List Typed → Checked Called
format_of place parts =
    require (verbs_take parts.0.1 parts.1) rule.Format place >> gives (typed type.string (built_in_call built_in.Fmt (parts.0.0 ∷ parts.1)))

-- the types of a built-in function
abbrev pub row_of : Vec RustType Global × RustType → List ValueType × ValueType
row_of row = (map type_of row.0.items, type_of row.1)

-- a call of a declared hook
abbrev pub hook_of : Check → Env → Place → Declared → Signature → List Item → Checked Typed
hook_of check env place one signature items = arguments check env place (params_of env.scripts signature) items >>= (λ args.
    Ok (typed type.bool (form.Hook (record { 0 = number_among is_hook env.scripts one }) (exprs args))))
