-- Events whose names are wrong.
use Rattle.std.proofs.Common.{◌≡◌, ℕ, List, Option, Err, subst}
use Rattle.zk_check_expressions.specs.declared.found.Found.{Found as LentFound}
use Rattle.zk_check_expressions.specs.declared.found.Found.TheVariants as found
use Rattle.zk_check_expressions.specs.Envs.{found_of}
use Rattle.zk_check_expressions.specs.Parts.{behind_wrong, behind_view}
use Rattle.zk_check_operators.proofs.BothLaws.{passed}
use Rattle.zk_base.specs.declared.numbers.EventNo.{EventNo}
use Rattle.zk_tree.specs.declared.expr.Item.{Item}
use Rattle.zk_tree.specs.declared.name.Name.{Name}
use Rattle.zk_tree.specs.declared.place.Place.{Place}
use Rattle.zk_typed.specs.declared.refusal.Refusal.{Refusal}
use Rattle.zk_typed.specs.declared.rule.Rule.TheVariants as rule
use Rattle.zk_typed.specs.Checked.{Checked, each, elsewhere}
use Rattle.zk_typed.specs.Expressions.{expr_typed}
use Rattle.zk_typed.specs.Making.{argument}
use Rattle.zk_typed.specs.Names.{Declared}
use Rattle.zk_typed.specs.Statements.{event_args}
use Rattle.zk_typed.specs.Tells.{Tells}
use Rattle.zk_typed.specs.Typing as typing
use Rattle.zk_typed.specs.Typing.{Env, Typed, Unclear, at}
use Rattle.zk_check_statements.specs.Acting.{event_with}

abbrev behind : Env → List Item → Checked (List Typed)
behind env items = each (argument (expr_typed env) env Unclear) items

-- an event where expressions stand, by what its name means there
abbrev args_of : Env → Place → Name → List Item → Option Declared → Checked (EventNo × List Typed)
args_of env place name items meant = event_args (expr_typed env) env place name items meant

meant_there : (env wanted : Env) (place : Place) (name : Name) (items : List Item) (refusal : Refusal) (meant : Option Declared) →
    env ≡ wanted → meant ≡ typing.found env name → Tells event_with (Err refusal) (args_of env place name items meant) → Tells event_with (Err refusal) (args_of wanted place name items (typing.found wanted name))
meant_there env wanted place name items refusal meant same is tells =
    let P : Option Declared → Type 0 = λ one. Tells event_with (Err refusal) (args_of env place name items one) in
    let Q : Env → Type 0 = λ where_it_is. Tells event_with (Err refusal) (args_of where_it_is place name items (typing.found where_it_is name)) in
    subst Q same (subst P is tells)

-- a local hides the event of its name
pub hidden_event : (env wanted : Env) (place here : Place) (name : Name) (items : List Item) (refusal : Refusal) (meant : LentFound) →
    env ≡ wanted → meant ≡ found.Local → found_of env name meant ≡ typing.found env name → here ≡ at env name.place → Tells behind_view (Err refusal) (behind_wrong rule.WrongType here (each (argument (expr_typed env) env Unclear) items)) →
    Tells event_with (Err refusal) (args_of wanted place name items (typing.found wanted name))
hidden_event env wanted place here name items refusal meant same local is at_name tells =
    let P : LentFound → Type 0 = λ one. found_of env name one ≡ typing.found env name in
    let Q : Place → Type 0 = λ spot. Tells behind_view (Err refusal) (behind_wrong rule.WrongType spot (behind env items)) in
    meant_there env wanted place name items refusal (found_of env name found.Local) same (subst P local is)
    (passed behind_view event_with (behind_wrong rule.WrongType (at env name.place) (behind env items)) (λ both. elsewhere) refusal (subst Q at_name tells))

pub unknown_event : (env wanted : Env) (place here : Place) (name : Name) (items : List Item) (refusal : Refusal) (meant : LentFound) →
    env ≡ wanted → meant ≡ found.Nothing → found_of env name meant ≡ typing.found env name → here ≡ at env name.place → Tells behind_view (Err refusal) (behind_wrong rule.Unknown here (each (argument (expr_typed env) env Unclear) items)) →
    Tells event_with (Err refusal) (args_of wanted place name items (typing.found wanted name))
unknown_event env wanted place here name items refusal meant same nothing is at_name tells =
    let P : LentFound → Type 0 = λ one. found_of env name one ≡ typing.found env name in
    let Q : Place → Type 0 = λ spot. Tells behind_view (Err refusal) (behind_wrong rule.Unknown spot (behind env items)) in
    meant_there env wanted place name items refusal (found_of env name found.Nothing) same (subst P nothing is)
    (passed behind_view event_with (behind_wrong rule.Unknown (at env name.place) (behind env items)) (λ both. elsewhere) refusal (subst Q at_name tells))
