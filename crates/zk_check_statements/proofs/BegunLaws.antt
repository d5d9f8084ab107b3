-- What a `local` begins with.
use Rattle.std.proofs.Common.{◌≡◌, ℕ, Bool, true, false, List, [], ◌∷◌, ◌++◌, Option, Some, None, Result, Ok, Err, refl, ap, subst, ◌∙◌}
use Rattle.zk_check_expressions.specs.declared.env.LocalName.{LocalName as LentLocal}
use Rattle.zk_check_expressions.specs.Envs.{locals_of}
use Rattle.zk_check_operators.specs.Gather.{Told}
use Rattle.zk_tree.specs.declared.name.Name.{Name}
use Rattle.zk_tree.specs.declared.place.Place.{Place}
use Rattle.zk_tree.specs.declared.stmt.Init.{Init}
use Rattle.zk_tree.specs.declared.types.Type.{«Type»}
use Rattle.zk_typed.specs.declared.refusal.Refusal.{Refusal}
use Rattle.zk_typed.specs.declared.script.stmt.Stmt.{Stmt as RustStmt}
use Rattle.zk_typed.specs.Checked.{Checked, both, ◌>>=◌}
use Rattle.zk_typed.specs.Forms as form
use Rattle.zk_typed.specs.Statements.{Context, Locals, local_stated, local_type, local_value, local_whole, place_of, type_for}
use Rattle.zk_typed.specs.Tells.{Tells}
use Rattle.zk_typed.specs.Types.{ValueType}
use Rattle.zk_typed.specs.Typing.{LocalName}
use Rattle.zk_typed.specs.View.{stmt_of}
use Rattle.zk_check_statements.specs.Begins.{is_bare, named, once, stmt_behind}
use Rattle.zk_check_statements.specs.Bodies.{Gives}

beside : (name : Checked (Unit {0})) (made : Checked (ValueType × form.Stmt)) → named true name (stmt_behind made) ≡ (both name made >>= (λ parts. Ok parts.1.1))
beside (Ok tt) (Ok pair) = refl
beside (Ok tt) (Err rules) = refl
beside (Err before) (Ok pair) = refl
beside (Err before) (Err rules) = refl

behind : (tree : Option «Type») (init : Option Init) (name : Checked (Unit {0})) (made : Checked (ValueType × form.Stmt)) → is_bare tree init ≡ false → named false name (stmt_behind made) ≡ local_whole tree init name made
behind None None name made bare = absurd (cc)
behind None (Some init) name (Ok pair) bare = refl
behind None (Some init) name (Err rules) bare = refl
behind (Some tree) init name (Ok pair) bare = refl
behind (Some tree) init name (Err rules) bare = refl

-- the statement, with what is said of its name
pub named_whole : (tree : Option «Type») (init : Option Init) (name : Checked (Unit {0})) (made : Checked (ValueType × form.Stmt)) → named (is_bare tree init) name (stmt_behind made) ≡ local_whole tree init name made
named_whole None None name made = beside name made
named_whole None (Some init) name made = behind None (Some init) name made refl
named_whole (Some tree) init name made = behind (Some tree) init name made refl

-- a `local` at its place, and the names that are visible behind it
pub local_gives : (given : Result RustStmt Refusal) (after : List LentLocal) (context : Context) (locals : Locals) (byte : ℕ) (name : Name) (text : List ℕ)
    (tree : Option «Type») (init : Option Init) (place : Place) (known : Checked ValueType) → place ≡ place_of context byte → text ≡ name.text →
    Tells stmt_of given (local_whole tree init (once name locals place) (local_value context locals place (local_type context locals tree) init)) →
    (Told given → known ≡ type_for (local_type context locals tree) (local_value context locals place (local_type context locals tree) init)) →
    locals_of after ≡ locals ++ record { name = text; type = known } ∷ [] → Gives given after (local_stated context locals byte name tree init)
local_gives given after context locals byte name text tree init place known here called told typed behind =
    let made : Place → Checked (ValueType × form.Stmt) = λ at. local_value context locals at (local_type context locals tree) init in
    let type : Place → Checked ValueType = λ at. type_for (local_type context locals tree) (made at) in
    let P : Place → Type 0 = λ at. Tells stmt_of given (local_whole tree init (once name locals at) (made at)) in
    let with_name : List ℕ → Checked ValueType → Locals = λ word is. locals ++ record { name = word; type = is } ∷ [] in
    record {
      made = subst P here told;
      visible = λ it. behind ∙ ap (λ word. with_name word known) called ∙ ap (with_name name.text) (typed it ∙ ap type here);
    }
