-- What a `for` goes over and the names of its turns.
use Rattle.std.proofs.Common.{◌≡◌, ℕ, List, Result, Ok, Err, Option, refl, sym, ap, subst}
use Rattle.std.specs.declared.alloc.Global.{Global}
use Rattle.std.specs.declared.vec.Vec.{Vec}
use Rattle.zk_check_expressions.specs.declared.env.LocalName.{LocalName as LentLocal}
use Rattle.zk_check_expressions.specs.Envs.{locals_of}
use Rattle.zk_check_operators.specs.declared.operands.Typed.{Typed as RustTyped}
use Rattle.zk_check_operators.specs.Gather.{Told}
use Rattle.zk_check_operators.specs.Views.{typed_of}
use Rattle.zk_tree.specs.declared.expr.Expr.{Expr}
use Rattle.zk_tree.specs.declared.name.Name.{Name}
use Rattle.zk_tree.specs.declared.place.Place.{Place}
use Rattle.zk_tree.specs.declared.stmt.Keys.{Keys}
use Rattle.zk_tree.specs.declared.stmt.Stmt.{Stmt}
use Rattle.zk_typed.specs.declared.refusal.Refusal.{Refusal}
use Rattle.zk_typed.specs.declared.refusal.Refusal.TheVariants.{Broken, NoMemory}
use Rattle.zk_typed.specs.declared.script.stmt.Stmt.{Stmt as RustStmt}
use Rattle.zk_typed.specs.declared.script.types.ValueType.{ValueType as RustType}
use Rattle.zk_typed.specs.Checked.{Checked, both, ◌>>=◌}
use Rattle.zk_typed.specs.Forms as form
use Rattle.zk_typed.specs.Statements.{Context, Judge, Locals, check_in, env_of, for_names, for_over, for_typed, looping, place_of, types_or_unknown, wanted_names}
use Rattle.zk_typed.specs.Tells.{Tells}
use Rattle.zk_typed.specs.Types.{ValueType}
use Rattle.zk_typed.specs.Typing.{Typed, Nothing, expr_place}
use Rattle.zk_typed.specs.View.{stmt_of}
use Rattle.zk_check_statements.specs.Bodies.{Gives}
use Rattle.zk_check_statements.specs.Loops.{Again, for_of, over_of, over_typed, types_over}
use Rattle.zk_check_statements.specs.Over.{types_in}
use Rattle.zk_check_statements.specs.Numbers.{GivesNumbers, items_of}
use Rattle.zk_check_statements.proofs.Layers.{when_told}

-- what is broken in what a `for` goes over
pub over_refused : (one : Checked Typed) (k : Typed → Checked (List ValueType)) (refusal more : Refusal) →
    Tells typed_of (Err refusal) one → Again refusal more → Tells over_of (Err more) (both one (one >>= k))
over_refused one k (Broken rules) (Broken more) told twice = rw told (ap Err (sym twice))
over_refused one k NoMemory (Broken more) told twice = absurd twice
over_refused one k refusal NoMemory told twice = tt

-- what is broken in the types that it gives
pub types_refused : (one : Checked Typed) (given : Typed) (k : Typed → Checked (List ValueType)) (refusal : Refusal) →
    one ≡ Ok given → Tells types_in (Err refusal) (k given) → Tells over_of (Err refusal) (both one (one >>= k))
types_refused one given k (Broken rules) is told = rw is (rw told refl)
types_refused one given k NoMemory is told = tt

known_types : (names : List Name) (one : Typed) (given : Checked (List ValueType)) → types_or_unknown names (types_over (both (Ok one) given)) ≡ types_or_unknown names given
known_types names one (Ok types) = refl
known_types names one (Err rules) = refl

types_given : (names : List Name) (one : Checked Typed) (k : Typed → Checked (List ValueType)) → types_or_unknown names (types_over (both one (one >>= k))) ≡ types_or_unknown names (one >>= k)
types_given names (Ok one) k = known_types names one (k one)
types_given names (Err rules) k = refl

-- `for` by what its parts give
pub for_stated : (given : Result RustStmt Refusal) (between after : List LentLocal) (judge : Judge) (context : Context) (locals : Locals) (byte : ℕ) (place : Place) (keys : Keys) (named : Option Name) (over : Expr) (body : Stmt)
    (over_it : Result (RustTyped × Vec RustType Global) Refusal) (numbers : Result (Vec ℕ Global) Refusal) (inner : Result RustStmt Refusal) →
    place ≡ place_of context byte →
    Tells over_of over_it (over_typed context locals byte keys named over) →
    ((wanted : Checked (Typed × List ValueType)) → Told over_it → Tells over_of over_it wanted →
    GivesNumbers numbers between (for_names context locals (wanted_names keys named) (types_or_unknown (wanted_names keys named) (types_over wanted)))) →
    Gives inner after (judge (looping context) (locals_of between) body) →
    ((wanted : Checked (Typed × List ValueType)) (wanted_numbers : Checked (List ℕ)) (wanted_body : Checked form.Stmt) → Tells over_of over_it wanted → Tells items_of numbers wanted_numbers → Tells stmt_of inner wanted_body →
    Tells stmt_of given (for_of place named wanted wanted_numbers wanted_body)) →
    (Told given → Told over_it × Told numbers × Told inner) →
    Gives given after (for_typed judge context locals byte keys named over body)
for_stated given between after judge context locals byte place keys named over body over_it numbers inner here over_tells names_give body_gives made_is known_is = when_told given after (for_typed judge context locals byte keys named over body) (λ told.
    let known = known_is told in
    let one : Checked Typed = check_in context locals Nothing over in
    let types : Checked (List ValueType) = one >>= for_over context byte (expr_place (env_of context locals) over) keys named in
    let all : List Name = wanted_names keys named in
    let names : Checked (List ℕ) × Locals = for_names context locals all (types_or_unknown all types) in
    let P : List (Checked ValueType) → Type 0 = λ given_types. GivesNumbers numbers between (for_names context locals all given_types) in
    let names_given : GivesNumbers numbers between names = subst P (types_given all one (for_over context byte (expr_place (env_of context locals) over) keys named)) (names_give (over_typed context locals byte keys named over) known.0 over_tells) in
    let Q : Locals → Type 0 = λ visible. Gives inner after (judge (looping context) visible body) in
    let inner_given : Gives inner after (judge (looping context) names.1 body) = subst Q (names_given.visible known.1) body_gives in
    let R : Place → Type 0 = λ at. Tells stmt_of given (for_of at named (over_typed context locals byte keys named over) names.0 (judge (looping context) names.1 body).made) in
    record {
      made = subst R here (made_is (over_typed context locals byte keys named over) names.0 (judge (looping context) names.1 body).made over_tells names_given.made inner_given.made);
      visible = λ also_told. inner_given.visible known.2;
    })

-- the same over what is lent
pub for_lent : (given : Result RustStmt Refusal) (between after before : List LentLocal) (judge : Judge) (context inner_context : Context) (byte : ℕ) (place : Place) (keys : Keys) (named : Option Name) (over : Expr) (body : Stmt)
    (over_it : Result (RustTyped × Vec RustType Global) Refusal) (numbers : Result (Vec ℕ Global) Refusal) (inner : Result RustStmt Refusal) →
    inner_context ≡ looping context → place ≡ place_of context byte →
    Tells over_of over_it (over_typed context (locals_of before) byte keys named over) →
    ((wanted : Checked (Typed × List ValueType)) → Told over_it → Tells over_of over_it wanted →
    GivesNumbers numbers between (for_names context (locals_of before) (wanted_names keys named) (types_or_unknown (wanted_names keys named) (types_over wanted)))) →
    Gives inner after (judge inner_context (locals_of between) body) →
    ((wanted : Checked (Typed × List ValueType)) (wanted_numbers : Checked (List ℕ)) (wanted_body : Checked form.Stmt) → Tells over_of over_it wanted → Tells items_of numbers wanted_numbers → Tells stmt_of inner wanted_body →
    Tells stmt_of given (for_of place named wanted wanted_numbers wanted_body)) →
    (Told given → Told over_it × Told numbers × Told inner) →
    Gives given after (for_typed judge context (locals_of before) byte keys named over body)
for_lent given between after before judge context inner_context byte place keys named over body over_it numbers inner inside here over_tells names_give body_gives made_is known_is =
    let Q : Context → Type 0 = λ within. Gives inner after (judge within (locals_of between) body) in
    for_stated given between after judge context (locals_of before) byte place keys named over body over_it numbers inner here over_tells names_give (subst Q inside body_gives) made_is known_is
