-- The body that statements stand in, and what judging a statement gives.
use Rattle.std.specs.Prelude.{◌≡◌, List, [], ◌∷◌, map, Result, Option, Some, None, Ok, Err}
use Rattle.std.specs.Option.{option_map}
use Rattle.zk_check_expressions.specs.declared.env.LocalName.{LocalName as LentLocal}
use Rattle.zk_check_expressions.specs.Envs.{locals_of, globals_at}
use Rattle.zk_scope.specs.Lent.{home_of}
use Rattle.zk_scope.specs.Scripted.{scripts_in}
use Rattle.zk_check_operators.specs.Gather.{Told}
use Rattle.zk_check_operators.specs.Views.{wanted_in}
use Rattle.std.specs.declared.alloc.Global.{Global}
use Rattle.std.specs.declared.vec.Vec.{Vec}
use Rattle.zk_tree.specs.declared.place.Place.{Place}
use Rattle.zk_tree.specs.declared.stmt.Stmt.{Stmt as SyntaxStmt}
use Rattle.zk_typed.specs.declared.refusal.Refusal.{Refusal}
use Rattle.zk_typed.specs.declared.refusal.Refusal.TheVariants.{Broken, NoMemory}
use Rattle.zk_typed.specs.declared.script.stmt.Stmt.{Stmt as RustStmt}
use Rattle.zk_typed.specs.Checked.{Checked, both, ◌>>=◌}
use Rattle.zk_typed.specs.Forms as form
use Rattle.zk_typed.specs.Statements as spec
use Rattle.zk_typed.specs.Tells.{Tells}
use Rattle.zk_typed.specs.Typing.{Typed}
use Rattle.zk_typed.specs.View.{stmt_of}
use Rattle.zk_check_statements.specs.declared.context.Context.{Context as LentContext}
use Rattle.zk_check_statements.specs.declared.context.Within.{Within as LentWithin}
use Rattle.zk_check_statements.specs.declared.context.Within.TheVariants as within

abbrev pub within_of : LentWithin → spec.Within
within_of (within.Function given) = spec.InFunction (option_map wanted_in given)
within_of within.Hook = spec.InHook
within_of within.Handler = spec.InHandler

abbrev pub context_of : LentContext → spec.Context
context_of context = record {
  scripts = scripts_in context.scripts.now.names;
  home = home_of context.home;
  global_type = globals_at context.globals;
  within = within_of context.within;
  in_loop = context.in_loop;
}

-- an answer tells the typed form, and the locals are those that are visible after it, unless memory ran out
pub record Gives (given : Result RustStmt Refusal) (after : List LentLocal) (wanted : spec.Stated) : Type 0 where
  pub made : Tells stmt_of given wanted.made
  pub visible : Told given → locals_of after ≡ wanted.locals

-- `if` of its parts
abbrev pub if_of : Place → Checked Typed → Checked form.Stmt → Checked form.Stmt → Checked form.Stmt
if_of place test met otherwise = both test (both met otherwise) >>= (λ parts. Ok (form.If place parts.0.expr parts.1.0 parts.1.1))

abbrev pub while_of : Place → Checked Typed → Checked form.Stmt → Checked form.Stmt
while_of place test body = both test body >>= (λ parts. Ok (form.While place parts.0.expr parts.1))

-- the arm behind `else`, where there is one
abbrev pub other_typed : spec.Judge → spec.Context → spec.Locals → Option SyntaxStmt → spec.Stated
other_typed judge context locals None = spec.stated (Ok spec.no_stmt) locals
other_typed judge context locals (Some one) = judge context locals one

-- statements in front of others
abbrev pub put : List form.Stmt → form.Stmts → form.Stmts
put [] others = others
put (first ∷ more) others = form.AndStmt first (put more others)

-- what was judged so far
abbrev pub seen : Result (Vec RustStmt Global) Refusal → Checked (List form.Stmt)
seen (Ok made) = Ok (map stmt_of made.items)
seen (Err (Broken rules)) = Err rules
seen (Err NoMemory) = Err []

-- what was judged so far, and what is left
abbrev pub with_more : Checked (List form.Stmt) → Checked form.Stmts × spec.Locals → Checked form.Stmts × spec.Locals
with_more before more = (both before more.0 >>= (λ parts. Ok (put parts.0 parts.1)), more.1)
