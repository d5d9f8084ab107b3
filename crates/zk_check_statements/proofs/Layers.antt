-- The judgement of a statement by its form, and of statements one by one.
use Rattle.std.proofs.Common.{IsTrue, true, false, ◌≡◌, ℕ, zero, suc, ◌+◌, ◌-◌, ◌<◌, List, [], ◌∷◌, ◌++◌, length, map, drop, get_or, drop-cons, add-one, Result, Ok, Err, Option, Some, None, refl, sym, ap, ◌∙◌, subst, append_assoc, append-nil, arith}
use Rattle.std.specs.declared.alloc.Global.{Global}
use Rattle.std.specs.declared.vec.Vec.{Vec}
use Rattle.zk_tree.specs.declared.expr.Expr.{Expr}
use Rattle.zk_tree.specs.declared.name.Name.{Name}
use Rattle.zk_tree.specs.declared.place.Place.{Place}
use Rattle.zk_tree.specs.declared.stmt.Block.{Block}
use Rattle.zk_tree.specs.declared.stmt.Keys.{Keys}
use Rattle.zk_tree.specs.declared.stmt.Init.{Init}
use Rattle.zk_tree.specs.declared.stmt.Stmt.{Stmt}
use Rattle.zk_tree.specs.declared.stmt.Stmt as built
use Rattle.zk_tree.specs.declared.types.Type.{«Type»}
use Rattle.zk_tree.specs.Opening.{trees}
use Rattle.zk_tree.specs.declared.stmt.Stmt.TheVariants as tree
use Rattle.zk_tree.specs.declared.stmt.Stmt.TheVariants.{outs-If, outs-IfElse, outs-While, outs-For, outs-Local}
use Rattle.zk_typed.specs.declared.refusal.Refusal.{Refusal}
use Rattle.zk_typed.specs.declared.refusal.Refusal.TheVariants.{Broken, NoMemory}
use Rattle.zk_typed.specs.declared.refusal.Broken.{Broken as BrokenRule}
use Rattle.zk_typed.specs.declared.script.stmt.Stmt.{Stmt as RustStmt}
use Rattle.zk_typed.specs.Checked.{Checked, both, ◌>>=◌}
use Rattle.zk_typed.specs.Forms as form
use Rattle.zk_typed.specs.Statements.{Context, Locals, Stated, stated, place_of, check_in, stmt_to, stmts_typed, block_typed, if_typed, while_typed, for_typed, local_stated}
use Rattle.zk_typed.specs.Tells.{Tells}
use Rattle.zk_typed.specs.View.{stmt_of}
use Rattle.zk_check_expressions.specs.declared.env.LocalName.{LocalName as LentLocal}
use Rattle.zk_check_operators.specs.Gather.{Told}
use Rattle.zk_check_operators.specs.Gathering.{IsNext}
use Rattle.zk_check_expressions.specs.Envs.{locals_of}
use Rattle.zk_check_statements.specs.Acting.{is_plain}
use Rattle.zk_check_statements.specs.Bodies.{Gives, put, seen, with_more}
use Rattle.zk_check_statements.specs.Blocks.{all_stated}

-- want of memory says nothing
pub when_told : (given : Result RustStmt Refusal) (after : List LentLocal) (wanted : Stated) → (Told given → Gives given after wanted) → Gives given after wanted
when_told (Ok one) after wanted gives = gives tt
when_told (Err (Broken rules)) after wanted gives = gives tt
when_told (Err NoMemory) after wanted gives = record { made = tt; visible = λ told. absurd told }

-- Forms ------------------------------------------------------------------------------------------------------------

layer_if : (depth : ℕ) (context : Context) (locals : Locals) (place : ℕ) (test : Expr) (met : Stmt) → 0 < depth →
    if_typed (stmt_to (depth - 1)) context locals place test met None ≡ stmt_to depth context locals (tree.If place test met)
layer_if zero context locals place test met some = absurd (omega arith)
layer_if (suc depth) context locals place test met some = let less : suc depth - 1 ≡ depth = omega arith in rw (less, outs-If) refl

layer_if_else : (depth : ℕ) (context : Context) (locals : Locals) (place : ℕ) (test : Expr) (met otherwise : Stmt) → 0 < depth →
    if_typed (stmt_to (depth - 1)) context locals place test met (Some otherwise) ≡ stmt_to depth context locals (tree.IfElse place test met otherwise)
layer_if_else zero context locals place test met otherwise some = absurd (omega arith)
layer_if_else (suc depth) context locals place test met otherwise some = let less : suc depth - 1 ≡ depth = omega arith in rw (less, outs-IfElse) refl

layer_while : (depth : ℕ) (context : Context) (locals : Locals) (place : ℕ) (test : Expr) (body : Stmt) → 0 < depth →
    while_typed (stmt_to (depth - 1)) context locals place test body ≡ stmt_to depth context locals (tree.While place test body)
layer_while zero context locals place test body some = absurd (omega arith)
layer_while (suc depth) context locals place test body some = let less : suc depth - 1 ≡ depth = omega arith in rw (less, outs-While) refl

pub if_gives : (given : Result RustStmt Refusal) (after : List LentLocal) (depth : ℕ) (context : Context) (locals : Locals) (place : ℕ) (test : Expr) (met lent one : Stmt) →
    0 < depth → one ≡ tree.If place test met → lent ≡ met →
    Gives given after (if_typed (stmt_to (depth - 1)) context locals place test lent None) → Gives given after (stmt_to depth context locals one)
if_gives given after depth context locals place test met lent one some is same gives =
    let P : Stated → Type 0 = λ wanted. Gives given after wanted in
    subst P (ap (λ inner. if_typed (stmt_to (depth - 1)) context locals place test inner None) same ∙ layer_if depth context locals place test met some ∙ ap (stmt_to depth context locals) (sym is)) gives

pub if_else_gives : (given : Result RustStmt Refusal) (after : List LentLocal) (depth : ℕ) (context : Context) (locals : Locals) (place : ℕ) (test : Expr) (met otherwise lent lent_other one : Stmt) →
    0 < depth → one ≡ tree.IfElse place test met otherwise → lent ≡ met → lent_other ≡ otherwise →
    Gives given after (if_typed (stmt_to (depth - 1)) context locals place test lent (Some lent_other)) → Gives given after (stmt_to depth context locals one)
if_else_gives given after depth context locals place test met otherwise lent lent_other one some is same same_other gives =
    let P : Stated → Type 0 = λ wanted. Gives given after wanted in
    subst P (ap (λ inner. if_typed (stmt_to (depth - 1)) context locals place test inner (Some lent_other)) same ∙ ap (λ inner. if_typed (stmt_to (depth - 1)) context locals place test met (Some inner)) same_other
    ∙ layer_if_else depth context locals place test met otherwise some ∙ ap (stmt_to depth context locals) (sym is)) gives

pub while_gives : (given : Result RustStmt Refusal) (after : List LentLocal) (depth : ℕ) (context : Context) (locals : Locals) (place : ℕ) (test : Expr) (body lent one : Stmt) →
    0 < depth → one ≡ tree.While place test body → lent ≡ body →
    Gives given after (while_typed (stmt_to (depth - 1)) context locals place test lent) → Gives given after (stmt_to depth context locals one)
while_gives given after depth context locals place test body lent one some is same gives =
    let P : Stated → Type 0 = λ wanted. Gives given after wanted in
    subst P (ap (while_typed (stmt_to (depth - 1)) context locals place test) same ∙ layer_while depth context locals place test body some ∙ ap (stmt_to depth context locals) (sym is)) gives

layer_for : (depth : ℕ) (context : Context) (locals : Locals) (place : ℕ) (keys : Keys) (value : Option Name) (over : Expr) (body : Stmt) → 0 < depth →
    for_typed (stmt_to (depth - 1)) context locals place keys value over body ≡ stmt_to depth context locals (tree.For place keys value over body)
layer_for zero context locals place keys value over body some = absurd (omega arith)
layer_for (suc depth) context locals place keys value over body some = let less : suc depth - 1 ≡ depth = omega arith in rw (less, outs-For) refl

pub for_gives : (given : Result RustStmt Refusal) (after : List LentLocal) (depth : ℕ) (context : Context) (locals : Locals) (place : ℕ) (keys : Keys) (value : Option Name) (over : Expr) (body lent one : Stmt) →
    0 < depth → one ≡ tree.For place keys value over body → lent ≡ body →
    Gives given after (for_typed (stmt_to (depth - 1)) context locals place keys value over lent) → Gives given after (stmt_to depth context locals one)
for_gives given after depth context locals place keys value over body lent one some is same gives =
    let P : Stated → Type 0 = λ wanted. Gives given after wanted in
    subst P (ap (for_typed (stmt_to (depth - 1)) context locals place keys value over) same ∙ layer_for depth context locals place keys value over body some ∙ ap (stmt_to depth context locals) (sym is)) gives

-- Statements in order ----------------------------------------------------------------------------------------------

put_one : (before : List RustStmt) (one : RustStmt) (others : form.Stmts) → put (map stmt_of before) (form.AndStmt (stmt_of one) others) ≡ put (map stmt_of (before ++ one ∷ [])) others
put_one [] one others = refl
put_one (first ∷ before) one others = ap (form.AndStmt (stmt_of first)) (put_one before one others)

-- one more statement behind others
abbrev pub and_then : Checked form.Stmt → Checked form.Stmts → Checked form.Stmts
and_then first more = both first more >>= (λ parts. Ok (form.AndStmt parts.0 parts.1))

pub step_right : (before : List RustStmt) (one : RustStmt) (rest : Checked form.Stmts) (after : Locals) →
    with_more (Ok (map stmt_of before)) (and_then (Ok (stmt_of one)) rest, after) ≡ with_more (Ok (map stmt_of (before ++ one ∷ []))) (rest, after)
step_right before one (Ok others) after = ap (λ all. (Ok all, after)) (put_one before one others)
step_right before one (Err rules) after = refl

pub step_broken : (before : List RustStmt) (rules : List BrokenRule) (rest : Checked form.Stmts) (after : Locals) →
    with_more (Ok (map stmt_of before)) (and_then (Err rules) rest, after) ≡ with_more (Err rules) (rest, after)
step_broken before rules rest after = refl

pub step_passed : (rules : List BrokenRule) (one : form.Stmt) (rest : Checked form.Stmts) (after : Locals) →
    with_more (Err rules) (and_then (Ok one) rest, after) ≡ with_more (Err rules) (rest, after)
step_passed rules one (Ok others) after = refl
step_passed rules one (Err more) after = refl

pub step_more : (rules more : List BrokenRule) (rest : Checked form.Stmts) (after : Locals) →
    with_more (Err rules) (and_then (Err more) rest, after) ≡ with_more (Err (rules ++ more)) (rest, after)
step_more rules more rest after = ap (λ all. (Err all, after)) (sym (append_assoc rules more _))

-- what was judged so far, one statement more, and what is left
stmts_step : (all next : Result (Vec RustStmt Global) Refusal) (part : Result RustStmt Refusal) (judged : Checked form.Stmt) (rest : Checked form.Stmts) (after : Locals) →
    IsNext all part next → Told next → Tells stmt_of part judged →
    (with_more (seen all) (and_then judged rest, after) ≡ with_more (seen next) (rest, after)) × Told all × Told part
stmts_step all (Err NoMemory) part judged rest after is_next known tells = absurd known
stmts_step (Err NoMemory) (Ok next) part judged rest after is_next known tells = absurd (let e = is_next in cc)
stmts_step (Err NoMemory) (Err (Broken rules)) part judged rest after is_next known tells = absurd (let e = is_next in cc)
stmts_step (Ok before) (Ok next) (Ok one) judged rest after is_next known tells =
    let items : before.items ++ one ∷ [] ≡ next.items = (let e = is_next in cc) in (
      ap (λ given. with_more (Ok (map stmt_of before.items)) (and_then given rest, after)) tells ∙ step_right before.items one rest after
          ∙ ap (λ made. with_more (Ok (map stmt_of made)) (rest, after)) items,
      tt,
      tt,
    )
stmts_step (Ok before) (Ok next) (Err (Broken more)) judged rest after is_next known tells = absurd (let e = is_next in cc)
stmts_step (Ok before) (Ok next) (Err NoMemory) judged rest after is_next known tells = absurd (let e = is_next in cc)
stmts_step (Ok before) (Err (Broken rules)) (Ok one) judged rest after is_next known tells = absurd (let e = is_next in cc)
stmts_step (Ok before) (Err (Broken rules)) (Err (Broken more)) judged rest after is_next known tells =
    let same : more ≡ rules = (let e = is_next in cc) in (
      ap (λ given. with_more (Ok (map stmt_of before.items)) (and_then given rest, after)) tells ∙ step_broken before.items more rest after
          ∙ ap (λ all_rules. with_more (Err all_rules) (rest, after)) same,
      tt,
      tt,
    )
stmts_step (Ok before) (Err (Broken rules)) (Err NoMemory) judged rest after is_next known tells = absurd (let e = is_next in cc)
stmts_step (Err (Broken own)) (Ok next) (Ok one) judged rest after is_next known tells = absurd (let e = is_next in cc)
stmts_step (Err (Broken own)) (Ok next) (Err (Broken more)) judged rest after is_next known tells = absurd (let e = is_next in cc)
stmts_step (Err (Broken own)) (Ok next) (Err NoMemory) judged rest after is_next known tells = absurd (let e = is_next in cc)
stmts_step (Err (Broken own)) (Err (Broken rules)) (Ok one) judged rest after is_next known tells =
    let same : own ≡ rules = (let e = is_next in cc) in (
      ap (λ given. with_more (Err own) (and_then given rest, after)) tells ∙ step_passed own (stmt_of one) rest after
          ∙ ap (λ all_rules. with_more (Err all_rules) (rest, after)) same,
      tt,
      tt,
    )
stmts_step (Err (Broken own)) (Err (Broken rules)) (Err (Broken more)) judged rest after is_next known tells =
    let same : own ++ more ≡ rules = (let e = is_next in cc) in (
      ap (λ given. with_more (Err own) (and_then given rest, after)) tells ∙ step_more own more rest after
          ∙ ap (λ all_rules. with_more (Err all_rules) (rest, after)) same,
      tt,
      tt,
    )
stmts_step (Err (Broken own)) (Err (Broken rules)) (Err NoMemory) judged rest after is_next known tells = absurd (let e = is_next in cc)

pub block_step : (depth : ℕ) (context : Context) (items : List Stmt) (index : ℕ) (one : Stmt) (locals after : Locals)
    (all next : Result (Vec RustStmt Global) Refusal) (part : Result RustStmt Refusal) (whole : Checked form.Stmts × Locals) →
    index < length items → one ≡ get_or items index one → IsNext all part next →
    Tells stmt_of part (stmt_to depth context locals one).made → (Told part → after ≡ (stmt_to depth context locals one).locals) →
    (Told all → with_more (seen all) (stmts_typed (stmt_to depth) context locals (drop index items)) ≡ whole) →
    Told next → with_more (seen next) (stmts_typed (stmt_to depth) context after (drop (index + 1) items)) ≡ whole
block_step depth context items index one locals after all next part whole within is is_next tells visible before known =
    let first : Stated = stmt_to depth context locals one in
    let others : Checked form.Stmts × Locals = stmts_typed (stmt_to depth) context first.locals (drop (suc index) items) in
    let step = stmts_step all next part first.made others.0 others.1 is_next known tells in
    let front : drop index items ≡ one ∷ drop (suc index) items = drop-cons items index one within ∙ ap (λ other. other ∷ drop (suc index) items) (sym is) in
    rw add-one (
    ap (λ locals_then. with_more (seen next) (stmts_typed (stmt_to depth) context locals_then (drop (suc index) items))) (visible step.2)
    ∙ sym step.0 ∙ sym (ap (λ left. with_more (seen all) (stmts_typed (stmt_to depth) context locals left)) front) ∙ before step.1)

put_all : (all : List RustStmt) → put (map stmt_of all) form.NoStmt ≡ all_stated all
put_all [] = refl
put_all (first ∷ others) = ap (form.AndStmt (stmt_of first)) (put_all others)

pub block_end : (depth : ℕ) (context : Context) (items : List Stmt) (index : ℕ) (locals : Locals) (after : List LentLocal) (all : List RustStmt) (made : RustStmt) (block : Block) →
    drop index items ≡ [] → items ≡ block.stmts → stmt_of made ≡ form.Block (all_stated all) →
    with_more (Ok (map stmt_of all)) (stmts_typed (stmt_to depth) context (locals_of after) (drop index items)) ≡ stmts_typed (stmt_to depth) context locals items →
    Gives (Ok made) after (block_typed (stmt_to depth) context locals block)
block_end depth context items index locals after all made block over same made_is whole =
    let left : (Ok (put (map stmt_of all) form.NoStmt), locals_of after) ≡ stmts_typed (stmt_to depth) context locals items = rw over at whole in
    let stated : (Ok (all_stated all), locals_of after) ≡ stmts_typed (stmt_to depth) context locals block.stmts =
    ap (λ stmts. (Ok stmts, locals_of after)) (sym (put_all all)) ∙ left ∙ ap (stmts_typed (stmt_to depth) context locals) same in
    record {
      made = ap (λ (given : Checked form.Stmts × Locals). given.0 >>= (λ stmts. Ok (form.Block stmts))) (sym stated) ∙ ap Ok (sym made_is);
      visible = λ known. ap (λ (given : Checked form.Stmts × Locals). given.1) stated;
    }

-- Statements that have no others within them --------------------------------------------------------------------------

not_plain : {A : Type 0} → false ≡ true → A
not_plain is = absurd (let e : false ≡ true = is in cc)

-- behind one that declares no name the same names are visible
plain_visible : (depth : ℕ) (context : Context) (locals : Locals) (one : Stmt) → IsTrue (is_plain one) → (stmt_to (suc depth) context locals one).locals ≡ locals
unfolding trees
plain_visible depth context locals (built.Block' place n stmts) plain = not_plain plain
plain_visible depth context locals (built.Empty place) plain = refl
plain_visible depth context locals (built.If' place test n met) plain = not_plain plain
plain_visible depth context locals (built.IfElse' place test n met m otherwise) plain = not_plain plain
plain_visible depth context locals (built.While' place test n body) plain = not_plain plain
plain_visible depth context locals (built.For' place keys value over n body) plain = not_plain plain
plain_visible depth context locals (built.Local place name given init) plain = not_plain plain
plain_visible depth context locals (built.Print place values) plain = refl
plain_visible depth context locals (built.Event place name items) plain = refl
plain_visible depth context locals (built.Schedule place delay name items) plain = refl
plain_visible depth context locals (built.Add place element) plain = refl
plain_visible depth context locals (built.Delete place element) plain = refl
plain_visible depth context locals (built.Return place value) plain = refl
plain_visible depth context locals (built.Next place) plain = refl
plain_visible depth context locals (built.Break place) plain = refl
plain_visible depth context locals (built.Expr value) plain = refl

visible_at : (depth : ℕ) (context : Context) (locals : Locals) (one : Stmt) → IsTrue (is_plain one) → 0 < depth → (stmt_to depth context locals one).locals ≡ locals
visible_at zero context locals one plain some = absurd (omega arith)
visible_at (suc depth) context locals one plain some = plain_visible depth context locals one plain

pub plain_gives : (given : Result RustStmt Refusal) (after : List LentLocal) (depth : ℕ) (context : Context) (one : Stmt) →
    0 < depth → IsTrue (is_plain one) → ((least : ℕ) → 0 < least → Tells stmt_of given (stmt_to least context (locals_of after) one).made) → Gives given after (stmt_to depth context (locals_of after) one)
plain_gives given after depth context one some plain tells =
    record { made = tells depth some; visible = λ known. sym (visible_at depth context (locals_of after) one plain some) }

layer_local : (depth : ℕ) (context : Context) (locals : Locals) (place : ℕ) (name : Name) (given : Option «Type») (init : Option Init) → 0 < depth →
    local_stated context locals place name given init ≡ stmt_to depth context locals (tree.Local place name given init)
layer_local zero context locals place name given init some = absurd (omega arith)
layer_local (suc depth) context locals place name given init some = rw outs-Local refl

pub local_gives : (made : Result RustStmt Refusal) (after : List LentLocal) (depth : ℕ) (context : Context) (locals : Locals) (place : ℕ) (name : Name) (given : Option «Type») (init : Option Init) (one : Stmt) →
    0 < depth → one ≡ tree.Local place name given init → Gives made after (local_stated context locals place name given init) → Gives made after (stmt_to depth context locals one)
local_gives made after depth context locals place name given init one some is gives =
    let P : Stated → Type 0 = λ wanted. Gives made after wanted in
    subst P (layer_local depth context locals place name given init some ∙ ap (stmt_to depth context locals) (sym is)) gives
