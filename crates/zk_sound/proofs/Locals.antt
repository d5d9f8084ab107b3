-- The types of locals are known, where no rule of their body is told.
use Rattle.std.proofs.Common.{◌≡◌, ℕ, zero, suc, Bool, true, false, not, List, [], ◌∷◌, ◌++◌, flat_map, Option, Some, None, Ok, refl, sym, ap, ◌∙◌, append-nil}
use Rattle.std.specs.Prelude.{is_some}
use Rattle.std.specs.List.{AllByRecursion}
use Rattle.zk_tree.specs.declared.expr.Expr.{Expr}
use Rattle.zk_tree.specs.declared.name.Name.{Name}
use Rattle.zk_tree.specs.declared.stmt.Block.{Block, out-Block}
use Rattle.zk_tree.specs.declared.stmt.Init.{Init}
use Rattle.zk_tree.specs.declared.stmt.Keys.{Keys}
use Rattle.zk_tree.specs.declared.stmt.Stmt.{Stmt, out-Stmt, roll-Stmt}
use Rattle.zk_tree.specs.declared.stmt.Stmt as tree
use Rattle.zk_tree.specs.declared.stmt.Stmt.TheViews.{roll-out-Stmt}
use Rattle.zk_tree.specs.declared.stmt.Stmt.TheOpen.{Stmt-F}
use Rattle.zk_tree.specs.declared.stmt.Stmt.TheOpen as stmt
use Rattle.zk_tree.specs.declared.types.Type.{«Type»}
use Rattle.zk_tree.specs.Opening.{trees}
use Rattle.zk_typed.specs.declared.rule.Rule.TheVariants as rule
use Rattle.zk_typed.specs.Checked.{Checked, ◌>>=◌, ◌>>◌, both, each, require, rules_of}
use Rattle.zk_typed.specs.Forms as form
use Rattle.zk_typed.specs.Resolving.{type_of}
use Rattle.zk_typed.specs.Statements as statements
use Rattle.zk_typed.specs.Statements.{Context, Locals, Judge, looping, env_of, check_in, place_of, init_typed, local_wants, local_value, local_stated, for_over, for_names, wanted_names, types_or_unknown, stmts_typed, block_typed, stmt_to, body_typed}
use Rattle.zk_typed.specs.Types.{ValueType}
use Rattle.zk_typed.specs.Typing.{Nothing, Wants, expr_place, local_meant}
use Rattle.zk_typed.specs.Predefined as type
use Rattle.zk_typed.specs.Within.{depth_max, maybe_one, mentions, stmt_locals, local_types}
use Rattle.zk_sound.proofs.Growth.{all_append}
use Rattle.zk_sound.proofs.Told.{Tells, right_told, tells_each, untold_both, untold_bind}

-- Statements by their parts --------------------------------------------------------------------------------------------

block_parts : (place : ℕ) (stmts : List Stmt) → stmt_locals (tree.Block (record { place = place; stmts = stmts })) ≡ flat_map stmt_locals stmts
unfolding trees
block_parts place [] = refl
block_parts place (one ∷ others) = ap (λ more. stmt_locals one ++ more) (block_parts place others)

in_if : (place : ℕ) (test : Expr) (met : Stmt) → stmt_locals (tree.If place test met) ≡ stmt_locals met
unfolding trees
in_if place test met = append-nil (stmt_locals met)

in_else : (place : ℕ) (test : Expr) (met otherwise : Stmt) → stmt_locals (tree.IfElse place test met otherwise) ≡ stmt_locals met ++ stmt_locals otherwise
unfolding trees
in_else place test met otherwise = rw (append-nil (stmt_locals met), append-nil (stmt_locals otherwise)) refl

in_while : (place : ℕ) (test : Expr) (body : Stmt) → stmt_locals (tree.While place test body) ≡ stmt_locals body
unfolding trees
in_while place test body = append-nil (stmt_locals body)

in_for : (place : ℕ) (keys : Keys) (value : Option Name) (over : Expr) (body : Stmt) → stmt_locals (tree.For place keys value over body) ≡ stmt_locals body
unfolding trees
in_for place keys value over body = append-nil (stmt_locals body)

-- a statement is what its form says
opened : (one made : Stmt) (form : Stmt-F Stmt Block) → out-Stmt one ≡ form → roll-Stmt form ≡ made → one ≡ made
opened one made form is rolled = sym (roll-out-Stmt one) ∙ (ap roll-Stmt is ∙ rolled)

-- the locals of a statement, by its form
abbrev locals_of : Stmt-F Stmt Block → List «Type»
locals_of (stmt.Block block) = flat_map stmt_locals (out-Block block).stmts
locals_of (stmt.If place test a) = stmt_locals a
locals_of (stmt.IfElse place test a b) = stmt_locals a ++ stmt_locals b
locals_of (stmt.While place test a) = stmt_locals a
locals_of (stmt.For place keys value over a) = stmt_locals a
locals_of (stmt.Local place name tree init) = maybe_one tree
locals_of other = []

locals_are : (one : Stmt) (form : Stmt-F Stmt Block) → out-Stmt one ≡ form → stmt_locals one ≡ locals_of form
unfolding trees roll-Stmt denote.Hole.Carrier.roll
locals_are one (stmt.Block block) is = let same : one ≡ tree.Block block = opened one (tree.Block block) (stmt.Block block) is refl in ap stmt_locals same ∙ block_parts block.place block.stmts
locals_are one (stmt.If place test a) is = let same : one ≡ tree.If place test a = opened one (tree.If place test a) (stmt.If place test a) is refl in ap stmt_locals same ∙ in_if place test a
locals_are one (stmt.IfElse place test a b) is = let same : one ≡ tree.IfElse place test a b = opened one (tree.IfElse place test a b) (stmt.IfElse place test a b) is refl in ap stmt_locals same ∙ in_else place test a b
locals_are one (stmt.While place test a) is = let same : one ≡ tree.While place test a = opened one (tree.While place test a) (stmt.While place test a) is refl in ap stmt_locals same ∙ in_while place test a
locals_are one (stmt.For place keys value over a) is = let same : one ≡ tree.For place keys value over a = opened one (tree.For place keys value over a) (stmt.For place keys value over a) is refl in ap stmt_locals same ∙ in_for place keys value over a
locals_are one form is = ap stmt_locals (sym (roll-out-Stmt one)) ∙ rw is refl

-- Types of locals ------------------------------------------------------------------------------------------------------

abbrev pub Known : Context → «Type» → Type 0
Known context t = (of : ValueType) × (type_of context.scripts context.home t ≡ Ok of)

abbrev AllTell : Context → Type 0
AllTell context = (t : «Type») → Tells (type_of context.scripts context.home t)

untold_after : {A B : Type 0} (m : Checked A) (next : Checked B) → Tells m → rules_of (m >> next) ≡ [] → rules_of next ≡ []
untold_after m next h e = let (a, is) = right_told m h (untold_bind m (λ a. next) e) in rw is at e

local_known : (context : Context) (locals : Locals) → AllTell context → (place : ℕ) (name : Name) (t : «Type») (init : Option Init) → rules_of (local_stated context locals place name (Some t) init).made ≡ [] → Known context t
local_known context locals tell place name t init e = by init e
  where
    seen : Name → Checked (Unit {0})
    seen name = require (not (is_some (local_meant name.text locals))) rule.WrongType (place_of context name.place)

    seen_tells : (name : Name) → Tells (seen name)
    seen_tells name = of_bool (not (is_some (local_meant name.text locals)))
      where
        of_bool : (b : Bool) → Tells (require b rule.WrongType (place_of context name.place))
        of_bool true = tt
        of_bool false = tt

    written : Checked ValueType
    written = each seen (mentions t) >> type_of context.scripts context.home t

    known : rules_of written ≡ [] → Known context t
    known e = right_told (type_of context.scripts context.home t) (tell t) (untold_after (each seen (mentions t)) (type_of context.scripts context.home t) (tells_each seen seen_tells (mentions t)) e)

    by : (init : Option Init) → rules_of (local_stated context locals place name (Some t) init).made ≡ [] → Known context t
    by None e = known (untold_bind written _ (untold_bind (written >>= _) _ e))
    by (Some init) e = known (untold_bind written _ (untold_both (written >> Ok tt) (init_typed (env_of context locals) (local_wants (Some written)) init) (untold_bind (both (written >> Ok tt) (init_typed (env_of context locals) (local_wants (Some written)) init)) _ (untold_bind (local_value context locals (place_of context place) (Some written) (Some init)) _ e))).0)

abbrev JudgedKnown : Judge → Type 0
JudgedKnown judge = (context : Context) (locals : Locals) (one : Stmt) → AllTell context → rules_of (judge context locals one).made ≡ [] → AllByRecursion (Known context) (stmt_locals one)

module _ (judge : Judge) (deep : JudgedKnown judge) (context : Context) (tell : AllTell context) where
  stmts_known : (locals : Locals) (list : List Stmt) → rules_of (stmts_typed judge context locals list).0 ≡ [] → AllByRecursion (Known context) (flat_map stmt_locals list)
  stmts_known locals [] e = tt
  stmts_known locals (one ∷ others) e =
      let first = judge context locals one in
      let more = stmts_typed judge context first.locals others in
      let parts = untold_both first.made more.0 (untold_bind (both first.made more.0) _ e) in
      all_append (Known context) (stmt_locals one) (flat_map stmt_locals others) (deep context locals one tell parts.0) (stmts_known first.locals others parts.1)

  pub block_known : (locals : Locals) (block : Block) → rules_of (block_typed judge context locals block).made ≡ [] → AllByRecursion (Known context) (flat_map stmt_locals (out-Block block).stmts)
  block_known locals block e = stmts_known locals (out-Block block).stmts (untold_bind (stmts_typed judge context locals (out-Block block).stmts).0 _ e)

stmt_known : (most : ℕ) → JudgedKnown (stmt_to most)
stmt_known zero context locals one tell e = absurd cc
stmt_known (suc most) context locals one tell e = by (out-Stmt one) refl (stmt_known most)
  where
    by : (f : Stmt-F Stmt Block) → out-Stmt one ≡ f → JudgedKnown (stmt_to most) → AllByRecursion (Known context) (stmt_locals one)
    by (stmt.Block block) is deep = rw (locals_are one (stmt.Block block) is) (block_known (stmt_to most) deep context tell locals block (rw is at e))
    by (stmt.If place test a) is deep =
        let condition = check_in context locals (Wants type.bool) test in
        let first = stmt_to most context locals a in
        let told : rules_of (both condition (both first.made (Ok statements.no_stmt)) >>= (λ parts. Ok (form.If (place_of context place) parts.0.expr parts.1.0 parts.1.1))) ≡ [] = rw is at e in
        let parts = untold_both condition (both first.made (Ok statements.no_stmt)) (untold_bind (both condition (both first.made (Ok statements.no_stmt))) _ told) in
        rw (locals_are one (stmt.If place test a) is) (deep context locals a tell (untold_both first.made (Ok statements.no_stmt) parts.1).0)
    by (stmt.IfElse place test a b) is deep =
        let condition = check_in context locals (Wants type.bool) test in
        let first = stmt_to most context locals a in
        let second = stmt_to most context first.locals b in
        let told : rules_of (both condition (both first.made second.made) >>= (λ parts. Ok (form.If (place_of context place) parts.0.expr parts.1.0 parts.1.1))) ≡ [] = rw is at e in
        let parts = untold_both condition (both first.made second.made) (untold_bind (both condition (both first.made second.made)) _ told) in
        let two = untold_both first.made second.made parts.1 in
        rw (locals_are one (stmt.IfElse place test a b) is) (all_append (Known context) (stmt_locals a) (stmt_locals b) (deep context locals a tell two.0) (deep context first.locals b tell two.1))
    by (stmt.While place test a) is deep =
        let condition = check_in context locals (Wants type.bool) test in
        let inner = stmt_to most (looping context) locals a in
        let told : rules_of (both condition inner.made >>= (λ parts. Ok (form.While (place_of context place) parts.0.expr parts.1))) ≡ [] = rw is at e in
        let parts = untold_both condition inner.made (untold_bind (both condition inner.made) _ told) in
        rw (locals_are one (stmt.While place test a) is) (deep (looping context) locals a tell parts.1)
    by (stmt.For place keys value over a) is deep =
        let over_one = check_in context locals Nothing over in
        let types = over_one >>= for_over context place (expr_place (env_of context locals) over) keys value in
        let names = for_names context locals (wanted_names keys value) (types_or_unknown (wanted_names keys value) types) in
        let inner = stmt_to most (looping context) names.1 a in
        let told = untold_bind (both (both over_one types) (both names.0 inner.made)) _ (rw is at e) in
        let parts = untold_both (both over_one types) (both names.0 inner.made) told in
        rw (locals_are one (stmt.For place keys value over a) is) (deep (looping context) names.1 a tell (untold_both names.0 inner.made parts.1).1)
    by (stmt.Local place name None init) is deep = rw (locals_are one (stmt.Local place name None init) is) tt
    by (stmt.Local place name (Some t) init) is deep = rw (locals_are one (stmt.Local place name (Some t) init) is) (local_known context locals tell place name t init (rw is at e), tt)
    by f is deep = rw (locals_are one f is) tt

-- the types of the locals of a body are known
pub body_known : (context : Context) (locals : Locals) (block : Block) → AllTell context → rules_of (body_typed context locals block).made ≡ [] → AllByRecursion (Known context) (local_types block)
unfolding depth_max
body_known context locals block tell e = block_known (stmt_to depth_max) (stmt_known depth_max) context tell locals block e
