-- The code of statements, as it is put together.
use Rattle.std.proofs.Common.{rules, ◌≡◌, ℕ, ◌+◌, ◌-◌, ◌≤◌, List, [], ◌∷◌, ◌++◌, length, sym, ap, ◌∙◌, arith, append_assoc, length-append}
use Rattle.zk_tree.specs.declared.place.Place.{Place}
use Rattle.zk_typed.specs.declared.script.action.Action.{Action}
use Rattle.zk_typed.specs.declared.script.expr.Expr as declared
use Rattle.zk_typed.specs.declared.script.primitive.FieldNo.{FieldNo}
use Rattle.zk_typed.specs.declared.script.stmt.Stmt as stmt
use Rattle.zk_typed.specs.declared.script.stmt.Stmt.{fold-roll-Stmt}
use Rattle.zk_typed.specs.declared.script.stmt.Stmt.TheVariants.{rolls-Do, rolls-Call, rolls-Move, rolls-If}
use Rattle.zk_typed.specs.Forms.{Stmt}
use Rattle.zk_typed.specs.Forms as form
use Rattle.zk_typed.specs.View.{expr_of, all_of, stmt_of}
use Rattle.zk_lower.specs.Code.{Op}
use Rattle.zk_lower.specs.Code as op
use Rattle.zk_lower.specs.declared.ways.Ways.{Ways}
use Rattle.zk_lower.specs.Lowering.{expr_code, exprs_code, Exits, further, choice, if_code, stmt_code}
use Rattle.zk_lower.specs.View.{exits_at}
use Rattle.zk_lower.proofs.Emission.{count_all}
use Rattle.zk_lower.proofs.Seams.{before_one}

-- Statements with operands -----------------------------------------------------------------------------------------

of_do : (place : Place) (action : Action) (operands : List declared.Expr) → stmt_of (stmt.Do place action operands) ≡ form.Do place action (all_of operands)
of_do place action operands = ap stmt_of (sym (rolls-Do place action operands)) ∙ search (rules, fold-roll-Stmt)

of_call : (place : Place) (function : ℕ) (operands : List declared.Expr) → stmt_of (stmt.Call place function operands) ≡ form.Perform place function (all_of operands)
of_call place function operands = ap stmt_of (sym (rolls-Call place function operands)) ∙ search (rules, fold-roll-Stmt)

of_move : (place : Place) (to : declared.Expr) (field : FieldNo) («from» : declared.Expr) (read : FieldNo) → stmt_of (stmt.Move place to field «from» read) ≡ form.Move place (expr_of to) field (expr_of «from») read
of_move place to field «from» read = ap stmt_of (sym (rolls-Move place to field «from» read)) ∙ search (rules, fold-roll-Stmt)

of_if : (place : Place) (test : declared.Expr) (met otherwise : stmt.Stmt) → stmt_of (stmt.If place test met otherwise) ≡ form.If place (expr_of test) (stmt_of met) (stmt_of otherwise)
of_if place test met otherwise = ap stmt_of (sym (rolls-If place test met otherwise)) ∙ search (rules, fold-roll-Stmt)

pub do_code : (exits : Exits) (place : Place) (action : Action) (operands : List declared.Expr) (n : ℕ) → n ≡ length operands
    → stmt_code exits (stmt_of (stmt.Do place action operands)) ≡ op.Tick place ∷ (exprs_code place (all_of operands) ++ op.Do place action n ∷ [])
do_code exits place action operands n e = ap (stmt_code exits) (of_do place action operands) ∙
    ap (λ k. op.Tick place ∷ (exprs_code place (all_of operands) ++ op.Do place action k ∷ [])) (count_all operands ∙ sym e)

pub call_code : (exits : Exits) (place : Place) (function : ℕ) (operands : List declared.Expr) (n : ℕ) → n ≡ length operands
    → stmt_code exits (stmt_of (stmt.Call place function operands)) ≡ op.Tick place ∷ (exprs_code place (all_of operands) ++ op.Perform place function n ∷ [])
call_code exits place function operands n e = ap (stmt_code exits) (of_call place function operands) ∙
    ap (λ k. op.Tick place ∷ (exprs_code place (all_of operands) ++ op.Perform place function k ∷ [])) (count_all operands ∙ sym e)

-- two values, and operations between and behind them
pub two_joined : (a b old : List Op) (x y z : Op) → x ∷ (a ++ y ∷ (b ++ z ∷ old)) ≡ (x ∷ (a ++ y ∷ (b ++ z ∷ []))) ++ old
two_joined a b old x y z = ap (λ list. x ∷ list) (ap (λ list. a ++ y ∷ list) (before_one b z old) ∙ sym (append_assoc a (y ∷ (b ++ z ∷ [])) old))

pub move_code : (exits : Exits) (place : Place) (to : declared.Expr) (field : FieldNo) («from» : declared.Expr) (read : FieldNo) → stmt_code exits (stmt_of (stmt.Move place to field «from» read)) ≡ stmt_code exits (form.Move place (expr_of to) field (expr_of «from») read)
move_code exits place to field «from» read = ap (stmt_code exits) (of_move place to field «from» read)

-- Branches ---------------------------------------------------------------------------------------------------------

if_code_of : (exits : Exits) (place : Place) (test : declared.Expr) (met otherwise : stmt.Stmt) → stmt_code exits (stmt_of (stmt.If place test met otherwise)) ≡ stmt_code exits (form.If place (expr_of test) (stmt_of met) (stmt_of otherwise))
if_code_of exits place test met otherwise = ap (stmt_code exits) (of_if place test met otherwise)

if_joined : (place : Place) (test met o old behind jumped all new : List Op) → behind ≡ o ++ old → jumped ≡ op.Jump (length behind - length old) ∷ behind → all ≡ met ++ jumped
    → new ≡ op.Tick place ∷ (test ++ op.Unless place (length all - length behind) ∷ all) → new ≡ if_code place test met o ++ old
if_joined place test met o old behind jumped all new b j a n =
    let size : length behind ≡ length o + length old = ap length b ∙ length-append o old in
    let skip : length behind - length old ≡ length o = omega (arith, size) in
    let whole : all ≡ met ++ op.Jump (length o) ∷ (o ++ old) = a ∙ ap (λ list. met ++ list) (j ∙ (ap (λ k. op.Jump k ∷ behind) skip ∙ ap (λ list. op.Jump (length o) ∷ list) b)) in
    let long : length all ≡ length met + (length o + length old + 1) = ap length whole ∙ omega (arith, length-append met (op.Jump (length o) ∷ (o ++ old)), length-append o old) in
    let over : length all - length behind ≡ length met + 1 = omega (arith, long, size) in
    n ∙ (ap (λ k. op.Tick place ∷ (test ++ op.Unless place k ∷ all)) over ∙
    (ap (λ list. op.Tick place ∷ (test ++ op.Unless place (length met + 1) ∷ list)) (whole ∙ sym (append_assoc met (op.Jump (length o) ∷ o) old)) ∙
    ap (λ list. op.Tick place ∷ list) (sym (append_assoc test (choice place met o) old))))

abbrev exits : ℕ → ℕ → Exits
exits a b = record { «break» = a; next = b }

same_exits : {a b c d : ℕ} → a ≡ b → c ≡ d → exits a c ≡ exits b d
same_exits {b = b} {c = c} p q = ap (λ x. exits x c) p ∙ ap (λ y. exits b y) q

-- what is further from where `break` and `next` lead
further_exits : (ways : Ways) (size more all : ℕ) → ways.break_at ≤ size → ways.next_at ≤ size → all ≡ more + size → exits_at ways all ≡ further more (exits_at ways size)
further_exits ways size more all b n e =
    let first : all - ways.break_at ≡ more + (size - ways.break_at) = omega (arith, b, e) in
    let second : all - ways.next_at ≡ more + (size - ways.next_at) = omega (arith, n, e) in
    same_exits first second

pub if_put : (ways : Ways) (place : Place) (test : declared.Expr) (one met otherwise yes_now no_now : stmt.Stmt) (old behind jumped all new : List Op) (end other : ℕ) → one ≡ stmt.If place test met otherwise → no_now ≡ otherwise → yes_now ≡ met
    → end ≡ length old → other ≡ length behind
    → (ways.break_at ≤ length old → ways.next_at ≤ length old → behind ≡ stmt_code (exits_at ways (length old)) (stmt_of no_now) ++ old)
    → jumped ≡ op.Jump (length behind - end) ∷ behind
    → (ways.break_at ≤ length jumped → ways.next_at ≤ length jumped → all ≡ stmt_code (exits_at ways (length jumped)) (stmt_of yes_now) ++ jumped)
    → new ≡ op.Tick place ∷ (expr_code place (expr_of test) ++ op.Unless place (length all - other) ∷ all)
    → ways.break_at ≤ length old → ways.next_at ≤ length old → new ≡ stmt_code (exits_at ways (length old)) (stmt_of one) ++ old
if_put ways place test one met otherwise yes_now no_now old behind jumped all new end other is of_no of_yes at_end at_other put_no jump put_yes put_test b n =
    let here : Exits = exits_at ways (length old) in
    let o : List Op = stmt_code here (stmt_of otherwise) in
    let m : List Op = stmt_code (further (length o + 1) here) (stmt_of met) in
    let first : behind ≡ o ++ old = put_no b n ∙ ap (λ s. stmt_code here (stmt_of s) ++ old) of_no in
    let size : length behind ≡ length o + length old = ap length first ∙ length-append o old in
    let second : jumped ≡ op.Jump (length behind - length old) ∷ behind = jump ∙ ap (λ k. op.Jump (length behind - k) ∷ behind) at_end in
    let long : length jumped ≡ length o + 1 + length old = ap length second ∙ omega (arith, size) in
    let far : exits_at ways (length jumped) ≡ further (length o + 1) here = further_exits ways (length old) (length o + 1) (length jumped) b n long in
    let third : all ≡ m ++ jumped = put_yes (omega (arith, b, long)) (omega (arith, n, long)) ∙ (ap (λ e. stmt_code e (stmt_of yes_now) ++ jumped) far ∙ ap (λ s. stmt_code (further (length o + 1) here) (stmt_of s) ++ jumped) of_yes) in
    let last : new ≡ op.Tick place ∷ (expr_code place (expr_of test) ++ op.Unless place (length all - length behind) ∷ all) =
    put_test ∙ ap (λ k. op.Tick place ∷ (expr_code place (expr_of test) ++ op.Unless place (length all - k) ∷ all)) at_other in
    if_joined place (expr_code place (expr_of test)) m o old behind jumped all new first second third last ∙
    ap (λ list. list ++ old) (sym (ap (λ s. stmt_code here (stmt_of s)) is ∙ if_code_of here place test met otherwise))
