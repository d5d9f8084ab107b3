-- Assignments and elements, by their parts.
use Rattle.std.proofs.lemmas.Grind.{common_steps}
use Rattle.std.proofs.Common.{◌≡◌, ◌≢◌, ◌+◌, length, arith, ℕ, Bool, true, false, List, [], ◌∷◌, ◌++◌, Option, Some, None, Result, Ok, Err, refl, sym, ap, ◌∙◌, subst}
use Rattle.zk_tree.specs.declared.expr.Expr.{Expr}
use Rattle.zk_tree.specs.declared.expr.Expr.TheVariants as tree
use Rattle.zk_tree.specs.declared.expr.Expr.TheVariants.{outs-Post}
use Rattle.zk_tree.specs.declared.expr.Item.{Item}
use Rattle.zk_tree.specs.declared.expr.Part.{Part}
use Rattle.zk_tree.specs.declared.expr.Part.TheVariants as part
use Rattle.zk_tree.specs.declared.expr.Part.TheVariants.{outs-Field, outs-HasField, outs-Index, outs-Call}
use Rattle.zk_tree.specs.declared.name.Name.{Name}
use Rattle.zk_tree.specs.declared.operator.Assigning.{Assigning}
use Rattle.zk_tree.specs.declared.operator.Assigning.TheVariants as assigning
use Rattle.zk_tree.specs.declared.place.Place.{Place}
use Rattle.zk_typed.specs.declared.script.action.Left.{Left}
use Rattle.zk_typed.specs.declared.script.action.Left.TheVariants as left
use Rattle.zk_typed.specs.declared.script.primitive.FieldNo.{FieldNo}
use Rattle.zk_typed.specs.declared.script.expr.Expr.{Expr as RustExpr}
use Rattle.zk_typed.specs.View.{all_of, expr_of, stmt_of}
use Rattle.zk_typed.specs.Checked.{Checked, ◌>>=◌, ◌>>◌}
use Rattle.zk_typed.specs.Expressions.{Side, assignable}
use Rattle.zk_typed.specs.Forms as form
use Rattle.zk_typed.specs.Making.{is_wire, wire_read}
use Rattle.zk_typed.specs.Statements.{assigned, expr_stmt, indexed}
use Rattle.zk_typed.specs.Tells.{Tells}
use Rattle.zk_typed.specs.declared.refusal.Refusal.{Refusal}
use Rattle.zk_typed.specs.declared.script.stmt.Stmt.{Stmt as RustStmt}
use Rattle.zk_typed.specs.Types.{ValueType}
use Rattle.zk_typed.specs.Typing.{Check, Env, Typed, Wants, expr_place}
use Rattle.zk_check_statements.specs.Acting.{post_stmt}
use Rattle.zk_check_statements.specs.Assigning.{assigned_to, by_operator, plainly_to, set_of}

-- Assignments ------------------------------------------------------------------------------------------------------

-- a field
field_assigned : (env : Env) (place : Place) (field : FieldNo) (to : form.Expr) (type : ValueType) (fixed expires : Bool) (one : Typed) (wire : Bool) (read : Option (form.Expr × FieldNo)) →
    is_wire env field ≡ wire → wire_read env one.expr ≡ read →
    assigned env place (record { left = left.Field field; operands = form.AndExpr to form.NoExpr; type = type; fixed = fixed; expires = expires }) one ≡ assigned_to env place (left.Field field) (form.AndExpr to form.NoExpr) one.expr
field_assigned env place field to type fixed expires one true None wire read = rw read (rw wire refl)
field_assigned env place field to type fixed expires one true (Some found) wire read = rw read (rw wire refl)
field_assigned env place field to type fixed expires one false None wire read = rw read (rw wire refl)
field_assigned env place field to type fixed expires one false (Some found) wire read = rw read (rw wire refl)

assigned_side : (env : Env) (place : Place) (side : Left) (operands : form.Exprs) (type : ValueType) (fixed expires : Bool) (one : Typed) →
    assigned env place (record { left = side; operands = operands; type = type; fixed = fixed; expires = expires }) one ≡ assigned_to env place side operands one.expr
assigned_side env place (left.Field field) (form.AndExpr to form.NoExpr) type fixed expires one =
    field_assigned env place field to type fixed expires one (is_wire env field) (wire_read env one.expr) refl refl
assigned_side env place (left.Field field) (form.AndExpr to (form.AndExpr second others)) type fixed expires one = refl
assigned_side env place (left.Field field) form.NoExpr type fixed expires one = refl
assigned_side env place (left.Local number) operands type fixed expires one = refl
assigned_side env place (left.Global number) operands type fixed expires one = refl
assigned_side env place left.Element operands type fixed expires one = refl
assigned_side env place left.Item operands type fixed expires one = refl

pub assigned_is : (env : Env) (place : Place) (side : Side) (one : Typed) → assigned env place side one ≡ assigned_to env place side.left side.operands one.expr
assigned_is env place side one = assigned_side env place side.left side.operands side.type side.fixed side.expires one

set_with : (env : Env) (place : Place) (side : Side) (given : Checked Typed) →
    (given >>= (λ one. assignable place side >> Ok (assigned_to env place side.left side.operands one.expr))) ≡ (given >>= (λ one. assignable place side >> Ok (assigned env place side one)))
set_with env place side (Ok one) = ap (λ stmt. assignable place side >> Ok stmt) (sym (assigned_is env place side one))
set_with env place side (Err rules) = refl

pub set_is : (check : Check) (env : Env) (place left_place : Place) (right : Expr) (side : Side) → set_of check env place right side ≡ by_operator check env place left_place right assigning.Set side
set_is check env place left_place right side = set_with env place side (check (Wants side.type) right)

-- operands other than one
pub not_one : (env : Env) (place : Place) (field : FieldNo) (operands : List RustExpr) (value : form.Expr) → length operands ≢ 1 →
    plainly_to place (left.Field field) (all_of operands) value ≡ assigned_to env place (left.Field field) (all_of operands) value
not_one env place field [] value other = refl
not_one env place field (one ∷ []) value other = absurd (other refl)
not_one env place field (one ∷ second ∷ operands) value other = refl

-- one operand, with none before it
pub alone : (front : List RustExpr) (last : RustExpr) → length (front ++ last ∷ []) ≡ 1 → all_of (front ++ last ∷ []) ≡ form.AndExpr (expr_of last) form.NoExpr
alone [] last one = refl
alone (first ∷ front) last one = let more : length (front ++ last ∷ []) ≡ length front + 1 = grind (arith, common_steps) in absurd (omega arith)

-- Elements ---------------------------------------------------------------------------------------------------------

-- a part in front of those that were found
abbrev pub in_front : Part → Option (List Part × List Expr) → Option (List Part × List Expr)
in_front first None = None
in_front first (Some found) = Some (first ∷ found.0, found.1)

behind_first : (first : Part) (front : List Part) (last : Part) → indexed (first ∷ (front ++ last ∷ [])) ≡ in_front first (indexed (front ++ last ∷ []))
behind_first first [] last = refl
behind_first first (second ∷ front) last = refl

pub index_found : (front : List Part) (keys : List Expr) → indexed (front ++ part.Index keys ∷ []) ≡ Some (front, keys)
index_found [] keys = rw outs-Index refl
index_found (first ∷ front) keys = behind_first first front (part.Index keys) ∙ ap (in_front first) (index_found front keys)

pub field_found : (front : List Part) (name : Name) → indexed (front ++ part.Field name ∷ []) ≡ None
field_found [] name = rw outs-Field refl
field_found (first ∷ front) name = behind_first first front (part.Field name) ∙ ap (in_front first) (field_found front name)

pub test_found : (front : List Part) (name : Name) → indexed (front ++ part.HasField name ∷ []) ≡ None
test_found [] name = rw outs-HasField refl
test_found (first ∷ front) name = behind_first first front (part.HasField name) ∙ ap (in_front first) (test_found front name)

pub call_found : (front : List Part) (items : List Item) → indexed (front ++ part.Call items ∷ []) ≡ None
call_found [] items = rw outs-Call refl
call_found (first ∷ front) items = behind_first first front (part.Call items) ∙ ap (in_front first) (call_found front items)

-- Calls ------------------------------------------------------------------------------------------------------------

post_form : (check : Check) (env : Env) (first : Expr) (parts : List Part) →
    post_stmt check env (expr_place env (tree.Post first parts)) first parts (tree.Post first parts) ≡ expr_stmt check env (tree.Post first parts)
post_form check env first parts = rw outs-Post refl

pub post_is : (given : Result RustStmt Refusal) (check : Check) (env : Env) (place : Place) (first lent : Expr) (parts lent_parts : List Part) (one : Expr) →
    one ≡ tree.Post first parts → place ≡ expr_place env one → lent ≡ first → lent_parts ≡ parts →
    Tells stmt_of given (post_stmt check env place lent lent_parts one) → Tells stmt_of given (expr_stmt check env one)
post_is given check env place first lent parts lent_parts one is here same same_parts tells =
    let P : Checked form.Stmt → Type 0 = λ wanted. Tells stmt_of given wanted in
    let at : Expr → Checked form.Stmt = λ whole. post_stmt check env (expr_place env whole) first parts whole in
    subst P (ap (λ spot. post_stmt check env spot lent lent_parts one) here ∙ ap (λ front. post_stmt check env (expr_place env one) front lent_parts one) same
    ∙ ap (λ behind. post_stmt check env (expr_place env one) first behind one) same_parts ∙ ap at is ∙ post_form check env first parts ∙ ap (expr_stmt check env) (sym is)) tells
