-- An expression by its form.
use Rattle.std.proofs.Common.{◌≡◌, ℕ, suc, ◌-◌, ◌<◌, List, Result, Err, refl, sym, ap, ◌∙◌, subst, arith}
use Rattle.zk_tree.specs.declared.expr.Expr.{Expr, out-Expr}
use Rattle.zk_tree.specs.declared.expr.Expr.TheOpen.{Expr-F}
use Rattle.zk_tree.specs.declared.expr.Expr.TheOpen as written
use Rattle.zk_tree.specs.declared.expr.Item.{Item}
use Rattle.zk_tree.specs.declared.expr.Link.{Link}
use Rattle.zk_tree.specs.declared.expr.Part.{Part}
use Rattle.zk_tree.specs.declared.operator.Container.{Container}
use Rattle.zk_tree.specs.declared.place.Place.{Place}
use Rattle.zk_typed.specs.Expressions.{expr_to}
use Rattle.zk_typed.specs.declared.refusal.Refusal.{Refusal}
use Rattle.zk_typed.specs.Checked.{Checked}
use Rattle.zk_typed.specs.Making.{braces_typed, brackets_typed, container_typed, members_in}
use Rattle.zk_typed.specs.Tells.{Tells}
use Rattle.zk_typed.specs.Typing.{Typed, Env, Check, Wanted, at}
use Rattle.zk_check_operators.specs.declared.operands.Typed.{Typed as RustTyped}
use Rattle.zk_check_operators.specs.Views.{typed_of}
use Rattle.zk_check_expressions.specs.Values.{by_form}

-- an expression by whether it hands inward what is wanted
pub form_is : (depth : ℕ) (env : Env) (wanted : Wanted) (one : Expr) → expr_to (suc depth) env wanted one ≡ by_form (expr_to depth env) env wanted one (out-Expr one)
form_is depth env wanted one = elim (out-Expr one) [
  | written.Assign a operator b ↦ refl
  | written.Choice test a b ↦ refl
  | written.Chain level first links ↦ refl
  | written.Compare a operator b ↦ refl
  | written.Unary place operator operand ↦ refl
  | written.Post first parts ↦ refl
  | written.Number place number ↦ refl
  | written.Interval place number unit plural ↦ refl
  | written.Literal place literal ↦ refl
  | written.Truth place truth ↦ refl
  | written.Name name ↦ refl
  | written.Parenthesis place inner ↦ refl
  | written.Size place inner ↦ refl
  | written.List place items ↦ refl
  | written.Make place container items ↦ refl
  | written.Hook place name items ↦ refl
]

-- an expression that is as deep as a number which isn't 0
pub one_less : (depth : ℕ) (env : Env) (wanted : Wanted) (one : Expr) → 0 < depth → expr_to depth env wanted one ≡ expr_to (suc (depth - 1)) env wanted one
one_less depth env wanted one above = let deep : depth ≡ suc (depth - 1) = omega (arith, above) in ap (λ deep. expr_to deep env wanted one) deep

-- an expression that is as deep as 0
pub too_deep_is : (depth : ℕ) (env : Env) (wanted : Wanted) (one : Expr) (refusal : Refusal) → depth ≡ 0 →
    Tells typed_of (Err refusal) (expr_to 0 env wanted one) → Tells typed_of (Err refusal) (expr_to depth env wanted one)
too_deep_is depth env wanted one refusal none told = subst (λ (x : ℕ). Tells typed_of (Err refusal) (expr_to x env wanted one)) (sym none) told

-- items in brackets
pub list_told : (depth : ℕ) (env : Env) (wanted : Wanted) (one : Expr) (place : ℕ) (items slice : List Item) (spot : Place) (answer : Result RustTyped Refusal) →
    out-Expr one ≡ written.List place items → spot ≡ at env place → slice ≡ items →
    Tells typed_of answer (brackets_typed (expr_to depth env) env spot slice wanted) → Tells typed_of answer (expr_to (suc depth) env wanted one)
list_told depth env wanted one place items slice spot answer form same_spot same_items told =
    let whole : brackets_typed (expr_to depth env) env spot slice wanted ≡ expr_to (suc depth) env wanted one =
    ap (λ (x : Place). brackets_typed (expr_to depth env) env x slice wanted) same_spot
    ∙ ap (λ (x : List Item). brackets_typed (expr_to depth env) env (at env place) x wanted) same_items
    ∙ ap (λ (x : Expr-F Expr Item Part Link). by_form (expr_to depth env) env wanted one x) (sym form)
    ∙ sym (form_is depth env wanted one) in
    subst (λ (x : Checked Typed). Tells typed_of answer x) whole told

-- a container
pub made_told : (depth : ℕ) (env : Env) (wanted : Wanted) (one : Expr) (place : ℕ) (made : Container) (items slice : List Item) (spot : Place) (answer : Result RustTyped Refusal) →
    out-Expr one ≡ written.Make place made items → spot ≡ at env place → slice ≡ items →
    Tells typed_of answer (container_typed (expr_to depth env) env spot made (members_in (expr_to depth env) env slice) wanted) → Tells typed_of answer (expr_to (suc depth) env wanted one)
made_told depth env wanted one place made items slice spot answer form same_spot same_items told =
    let whole : container_typed (expr_to depth env) env spot made (members_in (expr_to depth env) env slice) wanted ≡ expr_to (suc depth) env wanted one =
    ap (λ (x : Place). container_typed (expr_to depth env) env x made (members_in (expr_to depth env) env slice) wanted) same_spot
    ∙ ap (λ (x : List Item). container_typed (expr_to depth env) env (at env place) made (members_in (expr_to depth env) env x) wanted) same_items
    ∙ ap (λ (x : Expr-F Expr Item Part Link). by_form (expr_to depth env) env wanted one x) (sym form)
    ∙ sym (form_is depth env wanted one) in
    subst (λ (x : Checked Typed). Tells typed_of answer x) whole told

-- values in braces
pub braces_told : (check : Check) (env : Env) (wanted : Wanted) (place : ℕ) (values slice : List Expr) (spot : Place) (answer : Result RustTyped Refusal) →
    spot ≡ at env place → slice ≡ values → Tells typed_of answer (braces_typed check env spot slice wanted) → Tells typed_of answer (braces_typed check env (at env place) values wanted)
braces_told check env wanted place values slice spot answer same_spot same_values told =
    let whole : braces_typed check env spot slice wanted ≡ braces_typed check env (at env place) values wanted =
    ap (λ (x : Place). braces_typed check env x slice wanted) same_spot ∙ ap (λ (x : List Expr). braces_typed check env (at env place) x wanted) same_values in
    subst (λ (x : Checked Typed). Tells typed_of answer x) whole told
