use Rattle.std.proofs.Common.{rules, ◌≡◌, List, [], ◌∷◌, ◌++◌, Some, sym, ap, ◌∙◌}
use Rattle.zk_tree.specs.declared.expr.Expr.{Expr}
use Rattle.zk_tree.specs.declared.expr.Part.{Part}
use Rattle.zk_typed.specs.Statements as spec
use Rattle.zk_check_statements.proofs.Acts.{index_found, field_found, test_found, call_found}
use Rattle.zk_check_statements.proofs.elements.indexed.Goals as goal

pub returns-in-Index : goal.returns-in-Index
returns-in-Index c =
    let front : List Part = c.in_ok-last.front.now in
    let whole : c.args.parts.now ≡ front ++ c.in_ok-last.last.now ∷ [] = search rules in
    ap (λ (keys : List Expr). Some (front, keys)) c.as_slice.ensures
    ∙ sym (ap spec.indexed (whole ∙ ap (λ (one : Part). front ++ one ∷ []) c.in-Index.is) ∙ index_found front c.in-Index.keys)

pub returns-in-Field : goal.returns-in-Field
returns-in-Field c =
    let front : List Part = c.in_ok-last.front.now in
    let whole : c.args.parts.now ≡ front ++ c.in_ok-last.last.now ∷ [] = search rules in
    sym (ap spec.indexed (whole ∙ ap (λ (one : Part). front ++ one ∷ []) c.in-Field.is) ∙ field_found front _)

pub returns-in-HasField : goal.returns-in-HasField
returns-in-HasField c =
    let front : List Part = c.in_ok-last.front.now in
    let whole : c.args.parts.now ≡ front ++ c.in_ok-last.last.now ∷ [] = search rules in
    sym (ap spec.indexed (whole ∙ ap (λ (one : Part). front ++ one ∷ []) c.in-HasField.is) ∙ test_found front _)

pub returns-in-Call : goal.returns-in-Call
returns-in-Call c =
    let front : List Part = c.in_ok-last.front.now in
    let whole : c.args.parts.now ≡ front ++ c.in_ok-last.last.now ∷ [] = search rules in
    sym (ap spec.indexed (whole ∙ ap (λ (one : Part). front ++ one ∷ []) c.in-Call.is) ∙ call_found front _)
