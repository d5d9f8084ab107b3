use Rattle.std.proofs.Common.{◌≡◌, List, ◌++◌, Bor, flat_map, ap, sym, ◌∙◌, append_assoc}
use Rattle.zk_tree.specs.declared.types.Type.{«Type»}
use Rattle.zk_typed.specs.Within.{stmt_locals}
use Rattle.zk_scope.specs.Lent.{types_lent}
use Rattle.zk_scope.proofs.StmtLaws.{locals_of_block, locals_of_if, locals_of_else, locals_of_while, locals_of_for}
use Rattle.zk_scope.proofs.types.+locals.Goals as goal

-- what was added is what the statement has
same_parts : (old new : List (Bor «Type»)) (a b : List «Type») → types_lent new ≡ types_lent old ++ a → a ≡ b → types_lent new ≡ types_lent old ++ b
same_parts old new a b p e = p ∙ ap (λ x. types_lent old ++ x) e

twice : (old between new : List (Bor «Type»)) (a b c : List «Type») →
    types_lent between ≡ types_lent old ++ a → types_lent new ≡ types_lent between ++ b → a ++ b ≡ c → types_lent new ≡ types_lent old ++ c
twice old between new a b c p q e = q ∙ ap (λ x. x ++ b) p ∙ append_assoc (types_lent old) a b ∙ ap (λ x. types_lent old ++ x) e

pub stmt_locals-returns-in_ok-stmts_locals-in-Block : goal.stmt_locals-returns-in_ok-stmts_locals-in-Block
stmt_locals-returns-in_ok-stmts_locals-in-Block t c =
    same_parts _ _ _ _ c.in_ok-stmts_locals-in-Block.ensures (ap (flat_map stmt_locals) c.as_slice.ensures ∙ sym (locals_of_block c.in-Block.block) ∙ ap stmt_locals (sym c.in-Block.is))

pub stmt_locals-returns-in_ok-stmt_locals-in-If : goal.stmt_locals-returns-in_ok-stmt_locals-in-If
stmt_locals-returns-in_ok-stmt_locals-in-If t c =
    same_parts _ _ _ _ c.in_ok-stmt_locals-in-If.ensures (ap stmt_locals c.get.ensures ∙ sym (locals_of_if c.in-If.place c.in-If.test _) ∙ ap stmt_locals (sym c.in-If.is))

pub stmt_locals-returns-in_ok-stmt_locals-in-While : goal.stmt_locals-returns-in_ok-stmt_locals-in-While
stmt_locals-returns-in_ok-stmt_locals-in-While t c =
    same_parts _ _ _ _ c.in_ok-stmt_locals-in-While.ensures (ap stmt_locals c.get-in-While.ensures ∙ sym (locals_of_while c.in-While.place c.in-While.test _) ∙ ap stmt_locals (sym c.in-While.is))

pub stmt_locals-returns-in_ok-stmt_locals-in-For : goal.stmt_locals-returns-in_ok-stmt_locals-in-For
stmt_locals-returns-in_ok-stmt_locals-in-For t c =
    same_parts _ _ _ _ c.in_ok-stmt_locals-in-For.ensures (ap stmt_locals c.get-in-For.ensures ∙ sym (locals_of_for c.in-For.place c.in-For.keys c.in-For.value c.in-For.over _) ∙ ap stmt_locals (sym c.in-For.is))

pub stmt_locals-returns-in_ok-stmt_locals-in-IfElse-2 : goal.stmt_locals-returns-in_ok-stmt_locals-in-IfElse-2
stmt_locals-returns-in_ok-stmt_locals-in-IfElse-2 t c =
    twice _ _ _ _ _ _ c.in_ok-stmt_locals-in-IfElse.ensures c.in_ok-stmt_locals-in-IfElse-2.ensures
    (ap (λ x. stmt_locals x ++ stmt_locals c.get-in-IfElse-2.result.now) c.get-in-IfElse.ensures ∙ ap (λ x. stmt_locals c.in-IfElse.yes ++ stmt_locals x) c.get-in-IfElse-2.ensures ∙
    sym (locals_of_else c.in-IfElse.place c.in-IfElse.test c.in-IfElse.yes c.in-IfElse.no) ∙ ap stmt_locals (sym c.in-IfElse.is))
