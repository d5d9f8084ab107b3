use Rattle.std.proofs.Common.{◌≡◌, ◌-◌, suc, List, ◌++◌, ap, sym, ◌∙◌, append_assoc, append-nil, arith}
use Rattle.zk_typed.specs.LogCalls.{Call}
use Rattle.zk_scope.specs.Calls.{calls_lent, part_calls}
use Rattle.zk_scope.specs.Lent.{home_of}
use Rattle.zk_scope.proofs.CallLaws.{post_whole, in_field, in_test}
use Rattle.zk_scope.proofs.calls.+calling.Goals as goal

-- three runs are one
thrice : (old first second new a b c whole : List Call) → first ≡ old ++ a → second ≡ first ++ b → new ≡ second ++ c → whole ≡ (a ++ b) ++ c → new ≡ old ++ whole
thrice old first second new a b c whole p q r w =
    r ∙ ap (λ x. x ++ c) (q ∙ ap (λ x. x ++ b) p ∙ append_assoc old a b) ∙ append_assoc old (a ++ b) c ∙ ap (λ x. old ++ x) (sym w)

pub add_expr_calls-returns-in_ok-add_parts_calls-in-Post : goal.add_expr_calls-returns-in_ok-add_parts_calls-in-Post
add_expr_calls-returns-in_ok-add_parts_calls-in-Post t c =
    let less : c.args.depth ≡ suc (c.args.depth - 1) = omega (arith, c.if-depth-eq0.false) in
    thrice _ _ _ _ _ _ _ _ c.in_ok-add_named_call-in-Post.ensures c.in_ok-add_expr_calls-in-Post.ensures c.in_ok-add_parts_calls-in-Post.ensures
    (post_whole _ _ _ _ _ _ _ _ _ _ less c.in-Post.is c.get-in-Post.ensures c.get-in-Post-2.ensures c.as_slice-in-Post.ensures c.as_slice-in-Post-2.ensures)

pub add_part_calls-returns-in-Field : goal.add_part_calls-returns-in-Field
add_part_calls-returns-in-Field t c =
    sym (append-nil _) ∙ ap (λ x. calls_lent c.args.found.now.items ++ x) (sym (ap (part_calls c.args.depth (home_of c.args.home)) c.in-Field.is ∙ in_field c.args.depth (home_of c.args.home) c.in-Field.name))

pub add_part_calls-returns-in-HasField : goal.add_part_calls-returns-in-HasField
add_part_calls-returns-in-HasField t c =
    sym (append-nil _) ∙ ap (λ x. calls_lent c.args.found.now.items ++ x) (sym (ap (part_calls c.args.depth (home_of c.args.home)) c.in-HasField.is ∙ in_test c.args.depth (home_of c.args.home) c.in-HasField.name))
