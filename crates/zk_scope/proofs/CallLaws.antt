-- The calls in an expression, by its parts.
use Rattle.std.proofs.Common.{◌≡◌, true, ℕ, zero, suc, List, [], ◌∷◌, ◌++◌, refl, ap, ◌∙◌, append-nil}
use Rattle.zk_tree.specs.declared.expr.Expr.{Expr, out-Expr}
use Rattle.zk_tree.specs.declared.expr.Expr.TheOpen as written
use Rattle.zk_tree.specs.declared.expr.Expr.TheVariants as expr
use Rattle.zk_tree.specs.declared.expr.Expr.TheVariants.{outs-Post, outs-Truth}
use Rattle.zk_tree.specs.declared.expr.Item.{Item}
use Rattle.zk_tree.specs.declared.expr.Part.{Part}
use Rattle.zk_tree.specs.declared.expr.Part.TheVariants as part
use Rattle.zk_tree.specs.declared.expr.Part.TheVariants.{outs-Field, outs-HasField, outs-Index, outs-Call}
use Rattle.zk_tree.specs.declared.name.Name.{Name}
use Rattle.zk_typed.specs.LoadOrder.{Home}
use Rattle.zk_typed.specs.LogCalls.{Call, expr_calls_to, named_call}
use Rattle.zk_scope.specs.Calls.{nothing_called, exprs_calls, items_calls, part_calls, parts_calls}

none_out : out-Expr nothing_called ≡ written.Truth 0 true
unfolding nothing_called
none_out = outs-Truth 0 true

none_in : (depth : ℕ) (home : Home) → expr_calls_to depth home nothing_called ≡ []
none_in zero home = refl
none_in (suc depth) home = rw none_out refl

none_named : (home : Home) (whole : Expr) (parts : List Part) → named_call home whole nothing_called parts ≡ []
none_named home whole [] = refl
none_named home whole (part ∷ parts) = rw none_out refl

abbrev behind : ℕ → Home → List Part → List Call
behind depth home parts = expr_calls_to (suc depth) home (expr.Post nothing_called parts)

above : (depth : ℕ) (home : Home) (first : Expr) (parts : List Part) →
    expr_calls_to (suc depth) home (expr.Post first parts) ≡
    (named_call home (expr.Post first parts) first parts ++ expr_calls_to depth home first) ++ behind depth home parts
above depth home first parts = simp (outs-Post, none_named, none_out) (rw (none_in depth home) refl)

one_behind : (depth : ℕ) (home : Home) (one : Part) (parts : List Part) → behind depth home (one ∷ parts) ≡ part_calls depth home one ++ behind depth home parts
unfolding part_calls
one_behind depth home one parts = simp (outs-Post, none_named, none_out, append-nil) (rw (none_in depth home) refl)

all_behind : (depth : ℕ) (home : Home) (parts : List Part) → behind depth home parts ≡ parts_calls depth home parts
all_behind depth home [] = simp (outs-Post, none_named, none_out) (rw (none_in depth home) refl)
all_behind depth home (one ∷ parts) = one_behind depth home one parts ∙ ap (λ x. part_calls depth home one ++ x) (all_behind depth home parts)

pub post_calls : (depth less : ℕ) (home : Home) (first : Expr) (parts : List Part) → depth ≡ suc less →
    expr_calls_to depth home (expr.Post first parts) ≡
    (named_call home (expr.Post first parts) first parts ++ expr_calls_to less home first) ++ parts_calls less home parts
post_calls depth less home first parts is =
    ap (λ (d : ℕ). expr_calls_to d home (expr.Post first parts)) is ∙ above less home first parts ∙
    ap (λ x. (named_call home (expr.Post first parts) first parts ++ expr_calls_to less home first) ++ x) (all_behind less home parts)

pub post_whole : (depth less : ℕ) (home : Home) (one first lent again : Expr) (parts lent_parts parts_again : List Part) →
    depth ≡ suc less → one ≡ expr.Post first parts → lent ≡ first → again ≡ first → lent_parts ≡ parts → parts_again ≡ parts →
    expr_calls_to depth home one ≡ (named_call home one lent lent_parts ++ expr_calls_to less home again) ++ parts_calls less home parts_again
post_whole depth less home one first lent again parts lent_parts parts_again is whole l a p q = rw (whole, l, a, p, q) (post_calls depth less home first parts is)

pub in_index : (depth : ℕ) (home : Home) (keys : List Expr) → part_calls depth home (part.Index keys) ≡ exprs_calls (expr_calls_to depth home) keys
unfolding part_calls
in_index depth home keys = simp (outs-Post, none_named, none_out, outs-Index, append-nil) (rw (none_in depth home) refl)

pub in_call : (depth : ℕ) (home : Home) (items : List Item) → part_calls depth home (part.Call items) ≡ items_calls (expr_calls_to depth home) items
unfolding part_calls
in_call depth home items = simp (outs-Post, none_named, none_out, outs-Call, append-nil) (rw (none_in depth home) refl)

pub in_field : (depth : ℕ) (home : Home) (name : Name) → part_calls depth home (part.Field name) ≡ []
unfolding part_calls
in_field depth home name = simp (outs-Post, none_named, none_out, outs-Field, append-nil) (rw (none_in depth home) refl)

pub in_test : (depth : ℕ) (home : Home) (name : Name) → part_calls depth home (part.HasField name) ≡ []
unfolding part_calls
in_test depth home name = simp (outs-Post, none_named, none_out, outs-HasField, append-nil) (rw (none_in depth home) refl)
