-- Values that are to be keys, one after another.
use Rattle.std.proofs.Common.{◌≡◌, ℕ, length, Result, Ok, List, [], ◌∷◌, refl, ap, sym, ◌∙◌, subst}
use Rattle.std.specs.declared.alloc.Global.{Global}
use Rattle.std.specs.declared.vec.Vec.{Vec}
use Rattle.zk_tree.specs.declared.expr.Expr.{Expr}
use Rattle.zk_tree.specs.declared.place.Place.{Place}
use Rattle.zk_typed.specs.declared.refusal.Refusal.{Refusal}
use Rattle.zk_typed.specs.declared.script.types.SimpleType.{SimpleType}
use Rattle.zk_typed.specs.Checked.{Checked}
use Rattle.zk_typed.specs.Making.{fitted_keys}
use Rattle.zk_typed.specs.Tells.{Tells}
use Rattle.zk_typed.specs.Typing.{Typed, Env, expr_place}
use Rattle.zk_check_operators.specs.declared.operands.Typed.{Typed as RustTyped}
use Rattle.zk_check_operators.specs.Gathering.{IsNext}
use Rattle.zk_check_operators.specs.Views.{typed_of, typed_all, all_typed}
use Rattle.zk_check_expressions.specs.Parts.{with_last, fitting_key}
use Rattle.zk_check_expressions.proofs.Eaches.{with_rest, rest_turn, no_rest, next_tells}
use Rattle.zk_check_expressions.proofs.Leftovers.{none_over}
use Rattle.zk_check_expressions.proofs.Matching.{GoesOn}

fit_next : (env : Env) (key : SimpleType) (keys : List SimpleType) (one : Expr) (written : List Expr) (first : Typed) (values : List Typed)
    (all : Result (Vec RustTyped Global) Refusal) (part : Result RustTyped Refusal) (next : Result (Vec RustTyped Global) Refusal) (whole : Checked (List Typed)) →
    GoesOn all (fitted_keys env (key ∷ keys) (one ∷ written) (first ∷ values)) whole → Tells typed_of part (fitting_key (expr_place env one) key first) → IsNext all part next →
    GoesOn next (fitted_keys env keys written values) whole
fit_next env key keys one written first values all part next whole before told step =
    (with_last before.0 (fitting_key (expr_place env one) key first), next_tells all part next before.0 _ before.1 told step, rest_turn before.0 (fitting_key (expr_place env one) key first) _ ∙ before.2)

pub fit_turn : (env : Env) (spot : Place) (keys more_keys : List SimpleType) (key : SimpleType) (written more_written : List Expr) (one : Expr) (items more : List RustTyped) (first : RustTyped)
    (all : Result (Vec RustTyped Global) Refusal) (part : Result RustTyped Refusal) (next : Result (Vec RustTyped Global) Refusal) (whole : Checked (List Typed)) →
    keys ≡ key ∷ more_keys → written ≡ one ∷ more_written → items ≡ first ∷ more → spot ≡ expr_place env one →
    GoesOn all (fitted_keys env keys written (typed_all items)) whole → Tells typed_of part (fitting_key spot key (typed_of first)) → IsNext all part next →
    GoesOn next (fitted_keys env more_keys more_written (typed_all more)) whole
fit_turn env spot keys more_keys key written more_written one items more first all part next whole same_keys same_written same_items same_spot before told step =
    let rest : fitted_keys env keys written (typed_all items) ≡ fitted_keys env (key ∷ more_keys) (one ∷ more_written) (typed_of first ∷ typed_all more) =
    ap (λ (x : List SimpleType). fitted_keys env x written (typed_all items)) same_keys
    ∙ ap (λ (x : List Expr). fitted_keys env (key ∷ more_keys) x (typed_all items)) same_written
    ∙ ap (λ (x : List RustTyped). fitted_keys env (key ∷ more_keys) (one ∷ more_written) (typed_all x)) same_items in
    fit_next env key more_keys one more_written (typed_of first) (typed_all more) all part next whole
    (subst (λ (x : Checked (List Typed)). GoesOn all x whole) rest before)
    (subst (λ (x : Place). Tells typed_of part (fitting_key x key (typed_of first))) same_spot told) step

no_value : (env : Env) (keys : List SimpleType) (written : List Expr) → fitted_keys env keys written [] ≡ Ok []
no_value env [] written = refl
no_value env (key ∷ keys) [] = refl
no_value env (key ∷ keys) (one ∷ written) = refl

no_written : (env : Env) (keys : List SimpleType) (values : List Typed) → fitted_keys env keys [] values ≡ Ok []
no_written env [] values = refl
no_written env (key ∷ keys) values = refl

-- where no more keys have a type
ends : (rest : Checked (List Typed)) (all : Result (Vec RustTyped Global) Refusal) (whole : Checked (List Typed)) → rest ≡ Ok [] → GoesOn all rest whole → Tells all_typed all whole
ends rest all whole none before =
    let now : before.0 ≡ whole = sym (no_rest before.0) ∙ ap (with_rest before.0) (sym none) ∙ before.2 in
    subst (λ (x : Checked (List Typed)). Tells all_typed all x) now before.1

pub no_more_values : (env : Env) (keys : List SimpleType) (written : List Expr) (items : List RustTyped) (len : ℕ) (all : Result (Vec RustTyped Global) Refusal) (whole : Checked (List Typed)) →
    len ≡ length items → len ≡ 0 → GoesOn all (fitted_keys env keys written (typed_all items)) whole → Tells all_typed all whole
no_more_values env keys written items len all whole same none =
    ends _ all whole (ap (λ (x : List RustTyped). fitted_keys env keys written (typed_all x)) (none_over items len same none) ∙ no_value env keys written)

pub no_more_keys : (env : Env) (keys : List SimpleType) (written : List Expr) (items : List RustTyped) (all : Result (Vec RustTyped Global) Refusal) (whole : Checked (List Typed)) →
    keys ≡ [] → GoesOn all (fitted_keys env keys written (typed_all items)) whole → Tells all_typed all whole
no_more_keys env keys written items all whole none = ends _ all whole (ap (λ (x : List SimpleType). fitted_keys env x written (typed_all items)) none)

pub no_more_written : (env : Env) (keys : List SimpleType) (written : List Expr) (items : List RustTyped) (all : Result (Vec RustTyped Global) Refusal) (whole : Checked (List Typed)) →
    written ≡ [] → GoesOn all (fitted_keys env keys written (typed_all items)) whole → Tells all_typed all whole
no_more_written env keys written items all whole none = ends _ all whole (ap (λ (x : List Expr). fitted_keys env keys x (typed_all items)) none ∙ no_written env keys (typed_all items))
