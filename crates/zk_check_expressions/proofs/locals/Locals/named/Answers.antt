use Rattle.std.proofs.Common.{◌≡◌, ℕ, List, None, Option, Some, slice_get, ap, ◌∙◌}
use Rattle.std.specs.Str.{bytes_eq}
use Rattle.zk_typed.specs.Names.{count_before}
use Rattle.zk_typed.specs.Typing.{local_named}
use Rattle.zk_check_expressions.specs.declared.env.LocalName.{LocalName as LentLocal}
use Rattle.zk_check_expressions.specs.Envs.{locals_of}
use Rattle.zk_check_expressions.specs.Locals.{named}
use Rattle.zk_check_expressions.proofs.LocalLaws.{local_found_at}
use Rattle.zk_check_expressions.proofs.locals.Locals.named.Goals as goal

pub returns-in-Some : goal.returns-in-Some
returns-in-Some c =
    let locals = c.self.inside.all.items in
    let counted : c.number-number.result ≡ count_before (λ other. bytes_eq other c.args.name.now) (named locals) =
    c.number-number.ensures (named locals) c.self.invariant ∙ ap (λ (x : List ℕ). count_before (λ other. bytes_eq other x) (named locals)) c.in_ok-name.ensures in
    local_found_at c.args.name.now locals c.number-number.result (Some c.in-Some.local.now) counted (c.in-Some.ensures ∙ ap (λ (x : List LentLocal). slice_get x c.number-number.result) c.deref.ensures.value) ∙
    ap (λ (x : List LentLocal). local_named c.args.name.now 0 (locals_of x)) c.self.view_is

pub returns : goal.returns
returns c =
    let locals = c.self.inside.all.items in
    let counted : c.number-number.result ≡ count_before (λ other. bytes_eq other c.args.name.now) (named locals) =
    c.number-number.ensures (named locals) c.self.invariant ∙ ap (λ (x : List ℕ). count_before (λ other. bytes_eq other x) (named locals)) c.in_ok-name.ensures in
    local_found_at c.args.name.now locals c.number-number.result None counted (c.in-None.ensures ∙ ap (λ (x : List LentLocal). slice_get x c.number-number.result) c.deref.ensures.value) ∙
    ap (λ (x : List LentLocal). local_named c.args.name.now 0 (locals_of x)) c.self.view_is
