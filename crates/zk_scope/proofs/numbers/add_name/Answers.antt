use Rattle.std.proofs.Common.{ℕ, List, ◌++◌, subst, sym, ◌∙◌}
use Rattle.std.specs.Str.{bytes_eq}
use Rattle.zk_scope.specs.Lent.{declared_of}
use Rattle.zk_scope.specs.Numbering.{Stands}
use Rattle.zk_scope.proofs.PlaceLaws.{own_kept}
use Rattle.zk_scope.proofs.numbers.add_name.Goals as goal

pub returns-then-is_of : goal.returns-then-is_of
returns-then-is_of c = λ names stands.
    subst (λ (x : List (List ℕ)). Stands bytes_eq c.add.new.self (names ++ x))
    (sym (own_kept c.args.kind (declared_of c.args.one.now) c.in_ok-name.name (sym c.is_of.ensures ∙ c.if-is_of.true) (c.in_ok-name.ensures ∙ c.deref.ensures.value)))
    (c.in_ok-add.ensures.ok names stands)
