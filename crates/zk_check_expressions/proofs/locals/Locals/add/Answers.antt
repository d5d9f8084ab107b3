use Rattle.std.proofs.Common.{◌++◌, ◌∷◌, [], List, ap, ◌∙◌}
use Rattle.zk_check_expressions.specs.declared.env.LocalName.{LocalName as LentLocal}
use Rattle.zk_check_expressions.specs.Locals.{named}
use Rattle.zk_check_expressions.proofs.LocalLaws.{stands_more}
use Rattle.zk_check_expressions.proofs.locals.Locals.add.Goals as goal

pub invariant_of-self-2 : goal.invariant_of-self-2
invariant_of-self-2 c =
    let before = c.self.inside.all.items in
    stands_more c.add.new.self before c.push.new.self.items c.args.one c.in_ok-name.name c.in_ok-name.ensures
    (c.in-Ok.ensures.items ∙ ap (λ (all : List LentLocal). all ++ c.args.one ∷ []) c.reserve.ensures.items) (c.in_ok-add.ensures.ok (named before) c.self.invariant)
