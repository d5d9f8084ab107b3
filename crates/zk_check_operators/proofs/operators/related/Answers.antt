use Rattle.std.proofs.Common.{ap, sym, ◌∙◌, [], ◌∷◌, Ok}
use Rattle.zk_typed.specs.declared.script.primitive.Primitive.TheVariants as primitive
use Rattle.zk_typed.specs.Predefined as type
use Rattle.zk_typed.specs.Typing.{typed, apply}
use Rattle.zk_check_operators.specs.Views.{typed_of}
use Rattle.zk_check_operators.proofs.Comparisons.{or_wrong, related_is}
use Rattle.zk_check_operators.proofs.operators.related.Goals as goal

pub returns-in_ok-made-in-None : goal.returns-in_ok-made-in-None
returns-in_ok-made-in-None c =
    related_is c.args.relation c.args.first c.args.second (typed_of c.args.a) (typed_of c.args.b)
    ∙ ap (λ wrong. or_wrong wrong (typed type.bool (apply (primitive.Compare c.args.relation) (typed_of c.args.a ∷ typed_of c.args.b ∷ [])))) (sym c.in-None.ensures)
    ∙ ap Ok (sym c.in_ok-made-in-None.ensures)
