use Rattle.std.proofs.Common.{◌≡◌, List, IfOk, map, ap, subst, ◌∙◌}
use Rattle.zk_typed.specs.Declarations.{ValueGiven}
use Rattle.zk_typed.specs.Programs.{all_given}
use Rattle.zk_typed.specs.View.{expr_of, type_of}
use Rattle.zk_check_declarations.specs.Sources.{scripts_from}
use Rattle.zk_check_declarations.specs.Valuing.{given_lent}
use Rattle.zk_check.proofs.GivenLaws.{to_end}
use Rattle.zk_check.proofs.program.globals.added_of.Goals as goal

pub returns : goal.returns
returns c =
    subst (λ (rest : List ValueGiven). IfOk c.all_given.result (λ made. map expr_of made.items ≡ all_given (scripts_from c.args.source.now) (type_of c.args.one.now) rest))
    (ap given_lent (to_end c.args.given.now c.first_added.result) ∙ c.first_added.ensures.later)
    c.all_given.ensures
