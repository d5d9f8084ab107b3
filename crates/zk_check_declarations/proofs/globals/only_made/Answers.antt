use Rattle.std.proofs.Common.{List, ap, sym, ◌∙◌}
use Rattle.std.specs.List.{list_all}
use Rattle.zk_check_declarations.specs.Attributing.{made_by}
use Rattle.zk_check_declarations.specs.Valuing.{given_of}
use Rattle.zk_typed.specs.Declarations.{ValueGiven}
use Rattle.zk_check_declarations.proofs.ListLaws.{all_map}
use Rattle.zk_check_declarations.proofs.globals.only_made.Goals as goal

pub returns : goal.returns
returns c = λ scripts values.
    c.all_made.ensures ∙ sym (all_map made_by given_of c.in_ok-given.given.now) ∙ ap (λ (given : List ValueGiven). list_all made_by given) (c.in_ok-given.ensures ∙ values.told c.args.whole.now)
