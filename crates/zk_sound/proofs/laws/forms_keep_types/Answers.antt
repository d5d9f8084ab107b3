use Rattle.zk_typed.specs.Meaning.{calls}
use Rattle.zk_sound.proofs.Meaning.{value_keeps, does_keeps, calls_keep}
use Rattle.zk_sound.proofs.laws.forms_keep_types.Goals as goal

pub returns : goal.returns
returns c = record {
  expressions = λ program names kinds depth place one of fits h. value_keeps program fits (calls program depth) (calls_keep program fits depth) names kinds place one of h;
  statements = λ program names kinds depth gives one fits h. does_keeps program fits (calls program depth) (calls_keep program fits depth) names gives kinds one h;
}
