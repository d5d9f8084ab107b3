use Rattle.zk_typed.specs.Meaning.{calls}
use Rattle.zk_sound.proofs.Composed.{body_form}
use Rattle.zk_sound.proofs.Judged.{expr_form}
use Rattle.zk_sound.proofs.Meaning.{calls_keep, value_keeps}
use Rattle.zk_sound.proofs.laws.values_have_types.Goals as goal

pub returns : goal.returns
returns c = record {
  forms = expr_form;
  bodies = body_form;
  values = λ program names env wanted written made kinds depth place fits agree clear is logs.
      value_keeps program fits (calls program depth) (calls_keep program fits depth) names kinds place made.expr made.type (expr_form program names env wanted written made agree clear is logs);
}
