use Rattle.std.specs.Prelude.{true}
use Rattle.zk_sound.proofs.Primitives.{keeps_perform, keeps_act, no_perform, no_act}
use Rattle.zk_sound.proofs.laws.operations_take_types.Goals as goal

pub returns : goal.returns
returns c = record {
  primitives = λ program names kinds place one types args of no takes h. keeps_perform place one types args of (no_perform true one no) takes h;
  actions = λ program names kinds place one types args no takes h. keeps_act place one types args (no_act true one no) takes h;
}
