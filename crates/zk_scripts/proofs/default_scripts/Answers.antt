use Rattle.std.proofs.Common.{refl}
use Rattle.zk_scripts.specs.Texts.{default_texts}
use Rattle.zk_scripts.proofs.default_scripts.Goals as goal

pub returns : goal.returns
unfolding default_texts
returns c = refl
