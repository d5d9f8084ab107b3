use Rattle.std.proofs.Common.{ap, refl, rules}
use Rattle.std.proofs.lemmas.Slice.Eq.{slice_eq-Decides}
use Rattle.zk_value.specs.Plain.{key_of}
use Rattle.zk_value.specs.contracts.key.KeyPartialEq.TheImpl as key_eq
use Rattle.zk_value.proofs.PlainLaws.{key_of-apart}
use Rattle.zk_value.proofs.laws.equal_keys.Goals as goal

pub returns : goal.returns
returns c = λ a b.
    let tells = slice_eq-Decides (λ x y. search rules) a b ((key_eq.ghosts).eq a b) refl in
    (λ e. ap key_of (tells.0 e), λ e. tells.1 (key_of-apart a b e))
