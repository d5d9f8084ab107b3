use Rattle.std.specs.Vec.Iter.{into_iter_items}
use Rattle.zk_system.proofs.ArgumentLemmas.{all_texts}
use Rattle.zk_system.proofs.arguments.words.Goals as goal

pub returns : goal.returns
returns g c = record { texts = all_texts (into_iter_items c.in_ok-arguments.arguments) (λ words. words.items) c.words_of.result c.words_of.ensures.words }
