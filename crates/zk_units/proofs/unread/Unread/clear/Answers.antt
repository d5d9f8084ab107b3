use Rattle.std.proofs.Common.{length, refl, ap, ◌∙◌, arith}
use Rattle.std.proofs.lemmas.List.{length-drop}
use Rattle.zk_base.specs.ByteQueue.{bytes_of}
use Rattle.zk_units.specs.Cuts.{byte_places}
use Rattle.zk_units.proofs.UnreadLemmas.{none_of, places-uncut}
use Rattle.zk_units.proofs.unread.Unread.clear.Goals as goal

pub returns-clause-places : goal.returns-clause-places
returns-clause-places c =
    places-uncut _ refl
    ∙ ap byte_places (none_of (bytes_of c.take.new.self) (omega (arith, ap length c.take.ensures.bytes, length-drop c.held-held.result (bytes_of c.args.self.now.bytes), c.held-held.ensures.bytes)))
